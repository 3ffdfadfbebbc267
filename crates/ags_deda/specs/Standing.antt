-- When a panel stands for a list of happenings.
use Rattle.std.specs.Prelude.{◌≡◌, List}
use Rattle.ags_deda.specs.declared.panels.Panel.{Panel}
use Rattle.ags_deda.specs.Form.{taken}
use Rattle.ags_deda.specs.Happening.{Happening, since_clear, keys_of, sent_count}
use Rattle.ags_deda.specs.Panel.{counted, group_shown, is_lit}
use Rattle.ags_deda.specs.Part.{IsKeying, IsKeyed, IsFilling}

-- the panel's state is what these happenings since the last CLR leave
pub record StandsSince (panel : Panel) (since : List Happening) : Type 0 where
  pub light : panel.light ≡ is_lit since
  pub keying : IsKeying panel.keying (taken (keys_of since))
  pub keyed : IsKeyed panel.keyed (taken (keys_of since))
  pub sent : panel.sent ≡ sent_count since
  pub group : IsFilling panel.group (counted since)
  pub shown : panel.shown ≡ group_shown since

-- The panel stands for these happenings: they are what happened to it since it was made.
unfoldable pub StandsFor : Panel → List Happening → Type 0
StandsFor panel happenings = StandsSince panel (since_clear happenings)
