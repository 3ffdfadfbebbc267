-- What a panel stands for, one happening further.
use Rattle.std.proofs.Common.{◌≡◌, ℕ, ◌+◌, Bool, true, false, not, List, [], ◌∷◌, refl, sym, ap, ◌∙◌, inl, inr}
use Rattle.std.proofs.lemmas.Bool.{cases_Bool}
use Rattle.ags_deda.specs.declared.keys.Key.{Key}
use Rattle.ags_deda.specs.declared.panels.Panel.{Panel}
use Rattle.ags_deda.specs.Key.{is_clr}
use Rattle.ags_deda.specs.Form.{are_lawful, taken, in_readout, is_held}
use Rattle.ags_deda.specs.Happening.{Happening, Pressed, Shown, Sent, since_clear, keys_of, sent_count}
use Rattle.ags_deda.specs.Panel.{counted, group_shown, whole_group, later_group, is_lit, is_whole}
use Rattle.ags_deda.specs.Part.{IsKeying, IsKeyed, IsFilling}
use Rattle.ags_deda.specs.Standing.{StandsSince, StandsFor}
use Rattle.ags_deda.proofs.KeyLemmas.{unlawful_more, unlawful_message, taken_wrong, taken_lawful}

not_true : (b : Bool) → not b ≡ true → b ≡ false
not_true true is = absurd cc
not_true false is = refl

not_false : (b : Bool) → not b ≡ false → b ≡ true
not_false true is = refl
not_false false is = absurd cc

-- ---- keys

-- CLR begins anew
pub cleared : (panel : Panel) (key : Key) (happenings : List Happening) → is_clr key ≡ true → StandsFor panel [] → StandsFor panel (Pressed key ∷ happenings)
unfolding StandsFor since_clear
cleared panel key happenings clr stands = rw clr stands

-- another happening is one more since the last CLR
pub further_key : (panel : Panel) (key : Key) (happenings : List Happening) → is_clr key ≡ false → StandsSince panel (Pressed key ∷ since_clear happenings) → StandsFor panel (Pressed key ∷ happenings)
unfolding StandsFor since_clear
further_key panel key happenings clr stands = rw clr stands

pub further_shown : (panel : Panel) (digit : ℕ) (happenings : List Happening) → StandsSince panel (Shown digit ∷ since_clear happenings) → StandsFor panel (Shown digit ∷ happenings)
unfolding StandsFor since_clear
further_shown panel digit happenings stands = stands

pub further_sent : (panel : Panel) (digit : ℕ) (happenings : List Happening) → StandsSince panel (Sent digit ∷ since_clear happenings) → StandsFor panel (Sent digit ∷ happenings)
unfolding StandsFor since_clear
further_sent panel digit happenings stands = stands

pub stands_since : (panel : Panel) (happenings : List Happening) → StandsFor panel happenings → StandsSince panel (since_clear happenings)
unfolding StandsFor
stands_since panel happenings stands = stands

-- with a key the panel differs in what it is of the keys
pub pressed : (panel next : Panel) (key : Key) (since : List Happening) → StandsSince panel since
    → next.light ≡ not (are_lawful (key ∷ keys_of since)) → IsKeying next.keying (taken (key ∷ keys_of since)) → IsKeyed next.keyed (taken (key ∷ keys_of since))
    → next.sent ≡ panel.sent → next.group ≡ panel.group → next.shown ≡ panel.shown → StandsSince next (Pressed key ∷ since)
unfolding keys_of sent_count counted group_shown
pressed panel next key since stands light keying keyed sent group shown = record {
  light = light;
  keying = keying;
  keyed = keyed;
  sent = sent ∙ stands.sent;
  group = rw group stands.group;
  shown = shown ∙ stands.shown;
}

pub lawful_so_far : (since : List Happening) → is_lit since ≡ false → are_lawful (keys_of since) ≡ true
lawful_so_far since dark = not_false (are_lawful (keys_of since)) dark

-- a wrong key, and each key after one
pub pressed_wrong : (panel next : Panel) (key : Key) (since : List Happening) → StandsSince panel since → are_lawful (key ∷ keys_of since) ≡ false
    → next.light ≡ true → next.keying ≡ panel.keying → next.keyed ≡ panel.keyed → next.sent ≡ panel.sent → next.group ≡ panel.group → next.shown ≡ panel.shown → StandsSince next (Pressed key ∷ since)
pressed_wrong panel next key since stands wrong light keying keyed sent group shown =
    let same : taken (key ∷ keys_of since) ≡ taken (keys_of since) = taken_wrong key (keys_of since) wrong in
    pressed panel next key since stands (light ∙ sym (ap not wrong)) (rw (same, keying) stands.keying) (rw (same, keyed) stands.keyed) sent group shown

pub pressed_dark : (panel : Panel) (key : Key) (since : List Happening) → StandsSince panel since → panel.light ≡ true → StandsSince panel (Pressed key ∷ since)
pressed_dark panel key since stands lit =
    let wrong : are_lawful (keys_of since) ≡ false = not_true (are_lawful (keys_of since)) (sym stands.light ∙ lit) in
    pressed_wrong panel panel key since stands (unlawful_more key (keys_of since) wrong) lit refl refl refl refl refl

-- a key that is taken
pub pressed_lawful : (panel next : Panel) (key : Key) (since : List Happening) → StandsSince panel since → is_lit since ≡ false → are_lawful (key ∷ keys_of since) ≡ true
    → next.light ≡ panel.light → IsKeying next.keying (key ∷ keys_of since) → IsKeyed next.keyed (key ∷ keys_of since)
    → next.sent ≡ panel.sent → next.group ≡ panel.group → next.shown ≡ panel.shown → StandsSince next (Pressed key ∷ since)
pressed_lawful panel next key since stands dark lawful light keying keyed sent group shown =
    let all : taken (key ∷ keys_of since) ≡ key ∷ keys_of since = taken_lawful (key ∷ keys_of since) lawful in
    pressed panel next key since stands (light ∙ stands.light ∙ dark ∙ sym (ap not lawful)) (rw all keying) (rw all keyed) sent group shown

-- the keys that are taken, where none was wrong
pub keying_dark : (panel : Panel) (since : List Happening) → StandsSince panel since → is_lit since ≡ false → IsKeying panel.keying (keys_of since)
keying_dark panel since stands dark = rw (taken_lawful (keys_of since) (lawful_so_far since dark)) at stands.keying

pub keyed_dark : (panel : Panel) (since : List Happening) → StandsSince panel since → is_lit since ≡ false → IsKeyed panel.keyed (keys_of since)
keyed_dark panel since stands dark = rw (taken_lawful (keys_of since) (lawful_so_far since dark)) at stands.keyed

-- ---- digits

pub shown_outside : (panel : Panel) (digit : ℕ) (since : List Happening) → in_readout (keys_of since) ≡ false → StandsSince panel since → StandsSince panel (Shown digit ∷ since)
unfolding keys_of sent_count counted group_shown
shown_outside panel digit since outside stands = record {
  light = stands.light;
  keying = stands.keying;
  keyed = stands.keyed;
  sent = stands.sent;
  group = rw outside stands.group;
  shown = rw outside stands.shown;
}

pub shown_counted : (panel next : Panel) (digit : ℕ) (since : List Happening) → in_readout (keys_of since) ≡ true → StandsSince panel since
    → next.light ≡ panel.light → next.keying ≡ panel.keying → next.keyed ≡ panel.keyed → next.sent ≡ panel.sent → IsFilling next.group (digit ∷ counted since)
    → next.shown ≡ later_group (whole_group digit (counted since)) (is_held (keys_of since)) (group_shown since) → StandsSince next (Shown digit ∷ since)
unfolding keys_of sent_count counted group_shown
shown_counted panel next digit since inside stands light keying keyed sent group shown = record {
  light = light ∙ stands.light;
  keying = rw keying stands.keying;
  keyed = rw keyed stands.keyed;
  sent = sent ∙ stands.sent;
  group = rw inside group;
  shown = rw inside shown;
}

pub sent_one : (panel next : Panel) (digit : ℕ) (since : List Happening) → StandsSince panel since
    → next.light ≡ panel.light → next.keying ≡ panel.keying → next.keyed ≡ panel.keyed → next.sent ≡ panel.sent + 1 → next.group ≡ panel.group → next.shown ≡ panel.shown → StandsSince next (Sent digit ∷ since)
unfolding keys_of sent_count counted group_shown
sent_one panel next digit since stands light keying keyed sent group shown = record {
  light = light ∙ stands.light;
  keying = rw keying stands.keying;
  keyed = rw keyed stands.keyed;
  sent = sent ∙ ap (λ (n : ℕ). n + 1) stands.sent;
  group = rw group stands.group;
  shown = shown ∙ stands.shown;
}

-- ---- a message and a readout mean that no key was wrong

whole_lawful : (since : List Happening) → is_whole (keys_of since) ≡ true → is_lit since ≡ false
whole_lawful since whole =
    elim (cases_Bool (are_lawful (keys_of since))) [
      | inl lawful ↦ ap not lawful
      | inr wrong ↦ absurd (let none = (unlawful_message (keys_of since) wrong).0 in cc)
    ]

readout_lawful : (since : List Happening) → in_readout (keys_of since) ≡ true → is_lit since ≡ false
readout_lawful since inside =
    elim (cases_Bool (are_lawful (keys_of since))) [
      | inl lawful ↦ ap not lawful
      | inr wrong ↦ absurd (let none = (unlawful_message (keys_of since) wrong).1 in cc)
    ]

pub message_keyed : (panel : Panel) (since : List Happening) → StandsSince panel since → is_whole (keys_of since) ≡ true → IsKeyed panel.keyed (keys_of since)
message_keyed panel since stands whole = keyed_dark panel since stands (whole_lawful since whole)

pub readout_keying : (panel : Panel) (since : List Happening) → StandsSince panel since → in_readout (keys_of since) ≡ true → IsKeying panel.keying (keys_of since)
readout_keying panel since stands inside = keying_dark panel since stands (readout_lawful since inside)

-- while it is off the keys are those that were taken
pub dark_keying : (panel : Panel) (since : List Happening) → StandsSince panel since → panel.light ≡ false → IsKeying panel.keying (keys_of since)
dark_keying panel since stands dark = keying_dark panel since stands (sym stands.light ∙ dark)
