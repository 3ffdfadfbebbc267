use Rattle.std.proofs.Common.{ap, ◌∙◌, take}
use Rattle.ags_play.specs.Bench.{with_settings}
use Rattle.ags_ports.specs.State.{State}
use Rattle.ags_run.proofs.StartingLemmas.{settings_more}
use Rattle.ags_run.proofs.starting.start_location.Goals as goal

pub loop-position-preserved : goal.loop-position-preserved
loop-position-preserved c = record {
  below = c.location_after-location.ensures.below;
  location = λ machine s same.
      ap (λ (t : State). t.location) (settings_more machine s c.args.script.now c.loop-position.position c.nth.result c.nth.ensures)
      ∙ c.location_after-location.ensures.location machine (with_settings machine s (take c.loop-position.position c.args.script.now)) (c.loop-position.invariant.location machine s same);
}
