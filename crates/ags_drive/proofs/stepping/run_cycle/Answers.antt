use Rattle.std.proofs.Common.{refl, ap, ◌∙◌}
use Rattle.ags_play.specs.Doing.{carry_in, time_left}
use Rattle.ags_drive.proofs.HearLemmas.{heard_along, behind_along, behind_unheard}
use Rattle.ags_drive.proofs.StepLemmas.{cycle_made, cycle_starved}
use Rattle.ags_drive.proofs.stepping.run_cycle.Goals as goal

pub returns-then-bench-clause-unmade : goal.returns-then-bench-clause-unmade
returns-then-bench-clause-unmade g c = λ cert told.
    let run = c.run_for-spent.ensures.run in
    cycle_starved c.args.machine.now cert c.args.bench.now run.moments c.run_for-spent.result _ _ told run.timed (behind_unheard c.args.machine.now _ run.moments)

pub returns-in-Err-clause-unmade : goal.returns-in-Err-clause-unmade
returns-in-Err-clause-unmade g c = λ cert told.
    let run = c.run_for-spent.ensures.run in
    cycle_starved c.args.machine.now cert c.args.bench.now run.moments c.run_for-spent.result _ _ told run.timed
    (behind_along c.args.machine.now _ _ _ c.run_for-spent.new.watcher c.as_slice.result.now run.moments c.clear.ensures.items run.seen c.if-bench.false c.as_slice.ensures.value c.in-Err.ensures.part)

pub returns-clause-made : goal.returns-clause-made
returns-clause-made g c = λ cert.
    let before = c.args.bench.now in
    let run = c.run_for-spent.ensures.run in
    cycle_made c.args.machine.now cert before (record before { listener = record before.listener { given = c.clear.new.self } }) _ c.run_for-spent.result _ _ refl refl c.steps_fit.ensures run
    (c.carry_in-bench.ensures.carry ∙ ap (λ phase. carry_in phase (time_left before.carry) c.run_for-spent.result) c.phase.ensures.phase) refl
    (heard_along c.args.machine.now _ _ _ c.run_for-spent.new.watcher c.as_slice.result.now run.moments c.clear.ensures.items run.seen c.if-bench.false c.as_slice.ensures.value c.in_default.ensures.heard)
