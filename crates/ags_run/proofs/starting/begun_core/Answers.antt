use Rattle.std.proofs.Common.{ap, sym, ◌∙◌, option_map}
use Rattle.ags_core.specs.Core.{start_state}
use Rattle.ags_play.specs.Bench.{with_settings, usual_location}
use Rattle.ags_ports.specs.State.{State}
use Rattle.ags_run.specs.Play.{guard_of}
use Rattle.ags_run.proofs.StartingLemmas.{settled}
use Rattle.ags_run.proofs.starting.begun_core.Goals as goal

pub returns-clause-begun : goal.returns-clause-begun
returns-clause-begun c =
    let machine = c.args.machine.now in
    let commands = c.args.script.now in
    let s = start_state machine c.args.image.now (usual_location (guard_of (option_map (λ cert. cert.now) c.args.guard))) in
    c.set_all.ensures.after
    ∙ ap (λ (t : State). record (with_settings machine t commands) { location = t.location }) c.in_ok-core.ensures.start
    ∙ settled machine s c.start_location-start.result commands (c.start_location-start.ensures.location machine s (sym c.usual_location.ensures.location))
