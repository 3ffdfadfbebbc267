use Rattle.std.proofs.Common.{[], ◌∷◌, refl}
use Rattle.std.proofs.lemmas.Result.{on_ok_weaker, MatchResult-weaker}
use Rattle.ags_drive.specs.Act.{FeedsInCycle, Pulses, RunsCycle, at_each}
use Rattle.ags_certtype.specs.Cert.{certificate_of}
use Rattle.ags_drive.specs.Standing.{bench_of}
use Rattle.ags_drive.proofs.JoinLemmas.{silent_made, made_on, unmade_after, unmade_before}
use Rattle.ags_drive.proofs.cycling.run_one.Goals as goal

pub returns-in-Err-clause-unmade : goal.returns-in-Err-clause-unmade
returns-in-Err-clause-unmade g c = λ told.
    unmade_before c.args.machine.now (certificate_of c.args.cert.now) (bench_of c.args.bench.now _) (at_each FeedsInCycle c.args.positions) (Pulses ∷ RunsCycle ∷ []) told told _ c.in-Err.error (c.in-Err.ensures.unmade told)

pub returns-clause-made : goal.returns-clause-made
returns-clause-made g c =
    let cert = certificate_of c.args.cert.now in
    on_ok_weaker c.run_cycle.result
    (λ made told.
    made_on c.args.machine.now cert (at_each FeedsInCycle c.args.positions) (Pulses ∷ RunsCycle ∷ []) told told told c.args.bench.now c.feed_all.new.bench c.run_cycle.new.bench _ _ _ (c.in_default.ensures.made told)
    (made_on c.args.machine.now cert (Pulses ∷ []) (RunsCycle ∷ []) told told told c.feed_all.new.bench c.pulse.new.bench c.run_cycle.new.bench _ _ _
    (silent_made c.args.machine.now cert Pulses c.feed_all.new.bench c.pulse.new.bench _ _ refl (c.pulse.ensures.made cert _) told)
    (silent_made c.args.machine.now cert RunsCycle c.pulse.new.bench c.run_cycle.new.bench _ _ refl (made cert) told)))
    c.run_cycle.ensures.made

pub returns-clause-unmade : goal.returns-clause-unmade
returns-clause-unmade g c =
    let cert = certificate_of c.args.cert.now in
    MatchResult-weaker c.run_cycle.result c.run_cycle.ensures.unmade (λ x h. h)
    (λ met unmade told.
    unmade_after c.args.machine.now cert (at_each FeedsInCycle c.args.positions) (Pulses ∷ RunsCycle ∷ []) told told told c.args.bench.now c.feed_all.new.bench _ _ _ met (c.in_default.ensures.made told)
    (unmade_after c.args.machine.now cert (Pulses ∷ []) (RunsCycle ∷ []) told told told c.feed_all.new.bench c.pulse.new.bench _ _ _ met
    (silent_made c.args.machine.now cert Pulses c.feed_all.new.bench c.pulse.new.bench _ _ refl (c.pulse.ensures.made cert _) told)
    (unmade cert told)))
