use Rattle.std.proofs.Common.{◌≡◌, [], ◌∷◌, refl, arith}
use Rattle.ags_drive.specs.Act.{FeedsInCycle, at_each}
use Rattle.ags_certtype.specs.Cert.{certificate_of}
use Rattle.ags_drive.proofs.JoinLemmas.{silent_made}
use Rattle.ags_drive.proofs.ScriptLemmas.{positions_next, piece_more, piece_unmade, pieces_all}
use Rattle.ags_drive.proofs.cycling.feed_all.Goals as goal

pub returns-in-Err-clause-unmade : goal.returns-in-Err-clause-unmade
returns-in-Err-clause-unmade g c = λ told.
    piece_unmade (at_each FeedsInCycle) (λ n. FeedsInCycle n ∷ []) (positions_next FeedsInCycle) c.args.machine.now (certificate_of c.args.cert.now) c.loop-position.position c.args.positions told told told c.args.bench.now c.loop-position.bench _ _ _ c.in-Err.error
    c.loop-position-test.true (c.loop-position.invariant.made told) (c.in-Err.ensures.unmade told)

pub loop-position-preserved : goal.loop-position-preserved
loop-position-preserved g c = record {
  fitted = c.feed_in_cycle.ensures.fitted;
  made = λ told.
      piece_more (at_each FeedsInCycle) (λ n. FeedsInCycle n ∷ []) (positions_next FeedsInCycle) c.args.machine.now (certificate_of c.args.cert.now) c.loop-position.position told told told c.args.bench.now c.loop-position.bench c.feed_in_cycle.new.bench _ _ _
      (c.loop-position.invariant.made told)
      (silent_made c.args.machine.now (certificate_of c.args.cert.now) (FeedsInCycle c.loop-position.position) c.loop-position.bench c.feed_in_cycle.new.bench _ _ refl c.in_default.ensures.made told);
}

pub returns-clause-made : goal.returns-clause-made
returns-clause-made g c = λ told.
    let all : c.loop-position.position ≡ c.args.positions = omega (arith, c.loop-position-test.false, c.loop-position.auto.position-end) in
    pieces_all (at_each FeedsInCycle) (λ n. FeedsInCycle n ∷ []) (positions_next FeedsInCycle) c.args.machine.now (certificate_of c.args.cert.now) c.loop-position.position c.args.positions told told c.args.bench.now c.loop-position.bench _ _ all
    (c.loop-position.invariant.made told)
