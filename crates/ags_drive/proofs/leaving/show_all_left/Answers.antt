use Rattle.std.proofs.Common.{◌≡◌, [], ◌∷◌, refl, arith, ◌∙◌}
use Rattle.ags_drive.specs.Act.{ShowsDevice, at_each}
use Rattle.ags_drive.proofs.ScriptLemmas.{positions_next, piece_more, piece_unmade, pieces_all}
use Rattle.ags_drive.proofs.leaving.show_all_left.Goals as goal

pub returns-in-Err-clause-unmade : goal.returns-in-Err-clause-unmade
returns-in-Err-clause-unmade g c = λ machine cert.
    piece_unmade (at_each ShowsDevice) (λ n. ShowsDevice n ∷ []) (positions_next ShowsDevice) machine cert c.loop-position.position c.args.positions (g.K.Sink.told c.args.out.now) (g.K.Sink.told c.loop-position.out) (g.K.Sink.told c.show_left.new.out)
    c.args.bench.now c.args.bench.now _ _ _ c.in-Err.error c.loop-position-test.true (c.loop-position.invariant.made machine cert) (c.in-Err.ensures.unmade machine cert)

pub loop-position-preserved : goal.loop-position-preserved
loop-position-preserved g c = record {
  made = λ machine cert.
      piece_more (at_each ShowsDevice) (λ n. ShowsDevice n ∷ []) (positions_next ShowsDevice) machine cert c.loop-position.position (g.K.Sink.told c.args.out.now) (g.K.Sink.told c.loop-position.out) (g.K.Sink.told c.show_left.new.out)
      c.args.bench.now c.args.bench.now c.args.bench.now _ _ _ (c.loop-position.invariant.made machine cert) (c.in_default.ensures.made machine cert);
  faults = c.in_default.ensures.faults.clean refl ∙ c.loop-position.invariant.faults;
}

pub returns-clause-made : goal.returns-clause-made
returns-clause-made g c = λ machine cert.
    let all : c.loop-position.position ≡ c.args.positions = omega (arith, c.loop-position-test.false, c.loop-position.auto.position-end) in
    pieces_all (at_each ShowsDevice) (λ n. ShowsDevice n ∷ []) (positions_next ShowsDevice) machine cert c.loop-position.position c.args.positions (g.K.Sink.told c.args.out.now) (g.K.Sink.told c.loop-position.out)
    c.args.bench.now c.args.bench.now _ _ all (c.loop-position.invariant.made machine cert)
