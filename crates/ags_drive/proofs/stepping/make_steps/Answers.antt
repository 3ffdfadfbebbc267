use Rattle.std.proofs.Common.{refl, arith, replicate, ◌≡◌}
use Rattle.ags_drive.specs.Act.{MakesStep}
use Rattle.std.proofs.Common.{[], ◌∷◌}
use Rattle.ags_drive.proofs.JoinLemmas.{silent_made}
use Rattle.ags_drive.proofs.ScriptLemmas.{steps_next, piece_more, piece_unmade, pieces_all}
use Rattle.ags_drive.proofs.stepping.make_steps.Goals as goal

pub returns-in-Err-clause-unmade : goal.returns-in-Err-clause-unmade
returns-in-Err-clause-unmade g c = λ cert told.
    piece_unmade (λ n. replicate n MakesStep) (λ n. MakesStep ∷ []) steps_next c.args.machine.now cert c.loop.counter c.args.count told told told c.args.bench.now c.loop.bench _ _ _ c.in-Err.error c.loop-test.true
    (c.loop.invariant.made cert told) (c.in-Err.ensures.unmade cert told)

pub loop-preserved : goal.loop-preserved
loop-preserved g c = record {
  fitted = c.make_step.ensures.fitted;
  made = λ cert told.
      piece_more (λ n. replicate n MakesStep) (λ n. MakesStep ∷ []) steps_next c.args.machine.now cert c.loop.counter told told told c.args.bench.now c.loop.bench c.make_step.new.bench _ _ _ (c.loop.invariant.made cert told)
      (silent_made c.args.machine.now cert MakesStep c.loop.bench c.make_step.new.bench _ _ refl (c.in_default.ensures.made cert) told);
}

pub returns-clause-made : goal.returns-clause-made
returns-clause-made g c = λ cert told.
    let all : c.loop.counter ≡ c.args.count = omega arith in
    pieces_all (λ n. replicate n MakesStep) (λ n. MakesStep ∷ []) steps_next c.args.machine.now cert c.loop.counter c.args.count told told c.args.bench.now c.loop.bench _ _ all (c.loop.invariant.made cert told)
