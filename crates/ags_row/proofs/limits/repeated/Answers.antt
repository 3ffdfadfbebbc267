use Rattle.std.proofs.Common.{◌++◌, ◌∷◌, [], ap, ◌∙◌, arith}
use Rattle.std.specs.Prelude.{replicate}
use Rattle.std.proofs.lemmas.List.{replicate_more}
use Rattle.ags_row.proofs.limits.repeated.Goals as goal

pub returns : goal.returns
returns g c = c.loop.invariant ∙ ap (λ n. replicate n c.args.entry) (omega (arith, c.loop-test.false, c.loop.auto.counter-end))

pub loop-preserved : goal.loop-preserved
loop-preserved g c = c.in_ok-push.ensures.items ∙ ap (λ xs. xs ++ (c.args.entry ∷ [])) c.loop.invariant ∙ replicate_more c.loop.counter c.args.entry
