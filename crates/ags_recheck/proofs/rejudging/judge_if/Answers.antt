use Rattle.std.proofs.Common.{ℕ, ◌+◌, ◌≤◌, refl, sym, ◌∙◌, arith}
use Rattle.std.proofs.lemmas.Bool.{false≢true}
use Rattle.ags_recheck.proofs.rejudging.judge_if.Goals as goal

no_fewer : (steps cases : ℕ) → steps ≤ steps + cases
no_fewer steps cases = omega arith

pub returns-then-has_one-clause-kept : goal.returns-then-has_one-clause-kept
returns-then-has_one-clause-kept g c = c.judge-then-has_one.ensures.kept

pub returns-then-has_one-clause-steps : goal.returns-then-has_one-clause-steps
returns-then-has_one-clause-steps g c = c.judge-then-has_one.ensures.steps

pub returns-then-has_one-clause-idle : goal.returns-then-has_one-clause-idle
returns-then-has_one-clause-idle g c = λ others not_one not_other. absurd (false≢true (sym (c.has_one.ensures.both not_one not_other) ∙ c.if-has_one.true))

pub returns-else-has_one-clause-steps : goal.returns-else-has_one-clause-steps
returns-else-has_one-clause-steps g c = λ cases has. no_fewer c.args.steps.now cases

pub returns-else-has_one-clause-idle : goal.returns-else-has_one-clause-idle
returns-else-has_one-clause-idle g c = λ others not_one not_other. refl

pub returns-else-has_one-clause-kept : goal.returns-else-has_one-clause-kept
returns-else-has_one-clause-kept g c =
    c.requires.kept c.if-edited.false (c.has_one.ensures.none c.if-has_one.false) (c.has_one.ensures.neither c.if-has_one.false)

pub returns-then-edited : goal.returns-then-edited
returns-then-edited g c = record {
  kept = c.judge.ensures.kept;
  steps = c.judge.ensures.steps;
  idle = λ not_edited not_one not_other. absurd (false≢true (sym not_edited ∙ c.if-edited.true));
}
