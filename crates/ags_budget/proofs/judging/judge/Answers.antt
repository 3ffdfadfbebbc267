use Rattle.std.proofs.Common.{◌≡◌, ℕ, ◌+◌, ◌*◌, ◌<◌, ◌≤◌, refl, sym, ◌∙◌, arith}
use Rattle.ags_domain.specs.Value.{value_meaning}
use Rattle.ags_domain.specs.MeaningLaws.{value_lawful}
use Rattle.ags_domain.specs.declared.values.Value.{Value}
use Rattle.ags_verdict.specs.declared.verdicts.Refusal.{Refusal}
use Rattle.ags_budget.specs.Over.{over}
use Rattle.ags_budget.specs.declared.answers.LateCase.{LateCase}
use Rattle.ags_budget.specs.declared.answers.Timed.TheVariants.{Within, Unsafe}
use Rattle.ags_certtype.specs.Cert.{certificate_of}
use Rattle.ags_budget.proofs.SpentLemmas.{bounds_kept, rows_in_time}
use Rattle.ags_budget.proofs.judging.judge.Goals as goal

over_is_not_within : (row : ℕ) (late : LateCase) (rows cases greatest : ℕ) → over row late ≡ Within rows cases greatest → ⊥
over_is_not_within row late rows cases greatest is = absurd cc

unsafe_is_not_within : (refusal : Refusal Value) (rows cases greatest : ℕ) → Unsafe refusal ≡ Within rows cases greatest → ⊥
unsafe_is_not_within refusal rows cases greatest is = absurd cc

steps_twice : (old between new cases : ℕ) → between ≤ old + cases → new ≤ between + cases → new ≤ old + 2 * cases
steps_twice old between new cases first second = omega arith

steps_once : (old new cases : ℕ) → new ≤ old + cases → new ≤ old + 2 * cases
steps_once old new cases once = omega arith

a_row : (bounds rows place : ℕ) → bounds ≡ rows → place < rows → 1 ≤ bounds
a_row bounds rows place same some = omega arith

pub timed_rows-requires : goal.timed_rows-requires
timed_rows-requires g c = (c.check.ensures.accepted c.in-Certified.rows c.in-Certified.cases c.in-Certified.is).0

pub greatest-requires : goal.greatest-requires
greatest-requires g c = a_row _ _ _ c.requires ((c.check.ensures.accepted c.in-Certified.rows c.in-Certified.cases c.in-Certified.is).0.start.2)

pub returns-in-Ok-clause-timed : goal.returns-in-Ok-clause-timed
returns-in-Ok-clause-timed g c = (c.in-Certified.ensures.verdict, _, c.in-Ok.ensures.timed, c.greatest.ensures)

pub returns-in-Ok-clause-safe : goal.returns-in-Ok-clause-safe
returns-in-Ok-clause-safe g c = λ rows cases greatest is. c.check.ensures.safe c.in-Certified.rows c.in-Certified.cases c.in-Certified.is

pub returns-in-Ok-clause-kept : goal.returns-in-Ok-clause-kept
returns-in-Ok-clause-kept g c = λ rows cases greatest is suits.
    bounds_kept value_meaning value_lawful c.args.machine.now c.args.image.now (certificate_of c.args.cert.now) c.args.budget.now
    c.machine_is_made_of_tables.ensures c.bounds_are_times.ensures
    (rows_in_time value_meaning value_lawful c.args.machine.now c.args.image.now (certificate_of c.args.cert.now) c.args.budget.now
    c.machine_is_made_of_tables.ensures c.bounds_are_times.ensures _
    (c.check.ensures.accepted c.in-Certified.rows c.in-Certified.cases c.in-Certified.is).0 c.in-Ok.ensures.timed)
    (c.check.ensures.safe c.in-Certified.rows c.in-Certified.cases c.in-Certified.is suits)

pub returns-in-Err-clause-timed : goal.returns-in-Err-clause-timed
returns-in-Err-clause-timed g c = rw c.over.ensures (c.in-Certified.cases, (c.in-Certified.ensures.verdict.0, refl), c.in-Err.ensures.timed)

pub returns-in-Err-clause-safe : goal.returns-in-Err-clause-safe
returns-in-Err-clause-safe g c = λ rows cases greatest is. absurd (over_is_not_within _ _ rows cases greatest (sym c.over.ensures ∙ is))

pub returns-in-Err-clause-kept : goal.returns-in-Err-clause-kept
returns-in-Err-clause-kept g c = λ rows cases greatest is. absurd (over_is_not_within _ _ rows cases greatest (sym c.over.ensures ∙ is))

pub returns-in-Err-clause-steps : goal.returns-in-Err-clause-steps
returns-in-Err-clause-steps g c = λ cases have. steps_twice _ _ _ cases (c.check.ensures.steps cases have) (c.timed_rows.ensures.steps cases have)

pub returns-in-Ok-clause-steps : goal.returns-in-Ok-clause-steps
returns-in-Ok-clause-steps g c = λ cases have. steps_twice _ _ _ cases (c.check.ensures.steps cases have) (c.timed_rows.ensures.steps cases have)

pub returns-in-Refused-clause-steps : goal.returns-in-Refused-clause-steps
returns-in-Refused-clause-steps g c = λ cases have. steps_once _ _ cases (c.check.ensures.steps cases have)

pub returns-in-Refused-clause-timed : goal.returns-in-Refused-clause-timed
returns-in-Refused-clause-timed g c = c.in-Refused.ensures.verdict

pub returns-in-Refused-clause-safe : goal.returns-in-Refused-clause-safe
returns-in-Refused-clause-safe g c = λ rows cases greatest is. absurd (unsafe_is_not_within _ rows cases greatest is)

pub returns-in-Refused-clause-kept : goal.returns-in-Refused-clause-kept
returns-in-Refused-clause-kept g c = λ rows cases greatest is. absurd (unsafe_is_not_within _ rows cases greatest is)
