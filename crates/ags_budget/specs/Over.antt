-- The answer that tells a late case.
use Rattle.std.specs.Prelude.{ℕ}
use Rattle.ags_budget.specs.declared.answers.LateCase.{LateCase}
use Rattle.ags_budget.specs.declared.answers.Timed.{Timed}
use Rattle.ags_budget.specs.declared.answers.Timed.TheVariants.{Over}

-- the answer that tells a late case of the row with a number
abbrev pub over : ℕ → LateCase → Timed
over row late = Over row late.word late.x late.v late.next late.needs late.bound
