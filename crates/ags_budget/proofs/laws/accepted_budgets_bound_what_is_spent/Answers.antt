use Rattle.ags_budget.proofs.SpentLemmas.{bounds_kept, rows_in_time}
use Rattle.ags_budget.proofs.laws.accepted_budgets_bound_what_is_spent.Goals as goal

pub returns : goal.returns
returns g c = λ machine image cert bounds cases machine_is accepted timed safe times.
    bounds_kept g.D.Domain.meaning g.met.D.Domain.lawful machine image cert bounds machine_is times
    (rows_in_time g.D.Domain.meaning g.met.D.Domain.lawful machine image cert bounds machine_is times cases accepted timed) safe
