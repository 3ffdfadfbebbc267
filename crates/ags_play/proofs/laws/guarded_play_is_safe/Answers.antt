use Rattle.ags_play.proofs.SafeLemmas.{safe_where_cut, start_is_safe, steps_are_safe}
use Rattle.ags_play.proofs.laws.guarded_play_is_safe.Goals as goal

pub returns-clause-start : goal.returns-clause-start
returns-clause-start c = start_is_safe

pub returns-clause-steps : goal.returns-clause-steps
returns-clause-steps c = λ machine image cert commands events text met moments is below settable p unmet safe.
    steps_are_safe machine image cert commands events text met is below settable p unmet safe moments

pub returns-clause-cuts : goal.returns-clause-cuts
returns-clause-cuts c = λ machine image cert commands events text met is below settable p unmet safe.
    safe_where_cut machine image cert commands events text met is below settable p unmet safe
