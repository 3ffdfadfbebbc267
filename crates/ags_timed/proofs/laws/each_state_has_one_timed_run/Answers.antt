use Rattle.ags_timed.proofs.TimedLemmas.{some_timed, one_timed, one_time, timed_most, timed_few}
use Rattle.ags_timed.proofs.laws.each_state_has_one_timed_run.Goals as goal

pub returns-clause-some : goal.returns-clause-some
returns-clause-some c = some_timed

pub returns-clause-one : goal.returns-clause-one
returns-clause-one c = one_timed

pub returns-clause-time : goal.returns-clause-time
returns-clause-time c = one_time

pub returns-clause-most : goal.returns-clause-most
returns-clause-most c = timed_most

pub returns-clause-few : goal.returns-clause-few
returns-clause-few c = timed_few
