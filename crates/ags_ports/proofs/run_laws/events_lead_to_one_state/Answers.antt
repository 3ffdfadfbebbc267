use Rattle.ags_ports.proofs.RunLemmas.{some_end, one_end, end-nil, end-step, end-append, end-split}
use Rattle.ags_ports.proofs.run_laws.events_lead_to_one_state.Goals as goal

pub returns-clause-some : goal.returns-clause-some
returns-clause-some c = some_end

pub returns-clause-one : goal.returns-clause-one
returns-clause-one c = one_end

pub returns-clause-none : goal.returns-clause-none
returns-clause-none c = end-nil

pub returns-clause-step : goal.returns-clause-step
returns-clause-step c = end-step

pub returns-clause-join : goal.returns-clause-join
returns-clause-join c = end-append

pub returns-clause-split : goal.returns-clause-split
returns-clause-split c = end-split
