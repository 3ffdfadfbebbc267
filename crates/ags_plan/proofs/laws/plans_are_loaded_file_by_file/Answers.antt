use Rattle.ags_plan.proofs.LoadingLemmas.{loads_stop, loads_on, takes_stop, takes_on}
use Rattle.ags_plan.proofs.laws.plans_are_loaded_file_by_file.Goals as goal

pub returns-clause-stops : goal.returns-clause-stops
returns-clause-stops g c = λ told kind name next why stops. loads_stop g.P.Loader.definition told kind name next why stops

pub returns-clause-goes_on : goal.returns-clause-goes_on
returns-clause-goes_on g c = λ told kind name next value result sees later. loads_on g.P.Loader.definition told kind name next value result sees later

pub returns-clause-own_stops : goal.returns-clause-own_stops
returns-clause-own_stops g c = λ told kind name bytes next why stops. takes_stop g.P.Loader.definition told kind name bytes next why stops

pub returns-clause-own_goes_on : goal.returns-clause-own_goes_on
returns-clause-own_goes_on g c = λ told kind name bytes next value result holds later. takes_on g.P.Loader.definition told kind name bytes next value result holds later
