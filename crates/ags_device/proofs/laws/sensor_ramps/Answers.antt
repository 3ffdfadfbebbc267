use Rattle.ags_device.proofs.PlanLemmas.{length-readings, reading_there, readings_below}
use Rattle.ags_device.proofs.laws.sensor_ramps.Goals as goal

pub returns-clause-count : goal.returns-clause-count
returns-clause-count c = λ first by count. length-readings first by 0 count

pub returns-clause-word : goal.returns-clause-word
returns-clause-word c = reading_there

pub returns-clause-below : goal.returns-clause-below
returns-clause-below c = λ first by count. readings_below first by 0 count
