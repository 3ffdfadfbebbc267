use Rattle.ags_benchscript.proofs.ScriptLemmas.{script_or_faulty, one_script, one_fault, not_faulty}
use Rattle.ags_benchscript.proofs.laws.script_means_one_thing.Goals as goal

pub returns-clause-either : goal.returns-clause-either
returns-clause-either c = script_or_faulty

pub returns-clause-commands : goal.returns-clause-commands
returns-clause-commands c = one_script

pub returns-clause-fault : goal.returns-clause-fault
returns-clause-fault c = one_fault

pub returns-clause-not_both : goal.returns-clause-not_both
returns-clause-not_both c = not_faulty
