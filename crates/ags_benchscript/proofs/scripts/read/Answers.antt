use Rattle.ags_benchscript.proofs.ScriptLemmas.{faultless_exactly, faulty_exactly}
use Rattle.ags_benchscript.proofs.scripts.read.Goals as goal

pub returns-clause-faultless : goal.returns-clause-faultless
returns-clause-faultless c = faultless_exactly c.args.machine.now c.args.bytes.now c.read_lines.result c.read_lines.ensures.read c.read_lines.ensures.refused

pub returns-clause-faulty : goal.returns-clause-faulty
returns-clause-faulty c = faulty_exactly c.args.machine.now c.args.bytes.now c.read_lines.result c.read_lines.ensures.read c.read_lines.ensures.refused
