use Rattle.ags_ports.proofs.RunLemmas.{run-split}
use Rattle.ags_ports.proofs.run_laws.runs_split.Goals as goal

pub returns : goal.returns
returns c = run-split
