use Rattle.std.proofs.Common.{ℕ, ◌<◌}
use Rattle.ags_certtype.specs.Cert.{certificate_of}
use Rattle.ags_domain.specs.Value.{value_meaning}
use Rattle.ags_ports.specs.State.{cell}
use Rattle.ags_safe.specs.Start.{IsStartWord}
use Rattle.ags_run.proofs.guarding.find_cell.Given as goal

-- each cell so far begins with a word that it may
abbrev pub invariant-loop-address : goal.invariant-loop-address
invariant-loop-address l = (address : ℕ) → address < l.address → IsStartWord value_meaning l.image (certificate_of l.cert) address (cell l.core address)
