use Rattle.std.proofs.Common.{ℕ, ◌<◌}
use Rattle.ags_certtype.specs.Cert.{certificate_of}
use Rattle.ags_check.specs.Checking.{IsFirstHeldAt}
use Rattle.ags_check.proofs.firsts.first_outside.Given as goal

-- the cells so far have first words in their limits
abbrev pub invariant-loop-address : goal.invariant-loop-address
invariant-loop-address l = (address : ℕ) → address < l.address → IsFirstHeldAt l.image (certificate_of l.cert) address
