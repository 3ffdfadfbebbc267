use Rattle.ags_certtype.specs.Cert.{certificate_of}
use Rattle.ags_play.specs.Guard.{AreInputsInside}
use Rattle.ags_run.proofs.guarding.find_input.Given as goal

-- each input register so far is inside
abbrev pub invariant-loop-position : goal.invariant-loop-position
invariant-loop-position l = AreInputsInside l.machine (certificate_of l.cert) l.core l.position
