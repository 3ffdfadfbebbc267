use Rattle.std.proofs.Common.{◌≡◌, ◌++◌}
use Rattle.std.specs.Prelude.{string_bytes}
use Rattle.ags_load.specs.Workload.{call_rows, each_up_to, subroutine_rows, text_of}
use Rattle.ags_load.proofs.certificates.cert.Given as goal

abbrev pub invariant-loop-passed : goal.invariant-loop-passed
invariant-loop-passed l = string_bytes l.text ≡ string_bytes l.initial.text ++ text_of (each_up_to call_rows l.passed)

abbrev pub invariant-loop-served : goal.invariant-loop-served
invariant-loop-served l = string_bytes l.text ≡ string_bytes l.initial.text ++ text_of (each_up_to (subroutine_rows l.calls) l.served)
