-- What a send answers.
use Rattle.std.specs.Prelude.{Bool, true, false, Result, Err}
use Rattle.ags_outside.specs.declared.sending.SendError.{SendError}
use Rattle.ags_outside.specs.declared.sending.SendError.TheVariants.{WriteFault}

-- whether a writer met a fault of the sink, which its count of faults counts
abbrev pub is_write_fault : {T : Type 0} → Result T SendError → Bool
is_write_fault (Err WriteFault) = true
is_write_fault _ = false
