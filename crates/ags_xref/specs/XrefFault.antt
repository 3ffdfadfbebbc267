-- What the writer of a cross reference answers.
use Rattle.std.specs.Prelude.{Bool, true, false, Result, Err}
use Rattle.ags_outside.specs.declared.sending.SendError.{SendError}
use Rattle.ags_outside.specs.declared.sending.SendError.TheVariants as sent
use Rattle.ags_xref.specs.declared.sending.XrefError.{XrefError}
use Rattle.ags_xref.specs.declared.sending.XrefError.TheVariants.{WriteFault, NoMemory}

-- whether it met a fault of the sink, which its count of faults counts
abbrev pub is_write_fault : {T : Type 0} → Result T XrefError → Bool
is_write_fault (Err WriteFault) = true
is_write_fault _ = false

-- the error of a cross reference for that of a send
abbrev pub xref_error : SendError → XrefError
xref_error sent.WriteFault = WriteFault
xref_error sent.NoMemory = NoMemory
