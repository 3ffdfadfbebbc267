use Rattle.std.proofs.Common.{take}
use Rattle.std.specs.Fmt.{HasWritten, IsPlainFormatter}
use Rattle.ags_certtext.specs.Spelling.{flag_digits}
use Rattle.ags_certsend.proofs.spelling.IndicesDisplay.fmt.Given as goal

abbrev pub invariant-loop-index : goal.invariant-loop-index
invariant-loop-index g l =
    IsPlainFormatter l.fn.f → HasWritten g.W.Write.write_str_gives l.fn.f (flag_digits 48 (take l.index-counter l.self.0)) l.f
