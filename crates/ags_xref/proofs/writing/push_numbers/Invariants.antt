use Rattle.std.proofs.Common.{◌≡◌, ◌++◌, take}
use Rattle.std.specs.List.{flat_map}
use Rattle.ags_xref.specs.Xref.{number_text}
use Rattle.ags_xref.proofs.writing.push_numbers.Given as goal

abbrev pub invariant-loop-number : goal.invariant-loop-number
invariant-loop-number l = l.line.items ≡ l.fn.line.items ++ flat_map number_text (take l.number-index l.numbers)
