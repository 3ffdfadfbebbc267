use Rattle.std.proofs.Common.{◌≡◌, ◌++◌, ◌+◌, ◌-◌, ◌≤◌}
use Rattle.ags_xref.specs.Xref.{blanks}
use Rattle.ags_xref.proofs.writing.push_blanks.Given as goal

abbrev pub invariant-loop : goal.invariant-loop
invariant-loop l = record {
  filled : l.line.items ≡ l.fn.line.items ++ blanks (l.counter - l.length);
  least : l.length ≤ l.counter;
  most : l.counter ≤ l.length + (l.width - l.length);
}
