use Rattle.std.proofs.Common.{◌≡◌, [], length, All}
use Rattle.ags_xref.proofs.gathering.no_numbers.Given as goal

abbrev pub invariant-loop : goal.invariant-loop
invariant-loop l = record {
  long : length l.naming.items ≡ l.counter;
  empty : All (λ numbers. numbers.items ≡ []) l.naming.items;
}
