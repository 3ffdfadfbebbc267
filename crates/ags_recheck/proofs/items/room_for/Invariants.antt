use Rattle.std.proofs.Common.{◌≡◌, length}
use Rattle.ags_recheck.proofs.items.room_for.Given as goal

-- so many items stand
abbrev pub invariant-loop : goal.invariant-loop
invariant-loop l = length l.items.items ≡ l.counter
