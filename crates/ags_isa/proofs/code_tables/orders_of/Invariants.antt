use Rattle.std.proofs.Common.{◌≡◌, ℕ, ◌<◌, length, get_or}
use Rattle.std.specs.Prelude.{None}
use Rattle.ags_isa.specs.Code.{order_of}
use Rattle.ags_isa.proofs.code_tables.orders_of.Given as goal

-- the earlier codes have their orders
abbrev pub invariant-loop-code : goal.invariant-loop-code
invariant-loop-code l = record {
  long : length l.orders ≡ 32;
  earlier : (k : ℕ) → k < l.code → get_or l.orders k None ≡ order_of l.table k;
}
