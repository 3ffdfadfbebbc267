use Rattle.std.proofs.Common.{◌≢◌, ◌<◌, ℕ, slice_index_or}
use Rattle.ags_ports.specs.declared.registers.Port.{Port}
use Rattle.ags_ports.proofs.registers.all_distinct.Given as goal

-- no two of the registers before this one have one address
abbrev pub invariant-loop-position : goal.invariant-loop-position
invariant-loop-position l = (i j : ℕ) (d : Port) → i < j → j < l.position → (slice_index_or l.ports i d).address ≢ (slice_index_or l.ports j d).address
