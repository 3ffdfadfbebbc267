use Rattle.std.proofs.Common.{All, ◌≤◌}
use Rattle.toml.specs.View.{table_view}
use Rattle.ags_machfile.specs.OrderTable.{time_entry}
use Rattle.ags_machfile.proofs.TableLemmas.{IsFilled}
use Rattle.ags_machfile.proofs.time_tables.time_table.Given as goal

abbrev pub invariant-loop-position : goal.invariant-loop-position
invariant-loop-position l = IsFilled (time_entry (table_view l.table)) l.times l.position × All (λ time. 1 ≤ time) l.times × All (λ time. time ≤ 1000) l.times
