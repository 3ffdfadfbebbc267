use Rattle.std.proofs.Common.{All, ◌<◌}
use Rattle.toml.specs.View.{table_view}
use Rattle.ags_machfile.specs.OrderTable.{code_entry}
use Rattle.ags_machfile.proofs.TableLemmas.{IsFilled}
use Rattle.ags_machfile.proofs.code_tables.code_table.Given as goal

abbrev pub invariant-loop-position : goal.invariant-loop-position
invariant-loop-position l = IsFilled (code_entry (table_view l.table)) l.codes l.position × All (λ code. code < 32) l.codes
