use Rattle.std.proofs.Common.{[], ◌∷◌, arith, codes}
use Rattle.std.specs.Prelude.{string_bytes, ◌-◌}
use Rattle.std.proofs.lemmas.Result.{on_ok_weaker}
use Rattle.ags_load.specs.Workload.{call_rows, call_at, return_at, row_line}
use Rattle.ags_load.proofs.TextLemmas.{added, row_added}
use Rattle.ags_load.proofs.certificates.add_call.Goals as goal

pub returns : goal.returns
unfolding call_rows
returns c = on_ok_weaker c.add_row-2.result
    (λ last. added (row_line (call_at c.args.call) (codes "ANY") (codes "ANY") ∷ [])
    (row_line (return_at c.args.call) (codes "RANGE -98 100") (codes "ANY") ∷ [])
    (string_bytes c.args.text.now) (string_bytes c.add_row.new.text) (string_bytes c.add_row-2.new.text)
    (row_added (string_bytes c.args.text.now) (string_bytes c.add_row.new.text) (codes "ANY") (codes "ANY")
    (c.return_at-location.result - 1) (call_at c.args.call) (omega arith) c.in_ok-add_row.ensures)
    (row_added (string_bytes c.add_row.new.text) (string_bytes c.add_row-2.new.text) (codes "RANGE -98 100") (codes "ANY")
    c.return_at-location.result (return_at c.args.call) c.return_at-location.ensures last))
    c.add_row-2.ensures
