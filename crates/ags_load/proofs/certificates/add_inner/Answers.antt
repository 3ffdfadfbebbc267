use Rattle.std.proofs.Common.{[], ◌∷◌, codes}
use Rattle.std.specs.Prelude.{string_bytes}
use Rattle.std.proofs.lemmas.Result.{on_ok_weaker}
use Rattle.ags_load.specs.Workload.{inner_rows, return_line, return_value, row_line}
use Rattle.ags_load.proofs.TextLemmas.{added, text_one}
use Rattle.ags_load.proofs.certificates.add_inner.Goals as goal

pub returns : goal.returns
unfolding inner_rows return_line return_value
returns c = λ call is. on_ok_weaker c.write.result
    (λ last. added (row_line c.args.location c.args.a.now (codes "ANY") ∷ []) (return_line call ∷ [])
    (string_bytes c.args.text.now) (string_bytes c.add_row.new.text) (string_bytes c.write.new.self) c.in_ok-add_row.ensures
    (rw (text_one (return_line call), ← is) last))
    c.write.ensures.bytes
