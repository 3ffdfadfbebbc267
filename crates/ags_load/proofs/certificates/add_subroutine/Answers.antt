use Rattle.std.proofs.Common.{◌≡◌, [], ◌∷◌, ◌++◌, ℕ, subst, arith, codes}
use Rattle.std.specs.Prelude.{string_bytes, ◌+◌}
use Rattle.std.proofs.lemmas.Result.{on_ok_weaker}
use Rattle.ags_text.specs.Numeral.{octal6_text}
use Rattle.ags_load.specs.Workload.{text_of, subroutine_rows, subroutine_at, inner_rows, return_value, row_line}
use Rattle.ags_load.proofs.TextLemmas.{added, row_added, inner_added}
use Rattle.ags_load.proofs.certificates.add_subroutine.Goals as goal

pub returns : goal.returns
unfolding subroutine_rows return_value
returns c =
    let at = subroutine_at c.args.n in
    let call = c.args.call in
    let is = c.return_word-word.ensures in
    let same : c.subroutine_at-first.result ≡ subroutine_at c.args.n = c.subroutine_at-first.ensures in
    let t1 = string_bytes c.add_row.new.text in
    let t2 = string_bytes c.add_inner.new.text in
    let t3 = string_bytes c.add_inner-2.new.text in
    let t4 = string_bytes c.add_inner-3.new.text in
    let t5 = string_bytes c.add_inner-4.new.text in
    let t6 = string_bytes c.add_inner-5.new.text in
    let i1 = inner_rows (at + 1) (codes "ANY") call in
    let i2 = inner_rows (at + 2) (codes "RANGE -396 396") call in
    let i3 = inner_rows (at + 3) (codes "RANGE -99 99") call in
    let i4 = inner_rows (at + 4) (codes "RANGE -98 100") call in
    let i5 = inner_rows 16 (codes "RANGE -98 100") call in
    on_ok_weaker c.add_inner-5.result
    (λ last.
    let a5 = added i4 i5 t4 t5 t6 (inner_added t4 t5 (codes "RANGE -98 100") call (c.subroutine_at-first.result + 4) (at + 4) (omega arith) (c.in_ok-add_inner-4.ensures call is)) last in
    let a4 = added i3 (i4 ++ i5) t3 t4 t6 (inner_added t3 t4 (codes "RANGE -99 99") call (c.subroutine_at-first.result + 3) (at + 3) (omega arith) (c.in_ok-add_inner-3.ensures call is)) a5 in
    let a3 = added i2 (i3 ++ (i4 ++ i5)) t2 t3 t6 (inner_added t2 t3 (codes "RANGE -396 396") call (c.subroutine_at-first.result + 2) (at + 2) (omega arith) (c.in_ok-add_inner-2.ensures call is)) a4 in
    let a2 = added i1 (i2 ++ (i3 ++ (i4 ++ i5))) t1 t2 t6 (inner_added t1 t2 (codes "ANY") call (c.subroutine_at-first.result + 1) (at + 1) (omega arith) (c.in_ok-add_inner.ensures call is)) a3 in
    added (row_line at (codes "ANY") (return_value call) ∷ []) (i1 ++ (i2 ++ (i3 ++ (i4 ++ i5)))) (string_bytes c.args.text.now) t1 t6
    (subst (λ (word : ℕ). t1 ≡ string_bytes c.args.text.now ++ text_of (row_line at (codes "ANY") (codes "WORDS " ++ octal6_text word) ∷ [])) is
    (row_added (string_bytes c.args.text.now) t1 (codes "ANY") (codes "WORDS " ++ octal6_text c.return_word-word.result) c.subroutine_at-first.result at same c.in_ok-add_row.ensures))
    a2)
    (c.add_inner-5.ensures call is)
