use Rattle.std.proofs.Common.{◌≡◌, ℕ, [], ◌∷◌, ◌++◌, ap, subst, ◌∙◌, arith, codes}
use Rattle.std.specs.Prelude.{string_bytes}
use Rattle.ags_load.specs.Workload.{cert_text, cert_lines, text_of, first_lines, call_rows, subroutine_rows, each_up_to, row_line, wait_at}
use Rattle.ags_load.proofs.TextLemmas.{none_added, added_next, added}
use Rattle.ags_load.proofs.LengthLemmas.{cert_length}
use Rattle.ags_load.proofs.certificates.cert.Goals as goal

pub loop-passed-init : goal.loop-passed-init
loop-passed-init c = none_added call_rows (string_bytes c.push_str.new.self)

pub loop-passed-preserved : goal.loop-passed-preserved
loop-passed-preserved c =
    added_next call_rows c.loop-passed.passed (string_bytes c.push_str.new.self) (string_bytes c.loop-passed.text) (string_bytes c.add_call.new.text)
    c.loop-passed.invariant c.in_ok-add_call.ensures

pub loop-served-init : goal.loop-served-init
loop-served-init c = none_added (subroutine_rows c.args.n) (string_bytes c.add_row.new.text)

pub loop-served-preserved : goal.loop-served-preserved
loop-served-preserved c =
    added_next (subroutine_rows c.args.n) c.loop-served.served (string_bytes c.add_row.new.text) (string_bytes c.loop-served.text)
    (string_bytes c.add_subroutine.new.text) c.loop-served.invariant c.in_ok-add_subroutine.ensures

pub returns-clause-text : goal.returns-clause-text
unfolding cert_text cert_lines text_of first_lines
returns-clause-text c =
    let n = c.args.n in
    let wait = row_line (wait_at n) (codes "ANY") (codes "ANY") ∷ [] in
    let inner = each_up_to (subroutine_rows n) n in
    let end = codes "END" ∷ [] in
    let t1 = string_bytes c.push_str.new.self in
    let t2 = string_bytes c.loop-passed.text in
    let t3 = string_bytes c.add_row.new.text in
    let t4 = string_bytes c.loop-served.text in
    let t5 = string_bytes c.push_str-2.new.self in
    let served : c.loop-served.served ≡ n = omega arith in
    let passed : c.loop-passed.passed ≡ n = omega arith in
    let i4 = subst (λ (count : ℕ). t4 ≡ t3 ++ text_of (each_up_to (subroutine_rows n) count)) served c.loop-served.invariant in
    let i2 = subst (λ (count : ℕ). t2 ≡ t1 ++ text_of (each_up_to call_rows count)) passed c.loop-passed.invariant in
    let a4 = added inner end t3 t4 t5 i4 c.in_ok-push_str-2.ensures.bytes in
    let a3 = added wait (inner ++ end) t2 t3 t5 c.in_ok-add_row.ensures a4 in
    let a2 = added (each_up_to call_rows n) (wait ++ (inner ++ end)) t1 t2 t5 i2 a3 in
    ap (λ v. v.items) c.into_bytes.ensures.value ∙ added first_lines (each_up_to call_rows n ++ (wait ++ (inner ++ end))) [] t1 t5 (rw c.new-text.ensures.bytes at c.in_ok-push_str.ensures.bytes) a2

pub returns-clause-within : goal.returns-clause-within
returns-clause-within c = rw (returns-clause-text c) (cert_length c.args.n c.requires.many)
