use Rattle.std.proofs.Common.{◌≡◌, Bool, false, rules, ◌≢◌, ◌↔◌, All, AllPairs, IsTrue, get_or, take, drop, ◌-◌, length}
use Rattle.ags_isa.proofs.CodeLemmas.{pairs_of_first}
use Rattle.ags_isa.proofs.code_tables.+all_distinct.Goals as goal

not_both : (b : Bool) → IsTrue b → b ≡ false → ⊥
not_both b holds fails = grind (rules, holds, fails)

pub returns-then-is_unlike : goal.returns-then-is_unlike
returns-then-is_unlike t c =
    let pairs = pairs_of_first c.args.codes.now c.in-len1-up.len_at_least in
    let a : IsTrue c.is_unlike.result ↔ All (λ other. get_or c.args.codes.now 0 0 ≢ other) (take (length c.args.codes.now - 1) (drop 1 c.args.codes.now)) = c.is_unlike.ensures in
    let b : IsTrue c.all_distinct.result ↔ AllPairs (λ one another. one ≢ another) (take (length c.args.codes.now - 1) (drop 1 c.args.codes.now)) = c.all_distinct.ensures in
    (λ test. pairs.0 (a.0 c.if-is_unlike.true, b.0 test), λ distinct. b.1 (pairs.1 distinct).1)

pub returns-else-is_unlike : goal.returns-else-is_unlike
returns-else-is_unlike t c =
    let pairs = pairs_of_first c.args.codes.now c.in-len1-up.len_at_least in
    let a : IsTrue c.is_unlike.result ↔ All (λ other. get_or c.args.codes.now 0 0 ≢ other) (take (length c.args.codes.now - 1) (drop 1 c.args.codes.now)) = c.is_unlike.ensures in
    (λ test. absurd (not_both _ test c.if-is_unlike.false), λ distinct. a.1 (pairs.1 distinct).0)
