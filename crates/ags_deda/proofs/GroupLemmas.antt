-- Groups of nine digits.
use Rattle.std.proofs.Common.{◌≡◌, ℕ, ◌+◌, ◌%◌, ◌==◌, true, List, [], ◌∷◌, ◌++◌, length, take, reverse, set, Some, refl, sym, ap, ◌∙◌, arith, length-set}
use Rattle.std.proofs.Math.Seq.{take-suc-set}
use Rattle.std.proofs.lemmas.Bool.Decides.{nat_tests}
use Rattle.std.proofs.lemmas.List.{reverse-append, take_all}
use Rattle.ags_deda.specs.Panel.{whole_group}

-- the ninth digit makes a group whole
pub ninth : (group digits : List ℕ) (digit column : ℕ) → length group ≡ 9 → column ≡ 8 → length digits % 9 ≡ 8 → take 8 group ≡ reverse (take 8 digits)
    → Some (set group column digit) ≡ whole_group digit digits
ninth group digits digit column nine is eight front =
    let whole : ((length digits + 1) % 9 == 0) ≡ true = grind (arith, nat_tests) in
    let all : take 9 (set group 8 digit) ≡ set group 8 digit = take_all 9 (set group 8 digit) (omega (arith, length-set group 8 digit)) in
    let group_is : set group 8 digit ≡ reverse (digit ∷ take 8 digits) =
    sym all ∙ take-suc-set group 8 digit (omega arith) ∙ ap (λ (old : List ℕ). old ++ digit ∷ []) front ∙ sym (reverse-append (digit ∷ []) (take 8 digits)) in
    rw (is, whole, group_is) refl
