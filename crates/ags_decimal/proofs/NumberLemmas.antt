-- Digits and the number that they write, one digit further.
use Rattle.std.proofs.Common.{◌≡◌, ℕ, ◌+◌, ◌-◌, ◌*◌, ◌<◌, ◌^◌, Bool, true, List, [], ◌∷◌, ◌++◌, length, drop, get_or, suc, refl, add-one, add-zero, arith}
use Rattle.std.specs.List.{list_all}
use Rattle.std.proofs.Math.Seq.{drop-cons}
use Rattle.std.proofs.lemmas.Bool.{and_parts}
use Rattle.std.proofs.lemmas.Bool.Decides.{nat_tests}
use Rattle.std.proofs.lemmas.Grind.{pow_more}
use Rattle.ags_decimal.specs.Spelling.{is_digit, number_after}

pub number_after-step : (n d i start : ℕ) (text : List ℕ) → i < length text → d ≡ get_or text i 0 - 48
    → number_after n (drop i text) ≡ number_after start text → number_after (n * 10 + d) (drop (i + 1) text) ≡ number_after start text
number_after-step n d i start text within is before =
    let cut : drop i text ≡ get_or text i 0 ∷ drop (i + 1) text = rw add-one (drop-cons text i 0 within) in
    let after = rw cut at before in
    rw is after

pub digits-step : (i : ℕ) (text : List ℕ) → i < length text → list_all is_digit (drop i text) ≡ true → (is_digit (get_or text i 0) ≡ true) × (list_all is_digit (drop (i + 1) text) ≡ true)
digits-step i text within digits =
    let cut : drop i text ≡ get_or text i 0 ∷ drop (i + 1) text = rw add-one (drop-cons text i 0 within) in
    let all = rw cut at digits in
    let parts = and_parts (is_digit (get_or text i 0)) (list_all is_digit (drop (i + 1) text)) all in
    (parts.0, parts.1)

digit_small : (b : ℕ) → is_digit b ≡ true → b - 48 < 10
digit_small b is = grind (arith, nat_tests)

pub number-step : (n d b before i : ℕ) → is_digit b ≡ true → d ≡ b - 48 → n < 10 ^ (before + i) → n * 10 + d < 10 ^ (before + (i + 1))
number-step n d b before i is digit below =
    let more : 10 ^ (before + i + 1) ≡ 10 ^ (before + i) * 10 = pow_more 10 (before + i) in
    let same : 10 ^ (before + (i + 1)) ≡ 10 ^ (before + i + 1) = rw (Rattle.std.proofs.Common.add_assoc before i 1) refl in
    let small = digit_small b is in
    omega arith

pub number_after-append : (n : ℕ) (front back : List ℕ) → number_after n (front ++ back) ≡ number_after (number_after n front) back
number_after-append n [] back = refl
number_after-append n (b ∷ front) back = number_after-append (n * 10 + (b - 48)) front back

-- digits after a number write one that has no more digits than both
pub number_after-below : (n before : ℕ) (text : List ℕ) → n < 10 ^ before → list_all is_digit text ≡ true → number_after n text < 10 ^ (before + length text)
number_after-below n before [] below digits = rw add-zero below
number_after-below n before (b ∷ text) below digits =
    let parts = and_parts (is_digit b) (list_all is_digit text) digits in
    let start : n < 10 ^ (before + 0) = rw add-zero below in
    let step : n * 10 + (b - 48) < 10 ^ (before + (0 + 1)) = number-step n (b - 48) b before 0 parts.0 refl start in
    let more = number_after-below (n * 10 + (b - 48)) (before + 1) text step parts.1 in
    rw (grouped before (length text)) more
  where
    grouped : (m k : ℕ) → m + suc k ≡ m + 1 + k
    grouped m k = omega arith
