-- What the crates above need of `nearest_product`, the product of two words over 2 ^ 17 to the nearest whole number:
--     IsNearest-product                 it is the nearest, and a half goes upward
--     nearest_one                       there is one number that is the nearest
--     fits-nearest, over-nearest        for words a and m: it fits exactly where the product is a number of a pair
use Rattle.std.proofs.Common.{◌≡◌, ℕ, ◌-◌, ◌*◌, ◌<◌, ◌≤◌, ◌^◌, true, false, refl, sym, ap, subst, ◌∙◌, ⊎_elim, arith, ℤ, pos, ◌+ℤ◌, ◌-ℤ◌, ◌*ℤ◌, ◌≤ℤ◌, ◌<ℤ◌}
use Rattle.std.specs.Prelude.{neg_ℤ, unsigned_abs}
use Rattle.std.proofs.lemmas.Int.{ints, unsigned_abs-mul}
use Rattle.std.proofs.lemmas.Nat.{mul-le}
use Rattle.std.proofs.lemmas.Bool.{cases_lt}
use Rattle.ags_word.specs.Word.{val, fits}
use Rattle.ags_word.specs.Long.{fits_long, IsFloor, IsNearest}
use Rattle.ags_word.specs.Operation.{product, nearest_product}
use Rattle.ags_word.proofs.WordLaws.{fits_in}
use Rattle.ags_word.proofs.LongLaws.{shifted_right-floor, floor_one, product_over, over-product, size_most, least_word}

-- ---- the nearest number

-- a number is the nearest where a half more than the whole has it as its quotient rounded down
nearest_of_floor : (n q : ℤ) → IsFloor (n +ℤ pos (2 ^ 16)) (2 ^ 17) q → IsNearest n (2 ^ 16) q
nearest_of_floor n q floor =
    let below = floor.below in
    let whole = floor.whole in
    record { least = omega (arith, ints); most = omega (arith, ints) }

pub IsNearest-product : (a m : ℕ) → IsNearest (product a m) (2 ^ 16) (nearest_product a m)
IsNearest-product a m = nearest_of_floor (product a m) _ (shifted_right-floor (product a m +ℤ pos (2 ^ 16)) 17)

-- what is left, with a half more, is a rest below twice the half
rest_below : (n p : ℤ) (half : ℕ) → neg_ℤ (pos half) ≤ℤ (n -ℤ p) → (n -ℤ p) <ℤ pos half → unsigned_abs (n -ℤ p +ℤ pos half) < 2 * half
rest_below n p half least most = omega (arith, ints)

rest_whole : (n p : ℤ) (half : ℕ) → neg_ℤ (pos half) ≤ℤ (n -ℤ p) → p +ℤ pos (unsigned_abs (n -ℤ p +ℤ pos half)) ≡ n +ℤ pos half
rest_whole n p half least = omega (arith, ints)

floor_of_nearest : (n q : ℤ) (half : ℕ) → IsNearest n half q → IsFloor (n +ℤ pos half) (2 * half) q
floor_of_nearest n q half nearest = record {
  rest = unsigned_abs (n -ℤ q *ℤ pos (2 * half) +ℤ pos half);
  below = rest_below n (q *ℤ pos (2 * half)) half nearest.least nearest.most;
  whole = rest_whole n (q *ℤ pos (2 * half)) half nearest.least;
}

pub nearest_one : (n one other : ℤ) (half : ℕ) → IsNearest n half one → IsNearest n half other → one ≡ other
nearest_one n one other half first second =
    floor_one (n +ℤ pos half) one other (2 * half) (floor_of_nearest n one half first) (floor_of_nearest n other half second)

-- ---- where it fits

-- sizes of words of which not both are 2 ^ 17 have a product of at most 2 ^ 34 less 2 ^ 17
sizes_product : (a b : ℕ) → a ≤ 2 ^ 17 → b ≤ 2 ^ 17 → ((a ≡ 2 ^ 17) → (b ≡ 2 ^ 17) → ⊥) → a * b ≤ 2 ^ 34 - 2 ^ 17
sizes_product a b h k not_both = ⊎_elim
    (λ l. omega (arith, mul-le a b (2 ^ 17 - 1) (2 ^ 17) (omega arith) k))
    (λ l. ⊎_elim
    (λ r. omega (arith, mul-le a b (2 ^ 17) (2 ^ 17 - 1) h (omega arith)))
    (λ r. absurd (not_both (omega arith) (omega arith)))
    (cases_lt b (2 ^ 17)))
    (cases_lt a (2 ^ 17))

true_false : true ≡ false → ⊥
true_false same = cc

product_size : (a m : ℕ) → a < 2 ^ 18 → m < 2 ^ 18 → fits_long (product a m) ≡ true → unsigned_abs (product a m) ≤ 2 ^ 34 - 2 ^ 17
product_size a m h k fit =
    let not_both : (unsigned_abs (val a) ≡ 2 ^ 17) → (unsigned_abs (val m) ≡ 2 ^ 17) → ⊥ = λ one other.
    let a_is = least_word a h one in
    let m_is = least_word m k other in
    true_false (sym fit ∙ ap (λ (w : ℕ). fits_long (product w m)) a_is ∙ ap (λ (w : ℕ). fits_long (product (2 ^ 17) w)) m_is ∙ over-product) in
    subst (λ (n : ℕ). n ≤ 2 ^ 34 - 2 ^ 17) (sym (unsigned_abs-mul (val a) (val m))) (sizes_product _ _ (size_most a h) (size_most m k) not_both)

nearest_fits : (n q : ℤ) → unsigned_abs n ≤ 2 ^ 34 - 2 ^ 17 → IsNearest n (2 ^ 16) q → fits q ≡ true
nearest_fits n q size nearest =
    let least = nearest.least in
    let most = nearest.most in
    fits_in q (omega (arith, ints)) (omega (arith, ints))

pub fits-nearest : (a m : ℕ) → a < 2 ^ 18 → m < 2 ^ 18 → fits_long (product a m) ≡ true → fits (nearest_product a m) ≡ true
fits-nearest a m h k fit = nearest_fits (product a m) _ (product_size a m h k fit) (IsNearest-product a m)

least_nearest : fits (nearest_product (2 ^ 17) (2 ^ 17)) ≡ false
unfolding val fits
least_nearest = refl

pub over-nearest : (a m : ℕ) → a < 2 ^ 18 → m < 2 ^ 18 → fits_long (product a m) ≡ false → fits (nearest_product a m) ≡ false
over-nearest a m h k over =
    let both = product_over a m h k over in
    ap (λ (w : ℕ). fits (nearest_product w m)) both.0 ∙ ap (λ (w : ℕ). fits (nearest_product (2 ^ 17) w)) both.1 ∙ least_nearest
