-- What the crates above need of `val`, `fits` and `wrap`, whose bodies they don't see. For a word w, a number below 2 ^ 18:
--     val_least, val_most, fits-val     a word's value lies from -(2 ^ 17) to 2 ^ 17 - 1, and fits
--     wrap-val, val_same                the word of a word's value is the word; two words of one value are one
--     val-low, val-high                 the value of a word below 2 ^ 17, and from there on
--     negative_over, size_over          a negative and a size don't fit at 2 ^ 17 alone, where over-negative and over-size say so
-- For a whole number n:
--     wrap_below, fits-val-wrap         what is left of it is a word, whose value fits
--     val-wrap                          a number that fits is kept
--     IsCongruent-val-wrap              what is left of it is congruent to it modulo 2 ^ 18
--     wrap_same                         congruent numbers leave one word
--     wrap-add, wrap-sub, wrap-neg      wrapping in steps is wrapping the whole
--     fits_in, fits_least, fits_most, fits_not    what `fits` says, both ways
--     word_of_value-fits, word_of_value-not         what `word_of_value` answers
use Rattle.std.proofs.Common.{◌≡◌, ℕ, ◌+◌, ◌-◌, ◌*◌, ◌/◌, ◌%◌, ◌<◌, ◌≤◌, ◌^◌, true, false, refl, sym, ap, ◌∙◌, ⊎_elim, ◌⊎◌, arith, ℤ, pos, negsuc, ◌+ℤ◌, ◌-ℤ◌, ◌≤ℤ◌, ◌<ℤ◌}
use Rattle.std.specs.Prelude.{neg_ℤ, unsigned_abs, Some, None}
use Rattle.std.proofs.lemmas.Int.{ints, int_rem_euclid_is}
use Rattle.std.proofs.lemmas.Bool.Decides.{nat_tests}
use Rattle.std.proofs.lemmas.Bool.{cases_lt}
use borrow.Author.Differences.{up, down}
use Rattle.ags_word.specs.Word.{val, lies_within, fits, wrap, word_of_value, IsCongruent}

-- ---- words

pub val_least : (w : ℕ) → w < 2 ^ 18 → neg_ℤ (pos (2 ^ 17)) ≤ℤ val w
unfolding val
val_least w h = grind (arith, ints, nat_tests)

pub val_most : (w : ℕ) → w < 2 ^ 18 → val w <ℤ pos (2 ^ 17)
unfolding val
val_most w h = grind (arith, ints, nat_tests)

pub val-low : (w : ℕ) → w < 2 ^ 17 → val w ≡ pos w
unfolding val
val-low w h = grind (arith, ints, nat_tests)

pub val-high : (w : ℕ) → 2 ^ 17 ≤ w → val w ≡ pos w -ℤ pos (2 ^ 18)
unfolding val
val-high w h = grind (arith, ints, nat_tests)

-- ---- numbers that lie within a bound, and those that fit

pub within_in : (half : ℕ) (n : ℤ) → neg_ℤ (pos half) ≤ℤ n → n <ℤ pos half → lies_within half n ≡ true
within_in half n h k = grind (arith, ints)

pub within_least : (half : ℕ) (n : ℤ) → lies_within half n ≡ true → neg_ℤ (pos half) ≤ℤ n
within_least half n h = grind (arith, ints)

pub within_most : (half : ℕ) (n : ℤ) → lies_within half n ≡ true → n <ℤ pos half
within_most half n h = grind (arith, ints)

pub within_not : (half : ℕ) (n : ℤ) → lies_within half n ≡ false → (n <ℤ neg_ℤ (pos half)) ⊎ (pos half ≤ℤ n)
within_not half n h = grind (arith, ints)

pub fits_in : (n : ℤ) → neg_ℤ (pos (2 ^ 17)) ≤ℤ n → n <ℤ pos (2 ^ 17) → fits n ≡ true
unfolding fits
fits_in = within_in (2 ^ 17)

pub fits_least : (n : ℤ) → fits n ≡ true → neg_ℤ (pos (2 ^ 17)) ≤ℤ n
unfolding fits
fits_least = within_least (2 ^ 17)

pub fits_most : (n : ℤ) → fits n ≡ true → n <ℤ pos (2 ^ 17)
unfolding fits
fits_most = within_most (2 ^ 17)

pub fits_not : (n : ℤ) → fits n ≡ false → (n <ℤ neg_ℤ (pos (2 ^ 17))) ⊎ (pos (2 ^ 17) ≤ℤ n)
unfolding fits
fits_not = within_not (2 ^ 17)

pub fits-val : (w : ℕ) → w < 2 ^ 18 → fits (val w) ≡ true
fits-val w h = fits_in (val w) (val_least w h) (val_most w h)

-- ---- what is left of a number

pub wrap_below : (n : ℤ) → wrap n < 2 ^ 18
unfolding wrap
wrap_below (pos n) = omega arith
wrap_below (negsuc n) = omega arith

pub fits-val-wrap : (n : ℤ) → fits (val (wrap n)) ≡ true
fits-val-wrap n = fits-val (wrap n) (wrap_below n)

-- what is left of n is m modulo 2 ^ 18, where m is n and some times 2 ^ 18
wrap_is : (n : ℤ) (times m : ℕ) → n +ℤ pos (times * 2 ^ 18) ≡ pos m → wrap n ≡ m % 2 ^ 18
unfolding wrap
wrap_is n times m e = ap unsigned_abs (int_rem_euclid_is n (pos (2 ^ 18)) (2 ^ 18) times m (omega arith) refl e)

pub wrap-val : (w : ℕ) → w < 2 ^ 18 → wrap (val w) ≡ w
unfolding val wrap
wrap-val w h = grind (arith, ints, nat_tests)

pub val-wrap : (n : ℤ) → fits n ≡ true → val (wrap n) ≡ n
unfolding val wrap fits
val-wrap (pos n) h = grind (arith, ints, nat_tests)
val-wrap (negsuc n) h = grind (arith, ints, nat_tests)

pub val_same : (v w : ℕ) → v < 2 ^ 18 → w < 2 ^ 18 → val v ≡ val w → v ≡ w
val_same v w h k e = sym (wrap-val v h) ∙ ap wrap e ∙ wrap-val w k

-- ---- congruence

-- a word's value is congruent to its number
val_near : (w : ℕ) → w < 2 ^ 18 → IsCongruent (2 ^ 18) (val w) (pos w)
val_near w h = ⊎_elim
    (λ l. record { times = pos 0; differ = val-low w l ∙ omega (arith, ints) })
    (λ l. record { times = negsuc 0; differ = val-high w l ∙ omega (arith, ints) })
    (cases_lt w (2 ^ 17))

-- the word of a number is congruent to it
wrap_near : (n : ℤ) → IsCongruent (2 ^ 18) (pos (wrap n)) n
unfolding wrap
wrap_near (pos n) = record { times = neg_ℤ (pos (n / 2 ^ 18)); differ = omega (arith, ints) }
wrap_near (negsuc n) = record { times = pos (n / 2 ^ 18 + 1); differ = omega (arith, ints) }

pub IsCongruent-val-wrap : (n : ℤ) → IsCongruent (2 ^ 18) (val (wrap n)) n
IsCongruent-val-wrap n =
    let a = val_near (wrap n) (wrap_below n) in
    let b = wrap_near n in
    record { times = a.times +ℤ b.times; differ = omega (arith, ints) }

pub wrap_same : (m n : ℤ) → IsCongruent (2 ^ 18) m n → wrap m ≡ wrap n
wrap_same m n h =
    let k = h.times in
    let enough = down m + down n in
    let all = up m + (down k + enough) * 2 ^ 18 - down m in
    wrap_is m (down k + enough) all (omega (arith, ints)) ∙ sym (wrap_is n (up k + enough) all (omega (arith, ints)))

pub wrap-add : (m n : ℤ) → wrap (val (wrap m) +ℤ val (wrap n)) ≡ wrap (m +ℤ n)
wrap-add m n =
    let a = IsCongruent-val-wrap m in
    let b = IsCongruent-val-wrap n in
    wrap_same _ _ (record { times = a.times +ℤ b.times; differ = omega (arith, ints) })

pub wrap-sub : (m n : ℤ) → wrap (val (wrap m) -ℤ val (wrap n)) ≡ wrap (m -ℤ n)
wrap-sub m n =
    let a = IsCongruent-val-wrap m in
    let b = IsCongruent-val-wrap n in
    wrap_same _ _ (record { times = a.times -ℤ b.times; differ = omega (arith, ints) })

pub wrap-neg : (n : ℤ) → wrap (neg_ℤ (val (wrap n))) ≡ wrap (neg_ℤ n)
wrap-neg n =
    let a = IsCongruent-val-wrap n in
    wrap_same _ _ (record { times = neg_ℤ a.times; differ = omega (arith, ints) })

-- ---- the word of a value

pub word_of_value-fits : (n : ℤ) → fits n ≡ true → word_of_value n ≡ Some (wrap n)
unfolding word_of_value
word_of_value-fits n h = rw h

pub word_of_value-not : (n : ℤ) → fits n ≡ false → word_of_value n ≡ None
unfolding word_of_value
word_of_value-not n h = rw h

-- ---- the least word

pub negative_over : (w : ℕ) → w < 2 ^ 18 → fits (neg_ℤ (val w)) ≡ false → w ≡ 2 ^ 17
unfolding val fits
negative_over w h over = grind (arith, ints, nat_tests)

pub size_over : (w : ℕ) → w < 2 ^ 18 → fits (pos (unsigned_abs (val w))) ≡ false → w ≡ 2 ^ 17
unfolding val fits
size_over w h over = grind (arith, ints, nat_tests)

pub over-negative : fits (neg_ℤ (val (2 ^ 17))) ≡ false
unfolding val fits
over-negative = refl

pub over-size : fits (pos (unsigned_abs (val (2 ^ 17)))) ≡ false
unfolding val fits
over-size = refl
