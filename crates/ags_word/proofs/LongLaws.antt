-- What the crates above need of `long`, `pair`, `fits_long`, `wrap_long` and `divided`, whose bodies they don't see.
-- For words a, q and m:
--     fits_long-long                    the number of a pair is from -(2 ^ 34) to 2 ^ 34 - 1
--     pair-long                         taking that number apart gives A, and Q with its top bit turned to A's
--     size_most, least_word             the size of a value is at most 2 ^ 17, and it is that of one word alone
--     product_over, over-product        the product of two values is out of range exactly where both words are 2 ^ 17
--     divided-zero, divided-over, divided-some    where a quotient has no word, and its word
--     IsCutOff-divided                  a quotient's word has the number over the divisor as its value, cut off toward zero
--     divided-exact, divided-none       a number that is that quotient and fits is the answer, so that there is none only where none is
--     int_div-cut, cut_one              by any divisor that is not 0 there is one quotient that is cut off toward zero
-- For a whole number n:
--     pair_a_below, pair_q_below        the pair that it sets is two words
--     long-pair                         a number in range is the number of the pair that it sets
--     shifted_right-floor, floor_one    a right shift rounds down, and there is one number that is a quotient rounded down
--     shifted_right-add                 a right shift by j and then by k is one by j + k
--     fits_long-shifted_right           a right shift stays in range
--     fits_long-wrap_long, wrap_long-fits, IsCongruent-wrap_long    the number left of n is in range, is n where n is, and is congruent to n modulo 2 ^ 35
--     wrap_long_same                    congruent numbers leave one number
--     fits_long_in, fits_long_least, fits_long_most, fits_long_not    what `fits_long` says, both ways
use Rattle.std.proofs.Common.{◌≡◌, ◌≢◌, ℕ, zero, suc, ◌+◌, ◌-◌, ◌*◌, ◌/◌, ◌%◌, ◌<◌, ◌≤◌, ◌^◌, Bool, true, false, refl, sym, ap, subst, ◌∙◌, ⊎_elim, ◌⊎◌, arith, ℤ, pos, negsuc, ◌+ℤ◌, ◌-ℤ◌, ◌*ℤ◌, ◌≤ℤ◌, ◌<ℤ◌}
use Rattle.std.specs.Prelude.{neg_ℤ, unsigned_abs, int_div, int_rem, Option, Some, None}
use Rattle.std.specs.Int.{int_rem_euclid, int_div_euclid}
use Rattle.std.proofs.lemmas.Int.{ints, int_rem_euclid_is, unsigned_abs-mul, quot-rem, rem_below}
use Rattle.std.proofs.Math.Nat.{div-eq_of_lt-le, add-mul}
use Rattle.std.proofs.Math.IntN.{pos-*ℤ-pos, pos-*ℤ-negsuc, negsuc-*ℤ-pos, negsuc-*ℤ-negsuc}
use Rattle.std.proofs.lemmas.Nat.{shr-shr, shr_le, shr_split, mod_below, pow_pos, mul-le, div-add-mod'}
use Rattle.std.proofs.lemmas.Bool.Decides.{nat_tests}
use Rattle.std.proofs.lemmas.Bool.{cases_lt}
use borrow.Author.Differences.{up, down}
use Rattle.ags_word.specs.Word.{val, fits, wrap, word_of_value, IsCongruent}
use Rattle.ags_word.specs.Long.{long, pair, fits_long, wrap_long, divided, shifted_right, top_bit, IsFloor, IsCutOff}
use Rattle.ags_word.proofs.WordLaws.{val_least, val_most, val-low, val-high, within_in, within_least, within_most, within_not, fits_in, wrap_below, wrap-val, val-wrap}

-- ---- numbers in range

pub fits_long_in : (n : ℤ) → neg_ℤ (pos (2 ^ 34)) ≤ℤ n → n <ℤ pos (2 ^ 34) → fits_long n ≡ true
unfolding fits_long
fits_long_in = within_in (2 ^ 34)

pub fits_long_least : (n : ℤ) → fits_long n ≡ true → neg_ℤ (pos (2 ^ 34)) ≤ℤ n
unfolding fits_long
fits_long_least = within_least (2 ^ 34)

pub fits_long_most : (n : ℤ) → fits_long n ≡ true → n <ℤ pos (2 ^ 34)
unfolding fits_long
fits_long_most = within_most (2 ^ 34)

pub fits_long_not : (n : ℤ) → fits_long n ≡ false → (n <ℤ neg_ℤ (pos (2 ^ 34))) ⊎ (pos (2 ^ 34) ≤ℤ n)
unfolding fits_long
fits_long_not = within_not (2 ^ 34)

pub fits_long-long : (a q : ℕ) → a < 2 ^ 18 → fits_long (long a q) ≡ true
unfolding long
fits_long-long a q h =
    let least = val_least a h in
    let most = val_most a h in
    fits_long_in _ (omega (arith, ints)) (omega (arith, ints))

-- ---- quotients by 2 ^ 17, rounded down

high_is : (n v : ℤ) (low : ℕ) → low < 2 ^ 17 → n ≡ v *ℤ pos (2 ^ 17) +ℤ pos low → shifted_right n 17 ≡ v
high_is (pos n) v low h e = omega (arith, ints)
high_is (negsuc n) v low h e = omega (arith, ints)

low_is : (n v : ℤ) (low : ℕ) → low < 2 ^ 17 → n ≡ v *ℤ pos (2 ^ 17) +ℤ pos low → unsigned_abs (int_rem_euclid n (pos (2 ^ 17))) ≡ low
low_is (pos n) v low h e = omega (arith, ints)
low_is (negsuc n) v low h e = omega (arith, ints)

low_below : (n : ℤ) → unsigned_abs (int_rem_euclid n (pos (2 ^ 17))) < 2 ^ 17
low_below (pos n) = omega arith
low_below (negsuc n) = omega arith

high_low : (n : ℤ) → shifted_right n 17 *ℤ pos (2 ^ 17) +ℤ pos (unsigned_abs (int_rem_euclid n (pos (2 ^ 17)))) ≡ n
high_low (pos n) = omega (arith, ints)
high_low (negsuc n) = omega (arith, ints)

-- ---- pairs

pub pair_a_below : (n : ℤ) → (pair n).0 < 2 ^ 18
unfolding pair
pair_a_below n = wrap_below (shifted_right n 17)

pub pair_q_below : (n : ℤ) → (pair n).1 < 2 ^ 18
unfolding pair
pair_q_below n =
    let a = wrap_below (shifted_right n 17) in
    let low = low_below n in
    omega arith

pub pair-long : (a q : ℕ) → a < 2 ^ 18 → pair (long a q) ≡ (a, top_bit a + q % 2 ^ 17)
unfolding long pair
pair-long a q h =
    let low : q % 2 ^ 17 < 2 ^ 17 = omega arith in
    let a_is : wrap (shifted_right (val a *ℤ pos (2 ^ 17) +ℤ pos (q % 2 ^ 17)) 17) ≡ a = ap wrap (high_is _ (val a) (q % 2 ^ 17) low refl) ∙ wrap-val a h in
    let q_is = low_is (val a *ℤ pos (2 ^ 17) +ℤ pos (q % 2 ^ 17)) (val a) (q % 2 ^ 17) low refl in
    rw (a_is, q_is)

pub long-pair : (n : ℤ) → fits_long n ≡ true → long (pair n).0 (pair n).1 ≡ n
unfolding long pair
long-pair n h =
    let least = fits_long_least n h in
    let most = fits_long_most n h in
    let whole = high_low n in
    let low = low_below n in
    let in_range : fits (shifted_right n 17) ≡ true = fits_in _ (omega (arith, ints)) (omega (arith, ints)) in
    let a_is = val-wrap (shifted_right n 17) in_range in
    let q_is : (top_bit (wrap (shifted_right n 17)) + unsigned_abs (int_rem_euclid n (pos (2 ^ 17)))) % 2 ^ 17 ≡ unsigned_abs (int_rem_euclid n (pos (2 ^ 17))) = omega arith in
    rw (a_is, q_is) whole

-- ---- right shifts

pub shifted_right-floor : (n : ℤ) (k : ℕ) → IsFloor n (2 ^ k) (shifted_right n k)
shifted_right-floor (pos n) k = record {
  rest = n % 2 ^ k;
  below = omega (arith, pow_pos k);
  whole = omega (arith, ints, shr_split n k);
}
shifted_right-floor (negsuc n) k = record {
  rest = 2 ^ k - 1 - n % 2 ^ k;
  below = omega (arith, pow_pos k);
  whole = omega (arith, ints, shr_split n k, pow_pos k, mod_below n (2 ^ k) (pow_pos k));
}

pub shifted_right-add : (n : ℤ) (j k : ℕ) → shifted_right (shifted_right n j) k ≡ shifted_right n (j + k)
shifted_right-add (pos n) j k = ap pos (shr-shr n j k)
shifted_right-add (negsuc n) j k = ap negsuc (shr-shr n j k)

pub fits_long-shifted_right : (n : ℤ) (k : ℕ) → fits_long n ≡ true → fits_long (shifted_right n k) ≡ true
unfolding fits_long
fits_long-shifted_right (pos n) k h = let less = shr_le n k in grind (arith, ints)
fits_long-shifted_right (negsuc n) k h = let less = shr_le n k in grind (arith, ints)

-- ---- what is left of a number

pub fits_long-wrap_long : (n : ℤ) → fits_long (wrap_long n) ≡ true
unfolding wrap_long fits_long
fits_long-wrap_long (pos n) = grind (arith, ints, nat_tests)
fits_long-wrap_long (negsuc n) = grind (arith, ints, nat_tests)

pub wrap_long-fits : (n : ℤ) → fits_long n ≡ true → wrap_long n ≡ n
unfolding wrap_long fits_long
wrap_long-fits (pos n) h = grind (arith, ints, nat_tests)
wrap_long-fits (negsuc n) h = grind (arith, ints, nat_tests)

wrap_long_near : (n : ℤ) → IsCongruent (2 ^ 35) (int_rem_euclid n (pos (2 ^ 35))) n
wrap_long_near (pos n) = record { times = neg_ℤ (pos (n / 2 ^ 35)); differ = omega (arith, ints) }
wrap_long_near (negsuc n) = record { times = pos (n / 2 ^ 35 + 1); differ = omega (arith, ints) }

wrap_long_cases : (n : ℤ) → (wrap_long n ≡ int_rem_euclid n (pos (2 ^ 35))) ⊎ (wrap_long n ≡ int_rem_euclid n (pos (2 ^ 35)) -ℤ pos (2 ^ 35))
unfolding wrap_long
wrap_long_cases n = grind (arith, ints)

pub IsCongruent-wrap_long : (n : ℤ) → IsCongruent (2 ^ 35) (wrap_long n) n
IsCongruent-wrap_long n =
    let near = wrap_long_near n in
    ⊎_elim
    (λ e. record { times = near.times; differ = e ∙ near.differ })
    (λ e. record { times = near.times +ℤ negsuc 0; differ = e ∙ omega (arith, ints) })
    (wrap_long_cases n)

-- the rest of n modulo 2 ^ 35 is m's, where m is n and some times 2 ^ 35
long_rest_is : (n : ℤ) (times m : ℕ) → n +ℤ pos (times * 2 ^ 35) ≡ pos m → int_rem_euclid n (pos (2 ^ 35)) ≡ pos (m % 2 ^ 35)
long_rest_is n times m e = int_rem_euclid_is n (pos (2 ^ 35)) (2 ^ 35) times m (omega arith) refl e

long_rest_same : (m n : ℤ) → IsCongruent (2 ^ 35) m n → int_rem_euclid m (pos (2 ^ 35)) ≡ int_rem_euclid n (pos (2 ^ 35))
long_rest_same m n h =
    let k = h.times in
    let enough = down m + down n in
    let all = up m + (down k + enough) * 2 ^ 35 - down m in
    long_rest_is m (down k + enough) all (omega (arith, ints)) ∙ sym (long_rest_is n (up k + enough) all (omega (arith, ints)))

pub wrap_long_same : (m n : ℤ) → IsCongruent (2 ^ 35) m n → wrap_long m ≡ wrap_long n
unfolding wrap_long
wrap_long_same m n h = rw (long_rest_same m n h) refl

-- ---- products

-- two sizes of at most 2 ^ 17 whose product is 2 ^ 34 are 2 ^ 17
both_most : (a b : ℕ) → a ≤ 2 ^ 17 → b ≤ 2 ^ 17 → 2 ^ 34 ≤ a * b → (a ≡ 2 ^ 17) × (b ≡ 2 ^ 17)
both_most a b h k p =
    let first : 2 ^ 17 ≤ a = ⊎_elim (λ l. absurd (omega (arith, mul-le a b (2 ^ 17 - 1) (2 ^ 17) (omega arith) k))) (λ l. l) (cases_lt a (2 ^ 17)) in
    let second : 2 ^ 17 ≤ b = ⊎_elim (λ l. absurd (omega (arith, mul-le a b (2 ^ 17) (2 ^ 17 - 1) h (omega arith)))) (λ l. l) (cases_lt b (2 ^ 17)) in
    (omega arith, omega arith)

-- the size of a word's value is at most 2 ^ 17, and it is that of one word alone
pub size_most : (w : ℕ) → w < 2 ^ 18 → unsigned_abs (val w) ≤ 2 ^ 17
size_most w h = let least = val_least w h in let most = val_most w h in omega (arith, ints)

pub least_word : (w : ℕ) → w < 2 ^ 18 → unsigned_abs (val w) ≡ 2 ^ 17 → w ≡ 2 ^ 17
least_word w h size = ⊎_elim
    (λ l. let is = val-low w l in absurd (omega (arith, ints)))
    (λ l. let is = val-high w l in omega (arith, ints))
    (cases_lt w (2 ^ 17))

-- a number out of range is large
far : (n : ℤ) → fits_long n ≡ false → 2 ^ 34 ≤ unsigned_abs n
unfolding fits_long
far n h = grind (arith, ints)

pub product_over : (a m : ℕ) → a < 2 ^ 18 → m < 2 ^ 18 → fits_long (val a *ℤ val m) ≡ false → (a ≡ 2 ^ 17) × (m ≡ 2 ^ 17)
product_over a m h k over =
    let large : 2 ^ 34 ≤ unsigned_abs (val a) * unsigned_abs (val m) = subst (λ (n : ℕ). 2 ^ 34 ≤ n) (unsigned_abs-mul (val a) (val m)) (far _ over) in
    let both = both_most _ _ (size_most a h) (size_most m k) large in
    (least_word a h both.0, least_word m k both.1)

pub over-product : fits_long (val (2 ^ 17) *ℤ val (2 ^ 17)) ≡ false
unfolding val fits_long
over-product = refl

-- ---- quotients

size_neg : (k : ℕ) → unsigned_abs (neg_ℤ (pos k)) ≡ k
size_neg zero = refl
size_neg (suc k) = refl

size_div : (n d : ℤ) → unsigned_abs (int_div n d) ≡ unsigned_abs n / unsigned_abs d
size_div (pos n) (pos d) = refl
size_div (pos n) (negsuc d) = size_neg (n / suc d)
size_div (negsuc n) (pos d) = size_neg (suc n / d)
size_div (negsuc n) (negsuc d) = refl

pub int_div-cut : (n d : ℤ) → d ≢ pos 0 → IsCutOff n d (int_div n d)
int_div-cut n d some = record {
  rest = int_rem n d;
  below = rem_below n d (not_zero d some);
  whole = quot-rem n d;
  toward = rw (unsigned_abs-mul (int_div n d) d, size_div n d) (omega (arith, div-add-mod' (unsigned_abs n) (unsigned_abs d)));
}
  where
    not_zero : (d : ℤ) → d ≢ pos 0 → 0 < unsigned_abs d
    not_zero d h = omega (arith, ints)

pub divided-zero : (n : ℤ) (m : ℕ) → val m ≡ pos 0 → divided n m ≡ None
unfolding divided
divided-zero n m zero_is = rw zero_is

pub divided-over : (n : ℤ) (m : ℕ) → fits (int_div n (val m)) ≡ false → divided n m ≡ None
unfolding divided word_of_value
divided-over n m over = grind (arith, ints)

pub divided-some : (n : ℤ) (m : ℕ) → val m ≢ pos 0 → fits (int_div n (val m)) ≡ true → divided n m ≡ Some (wrap (int_div n (val m)))
unfolding divided word_of_value
divided-some n m some in_range = grind (arith, ints)

-- what an answer tells
divisor_some : (n : ℤ) (m w : ℕ) → divided n m ≡ Some w → val m ≢ pos 0
unfolding divided word_of_value
divisor_some n m w e = grind (arith, ints)

quotient_fits : (n : ℤ) (m w : ℕ) → divided n m ≡ Some w → fits (int_div n (val m)) ≡ true
unfolding divided word_of_value
quotient_fits n m w e = grind (arith, ints)

quotient_word : (n : ℤ) (m w : ℕ) → divided n m ≡ Some w → w ≡ wrap (int_div n (val m))
unfolding divided word_of_value
quotient_word n m w e = grind (arith, ints)

pub IsCutOff-divided : (n : ℤ) (m w : ℕ) → divided n m ≡ Some w → IsCutOff n (val m) (val w)
IsCutOff-divided n m w e =
    let is = val-wrap _ (quotient_fits n m w e) in
    rw (quotient_word n m w e, is) (int_div-cut n (val m) (divisor_some n m w e))

-- ---- one quotient is cut off toward zero

-- a number that is a times d, where that isn't more, and less than d is left, has a as its quotient
quotient_is : (n a d rest : ℕ) → a * d ≤ n → n ≤ a * d + rest → rest < d → n / d ≡ a
quotient_is n a d rest least most below = div-eq_of_lt-le d least (omega (arith, add-mul a 1 d))

-- a number and a rest make a whole one, and so the quotient of that is the number
floor_of_pos : (n a d rest : ℕ) → rest < d → a * d + rest ≡ n → a ≡ n / d
floor_of_pos n a d rest below whole = sym (quotient_is n a d rest (omega arith) (omega arith) below)

-- and so below 0, where n stands for -(n + 1) and a for -(a + 1)
floor_of_negative : (n a d rest : ℕ) → rest < d → (a + 1) * d ≡ n + 1 + rest → a ≡ n / d
floor_of_negative n a d rest below whole =
    let more = add-mul a 1 d in
    sym (quotient_is n a d (d - 1 - rest) (omega arith) (omega arith) (omega arith))

-- a quotient that is rounded down is the one that is computed
floor_is : (n quotient : ℤ) (d : ℕ) → IsFloor n d quotient → quotient ≡ int_div_euclid n (pos d)
floor_is (pos n) (pos a) d floor = let whole = floor.whole in ap pos (floor_of_pos n a d floor.rest floor.below (omega (arith, ints)))
floor_is (pos n) (negsuc a) d floor =
    let whole = floor.whole in
    let below = floor.below in
    absurd (omega (arith, ints, mul-le 1 d (suc a) d (omega arith) (omega arith)))
floor_is (negsuc n) (pos a) d floor = let whole = floor.whole in absurd (omega (arith, ints))
floor_is (negsuc n) (negsuc a) d floor = let whole = floor.whole in ap negsuc (floor_of_negative n a d floor.rest floor.below (omega (arith, ints)))

pub floor_one : (n one other : ℤ) (d : ℕ) → IsFloor n d one → IsFloor n d other → one ≡ other
floor_one n one other d first second = floor_is n one d first ∙ sym (floor_is n other d second)

-- the size of a sum is at most the sum of the sizes
size_sum : (m n : ℤ) → unsigned_abs (m +ℤ n) ≤ unsigned_abs m + unsigned_abs n
size_sum m n = omega (arith, ints)

-- the size of a quotient is the quotient of the sizes
size_cut : (n d quotient : ℤ) → IsCutOff n d quotient → unsigned_abs n / unsigned_abs d ≡ unsigned_abs quotient
size_cut n d quotient cut =
    let product = unsigned_abs-mul quotient d in
    let whole : unsigned_abs n ≤ unsigned_abs (quotient *ℤ d) + unsigned_abs cut.rest =
    subst (λ (m : ℤ). unsigned_abs m ≤ unsigned_abs (quotient *ℤ d) + unsigned_abs cut.rest) cut.whole (size_sum (quotient *ℤ d) cut.rest) in
    quotient_is (unsigned_abs n) (unsigned_abs quotient) (unsigned_abs d) (unsigned_abs cut.rest)
    (subst (λ (m : ℕ). m ≤ unsigned_abs n) product cut.toward)
    (subst (λ (m : ℕ). unsigned_abs n ≤ m + unsigned_abs cut.rest) product whole)
    cut.below

-- a product by a number and by its negative
turned : (a : ℕ) (d : ℤ) → negsuc a *ℤ d ≡ neg_ℤ (pos (suc a) *ℤ d)
turned a (pos n) = omega (arith, ints, pos-*ℤ-pos (suc a) n, negsuc-*ℤ-pos a n)
turned a (negsuc n) = omega (arith, ints, pos-*ℤ-negsuc (suc a) n, negsuc-*ℤ-negsuc a n)

-- a product by a number that is not 0 is no smaller
no_smaller : (a : ℕ) (d : ℤ) → unsigned_abs d ≤ unsigned_abs (pos (suc a) *ℤ d)
no_smaller a d = omega (arith, unsigned_abs-mul (pos (suc a)) d, mul-le 1 (unsigned_abs d) (suc a) (unsigned_abs d) (omega arith) (omega arith))

-- no number has a quotient and its negative
one_sign : (n d : ℤ) (a b : ℕ) → a ≡ b → IsCutOff n d (pos (suc a)) → IsCutOff n d (negsuc b) → ⊥
one_sign n d a b same one other =
    let here : negsuc b *ℤ d ≡ neg_ℤ (pos (suc a) *ℤ d) = ap (λ (k : ℕ). negsuc k *ℤ d) (sym same) ∙ turned a d in
    let size = no_smaller a d in
    let below = one.below in
    let under = other.below in
    let whole = one.whole in
    let both = other.whole in
    omega (arith, ints)

same_size : (n d one other : ℤ) → unsigned_abs one ≡ unsigned_abs other → IsCutOff n d one → IsCutOff n d other → one ≡ other
same_size n d (pos a) (pos b) same first second = ap pos same
same_size n d (pos zero) (negsuc b) same first second = absurd (omega arith)
same_size n d (pos (suc a)) (negsuc b) same first second = absurd (one_sign n d a b (omega arith) first second)
same_size n d (negsuc a) (pos zero) same first second = absurd (omega arith)
same_size n d (negsuc a) (pos (suc b)) same first second = absurd (one_sign n d b a (omega arith) second first)
same_size n d (negsuc a) (negsuc b) same first second = ap negsuc (omega arith)

pub cut_one : (n d one other : ℤ) → IsCutOff n d one → IsCutOff n d other → one ≡ other
cut_one n d one other first second = same_size n d one other (sym (size_cut n d one first) ∙ size_cut n d other second) first second

-- a divisor by which there is a quotient is not 0
divisor_of_cut : (n d quotient : ℤ) → IsCutOff n d quotient → d ≢ pos 0
divisor_of_cut n d quotient cut none = let below = cut.below in omega (arith, ints)

pub divided-exact : (n quotient : ℤ) (m : ℕ) → IsCutOff n (val m) quotient → fits quotient ≡ true → divided n m ≡ Some (wrap quotient)
divided-exact n quotient m cut fit =
    let some = divisor_of_cut n (val m) quotient cut in
    let is : int_div n (val m) ≡ quotient = cut_one n (val m) _ quotient (int_div-cut n (val m) some) cut in
    divided-some n m some (ap fits is ∙ fit) ∙ ap (λ (k : ℤ). Some (wrap k)) is

some_none : (w : ℕ) → ◌≡◌ {A = Option ℕ} (Some w) None → ⊥
some_none w same = cc

pub divided-none : (n quotient : ℤ) (m : ℕ) → divided n m ≡ None → IsCutOff n (val m) quotient → fits quotient ≡ false
divided-none n quotient m none cut = by (fits quotient) refl
  where
    by : (b : Bool) → fits quotient ≡ b → b ≡ false
    by true fit = let found = divided-exact n quotient m cut fit in absurd (some_none _ (sym found ∙ none))
    by false fit = refl
