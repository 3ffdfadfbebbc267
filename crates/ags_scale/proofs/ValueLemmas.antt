-- What the tags tell of words, at one step.
use Rattle.std.proofs.Common.{◌≡◌, ℕ, zero, suc, ◌+◌, ◌*◌, ◌%◌, ◌^◌, ◌<◌, ◌≤◌, Bool, true, false, refl, sym, ap, subst, ◌∙◌, arith, ℤ, pos, negsuc, ◌+ℤ◌, ◌-ℤ◌, ◌*ℤ◌, ◌≤ℤ◌, ◌<ℤ◌}
use Rattle.std.specs.Prelude.{neg_ℤ, unsigned_abs, int_le, ◌&&◌, if◌then◌else◌}
use Rattle.std.proofs.lemmas.Int.{ints}
use Rattle.std.proofs.lemmas.Nat.{pow-add, mul-le}
use Rattle.std.proofs.Math.Nat.{mul_assoc, mul_comm, suc-mul}
use lib.IntN.{suc_ℤ}
use Rattle.std.proofs.Math.IntN.{pos-*ℤ-pos, negsuc-*ℤ-pos, zero-*ℤ, suc_ℤ-*ℤ}
use Rattle.ags_word.specs.Word.{val}
use Rattle.ags_word.specs.Long.{long, IsFloor}
use Rattle.ags_tags.specs.declared.tags.Tag.TheVariants.{Raw, Scale}
use Rattle.ags_scale.specs.Change.{tag_of}
use Rattle.ags_scale.specs.Tagged.{IsRoundedDown, weight}

-- ---- scales

-- a scale that is the tag of a number is the number, and is no less than -128
scale_by : (n c : ℤ) (b : Bool) → (int_le (neg_ℤ (pos 128)) n && int_le n (pos 127)) ≡ b → (if b then Scale n else Raw) ≡ Scale c
    → (n ≡ c) × (neg_ℤ (pos 128) ≤ℤ n)
scale_by n c true test is = (let same : n ≡ c = cc in same, grind (arith, ints))
scale_by n c false test is = absurd cc

pub scale_of_tag : (n c : ℤ) → tag_of n ≡ Scale c → (n ≡ c) × (neg_ℤ (pos 128) ≤ℤ n)
scale_of_tag n c is = scale_by n c (int_le (neg_ℤ (pos 128)) n && int_le n (pos 127)) refl is

-- ---- products with powers of two

negative_times : (k n : ℕ) → neg_ℤ (pos k) *ℤ pos n ≡ neg_ℤ (pos (k * n))
negative_times zero n = let none : 0 * n ≡ 0 = omega arith in zero-*ℤ (pos n) ∙ sym (ap (λ (w : ℕ). neg_ℤ (pos w)) none)
negative_times (suc k) n = negsuc-*ℤ-pos k n

times_assoc : (v : ℤ) (m n : ℕ) → (v *ℤ pos m) *ℤ pos n ≡ v *ℤ pos (m * n)
times_assoc (pos k) m n = ap (λ (z : ℤ). z *ℤ pos n) (pos-*ℤ-pos k m) ∙ pos-*ℤ-pos (k * m) n ∙ ap (λ (w : ℕ). pos w) (mul_assoc k m n)
    ∙ sym (pos-*ℤ-pos k (m * n))
times_assoc (negsuc k) m n = ap (λ (z : ℤ). z *ℤ pos n) (negsuc-*ℤ-pos k m) ∙ negative_times (suc k * m) n
    ∙ ap (λ (w : ℕ). neg_ℤ (pos w)) (mul_assoc (suc k) m n) ∙ sym (negsuc-*ℤ-pos k (m * n))

-- a number that was shifted to the left, at the scale that is less by the count
pub shifted_weight : (v shifted b c : ℤ) (n : ℕ) → shifted ≡ v *ℤ pos (2 ^ n) → c ≡ b -ℤ pos n → neg_ℤ (pos 128) ≤ℤ c
    → shifted *ℤ weight c ≡ v *ℤ weight b
shifted_weight v shifted b c n is less least =
    let sum : unsigned_abs (b +ℤ pos 128) ≡ n + unsigned_abs (c +ℤ pos 128) = omega (arith, ints) in
    ap (λ (k : ℤ). k *ℤ weight c) is
    ∙ times_assoc v (2 ^ n) (2 ^ unsigned_abs (c +ℤ pos 128))
    ∙ ap (λ (k : ℕ). v *ℤ pos k) (sym (pow-add 2 n (unsigned_abs (c +ℤ pos 128))))
    ∙ ap (λ (k : ℕ). v *ℤ pos (2 ^ k)) (sym sum)

-- ---- pairs

-- a word above a rest below 2 ^ 17
pub high_of_pair : (a q : ℕ) (n : ℤ) → long a q ≡ n → IsRoundedDown n (2 ^ 17) (val a)
unfolding long
high_of_pair a q n is = (omega (arith, ints), omega (arith, ints))

-- ---- right shifts of pairs

next_is : (v : ℤ) → v +ℤ pos 1 ≡ suc_ℤ v
next_is (pos n) = omega (arith, ints)
next_is (negsuc zero) = refl
next_is (negsuc (suc n)) = omega (arith, ints)

next_times : (v : ℤ) (power : ℕ) → (v +ℤ pos 1) *ℤ pos power ≡ v *ℤ pos power +ℤ pos power
next_times v power = ap (λ (z : ℤ). z *ℤ pos power) (next_is v) ∙ suc_ℤ-*ℤ v (pos power)

sum_times : (v : ℤ) (low power : ℕ) → (v +ℤ pos low) *ℤ pos power ≡ v *ℤ pos power +ℤ pos (low * power)
sum_times v zero power =
    let same : v +ℤ pos 0 ≡ v = omega (arith, ints) in
    let none : 0 * power ≡ 0 = omega arith in
    ap (λ (z : ℤ). z *ℤ pos power) same ∙ omega (arith, ints, none)
sum_times v (suc low) power =
    let next : v +ℤ pos (suc low) ≡ (v +ℤ pos low) +ℤ pos 1 = omega (arith, ints) in
    let more : suc low * power ≡ low * power + power = suc-mul low power in
    let so_far = sum_times v low power in
    ap (λ (z : ℤ). z *ℤ pos power) next ∙ next_times (v +ℤ pos low) power ∙ omega (arith, ints, so_far, more)

-- a number between two others, where both are above rests
between : (v made : ℤ) (part low power rest : ℕ) → made *ℤ pos (2 ^ 17) +ℤ pos part +ℤ pos rest ≡ v *ℤ pos (2 ^ 17) +ℤ pos low
    → part ≤ 131071 * power → low < 2 ^ 17 → rest < power → (made ≤ℤ v) × (v <ℤ (made +ℤ pos power))
between v made part low power rest whole most low_is rest_is = (omega (arith, ints), omega (arith, ints))

pub floor_of_pair : (a q new_a new_q power : ℕ) → IsFloor (long a q) power (long new_a new_q)
    → IsRoundedDown (val a) power (val new_a)
unfolding long
floor_of_pair a q new_a new_q power floor =
    let low_most : new_q % 2 ^ 17 ≤ 131071 = omega arith in
    let turned : (val new_a *ℤ pos (2 ^ 17)) *ℤ pos power ≡ (val new_a *ℤ pos power) *ℤ pos (2 ^ 17) =
    times_assoc (val new_a) (2 ^ 17) power ∙ ap (λ (w : ℕ). val new_a *ℤ pos w) (mul_comm (2 ^ 17) power)
    ∙ sym (times_assoc (val new_a) power (2 ^ 17)) in
    let parts : (val new_a *ℤ pos (2 ^ 17) +ℤ pos (new_q % 2 ^ 17)) *ℤ pos power
    ≡ (val new_a *ℤ pos power) *ℤ pos (2 ^ 17) +ℤ pos (new_q % 2 ^ 17 * power) =
    sum_times (val new_a *ℤ pos (2 ^ 17)) (new_q % 2 ^ 17) power ∙ ap (λ (z : ℤ). z +ℤ pos (new_q % 2 ^ 17 * power)) turned in
    let found = between (val a) (val new_a *ℤ pos power) (new_q % 2 ^ 17 * power) (q % 2 ^ 17) power floor.rest
    (ap (λ (z : ℤ). z +ℤ pos floor.rest) (sym parts) ∙ floor.whole)
    (omega (arith, mul-le (new_q % 2 ^ 17) power 131071 power low_most (omega arith))) (omega arith) floor.below in
    (found.0, subst (λ (z : ℤ). val a <ℤ z) (sym (next_times (val new_a) power)) found.1)
