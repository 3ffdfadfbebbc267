-- Order laws of products, of quotients and of right shifts over whole numbers.
--     mul_up, mul_down                the product with a factor keeps the order, or turns it round where the factor is negative
--     shifted_right_up                a right shift keeps the order
--     div_up, div_down                the quotient by a divisor, cut off toward zero, keeps the order or turns it round
--     column_amid, row_amid           along an interval a product lies between those of the ends
--     divisor_amid, divided_amid      along an interval a quotient does
use Rattle.std.proofs.Common.{◌≢◌, ℕ, zero, suc, ◌/◌, ◌≤◌, refl, ◌⊎◌, inl, inr, ⊎_elim, arith, ℤ, pos, negsuc, ◌*ℤ◌, ◌≤ℤ◌, ◌<ℤ◌}
use Rattle.std.specs.Prelude.{int_div}
use Rattle.std.proofs.lemmas.Int.{ints}
use Rattle.std.proofs.lemmas.Nat.{mul-le, le-div}
use Rattle.std.proofs.Math.Nat.{div-mul-le_self}
use Rattle.std.proofs.Math.Pow.{shr_mono}
use Rattle.std.proofs.Math.IntN.{*ℤ_comm}
use Rattle.ags_word.specs.Long.{shifted_right}

nat_le_refl : (n : ℕ) → n ≤ n
nat_le_refl n = omega arith

pub mul_up : (m n : ℤ) (c : ℕ) → m ≤ℤ n → (m *ℤ pos c) ≤ℤ (n *ℤ pos c)
mul_up (pos m) (pos n) c h = omega (arith, ints, mul-le m c n c (omega (arith, ints)) (nat_le_refl c))
mul_up (pos m) (negsuc n) c h = absurd (omega (arith, ints))
mul_up (negsuc m) (pos n) c h = omega (arith, ints)
mul_up (negsuc m) (negsuc n) c h = omega (arith, ints, mul-le (suc n) c (suc m) c (omega (arith, ints)) (nat_le_refl c))

pub mul_down : (m n : ℤ) (c : ℕ) → m ≤ℤ n → (n *ℤ negsuc c) ≤ℤ (m *ℤ negsuc c)
mul_down (pos m) (pos n) c h = omega (arith, ints, mul-le m (suc c) n (suc c) (omega (arith, ints)) (nat_le_refl (suc c)))
mul_down (pos m) (negsuc n) c h = absurd (omega (arith, ints))
mul_down (negsuc m) (pos n) c h = omega (arith, ints)
mul_down (negsuc m) (negsuc n) c h = omega (arith, ints, mul-le (suc n) (suc c) (suc m) (suc c) (omega (arith, ints)) (nat_le_refl (suc c)))

-- a number lies between two others, of which either may be the lesser
abbrev pub IsAmid : (first n second : ℤ) → Type 0
IsAmid first n second = ((first ≤ℤ n) × (n ≤ℤ second)) ⊎ ((second ≤ℤ n) × (n ≤ℤ first))

-- a function that keeps the order
pub amid_along : (f : ℤ → ℤ) → ((m n : ℤ) → m ≤ℤ n → f m ≤ℤ f n) → (first n second : ℤ) → IsAmid first n second → IsAmid (f first) (f n) (f second)
amid_along f up first n second = ⊎_elim (λ h. inl (up first n h.0, up n second h.1)) (λ h. inr (up second n h.0, up n first h.1))

-- ---- one factor goes over an interval: the product lies between those of the ends

pub column_amid : (least most x factor : ℤ) → least ≤ℤ x → x ≤ℤ most → IsAmid (least *ℤ factor) (x *ℤ factor) (most *ℤ factor)
column_amid least most x (pos c) h k = inl (mul_up least x c h, mul_up x most c k)
column_amid least most x (negsuc c) h k = inr (mul_down x most c k, mul_down least x c h)

pub row_amid : (least most x factor : ℤ) → least ≤ℤ x → x ≤ℤ most → IsAmid (factor *ℤ least) (factor *ℤ x) (factor *ℤ most)
row_amid least most x factor h k = rw (*ℤ_comm factor least, *ℤ_comm factor most, *ℤ_comm factor x) (column_amid least most x factor h k)

-- ---- right shifts

pub shifted_right_up : (m n : ℤ) (k : ℕ) → m ≤ℤ n → shifted_right m k ≤ℤ shifted_right n k
shifted_right_up (pos m) (pos n) k h = omega (arith, ints, shr_mono {a = m} {b = n} k (omega (arith, ints)))
shifted_right_up (pos m) (negsuc n) k h = absurd (omega (arith, ints))
shifted_right_up (negsuc m) (pos n) k h = omega (arith, ints)
shifted_right_up (negsuc m) (negsuc n) k h = omega (arith, ints, shr_mono {a = n} {b = m} k (omega (arith, ints)))

-- ---- quotients

nat_div_up : (m n d : ℕ) → m ≤ n → m / suc d ≤ n / suc d
nat_div_up m n d h = le-div (m / suc d) n (suc d) (omega arith) (omega (arith, div-mul-le_self m (suc d)))

nat_div_down : (n d e : ℕ) → d ≤ e → n / suc e ≤ n / suc d
nat_div_down n d e h =
    let less = mul-le (n / suc e) (suc d) (n / suc e) (suc e) (nat_le_refl (n / suc e)) (omega arith) in
    le-div (n / suc e) n (suc d) (omega arith) (omega (arith, less, div-mul-le_self n (suc e)))

pub div_up : (m n : ℤ) (d : ℕ) → m ≤ℤ n → int_div m (pos (suc d)) ≤ℤ int_div n (pos (suc d))
div_up (pos m) (pos n) d h = omega (arith, ints, nat_div_up m n d (omega (arith, ints)))
div_up (pos m) (negsuc n) d h = absurd (omega (arith, ints))
div_up (negsuc m) (pos n) d h = omega (arith, ints)
div_up (negsuc m) (negsuc n) d h = omega (arith, ints, nat_div_up (suc n) (suc m) d (omega (arith, ints)))

pub div_down : (m n : ℤ) (d : ℕ) → m ≤ℤ n → int_div n (negsuc d) ≤ℤ int_div m (negsuc d)
div_down (pos m) (pos n) d h = omega (arith, ints, nat_div_up m n d (omega (arith, ints)))
div_down (pos m) (negsuc n) d h = absurd (omega (arith, ints))
div_down (negsuc m) (pos n) d h = omega (arith, ints)
div_down (negsuc m) (negsuc n) d h = omega (arith, ints, nat_div_up (suc n) (suc m) d (omega (arith, ints)))

-- the divisor goes over an interval that has positive numbers alone, or negative ones alone

by_positive : (n : ℤ) (e d f : ℕ) → e ≤ d → d ≤ f → IsAmid (int_div n (pos (suc e))) (int_div n (pos (suc d))) (int_div n (pos (suc f)))
by_positive (pos n) e d f h k = inr (omega (arith, ints, nat_div_down n d f k), omega (arith, ints, nat_div_down n e d h))
by_positive (negsuc n) e d f h k = inl (omega (arith, ints, nat_div_down (suc n) e d h), omega (arith, ints, nat_div_down (suc n) d f k))

by_negative : (n : ℤ) (e d f : ℕ) → d ≤ e → f ≤ d → IsAmid (int_div n (negsuc e)) (int_div n (negsuc d)) (int_div n (negsuc f))
by_negative (pos n) e d f h k = inr (omega (arith, ints, nat_div_down n f d k), omega (arith, ints, nat_div_down n d e h))
by_negative (negsuc n) e d f h k = inl (omega (arith, ints, nat_div_down (suc n) d e h), omega (arith, ints, nat_div_down (suc n) f d k))

-- all numbers of the interval are positive, or all are negative
abbrev pub IsOneSided : (least most : ℤ) → Type 0
IsOneSided least most = (pos 0 <ℤ least) ⊎ (most <ℤ pos 0)

pub divisor_amid : (n least y most : ℤ) → least ≤ℤ y → y ≤ℤ most → IsOneSided least most → IsAmid (int_div n least) (int_div n y) (int_div n most)
divisor_amid n (pos zero) y most h k (inl some) = absurd (omega (arith, ints))
divisor_amid n (pos (suc e)) (pos zero) most h k (inl some) = absurd (omega (arith, ints))
divisor_amid n (pos (suc e)) (pos (suc d)) (pos zero) h k (inl some) = absurd (omega (arith, ints))
divisor_amid n (pos (suc e)) (pos (suc d)) (pos (suc f)) h k (inl some) = by_positive n e d f (omega (arith, ints)) (omega (arith, ints))
divisor_amid n (pos (suc e)) (pos (suc d)) (negsuc f) h k (inl some) = absurd (omega (arith, ints))
divisor_amid n (pos (suc e)) (negsuc d) most h k (inl some) = absurd (omega (arith, ints))
divisor_amid n (negsuc e) y most h k (inl some) = absurd (omega (arith, ints))
divisor_amid n least y (pos f) h k (inr some) = absurd (omega (arith, ints))
divisor_amid n least (pos d) (negsuc f) h k (inr some) = absurd (omega (arith, ints))
divisor_amid n (pos e) (negsuc d) (negsuc f) h k (inr some) = absurd (omega (arith, ints))
divisor_amid n (negsuc e) (negsuc d) (negsuc f) h k (inr some) = by_negative n e d f (omega (arith, ints)) (omega (arith, ints))

-- the number that is divided goes over an interval
pub divided_amid : (d least n most : ℤ) → d ≢ pos 0 → least ≤ℤ n → n ≤ℤ most → IsAmid (int_div least d) (int_div n d) (int_div most d)
divided_amid (pos zero) least n most some h k = absurd (some refl)
divided_amid (pos (suc d)) least n most some h k = inl (div_up least n d h, div_up n most d k)
divided_amid (negsuc d) least n most some h k = inr (div_down n most d k, div_down least n d h)
