-- The numbers of quotients by an interval that hasn't 0, and the corners between which they lie.
use Rattle.std.proofs.Common.{◌≡◌, ◌≢◌, ℕ, ◌<◌, ◌^◌, Bool, true, false, refl, sym, subst, inl, inr, arith, ℤ, pos, ◌≤ℤ◌, [], ◌∷◌}
use Rattle.std.specs.Prelude.{not, int_div, Some, is_none, unwrap_or, ◌&&◌}
use Rattle.std.specs.Int.RustNames.{int_le}
use Rattle.std.specs.List.{find}
use Rattle.std.proofs.lemmas.Int.{ints}
use Rattle.ags_word.specs.Word.{val, fits}
use Rattle.ags_word.specs.Long.{long, divided}
use Rattle.ags_word.specs.Operation.{quotient}
use Rattle.ags_word.proofs.WordLaws.{val-wrap, wrap_below}
use Rattle.ags_word.proofs.LongLaws.{divided-zero, divided-over, divided-some}
use Rattle.ags_domain.specs.LowBits.{all_ones}
use Rattle.ags_domain.specs.Domain.{Ends, IsBetween}
use Rattle.ags_domain.specs.Hull.{IsOperands, IsFirstOverflow, overflows_at}
use Rattle.ags_domain.specs.Candidates.{operands, has_zero, quotient_candidates}
use Rattle.ags_domain.specs.declared.operands.Operands.{Operands}
use Rattle.ags_domain.proofs.IntLaws.{IsOneSided, divisor_amid, divided_amid}
use Rattle.ags_domain.proofs.HullLaws.{IsExact, AreEnds, least_between}
use Rattle.ags_domain.proofs.CornerLaws.{IsCornered, cornered_of}
use Rattle.ags_domain.proofs.ShiftLaws.{long_from, long_to}
use Rattle.ags_domain.proofs.SignLaws.{val_zero}

abbrev pub quotient_number : Operands → ℤ
quotient_number o = int_div (long o.a o.q) (val o.m)

one_sided : (m : Ends) → has_zero m ≡ false → IsOneSided (val m.least) (val m.greatest)
one_sided m h = grind (arith, ints)

not_zero : (least n most : ℤ) → IsOneSided least most → least ≤ℤ n → n ≤ℤ most → n ≢ pos 0
not_zero least n most (inl some) h k = omega (arith, ints)
not_zero least n most (inr some) h k = omega (arith, ints)

quotient_over : (n : ℤ) (m : ℕ) → val m ≢ pos 0 → is_none (divided n m) ≡ not (fits (int_div n (val m)))
quotient_over n m some = by (fits (int_div n (val m))) refl
  where
    by : (b : Bool) → fits (int_div n (val m)) ≡ b → is_none (divided n m) ≡ not (fits (int_div n (val m)))
    by true is = rw (is, divided-some n m some is) refl
    by false is = rw (is, divided-over n m is) refl

quotient_value : (n : ℤ) (m a : ℕ) → val m ≢ pos 0 → fits (int_div n (val m)) ≡ true → val (unwrap_or (divided n m) a) ≡ int_div n (val m)
quotient_value n m a some h = rw (divided-some n m some h) (val-wrap (int_div n (val m)) h)

quotient_word : (n : ℤ) (m a : ℕ) → val m ≢ pos 0 → a < 2 ^ 18 → unwrap_or (divided n m) a < 2 ^ 18
quotient_word n m a some h = by (fits (int_div n (val m))) refl
  where
    by : (b : Bool) → fits (int_div n (val m)) ≡ b → unwrap_or (divided n m) a < 2 ^ 18
    by true is = rw (divided-some n m some is) (wrap_below (int_div n (val m)))
    by false is = rw (divided-over n m is) h

module _ (a m : Ends) (is_a : AreEnds a) (is_m : AreEnds m) (no_zero : has_zero m ≡ false) where
  some_divisor : (o : Operands) → IsOperands a m o → val o.m ≢ pos 0
  some_divisor o is = not_zero (val m.least) (val o.m) (val m.greatest) (one_sided m no_zero) is.m_between.from is.m_between.to

  pub quotient_exact : IsExact quotient quotient_number a m
  quotient_exact = record {
    word = λ o is. quotient_word (long o.a o.q) o.m o.a (some_divisor o is) is.a_between.is_word;
    over = λ o is. quotient_over (long o.a o.q) o.m (some_divisor o is);
    exact = λ o is h. quotient_value (long o.a o.q) o.m o.a (some_divisor o is) h;
  }

  pub quotient_corners : IsCornered quotient_number a m
      (operands a.least 0 m.least) (operands a.least 0 m.greatest) (operands a.greatest all_ones m.least) (operands a.greatest all_ones m.greatest)
  quotient_corners = cornered_of quotient_number a m all_ones is_a is_m (inr refl)
      (λ o is. divided_amid (val o.m) (long a.least 0) (long o.a o.q) (long a.greatest all_ones) (some_divisor o is)
      (long_from a.least o.a o.q is.a_between.from) (long_to a.greatest o.a o.q is.a_between.to))
      (λ x r y between. divisor_amid (long x r) (val m.least) (val y) (val m.greatest) between.from between.to (one_sided m no_zero))

  pub candidates_are : quotient_candidates a m
      ≡ operands a.least 0 m.least ∷ operands a.least 0 m.greatest ∷ operands a.greatest all_ones m.least ∷ operands a.greatest all_ones m.greatest ∷ []
  candidates_are = rw no_zero refl

  pub quotient_told : (e : Operands) → IsFirstOverflow quotient a m
      (operands a.least 0 m.least ∷ operands a.least 0 m.greatest ∷ operands a.greatest all_ones m.least ∷ operands a.greatest all_ones m.greatest ∷ []) e
      → IsFirstOverflow quotient a m (quotient_candidates a m) e
  quotient_told e is = subst (λ candidates. IsFirstOverflow quotient a m candidates e) (sym candidates_are) is

-- ---- by an interval that has 0

zero_overflows : (n : ℤ) → is_none (divided n 0) ≡ true
zero_overflows n = rw (divided-zero n 0 val_zero) refl

zero_inside : (m : Ends) → has_zero m ≡ true → IsBetween m 0
zero_inside m h =
    let zero = val_zero in
    let both : (val m.least ≤ℤ pos 0) × (pos 0 ≤ℤ val m.greatest) = split (val m.least) (val m.greatest) h in
    record { is_word = omega arith; from = omega (arith, ints, both.0); to = omega (arith, ints, both.1) }
  where
    split : (l g : ℤ) → (int_le l (pos 0) && int_le (pos 0) g) ≡ true → (l ≤ℤ pos 0) × (pos 0 ≤ℤ g)
    split l g h = (grind (arith, ints), grind (arith, ints))

pub zero_told : (a m : Ends) → AreEnds a → has_zero m ≡ true → IsFirstOverflow quotient a m (quotient_candidates a m) (operands a.least 0 0)
zero_told a m is_a h =
    let candidates : quotient_candidates a m ≡ operands a.least 0 0 ∷ [] = rw h refl in
    let found : find (overflows_at quotient) (operands a.least 0 0 ∷ []) ≡ Some (operands a.least 0 0) = rw (zero_overflows (long a.least 0)) refl in
    record {
      operands = record { a_between = least_between a is_a; q_word = omega arith; m_between = zero_inside m h };
      first = subst (λ cs. find (overflows_at quotient) cs ≡ Some (operands a.least 0 0)) (sym candidates) found;
    }
