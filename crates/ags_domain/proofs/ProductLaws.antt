-- The numbers of products, and the corners between which they lie.
use Rattle.std.proofs.Common.{◌≡◌, ℕ, ◌-◌, ◌*◌, ◌<◌, ◌≤◌, ◌^◌, Bool, true, false, refl, sym, ap, subst, ◌∙◌, inl, ⊎_elim, arith, ℤ, pos, negsuc, ◌+ℤ◌, ◌≤ℤ◌, ◌<ℤ◌, [], ◌∷◌}
use Rattle.std.specs.Prelude.{neg_ℤ, not, unsigned_abs, Result}
use Rattle.std.proofs.lemmas.Int.{ints, unsigned_abs-mul}
use Rattle.std.proofs.lemmas.Bool.Decides.{nat_tests}
use Rattle.std.proofs.lemmas.Bool.{cases_lt, not-true}
use Rattle.std.proofs.lemmas.Nat.{mul-le}
use Rattle.ags_word.specs.Word.{val, fits}
use Rattle.ags_word.specs.Long.{pair, fits_long, shifted_right}
use Rattle.ags_word.specs.Operation.{Operation, product, product_high, product_rounded, nearest_product}
use Rattle.ags_word.proofs.WordLaws.{val-wrap, wrap_below, val_least, val_most, val-low, val-high, fits_in}
use Rattle.ags_word.proofs.LongLaws.{pair_a_below, product_over, over-product}
use Rattle.ags_domain.specs.Domain.{Ends}
use Rattle.ags_domain.specs.Hull.{IsFirstOverflow, Answers, tried, overflows_at}
use Rattle.ags_domain.specs.Candidates.{operands, product_candidates}
use Rattle.ags_domain.specs.Range.{range_meaning}
use Rattle.ags_domain.specs.Corners.{IsAround}
use Rattle.ags_domain.specs.declared.operands.Operands.{Operands}
use Rattle.ags_domain.specs.declared.ranges.Range.{Range}
use Rattle.ags_domain.proofs.IntLaws.{amid_along, column_amid, row_amid, shifted_right_up}
use Rattle.ags_domain.proofs.HullLaws.{IsExact, AreEnds}
use Rattle.ags_domain.proofs.CornerLaws.{IsCornered, low_low, low_high, high_low, high_high, cornered_of, around_answers, answers_along, found_is, told_alone}

-- ---- the numbers

abbrev pub high_number : Operands → ℤ
high_number o = shifted_right (product o.a o.m) 17

abbrev pub rounded_number : Operands → ℤ
rounded_number o = nearest_product o.a o.m

pub fits_high : (n : ℤ) → fits_long n ≡ fits (shifted_right n 17)
unfolding fits fits_long
fits_high (pos n) = grind (arith, ints, nat_tests)
fits_high (negsuc n) = grind (arith, ints, nat_tests)

pub high_value : (n : ℤ) → fits (shifted_right n 17) ≡ true → val (pair n).0 ≡ shifted_right n 17
unfolding pair
high_value n h = val-wrap (shifted_right n 17) h

pub high_exact : (a_ends m_ends : Ends) → IsExact product_high high_number a_ends m_ends
high_exact a_ends m_ends = record {
  word = λ o is. pair_a_below (product o.a o.m);
  over = λ o is. ap not (fits_high (product o.a o.m));
  exact = λ o is h. high_value (product o.a o.m) h;
}

-- a product that a pair stands for is below 2 ^ 34 - 2 ^ 16, and so its rounded number is a word's value
size_most : (w : ℕ) → w < 2 ^ 18 → unsigned_abs (val w) ≤ 2 ^ 17
size_most w h = let least = val_least w h in let most = val_most w h in omega (arith, ints)

least_word : (w : ℕ) → w < 2 ^ 18 → unsigned_abs (val w) ≡ 2 ^ 17 → w ≡ 2 ^ 17
least_word w h size = ⊎_elim
    (λ l. let is = val-low w l in absurd (omega (arith, ints)))
    (λ l. let is = val-high w l in omega (arith, ints))
    (cases_lt w (2 ^ 17))

small_sizes : (a b : ℕ) → a < 2 ^ 17 → b ≤ 2 ^ 17 → a * b ≤ (2 ^ 17 - 1) * 2 ^ 17
small_sizes a b h k = mul-le a b (2 ^ 17 - 1) (2 ^ 17) (omega arith) k

small_sizes' : (a b : ℕ) → a ≤ 2 ^ 17 → b < 2 ^ 17 → a * b ≤ 2 ^ 17 * (2 ^ 17 - 1)
small_sizes' a b h k = mul-le a b (2 ^ 17) (2 ^ 17 - 1) h (omega arith)

small_product : (a m : ℕ) → a < 2 ^ 18 → m < 2 ^ 18 → fits_long (product a m) ≡ true → unsigned_abs (product a m) ≤ 2 ^ 34 - 2 ^ 17
small_product a m h k fine =
    let size = unsigned_abs-mul (val a) (val m) in
    ⊎_elim
    (λ l. omega (arith, small_sizes (unsigned_abs (val a)) (unsigned_abs (val m)) l (size_most m k)))
    (λ l. ⊎_elim
    (λ r. omega (arith, small_sizes' (unsigned_abs (val a)) (unsigned_abs (val m)) (size_most a h) r))
    (λ r. absurd (both_least (omega (arith, size_most a h)) (omega (arith, size_most m k))))
    (cases_lt (unsigned_abs (val m)) (2 ^ 17)))
    (cases_lt (unsigned_abs (val a)) (2 ^ 17))
  where
    both_least : unsigned_abs (val a) ≡ 2 ^ 17 → unsigned_abs (val m) ≡ 2 ^ 17 → ⊥
    both_least p q =
        let fits_least : fits_long (product (2 ^ 17) (2 ^ 17)) ≡ true = subst (λ b. fits_long (product (2 ^ 17) b) ≡ true) (least_word m k q)
        (subst (λ b. fits_long (product b m) ≡ true) (least_word a h p) fine) in
        let over = over-product in
        cc

nearest_fits : (n : ℤ) → unsigned_abs n ≤ 2 ^ 34 - 2 ^ 17 → fits (shifted_right (n +ℤ pos (2 ^ 16)) 17) ≡ true
nearest_fits (pos n) h = fits_in _ (omega (arith, ints)) (omega (arith, ints))
nearest_fits (negsuc n) h = fits_in _ (lower (negsuc n +ℤ pos (2 ^ 16)) (omega (arith, ints))) (upper (negsuc n +ℤ pos (2 ^ 16)) (omega (arith, ints)))
  where
    lower : (k : ℤ) → neg_ℤ (pos (2 ^ 34)) ≤ℤ k → neg_ℤ (pos (2 ^ 17)) ≤ℤ shifted_right k 17
    lower (pos k) h = omega (arith, ints)
    lower (negsuc k) h = omega (arith, ints)

    upper : (k : ℤ) → k <ℤ pos (2 ^ 34) → shifted_right k 17 <ℤ pos (2 ^ 17)
    upper (pos k) h = omega (arith, ints)
    upper (negsuc k) h = omega (arith, ints)

rounded_over-least : fits (nearest_product (2 ^ 17) (2 ^ 17)) ≡ false
unfolding val fits
rounded_over-least = refl

rounded_fits : (a m : ℕ) → a < 2 ^ 18 → m < 2 ^ 18 → fits_long (product a m) ≡ fits (nearest_product a m)
rounded_fits a m h k = by (fits_long (product a m)) refl
  where
    by : (b : Bool) → fits_long (product a m) ≡ b → fits_long (product a m) ≡ fits (nearest_product a m)
    by true is = is ∙ sym (nearest_fits (product a m) (small_product a m h k is))
    by false is =
        let both = product_over a m h k is in
        let over : fits (nearest_product a m) ≡ false = rw (both.0, both.1) rounded_over-least in
        is ∙ sym over

pub rounded_exact : (a_ends m_ends : Ends) → IsExact product_rounded rounded_number a_ends m_ends
rounded_exact a_ends m_ends = record {
  word = λ o is. wrap_below (nearest_product o.a o.m);
  over = λ o is. ap not (rounded_fits o.a o.m is.a_between.is_word is.m_between.is_word);
  exact = λ o is h. val-wrap (nearest_product o.a o.m) h;
}

-- ---- corners

nearest_up : (m n : ℤ) → m ≤ℤ n → shifted_right (m +ℤ pos (2 ^ 16)) 17 ≤ℤ shifted_right (n +ℤ pos (2 ^ 16)) 17
nearest_up m n h = shifted_right_up (m +ℤ pos (2 ^ 16)) (n +ℤ pos (2 ^ 16)) 17 (omega (arith, ints))

module _ (a m : Ends) (is_a : AreEnds a) (is_m : AreEnds m) where
  -- of what a function that keeps the order makes of the product
  corners_of : (f : ℤ → ℤ) → ((i j : ℤ) → i ≤ℤ j → f i ≤ℤ f j) → IsCornered (λ o. f (product o.a o.m)) a m
      (operands a.least 0 m.least) (operands a.least 0 m.greatest) (operands a.greatest 0 m.least) (operands a.greatest 0 m.greatest)
  corners_of f up = cornered_of (λ o. f (product o.a o.m)) a m 0 is_a is_m (inl refl)
      (λ o is. amid_along f up _ _ _ (column_amid (val a.least) (val a.greatest) (val o.a) (val o.m) is.a_between.from is.a_between.to))
      (λ x r y between. amid_along f up _ _ _ (row_amid (val m.least) (val m.greatest) (val y) (val x) between.from between.to))

  pub high_corners : IsCornered high_number a m
      (operands a.least 0 m.least) (operands a.least 0 m.greatest) (operands a.greatest 0 m.least) (operands a.greatest 0 m.greatest)
  high_corners = corners_of (λ n. shifted_right n 17) (λ i j h. shifted_right_up i j 17 h)

  pub rounded_corners : IsCornered rounded_number a m
      (operands a.least 0 m.least) (operands a.least 0 m.greatest) (operands a.greatest 0 m.least) (operands a.greatest 0 m.greatest)
  rounded_corners = corners_of (λ n. shifted_right (n +ℤ pos (2 ^ 16)) 17) nearest_up

-- ---- what is told

-- operands of a list without Q that overflow are twice the least word
pub product_told : (operation : Operation) → ((o : Operands) → overflows_at operation o ≡ not (fits_long (product o.a o.m)))
    → (a m : Ends) (l1 l2 l3 l4 r1 r2 r3 r4 : ℕ) (e : Operands)
    → IsFirstOverflow operation a m (operands l1 0 r1 ∷ operands l2 0 r2 ∷ operands l3 0 r3 ∷ operands l4 0 r4 ∷ []) e
    → IsFirstOverflow operation a m (product_candidates a m) e
product_told operation is_over a m l1 l2 l3 l4 r1 r2 r3 r4 e is =
    let found = found_is (overflows_at operation) (λ o. o.q ≡ 0)
    (operands l1 0 r1 ∷ operands l2 0 r2 ∷ operands l3 0 r3 ∷ operands l4 0 r4 ∷ []) e (refl, (refl, (refl, (refl, tt)))) is.first in
    let over = not-true (fits_long (product e.a e.m)) (sym (is_over e) ∙ found.1) in
    let both = product_over e.a e.m is.operands.a_between.is_word is.operands.m_between.is_word over in
    told_alone operation a m e (2 ^ 17) 0 (2 ^ 17) both.0 found.0 both.1 found.1 is.operands

-- of four tries at the ends of two ranges
pub product_answers : (operation : Operation) (number : Operands → ℤ) → ((o : Operands) → overflows_at operation o ≡ not (fits_long (product o.a o.m)))
    → (a m : Ends) → IsExact operation number a m → IsCornered number a m (low_low a m) (low_high a m) (high_low a 0 m) (high_high a 0 m)
    → (t1 t2 t3 t4 : Result ℕ Operands) → t1 ≡ tried operation (low_low a m) → t2 ≡ tried operation (low_high a m)
    → t3 ≡ tried operation (high_low a 0 m) → t4 ≡ tried operation (high_high a 0 m)
    → (answer : Result Range Operands) → IsAround t1 t2 t3 t4 answer → Answers range_meaning operation product_candidates a m answer
product_answers operation number is_over a m is_exact cornered t1 t2 t3 t4 h1 h2 h3 h4 answer is =
    answers_along operation a m (λ a m. low_low a m ∷ low_high a m ∷ high_low a 0 m ∷ high_high a 0 m ∷ []) product_candidates
    (product_told operation is_over a m a.least a.least a.greatest a.greatest m.least m.greatest m.least m.greatest) answer
    (around_answers operation number a m (low_low a m) (low_high a m) (high_low a 0 m) (high_high a 0 m) is_exact cornered
    t1 t2 t3 t4 (sym h1) (sym h2) (sym h3) (sym h4) answer is)
