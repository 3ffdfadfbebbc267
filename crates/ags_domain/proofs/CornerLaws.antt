-- The answer of four tries at corners and of two, and other lists of candidates by which it is told.
use Rattle.std.proofs.Common.{◌≡◌, ℕ, ◌<◌, ◌^◌, Bool, true, false, refl, sym, ◌∙◌, subst, ◌⊎◌, inl, inr, ⊎_elim, arith, ℤ, ◌≤ℤ◌, List, [], ◌∷◌}
use Rattle.std.specs.Prelude.{Some, Result, Ok, Err}
use Rattle.std.specs.List.{find}
use Rattle.std.proofs.lemmas.Int.{ints}
use Rattle.ags_word.specs.Word.{val}
use Rattle.ags_word.specs.Operation.{Operation}
use Rattle.ags_domain.specs.LowBits.{all_ones}
use Rattle.ags_domain.specs.Domain.{Ends, IsBetween}
use Rattle.ags_domain.specs.Hull.{IsOperands, IsCorner, IsReached, IsFirstOverflow, IsInterval, Answers, tried, overflows_at}
use Rattle.ags_domain.specs.Candidates.{operands}
use Rattle.ags_domain.specs.Range.{range_ends, range_meaning, lesser, greater}
use Rattle.ags_domain.specs.Corners.{IsSpanned, IsAround, ends_of_four}
pub use Rattle.ags_domain.specs.ListLaws.{lesser_left, lesser_right, greater_left, greater_right, lesser_one, greater_one}
use Rattle.ags_domain.specs.declared.operands.Operands.{Operands}
use Rattle.ags_domain.specs.declared.ranges.Range.{Range}
use Rattle.ags_domain.proofs.IntLaws.{IsAmid}
use Rattle.ags_domain.proofs.HullLaws.{IsExact, IsSpan, IsFine, AreEnds, spanned_ordered, spanned_answers, word_of, rimmed_interval, fine_of, reached_at, end_operands, end_corner, told_first, told_later, told_answer}

-- ---- one of four

abbrev pub IsAbove : (first second third fourth n : ℤ) → Type 0
IsAbove first second third fourth n = (first ≤ℤ n) ⊎ ((second ≤ℤ n) ⊎ ((third ≤ℤ n) ⊎ (fourth ≤ℤ n)))

abbrev pub IsBelow : (first second third fourth n : ℤ) → Type 0
IsBelow first second third fourth n = (n ≤ℤ first) ⊎ ((n ≤ℤ second) ⊎ ((n ≤ℤ third) ⊎ (n ≤ℤ fourth)))

abbrev pub IsOneOf : (first second third fourth word : ℕ) → Type 0
IsOneOf first second third fourth word = (word ≡ first) ⊎ ((word ≡ second) ⊎ ((word ≡ third) ⊎ (word ≡ fourth)))

least_one : (first second third fourth : ℕ) → IsOneOf first second third fourth (lesser (lesser first second) (lesser third fourth))
least_one first second third fourth = grind (arith, ints)

greatest_one : (first second third fourth : ℕ) → IsOneOf first second third fourth (greater (greater first second) (greater third fourth))
greatest_one first second third fourth = grind (arith, ints)

holds_one : (first second third fourth w : ℕ) → IsOneOf first second third fourth w → w < 2 ^ 18 → IsBetween (ends_of_four first second third fourth) w
holds_one first second third fourth w one is = record { is_word = is; from = grind (arith, ints); to = grind (arith, ints) }

-- a number between two, of which each lies between two of four
amid_above : (first second third fourth low high n : ℤ) → IsAmid first low second → IsAmid third high fourth → IsAmid low n high → IsAbove first second third fourth n
amid_above first second third fourth low high n a b c = grind (arith, ints)

amid_below : (first second third fourth low high n : ℤ) → IsAmid first low second → IsAmid third high fourth → IsAmid low n high → IsBelow first second third fourth n
amid_below first second third fourth low high n a b c = grind (arith, ints)

-- ---- four corners: the number of each operands lies above one of theirs and below one

pub record IsCornered (number : Operands → ℤ) (a_ends m_ends : Ends) (c1 c2 c3 c4 : Operands) : Type 0 where
  pub is1 : IsOperands a_ends m_ends c1
  pub is2 : IsOperands a_ends m_ends c2
  pub is3 : IsOperands a_ends m_ends c3
  pub is4 : IsOperands a_ends m_ends c4
  pub corner1 : IsCorner a_ends m_ends c1
  pub corner2 : IsCorner a_ends m_ends c2
  pub corner3 : IsCorner a_ends m_ends c3
  pub corner4 : IsCorner a_ends m_ends c4
  pub from : (o : Operands) → IsOperands a_ends m_ends o → IsAbove (number c1) (number c2) (number c3) (number c4) (number o)
  pub to : (o : Operands) → IsOperands a_ends m_ends o → IsBelow (number c1) (number c2) (number c3) (number c4) (number o)

-- at the ends of two intervals, with a Q beside the greatest A
abbrev pub low_low : (a m : Ends) → Operands
low_low a m = operands a.least 0 m.least

abbrev pub low_high : (a m : Ends) → Operands
low_high a m = operands a.least 0 m.greatest

abbrev pub high_low : (a : Ends) (q : ℕ) (m : Ends) → Operands
high_low a q m = operands a.greatest q m.least

abbrev pub high_high : (a : Ends) (q : ℕ) (m : Ends) → Operands
high_high a q m = operands a.greatest q m.greatest

-- along each interval the number lies between those of its ends
module _ (number : Operands → ℤ) (a m : Ends) (q : ℕ) (is_a : AreEnds a) (is_m : AreEnds m) (low_part : (q ≡ 0) ⊎ (q ≡ all_ones))
    (along_a : (o : Operands) → IsOperands a m o → IsAmid (number (operands a.least 0 o.m)) (number o) (number (operands a.greatest q o.m)))
    (along_m : (x r y : ℕ) → IsBetween m y → IsAmid (number (operands x r m.least)) (number (operands x r y)) (number (operands x r m.greatest))) where
  pub cornered_of : IsCornered number a m (low_low a m) (low_high a m) (high_low a q m) (high_high a q m)
  cornered_of = record {
    is1 = end_operands a m (low_low a m) is_a is_m (inl refl, inl refl, inl refl);
    is2 = end_operands a m (low_high a m) is_a is_m (inl refl, inl refl, inr refl);
    is3 = end_operands a m (high_low a q m) is_a is_m (inr refl, low_part, inl refl);
    is4 = end_operands a m (high_high a q m) is_a is_m (inr refl, low_part, inr refl);
    corner1 = end_corner a m (low_low a m) (inl refl, inl refl, inl refl);
    corner2 = end_corner a m (low_high a m) (inl refl, inl refl, inr refl);
    corner3 = end_corner a m (high_low a q m) (inr refl, low_part, inl refl);
    corner4 = end_corner a m (high_high a q m) (inr refl, low_part, inr refl);
    from = λ o is. amid_above _ _ _ _ _ _ _ (along_m a.least 0 o.m is.m_between) (along_m a.greatest q o.m is.m_between) (along_a o is);
    to = λ o is. amid_below _ _ _ _ _ _ _ (along_m a.least 0 o.m is.m_between) (along_m a.greatest q o.m is.m_between) (along_a o is);
  }

module _ (operation : Operation) (number : Operands → ℤ) (a_ends m_ends : Ends) (c1 c2 c3 c4 : Operands)
    (is_exact : IsExact operation number a_ends m_ends) (cornered : IsCornered number a_ends m_ends c1 c2 c3 c4)
    (w1 w2 w3 w4 : ℕ) (ok1 : tried operation c1 ≡ Ok w1) (ok2 : tried operation c2 ≡ Ok w2)
    (ok3 : tried operation c3 ≡ Ok w3) (ok4 : tried operation c4 ≡ Ok w4) where
  fine_at : (c : Operands) (w : ℕ) → IsOperands a_ends m_ends c → tried operation c ≡ Ok w → IsOneOf w1 w2 w3 w4 w
      → IsFine operation a_ends m_ends (ends_of_four w1 w2 w3 w4) c
  fine_at c w is ok one = fine_of operation a_ends m_ends (ends_of_four w1 w2 w3 w4) c w is ok
      (holds_one w1 w2 w3 w4 w one (word_of operation number a_ends m_ends is_exact c w is ok))

  some_fine : (P : Operands → Type 0) → P c1 ⊎ (P c2 ⊎ (P c3 ⊎ P c4)) → (c : Operands) × IsFine operation a_ends m_ends (ends_of_four w1 w2 w3 w4) c × P c
  some_fine P = ⊎_elim
      (λ h. (c1, fine_at c1 w1 cornered.is1 ok1 (inl refl), h))
      (⊎_elim (λ h. (c2, fine_at c2 w2 cornered.is2 ok2 (inr (inl refl)), h))
      (⊎_elim (λ h. (c3, fine_at c3 w3 cornered.is3 ok3 (inr (inr (inl refl))), h))
      (λ h. (c4, fine_at c4 w4 cornered.is4 ok4 (inr (inr (inr refl))), h))))

  reached_one : (v : ℕ) → IsOneOf w1 w2 w3 w4 v → IsReached operation a_ends m_ends v
  reached_one v = ⊎_elim
      (reached_at operation a_ends m_ends c1 w1 v cornered.is1 cornered.corner1 ok1)
      (⊎_elim (reached_at operation a_ends m_ends c2 w2 v cornered.is2 cornered.corner2 ok2)
      (⊎_elim (reached_at operation a_ends m_ends c3 w3 v cornered.is3 cornered.corner3 ok3)
      (reached_at operation a_ends m_ends c4 w4 v cornered.is4 cornered.corner4 ok4)))

  corners_interval : (range : Range) → range_ends range ≡ ends_of_four w1 w2 w3 w4 → IsInterval range_meaning operation a_ends m_ends range
  corners_interval = rimmed_interval operation number a_ends m_ends is_exact (ends_of_four w1 w2 w3 w4)
      (record {
        lower = λ o is. some_fine (λ c. number c ≤ℤ number o) (cornered.from o is);
        upper = λ o is. some_fine (λ c. number o ≤ℤ number c) (cornered.to o is);
      })
      (reached_one (lesser (lesser w1 w2) (lesser w3 w4)) (least_one w1 w2 w3 w4))
      (reached_one (greater (greater w1 w2) (greater w3 w4)) (greatest_one w1 w2 w3 w4))

module _ (operation : Operation) (number : Operands → ℤ) (a_ends m_ends : Ends) (c1 c2 c3 c4 : Operands)
    (is_exact : IsExact operation number a_ends m_ends) (cornered : IsCornered number a_ends m_ends c1 c2 c3 c4) where
  pub around_answers : (t1 t2 t3 t4 : Result ℕ Operands) → tried operation c1 ≡ t1 → tried operation c2 ≡ t2 → tried operation c3 ≡ t3
      → tried operation c4 ≡ t4 → (answer : Result Range Operands) → IsAround t1 t2 t3 t4 answer
      → Answers range_meaning operation (λ a m. c1 ∷ c2 ∷ c3 ∷ c4 ∷ []) a_ends m_ends answer
  around_answers (Err e) t2 t3 t4 h1 h2 h3 h4 answer is =
      told_answer operation a_ends m_ends (c1 ∷ c2 ∷ c3 ∷ c4 ∷ []) e answer is
      (told_first operation a_ends m_ends c1 e (c2 ∷ c3 ∷ c4 ∷ []) cornered.is1 h1)
  around_answers (Ok w1) (Err e) t3 t4 h1 h2 h3 h4 answer is =
      told_answer operation a_ends m_ends (c1 ∷ c2 ∷ c3 ∷ c4 ∷ []) e answer is
      (told_later operation a_ends m_ends c1 e w1 (c2 ∷ c3 ∷ c4 ∷ []) h1 (told_first operation a_ends m_ends c2 e (c3 ∷ c4 ∷ []) cornered.is2 h2))
  around_answers (Ok w1) (Ok w2) (Err e) t4 h1 h2 h3 h4 answer is =
      told_answer operation a_ends m_ends (c1 ∷ c2 ∷ c3 ∷ c4 ∷ []) e answer is
      (told_later operation a_ends m_ends c1 e w1 (c2 ∷ c3 ∷ c4 ∷ []) h1
      (told_later operation a_ends m_ends c2 e w2 (c3 ∷ c4 ∷ []) h2 (told_first operation a_ends m_ends c3 e (c4 ∷ []) cornered.is3 h3)))
  around_answers (Ok w1) (Ok w2) (Ok w3) (Err e) h1 h2 h3 h4 answer is =
      told_answer operation a_ends m_ends (c1 ∷ c2 ∷ c3 ∷ c4 ∷ []) e answer is
      (told_later operation a_ends m_ends c1 e w1 (c2 ∷ c3 ∷ c4 ∷ []) h1
      (told_later operation a_ends m_ends c2 e w2 (c3 ∷ c4 ∷ []) h2
      (told_later operation a_ends m_ends c3 e w3 (c4 ∷ []) h3 (told_first operation a_ends m_ends c4 e [] cornered.is4 h4))))
  around_answers (Ok w1) (Ok w2) (Ok w3) (Ok w4) h1 h2 h3 h4 (Ok range) is =
      corners_interval operation number a_ends m_ends c1 c2 c3 c4 is_exact cornered w1 w2 w3 w4 h1 h2 h3 h4 range is
  around_answers (Ok w1) (Ok w2) (Ok w3) (Ok w4) h1 h2 h3 h4 (Err o) is = absurd is

-- ---- the same operands, told of other candidates

abbrev pub AreAll : (Operands → Type 0) → List Operands → Type 0
AreAll P [] = Unit {0}
AreAll P (o ∷ os) = P o × AreAll P os

pub found_is : (p : Operands → Bool) (P : Operands → Type 0) (xs : List Operands) (e : Operands) → AreAll P xs → find p xs ≡ Some e → P e × (p e ≡ true)
found_is p P [] e all h = absurd cc
found_is p P (x ∷ xs) e all h = by (p x) refl (found_is p P xs e all.1)
  where
    by : (b : Bool) → p x ≡ b → (find p xs ≡ Some e → P e × (p e ≡ true)) → P e × (p e ≡ true)
    by true is later =
        let first : find p (x ∷ xs) ≡ Some x = rw is refl in
        let found : x ≡ e = cc in
        (subst P found all.0, subst (λ o. p o ≡ true) found is)
    by false is later =
        let next : find p (x ∷ xs) ≡ find p xs = rw is refl in
        later (sym next ∙ h)

operands_same : (o : Operands) (a q m : ℕ) → o.a ≡ a → o.q ≡ q → o.m ≡ m → o ≡ operands a q m
operands_same o a q m h k l = rw (← h, ← k, ← l) refl

pub told_alone : (operation : Operation) (a_ends m_ends : Ends) (e : Operands) (a q m : ℕ) → e.a ≡ a → e.q ≡ q → e.m ≡ m
    → overflows_at operation e ≡ true → IsOperands a_ends m_ends e → IsFirstOverflow operation a_ends m_ends (operands a q m ∷ []) e
told_alone operation a_ends m_ends e a q m h k l over is =
    let same = operands_same e a q m h k l in
    let found : find (overflows_at operation) (e ∷ []) ≡ Some e = rw over refl in
    record { operands = is; first = subst (λ o. find (overflows_at operation) (o ∷ []) ≡ Some e) same found }

pub answers_along : (operation : Operation) (a_ends m_ends : Ends) (old new : Ends → Ends → List Operands)
    → ((e : Operands) → IsFirstOverflow operation a_ends m_ends (old a_ends m_ends) e → IsFirstOverflow operation a_ends m_ends (new a_ends m_ends) e)
    → (answer : Result Range Operands) → Answers range_meaning operation old a_ends m_ends answer → Answers range_meaning operation new a_ends m_ends answer
answers_along operation a_ends m_ends old new along (Ok range) is = is
answers_along operation a_ends m_ends old new along (Err e) is = along e is

-- ---- two tries in hand, that of the greater value first

-- their words are in order, and what is made of them is the operation's answer
pub record AreTried (operation : Operation) (candidates : Ends → Ends → List Operands) (a_ends m_ends : Ends) (greatest least : Result ℕ Operands) : Type 0 where
  pub ordered : (l g : ℕ) → least ≡ Ok l → greatest ≡ Ok g → val l ≤ℤ val g
  pub answers : (answer : Result Range Operands) → IsSpanned greatest least answer → Answers range_meaning operation candidates a_ends m_ends answer

pub tried_of : (operation : Operation) (number : Operands → ℤ) (candidates : Ends → Ends → List Operands) (a_ends m_ends : Ends) (low high : Operands)
    → IsExact operation number a_ends m_ends → IsSpan number a_ends m_ends low high
    → ((e : Operands) → IsFirstOverflow operation a_ends m_ends (high ∷ low ∷ []) e → IsFirstOverflow operation a_ends m_ends (candidates a_ends m_ends) e)
    → (greatest least : Result ℕ Operands) → greatest ≡ tried operation high → least ≡ tried operation low → AreTried operation candidates a_ends m_ends greatest least
tried_of operation number candidates a_ends m_ends low high is_exact is_span along greatest least h k = record {
  ordered = λ l g p q. spanned_ordered operation number a_ends m_ends low high is_exact is_span l g (sym k ∙ p) (sym h ∙ q);
  answers = λ answer is. answers_along operation a_ends m_ends (λ a m. high ∷ low ∷ []) candidates along answer
      (spanned_answers operation number a_ends m_ends low high is_exact is_span greatest least (sym h) (sym k) answer is);
}
