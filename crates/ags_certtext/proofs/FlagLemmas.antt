-- The digits of flags.
use Rattle.std.proofs.Common.{◌≡◌, ℕ, ◌+◌, ◌<◌, ◌≤◌, ◌==◌, Bool, true, false, List, [], ◌∷◌, ◌++◌, length, take, drop, get_or, set, refl, sym, ap, ◌∙◌, append_assoc, inl, inr, arith}
use Rattle.std.proofs.lemmas.Bool.{cases_Bool, eqb-true}
use Rattle.std.proofs.lemmas.List.{take_more_set, take_more, drop_more, length-set, take_all, append-nil}
use Rattle.ags_row.specs.Flag.{some_flag}
use Rattle.ags_certtext.specs.Spelling.{flag_digits}
use Rattle.ags_certtext.specs.Front.{digit_front, AreFlags}

-- the digits go up
first_above : (digit : ℕ) (flags : List Bool) (b : ℕ) (text : List ℕ) → flag_digits digit flags ≡ b ∷ text → digit ≤ b
first_above digit [] b text is = absurd cc
first_above digit (true ∷ flags) b text is = let same : digit ≡ b = cc in omega (arith, same)
first_above digit (false ∷ flags) b text is = let more : digit + 1 ≤ b = first_above (digit + 1) flags b text is in omega (arith, more)

none_left : (text : List ℕ) → length text ≡ 0 → text ≡ []
none_left [] none = refl
none_left (b ∷ text) none = absurd (omega (arith, none))

-- an empty text, and one that isn't
pub empty_text : (text : List ℕ) → (length text == 0) ≡ true → length text ≡ 0
empty_text text is = eqb-true (length text) 0 is

pub some_text : (text : List ℕ) → (length text == 0) ≡ false → 0 < length text
some_text [] is = absurd cc
some_text (b ∷ text) is = omega arith

-- one flag of a text's digits
pub flag_step : (digit : ℕ) (flag : Bool) (flags : List Bool) (found : Bool) (text rest : List ℕ) → text ≡ digit_front digit found rest
    → (found ≡ false → (others : List ℕ) → text ≡ digit_front digit true others → ⊥) → flag_digits digit (flag ∷ flags) ≡ text
    → (flag ≡ found) × (flag_digits (digit + 1) flags ≡ rest)
flag_step digit true flags true text rest whole other is = (refl, cc)
flag_step digit true flags false text rest whole other is = absurd (other refl (flag_digits (digit + 1) flags) (sym is))
flag_step digit false flags true text rest whole other is =
    let above : digit + 1 ≤ digit = first_above (digit + 1) flags digit rest (is ∙ whole) in absurd (omega (arith, above))
flag_step digit false flags false text rest whole other is = (refl, is ∙ whole)

pub flag_front : (digit : ℕ) (found : Bool) (flags : List Bool) (text rest : List ℕ) → text ≡ digit_front digit found rest → flag_digits (digit + 1) flags ≡ rest
    → flag_digits digit (found ∷ flags) ≡ text
flag_front digit true flags text rest whole is = ap (λ (t : List ℕ). digit ∷ t) is ∙ sym whole
flag_front digit false flags text rest whole is = is ∙ sym whole

-- where no flag is set there are no digits, and where one is there are some
pub no_digits : (digit : ℕ) (flags : List Bool) → some_flag flags ≡ false → flag_digits digit flags ≡ []
no_digits digit [] none = refl
no_digits digit (true ∷ flags) none = absurd cc
no_digits digit (false ∷ flags) none = no_digits (digit + 1) flags none

pub some_digits : (digit : ℕ) (flags : List Bool) → some_flag flags ≡ true → 0 < length (flag_digits digit flags)
some_digits digit [] some = absurd cc
some_digits digit (true ∷ flags) some = omega arith
some_digits digit (false ∷ flags) some = some_digits (digit + 1) flags some

pub some_set : (digit : ℕ) (flags : List Bool) (text : List ℕ) → flag_digits digit flags ≡ text → 0 < length text → some_flag flags ≡ true
some_set digit flags text is some =
    elim (cases_Bool (some_flag flags)) [
      | inl set ↦ set
      | inr none ↦ absurd (omega (arith, some, ap length (sym is ∙ no_digits digit flags none)))
    ]

-- no flags have no digits
pub no_flags : (count : ℕ) (text : List ℕ) (flags : List Bool) → length text ≡ 0 → AreFlags count text flags → ⊥
no_flags count text flags none are = let some = some_digits 48 flags are.some in let same = ap length are.digits in omega (arith, none, some, same)

-- so many flags are set as the digits of a text say, and this is left
pub record Marking (text : List ℕ) (flags : List Bool) (rest : List ℕ) (index : ℕ) : Type 0 where
  pub long : length flags ≡ 8
  pub found : (tail : List Bool) → flag_digits (48 + index) tail ≡ rest → flag_digits 48 (take index flags ++ tail) ≡ text
  pub only : (marked : List Bool) → length marked ≡ 8 → flag_digits 48 marked ≡ text → (take index marked ≡ take index flags) × (flag_digits (48 + index) (drop index marked) ≡ rest)

pub marking_more : (text : List ℕ) (flags : List Bool) (rest : List ℕ) (index : ℕ) (found : Bool) (behind : List ℕ) → index < 8 → Marking text flags rest index
    → rest ≡ digit_front (48 + index) found behind → (found ≡ false → (others : List ℕ) → rest ≡ digit_front (48 + index) true others → ⊥)
    → Marking text (set flags index found) behind (index + 1)
marking_more text flags rest index found behind within so whole other = record {
  long = length-set flags index found ∙ so.long;
  found = λ tail is.
      let at : 48 + (index + 1) ≡ 48 + index + 1 = omega arith in
      let here = so.found (found ∷ tail) (flag_front (48 + index) found tail rest behind whole (rw (← at) is)) in
      ap (λ (front : List Bool). flag_digits 48 (front ++ tail)) (take_more_set flags index found (rw so.long within))
      ∙ ap (flag_digits 48) (append_assoc (take index flags) (found ∷ []) tail) ∙ here;
  only = λ marked eight is.
      let before = so.only marked eight is in
      let some : index < length marked = rw eight within in
      let at : 48 + (index + 1) ≡ 48 + index + 1 = omega arith in
      let step = flag_step (48 + index) (get_or marked index false) (drop (index + 1) marked) found rest behind whole other
      (ap (flag_digits (48 + index)) (sym (drop_more marked index false some)) ∙ before.1) in (
        take_more marked index false some ∙ ap (λ (front : List Bool). front ++ get_or marked index false ∷ []) before.0 ∙ ap (λ (flag : Bool). take index flags ++ flag ∷ []) step.0
            ∙ sym (take_more_set flags index found (rw so.long within)),
        rw (at) step.1,
      );
}

pub marking_whole : (text : List ℕ) (flags : List Bool) (rest : List ℕ) (index : ℕ) → 8 ≤ index → 0 < length text → Marking text flags rest index → length rest ≡ 0 → AreFlags 8 text flags
marking_whole text flags rest index past some so none =
    let whole : flag_digits 48 flags ≡ text =
    ap (flag_digits 48) (sym (append-nil flags) ∙ ap (λ (front : List Bool). front ++ []) (sym (take_all index flags (rw so.long past)))) ∙ so.found [] (sym (none_left rest none)) in
    record { count_is = so.long; some = some_set 48 flags text whole some; digits = sym whole }

pub two_only : (text : List ℕ) (clear set : Bool) (behind rest : List ℕ) (flags : List Bool) → text ≡ digit_front 48 clear behind → behind ≡ digit_front 49 set rest
    → (clear ≡ false → (others : List ℕ) → text ≡ digit_front 48 true others → ⊥) → (set ≡ false → (others : List ℕ) → behind ≡ digit_front 49 true others → ⊥)
    → AreFlags 2 text flags → (flags ≡ clear ∷ set ∷ []) × (rest ≡ [])
two_only text clear set behind rest [] first second no_first no_second are = absurd (let count : 0 ≡ 2 = are.count_is in omega (arith, count))
two_only text clear set behind rest (one ∷ []) first second no_first no_second are = absurd (let count : 1 ≡ 2 = are.count_is in omega (arith, count))
two_only text clear set behind rest (one ∷ two ∷ three ∷ flags) first second no_first no_second are = absurd (let count = are.count_is in omega (arith, count))
two_only text clear set behind rest (one ∷ two ∷ []) first second no_first no_second are =
    let begin = flag_step 48 one (two ∷ []) clear text behind first no_first (sym are.digits) in
    let end = flag_step 49 two [] set behind rest second no_second begin.1 in
    (rw (begin.0, end.0) refl, sym end.1)
