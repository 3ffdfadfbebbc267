-- The cases of a row are each word with each index and each indicator of it. Behind the law on them are `case_stands`, `case_is`; the
-- crates above cite:
--     cases_each, each_cases    what holds of each such is what holds of each case, both ways
use Rattle.std.proofs.Common.{◌≡◌, ℕ, zero, suc, ◌+◌, Bool, true, false, refl, subst, arith, List, [], ◌∷◌}
use Rattle.std.specs.Prelude.{if◌then◌else◌}
use Rattle.std.specs.List.{AllByRecursion, Contains}
use Rattle.std.proofs.lemmas.List.Elements.{All-contains_itself, All-from_recursion, recursion_from_All}
use Rattle.ags_domain.specs.ListLaws.{lists_head, lists_rest, one_of}
use Rattle.ags_domain.specs.WordSet.{lists}
use Rattle.ags_row.specs.Flag.{has_flag, indicator_number}
use Rattle.ags_row.specs.declared.rows.Row.{Row}
use Rattle.ags_verdict.specs.RowCase.{RowCase, IsCaseOf, flagged, indicators, with_index, with_word, cases_in}
use Rattle.ags_verdict.proofs.EachLemmas.{append_each, left_each, right_each, map_each, each_map, flat_each, each_flat}

module _ (P : ℕ → Type 0) where
  -- ---- the flags that are set

  flagged_each : (number : ℕ) (flags : List Bool) → ((k m : ℕ) → has_flag flags k ≡ true → m ≡ number + k → P m)
      → AllByRecursion P (flagged number flags)
  flagged_each number [] each = tt
  flagged_each number (true ∷ flags) each =
      (each zero number refl (omega arith), flagged_each (number + 1) flags (λ k m set is. each (suc k) m set (omega (arith, is))))
  flagged_each number (false ∷ flags) each = flagged_each (number + 1) flags (λ k m set is. each (suc k) m set (omega (arith, is)))

  each_flagged : (number : ℕ) (flags : List Bool) → AllByRecursion P (flagged number flags) → (k m : ℕ) → has_flag flags k ≡ true
      → m ≡ number + k → P m
  each_flagged number [] each k m set is = absurd cc
  each_flagged number (true ∷ flags) each zero m set is = let same : number ≡ m = omega (arith, is) in subst P same each.0
  each_flagged number (true ∷ flags) each (suc k) m set is = each_flagged (number + 1) flags each.1 k m set (omega (arith, is))
  each_flagged number (false ∷ flags) each zero m set is = absurd cc
  each_flagged number (false ∷ flags) each (suc k) m set is = each_flagged (number + 1) flags each k m set (omega (arith, is))

  -- ---- the words

  words_each : (words : List ℕ) → ((w : ℕ) → lists words w ≡ true → P w) → AllByRecursion P words
  words_each [] each = tt
  words_each (word ∷ words) each =
      (each word (lists_head word words), words_each words (λ w listed. each w (lists_rest word words w listed)))

  each_words : (words : List ℕ) → AllByRecursion P words → (w : ℕ) → lists words w ≡ true → P w
  each_words [] each w listed = absurd cc
  each_words (word ∷ words) each w listed = one_of word words w listed
      (λ same. subst P same each.0)
      (λ later. each_words words each.1 w later)

module _ (P : Bool → Type 0) where
  -- ---- the indicators

  one_each : (flag indicator : Bool) → (flag ≡ true → P indicator) → AllByRecursion P (if flag then indicator ∷ [] else [])
  one_each true indicator each = (each refl, tt)
  one_each false indicator each = tt

  each_one : (flag indicator : Bool) → AllByRecursion P (if flag then indicator ∷ [] else []) → flag ≡ true → P indicator
  each_one true indicator each set = each.0
  each_one false indicator each set = absurd cc

  indicators_each : (flags : List Bool) → ((b : Bool) → has_flag flags (indicator_number b) ≡ true → P b) → AllByRecursion P (indicators flags)
  indicators_each flags each = append_each P (if has_flag flags 0 then false ∷ [] else []) (if has_flag flags 1 then true ∷ [] else [])
      (one_each (has_flag flags 0) false (each false)) (one_each (has_flag flags 1) true (each true))

  each_indicators : (flags : List Bool) → AllByRecursion P (indicators flags) → (b : Bool) → has_flag flags (indicator_number b) ≡ true → P b
  each_indicators flags each false set = each_one (has_flag flags 0) false
      (left_each P (if has_flag flags 0 then false ∷ [] else []) (if has_flag flags 1 then true ∷ [] else []) each) set
  each_indicators flags each true set = each_one (has_flag flags 1) true
      (right_each P (if has_flag flags 0 then false ∷ [] else []) (if has_flag flags 1 then true ∷ [] else []) each) set

module _ {D : Type 0} (row : Row D) (P : RowCase → Type 0) where
  abbrev at : ℕ → ℕ → Bool → RowCase
  at w index indicator = record { word = w; index = index; indicator = indicator }

  abbrev AtIndex : ℕ → ℕ → Type 0
  AtIndex w index = AllByRecursion P (with_index w index (indicators row.v))

  abbrev AtWord : ℕ → Type 0
  AtWord w = AllByRecursion P (with_word w (flagged 0 row.x) (indicators row.v))

  pub cases_each : (words : List ℕ) → ((w index : ℕ) (indicator : Bool) → lists words w ≡ true → has_flag row.x index ≡ true
      → has_flag row.v (indicator_number indicator) ≡ true → P (at w index indicator)) → AllByRecursion P (cases_in row words)
  cases_each words each = flat_each P (λ w. with_word w (flagged 0 row.x) (indicators row.v)) words (words_each AtWord words (λ w listed.
      flat_each P (λ index. with_index w index (indicators row.v)) (flagged 0 row.x) (flagged_each (AtIndex w) 0 row.x (λ k m set is.
      map_each P (at w m) (indicators row.v) (indicators_each (λ b. P (at w m b)) row.v (λ b may.
      each w m b listed (subst (λ (n : ℕ). has_flag row.x n ≡ true) (omega (arith, is)) set) may))))))

  pub each_cases : (words : List ℕ) → AllByRecursion P (cases_in row words) → (w index : ℕ) (indicator : Bool) → lists words w ≡ true
      → has_flag row.x index ≡ true → has_flag row.v (indicator_number indicator) ≡ true → P (at w index indicator)
  each_cases words each w index indicator listed set may =
      let of_word = each_words AtWord words (each_flat P (λ w. with_word w (flagged 0 row.x) (indicators row.v)) words each) w listed in
      let of_index = each_flagged (AtIndex w) 0 row.x (each_flat P (λ index. with_index w index (indicators row.v)) (flagged 0 row.x) of_word)
      index index set (omega arith) in
      each_indicators (λ b. P (at w index b)) row.v (each_map P (at w index) (indicators row.v) of_index) indicator may

-- ---- as elements

module _ {D : Type 0} (row : Row D) (words : List ℕ) where
  pub case_stands : (c : RowCase) → IsCaseOf row words c → Contains (cases_in row words) c
  case_stands c is = each_cases row (Contains (cases_in row words)) words
      (recursion_from_All (Contains (cases_in row words)) (cases_in row words) (All-contains_itself (cases_in row words)))
      c.word c.index c.indicator is.word is.index is.indicator

  each_is : AllByRecursion (IsCaseOf row words) (cases_in row words)
  each_is = cases_each row (IsCaseOf row words) words (λ w index indicator listed set may. record { word = listed; index = set; indicator = may })

  pub case_is : (c : RowCase) → Contains (cases_in row words) c → IsCaseOf row words c
  case_is c stands = subst (IsCaseOf row words) stands.2
      (All-from_recursion (IsCaseOf row words) (cases_in row words) each_is stands.0 c stands.1)
