-- Each set that a line tells is there, each set has its parts by sign or none, and inclusion is decided.
use Rattle.std.proofs.Common.{◌≡◌, ℕ, zero, suc, ◌<◌, ◌-◌, ◌^◌, Bool, true, false, refl, sym, ap, subst, ◌∙◌, ⊎_elim, arith, List, [], ◌∷◌, length, pos, negsuc, ℤ, ◌≤ℤ◌}
use Rattle.std.specs.Prelude.{◌||◌, eqb, Option, Some, None, ⊤}
use Rattle.std.specs.Int.{int_max, int_min}
use Rattle.std.specs.Int.RustNames.{int_le}
use Rattle.std.specs.List.{filter}
use Rattle.std.proofs.lemmas.Int.{ints}
use Rattle.std.proofs.lemmas.Bool.{cases_eq}
use Rattle.ags_word.specs.Word.{val, wrap, fits}
use Rattle.ags_word.proofs.WordLaws.{val_least, val_most, val-wrap, wrap_below, fits_in}
use Rattle.ags_domain.specs.LowBits.{all_ones}
use Rattle.ags_domain.specs.WordSet.{ascends_from, lists}
use Rattle.ags_domain.specs.Domain.{Ranged, IsAlone, IsPart, IsWithin, is_negative, is_not_negative, has_value_between}
use Rattle.ags_domain.specs.Range.{range_meaning, IsRangeOf}
use Rattle.ags_domain.specs.Value.{value_meaning}
use Rattle.ags_domain.specs.ListLaws.{ascends_cons, ascends_filter, length_filter}
use Rattle.ags_domain.specs.declared.ranges.Range.{Range}
use Rattle.ags_domain.specs.declared.word_sets.WordSet.{WordSet}
use Rattle.ags_domain.specs.declared.values.Value.{Value}
use Rattle.ags_domain.specs.declared.values.Value.TheVariants.{Range as ByEnds, Words}
use Rattle.ags_domain.proofs.PartLaws.{first_last, full, part_as, part_between, between_negative, between_rest}
use Rattle.ags_domain.proofs.ValueLaws.{full_value, words_part, no_words_part}
use Rattle.ags_row.specs.declared.ats.At.{At}
use Rattle.ags_safe.specs.Told.{Told, OneWord, These, EveryWord, IsTold, Store, AreCellsTold}
use Rattle.ags_check.proofs.RangeLemmas.{some_range, some_set}

-- ---- one word, and all words

one_word_ascends : (word : ℕ) → word < 2 ^ 18 → ascends_from 0 (word ∷ []) ≡ true
one_word_ascends word is = ascends_cons 0 word [] (omega arith) is refl

or_false : (b : Bool) → (b || false) ≡ b
or_false true = refl
or_false false = refl

pub set_of_one : (word : ℕ) → word < 2 ^ 18 → (set : WordSet) × (set.list ≡ word ∷ [])
set_of_one word is = some_set (word ∷ []) (one_word_ascends word is) (omega arith) (omega arith)

alone : (word : ℕ) → word < 2 ^ 18 → (d : Value) × IsAlone value_meaning word d
alone word is =
    let set = set_of_one word is in
    (Words set.0, record { kept = refl; alone = λ w below. ap (λ ws. lists ws w) set.1 ∙ or_false (eqb word w) })

-- what is told can be told: one word is a word of the machine
abbrev pub CanBeTold : Told Value → Type 0
CanBeTold (OneWord word) = word < 2 ^ 18
CanBeTold (These d) = ⊤
CanBeTold EveryWord = ⊤

pub some_told : (told : Told Value) → CanBeTold told → (d : Value) × IsTold value_meaning told d
some_told (OneWord word) is = alone word is
some_told (These d) is = (d, refl)
some_told EveryWord is =
    let range = some_range (2 ^ 17) all_ones (omega arith) (omega arith) first_last in
    (ByEnds range.0, full_value range.0 (full range.0 range.1))

abbrev pub CanBeStored : Option (Store Value) → Type 0
CanBeStored None = ⊤
CanBeStored (Some store) = CanBeTold store.value

pub some_cell : (store : Option (Store Value)) → CanBeStored store → (cell : Option (At Value)) × AreCellsTold value_meaning store cell
some_cell None is = (None, tt)
some_cell (Some store) is =
    let value = some_told store.value is in
    (Some (record { address = store.address; value = value.0 }), (refl, value.1))

-- ---- parts

not_empty : (words : List ℕ) → (words ≡ [] → ⊥) → 0 < length words
not_empty [] h = absurd (h refl)
not_empty (word ∷ words) h = omega arith

abbrev HasPart : (ℕ → Bool) → Value → Type 0
HasPart chosen d = (part : Option Value) × IsPart value_meaning chosen d part

part_of_set : (chosen : ℕ → Bool) (set : WordSet) → HasPart chosen (Words set)
part_of_set chosen set = by (filter chosen set.list) refl
  where
    by : (words : List ℕ) → filter chosen set.list ≡ words → HasPart chosen (Words set)
    by [] is = (None, no_words_part chosen set is)
    by (word ∷ words) is =
        let fewer = length_filter chosen set.list in
        let few = set.few in
        let same : length (filter chosen set.list) ≡ length (word ∷ words) = ap (λ ws. length ws) is in
        let part = some_set (filter chosen set.list) (ascends_filter chosen 0 set.list set.ascending) (omega arith) (omega arith) in
        (Some (Words part.0), words_part chosen set part.0 part.1)

module _ (r : Range) (least greatest : ℤ) where
  abbrev from : ℤ
  from = int_max least (val r.least)

  abbrev to : ℤ
  to = int_min greatest (val r.greatest)

  least_from : val r.least ≤ℤ from
  least_from = grind (arith, ints)

  to_greatest : to ≤ℤ val r.greatest
  to_greatest = grind (arith, ints)

  ends_fit : from ≤ℤ to → (fits from ≡ true) × (fits to ≡ true)
  ends_fit ordered =
      let low = least_from in
      let high = to_greatest in
      let least_is = val_least r.least r.least_word in
      let most_is = val_most r.greatest r.greatest_word in
      (fits_in from (omega (arith, ints)) (omega (arith, ints)), fits_in to (omega (arith, ints)) (omega (arith, ints)))

  range_from : (b : Bool) → int_le from to ≡ b → (part : Option Range) × IsRangeOf from to part
  range_from true is =
      let ordered : from ≤ℤ to = grind (arith, ints, is) in
      let fit = ends_fit ordered in
      let low : val (wrap from) ≡ from = val-wrap from fit.0 in
      let high : val (wrap to) ≡ to = val-wrap to fit.1 in
      let range = some_range (wrap from) (wrap to) (wrap_below from) (wrap_below to) (omega (arith, ints)) in
      (Some range.0, (fit.0, fit.1, ordered, range.1))
  range_from false is = (None, λ from_fits to_fits. grind (arith, ints, is))

  part_of_range : HasPart (has_value_between least greatest) (ByEnds r)
  part_of_range =
      let range = range_from (int_le from to) refl in
      by range.0 (part_between r least greatest from to refl refl range.0 range.1)
    where
      by : (part : Option Range) → IsPart range_meaning (has_value_between least greatest) r part → HasPart (has_value_between least greatest) (ByEnds r)
      by None is = (None, is)
      by (Some part) is = (Some (ByEnds part), (refl {a = Ranged}, is.1))

-- each set has the part of its words whose value lies between two numbers, or none
pub part_inside : (least greatest : ℤ) (d : Value) → HasPart (has_value_between least greatest) d
part_inside least greatest (ByEnds r) = part_of_range r least greatest
part_inside least greatest (Words set) = part_of_set (has_value_between least greatest) set

part_by : (p q : ℕ → Bool) (d : Value) → ((w : ℕ) → w < 2 ^ 18 → p w ≡ q w) → HasPart p d → HasPart q d
part_by p q d same part = (part.0, part_as value_meaning p q same d part.0 part.1)

pub negative_part : (d : Value) → HasPart is_negative d
negative_part d = part_by (has_value_between (negsuc 131071) (negsuc 0)) is_negative d between_negative (part_inside (negsuc 131071) (negsuc 0) d)

pub rest_part : (d : Value) → HasPart is_not_negative d
rest_part d = part_by (has_value_between (pos 0) (pos 131071)) is_not_negative d between_rest (part_inside (pos 0) (pos 131071) d)

-- ---- inclusion

module _ (inner outer : ℕ → Bool) where
  abbrev AreIn : ℕ → Type 0
  AreIn bound = (w : ℕ) → w < bound → inner w ≡ true → outer w ≡ true

  one_more : (bound : ℕ) → AreIn bound → (i o : Bool) → inner bound ≡ i → outer bound ≡ o → Dec (AreIn (suc bound))
  one_more bound all i true is is_out = yes (λ w below held. ⊎_elim
      (λ same. subst (λ (v : ℕ). outer v ≡ true) (sym same) is_out) (λ apart. all w (omega (arith, apart)) held) (cases_eq w bound))
  one_more bound all true false is is_out = no (λ h. let out = h bound (omega arith) is in cc)
  one_more bound all false false is is_out = yes (λ w below held. ⊎_elim
      (λ same. absurd (let in_it = subst (λ (v : ℕ). inner v ≡ true) same held in cc)) (λ apart. all w (omega (arith, apart)) held) (cases_eq w bound))

  step : (bound : ℕ) → Dec (AreIn bound) → Dec (AreIn (suc bound))
  step bound (yes all) = one_more bound all (inner bound) (outer bound) refl refl
  step bound (no n) = no (λ h. n (λ w below. h w (omega arith)))

  are_in : (bound : ℕ) → Dec (AreIn bound)
  are_in zero = yes (λ w below. absurd (omega arith))
  are_in (suc bound) = step bound (are_in bound)

pub is_within : (inner outer : Value) → Dec (IsWithin value_meaning inner outer)
is_within inner outer = are_in (value_meaning.held inner) (value_meaning.held outer) (2 ^ 18)
