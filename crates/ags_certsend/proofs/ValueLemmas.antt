-- A value that is printed spells the value, in its fields.
use Rattle.std.proofs.Common.{◌≡◌, ℕ, suc, ◌+◌, ◌-◌, ◌*◌, ◌^◌, ◌<◌, ◌≤◌, true, false, eqb, List, [], ◌∷◌, ◌++◌, length, map, Some, refl, sym, ap, ◌∙◌, inl, inr, append_assoc, append-nil, codes, arith, ℤ, pos, negsuc}
use Rattle.std.specs.Fmt.{decimal, signed_decimal}
use Rattle.std.proofs.lemmas.Bool.{cases_Bool, cases_lt, and_parts, eqb-true}
use Rattle.std.proofs.lemmas.Bool.Decides.{nat_tests}
use Rattle.std.proofs.lemmas.Fmt.{decimal_is_IsNumeral, length-decimal-le}
use Rattle.std.proofs.lemmas.Int.{ints}
use Rattle.ags_text.specs.Numeral.{IsDecimal, octal6_text}
use Rattle.ags_text.proofs.NumeralLemmas.{writes}
use Rattle.ags_word.specs.Word.{val}
use Rattle.ags_word.proofs.WordLaws.{val-low, val-high, fits-val, wrap-val}
use Rattle.ags_domain.specs.Domain.{IsFull}
use Rattle.ags_domain.specs.LowBits.{all_ones}
use Rattle.ags_domain.specs.Range.{range_ends}
use Rattle.ags_domain.specs.Value.{value_meaning}
use Rattle.ags_domain.specs.ValueText.{are_full, words_text, value_text}
use Rattle.ags_domain.specs.WordSet.{ascends_from}
use Rattle.ags_domain.specs.declared.ranges.Range.{Range as TheRange}
use Rattle.ags_domain.specs.declared.values.Value.{Value}
use Rattle.ags_domain.specs.declared.values.Value.TheVariants.{Range, Words}
use Rattle.ags_domain.specs.declared.word_sets.WordSet.{WordSet}
use Rattle.ags_domain.proofs.PartLaws.{full}
use Rattle.ags_domain.proofs.ValueLaws.{full_value}
use Rattle.ags_certtext.specs.Spelling.{IsSigned, is_offset, AreWords, StateValue}
use Rattle.ags_certsend.proofs.ShownLemmas.{IsShown, shown-append, shown-weaker, digits_shown, octal_shown}

-- ---- signed numbers

decimal_spells : (n : ℕ) → n < 10 ^ 6 → IsDecimal 6 (decimal n) n
decimal_spells n small =
    let is = decimal_is_IsNumeral n (omega (arith, small)) in
    record { digits = is.0; fits = length-decimal-le 6 n (omega arith) small (omega (arith, small)); value = sym is.1 }

decimal_shown : (n : ℕ) → n < 10 ^ 6 → IsShown 6 (decimal n)
decimal_shown n small =
    let is = decimal_spells n small in
    record { plain = digits_shown 10 (decimal n) (omega arith) is.digits.1; short = is.fits }

-- a number, as it is printed
pub record IsPrinted (number : ℤ) : Type 0 where
  pub spelled : IsSigned (signed_decimal number) number
  pub shown : IsShown 7 (signed_decimal number)

printed_positive : (n : ℕ) → n < 10 ^ 6 → IsPrinted (pos n)
printed_positive n small = record {
  spelled = record { negative = false; digits = decimal n; size = n; whole = refl; is_decimal = decimal_spells n small; number_is = refl };
  shown = shown-weaker 6 7 (decimal n) (omega arith) (decimal_shown n small);
}

printed_negative : (n : ℕ) → suc n < 10 ^ 6 → IsPrinted (negsuc n)
printed_negative n small = record {
  spelled = record { negative = true; digits = decimal (suc n); size = suc n; whole = refl; is_decimal = decimal_spells (suc n) small; number_is = refl };
  shown = shown-append 1 6 (45 ∷ []) (decimal (suc n)) (record { plain = refl; short = omega arith }) (decimal_shown (suc n) small);
}

negative_val : (w : ℕ) → 2 ^ 17 ≤ w → w < 2 ^ 18 → val w ≡ negsuc (2 ^ 18 - w - 1)
negative_val w from below = val-high w from ∙ grind (arith, ints)

printed_val : (w : ℕ) → w < 2 ^ 18 → IsPrinted (val w)
printed_val w below =
    elim (cases_lt w (2 ^ 17)) [
      | inl low ↦ rw (val-low w low) (printed_positive w (omega (arith, low)))
      | inr from ↦ rw (negative_val w from below) (printed_negative (2 ^ 18 - w - 1) (omega (arith, from, below)))
    ]

-- so is a difference of two words' values
pub printed_offset : (number : ℤ) → is_offset number ≡ true → IsPrinted number
printed_offset (pos n) is = printed_positive n (few n is)
  where
    few : (n : ℕ) → is_offset (pos n) ≡ true → n < 10 ^ 6
    few n is = grind (arith, ints, nat_tests)
printed_offset (negsuc n) is = printed_negative n (few n is)
  where
    few : (n : ℕ) → is_offset (negsuc n) ≡ true → suc n < 10 ^ 6
    few n is = grind (arith, ints, nat_tests)

-- ---- fields with a blank before each

unfoldable pub spaced : List (List ℕ) → List ℕ
spaced [] = []
spaced (field ∷ fields) = 32 ∷ (field ++ spaced fields)

pub spaced-append : (fields more : List (List ℕ)) → spaced (fields ++ more) ≡ spaced fields ++ spaced more
unfolding spaced
spaced-append [] more = refl
spaced-append (field ∷ fields) more =
    ap (λ (text : List ℕ). 32 ∷ (field ++ text)) (spaced-append fields more) ∙ ap (λ (text : List ℕ). 32 ∷ text) (sym (append_assoc field (spaced fields) (spaced more)))

spaced_words : (words : List ℕ) → spaced (map octal6_text words) ≡ words_text words
unfolding spaced
spaced_words [] = refl
spaced_words (word ∷ words) = ap (λ (text : List ℕ). 32 ∷ (octal6_text word ++ text)) (spaced_words words)

-- the fields of a value that is printed
pub record IsValueText (value : Value) : Type 0 where
  pub fields : List (List ℕ)
  pub text : spaced fields ≡ 32 ∷ value_text value
  pub states : StateValue fields (Some value)
  pub shown : IsShown 117 (value_text value)

-- the range of all words holds every word
pub full_holds : (range : TheRange) → are_full (range_ends range) ≡ true → IsFull value_meaning (Range range)
full_holds range is =
    let parts = and_parts (eqb range.least (2 ^ 17)) (eqb range.greatest all_ones) is in
    full_value range (full range (rw (eqb-true range.least (2 ^ 17) parts.0, eqb-true range.greatest all_ones parts.1) refl))

full_text : (range : TheRange) → are_full (range_ends range) ≡ true → IsValueText (Range range)
unfolding spaced
full_text range is = record {
  fields = codes "ANY" ∷ [];
  text = rw is refl;
  states = inl (refl, full_holds range is);
  shown = rw is (record { plain = refl; short = omega arith });
}

ends_fields : TheRange → List (List ℕ)
ends_fields range = codes "RANGE" ∷ signed_decimal (val range.least) ∷ signed_decimal (val range.greatest) ∷ []

range_text : (range : TheRange) → are_full (range_ends range) ≡ false → IsValueText (Range range)
unfolding spaced ends_fields
range_text range is =
    let least : List ℕ = signed_decimal (val range.least) in
    let greatest : List ℕ = signed_decimal (val range.greatest) in
    let first = printed_val range.least range.least_word in
    let second = printed_val range.greatest range.greatest_word in
    record {
      fields = ends_fields range;
      text = rw is (ap (λ (text : List ℕ). 32 ∷ (codes "RANGE " ++ text)) (ap (λ (text : List ℕ). least ++ (32 ∷ text)) (append-nil greatest)) ∙ simp append_assoc refl);
      states = inr (
        val range.least,
        val range.greatest,
        record {
          first = least;
          second = greatest;
          are = refl;
          least_is = first.spelled;
          greatest_is = second.spelled;
          least_fits = fits-val range.least range.least_word;
          greatest_fits = fits-val range.greatest range.greatest_word;
        },
        (
          fits-val range.least range.least_word,
          fits-val range.greatest range.greatest_word,
          range.ordered,
          rw (wrap-val range.least range.least_word, wrap-val range.greatest range.greatest_word) refl,
        ),
      );
      shown = rw is (shown-weaker (6 + 7 + 1 + 7) 117 _ (omega arith) (shown-append (6 + 7 + 1) 7 (codes "RANGE " ++ least ++ codes " ") greatest
          (shown-append (6 + 7) 1 (codes "RANGE " ++ least) (codes " ") (shown-append 6 7 (codes "RANGE ") least (record { plain = refl; short = omega arith }) first.shown) (record { plain = refl; short = omega arith }))
          second.shown));
    }

-- the words of a set
word_parts : (from word : ℕ) (words : List ℕ) → ascends_from from (word ∷ words) ≡ true → (word < 2 ^ 18) × (ascends_from (word + 1) words ≡ true)
word_parts from word words is = (grind (arith, nat_tests), grind (arith, nat_tests))

words_spelled : (from : ℕ) (words : List ℕ) → ascends_from from words ≡ true → AreWords (map octal6_text words) words
words_spelled from [] is = tt
words_spelled from (word ∷ words) is =
    let parts = word_parts from word words is in
    (writes 8 6 word (omega arith) (omega arith) (omega (arith, parts.0)), words_spelled (word + 1) words parts.1)

words_shown : (from : ℕ) (words : List ℕ) → ascends_from from words ≡ true → IsShown (7 * length words) (words_text words)
words_shown from [] is = record { plain = refl; short = omega arith }
words_shown from (word ∷ words) is =
    let parts = word_parts from word words is in
    let rest = words_shown (word + 1) words parts.1 in
    let here = shown-append (1 + 6) (7 * length words) (codes " " ++ octal6_text word) (words_text words)
    (shown-append 1 6 (codes " ") (octal6_text word) (record { plain = refl; short = omega arith }) (octal_shown 6 word (omega (arith, parts.0)))) rest in
    shown-weaker (1 + 6 + 7 * length words) (7 * length (word ∷ words)) _ (omega arith) here

set_text : (set : WordSet) → IsValueText (Words set)
unfolding spaced
set_text set = record {
  fields = codes "WORDS" ∷ map octal6_text set.list;
  text = ap (λ (text : List ℕ). 32 ∷ (codes "WORDS" ++ text)) (spaced_words set.list);
  states = (map octal6_text set.list, refl, words_spelled 0 set.list set.ascending);
  shown = let few = set.few in shown-weaker (5 + 7 * length set.list) 117 _ (omega (arith, few)) (shown-append 5 (7 * length set.list) (codes "WORDS") (words_text set.list)
      (record { plain = refl; short = omega arith }) (words_shown 0 set.list set.ascending));
}

pub value_spelled : (value : Value) → IsValueText value
value_spelled (Range range) =
    elim (cases_Bool (are_full (range_ends range))) [
      | inl is ↦ full_text range is
      | inr is ↦ range_text range is
    ]
value_spelled (Words set) = set_text set
