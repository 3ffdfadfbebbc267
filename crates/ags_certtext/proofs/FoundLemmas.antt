-- What each part of a line is read as, over every text: one thing is found of which a relation holds, or it holds of nothing.
use Rattle.std.proofs.Common.{◌≡◌, ℕ, zero, suc, ◌-◌, ◌≤◌, ◌^◌, cond, eqb, ◌⊎◌, Bool, true, false, List, [], ◌∷◌, length, get_or, Option, Some, None, refl, sym, ap, ◌∙◌, inl, inr, arith}
use Rattle.std.specs.Prelude.{ℤ, pos, neg_ℤ, ◌≤ℤ◌, ◌<ℤ◌, if◌then◌else◌}
use Rattle.std.specs.Str.Parse.{digits_value}
use Rattle.std.proofs.lemmas.Bool.{cases_eq}
use Rattle.std.proofs.lemmas.Int.{ints, by_lt_z}
use Rattle.ags_text.specs.Field.{next_field, behind_field}
use Rattle.ags_text.specs.Numeral.{IsDecimal, Writes}
use Rattle.ags_text.proofs.Deciding.{decide_bool, decide_list, decide_le, decide_writes, number_found}
use Rattle.ags_word.specs.Word.{val, fits, wrap}
use Rattle.ags_word.proofs.WordLaws.{wrap_below, val-wrap, val_least, val_most}
use Rattle.ags_domain.specs.Domain.{IsFull}
use Rattle.ags_domain.specs.Value.{value_meaning}
use Rattle.ags_domain.specs.WordSet.{ascends_from}
use Rattle.ags_domain.specs.MeaningLaws.{lies_inside}
use Rattle.ags_domain.specs.Range.{range_ends}
use Rattle.ags_domain.specs.declared.ranges.Range.{Range as RangeOf}
use Rattle.ags_domain.specs.declared.word_sets.WordSet.{WordSet}
use Rattle.ags_domain.specs.declared.values.Value.{Value}
use Rattle.ags_domain.specs.declared.values.Value.TheVariants.{Range, Words}
use Rattle.ags_certtext.specs.declared.forms.Form.{Form}
use Rattle.ags_certtext.specs.declared.forms.Form.TheVariants as form
use Rattle.ags_certtext.specs.Spelling.{IsSigned, is_offset, AreWords}
use Rattle.ags_certtext.specs.Front.{AreAtFront, BeginsWithWord, BeginsWithValue, BeginsWithEnds, BeginsWithWords, BeginsWithNamed, IsValueBetween, IsEnd, IsOffset, IsEveryWord, form_name, IsInForm}
use Rattle.ags_certtext.proofs.ValueLemmas.{every_one, range_one, set_one}
use Rattle.ags_certtext.proofs.WordLemmas.{munch}
use Rattle.ags_certtext.proofs.FrontLemmas.{form_value, value_form}

-- this has the property, and nothing else
pub record Only (A : Type 0) (P : A → Type 0) : Type 0 where
  pub it : A
  pub is : P it
  pub one : (other : A) → P other → other ≡ it

-- one thing has the property, or nothing
abbrev pub OneFound : (A : Type 0) → (A → Type 0) → Type 0
OneFound A P = Only A P ⊎ ((x : A) → P x → ⊥)

-- a value stands at a front before this rest, and no other, where no word stands after it
pub record OnlyFront (P : Option Value → List ℕ → Type 0) : Type 0 where
  pub value : Option Value
  pub rest : List ℕ
  pub is : P value rest
  pub one : (other : Option Value) (behind : List ℕ) → P other behind → (BeginsWithWord behind → ⊥) → (other ≡ value) × (behind ≡ rest)

-- one value stands at a front, or none
abbrev pub FrontFound : (Option Value → List ℕ → Type 0) → Type 0
FrontFound P = OnlyFront P ⊎ ((value : Option Value) (rest : List ℕ) → P value rest → (BeginsWithWord rest → ⊥) → ⊥)

-- ---- numbers

pub written_found : (width : ℕ) (text : List ℕ) → OneFound ℕ (λ number. Writes 8 width text number)
written_found width text =
    elim (decide_writes 8 width text (digits_value 8 text)) [
      | inl is ↦ inl (record { it = digits_value 8 text; is = is; one = λ other also. sym also.value })
      | inr fails ↦ inr (λ number is. fails (record { length = is.length; digits = is.digits; value = refl }))
    ]

-- a minus is no digit
no_minus : (digits : List ℕ) (size : ℕ) → IsDecimal 6 (45 ∷ digits) size → ⊥
no_minus digits size is = let minus = is.digits.1.0 in omega (arith, minus)

-- a signed number that begins with a minus
minus_is : (text : List ℕ) (number : ℤ) (negative : Bool) (digits : List ℕ) (size : ℕ) → 45 ∷ text ≡ (if negative then 45 ∷ digits else digits) → IsDecimal 6 digits size
    → number ≡ (if negative then neg_ℤ (pos size) else pos size) → IsDecimal 6 text size × (number ≡ neg_ℤ (pos size))
minus_is text number true digits size whole is same = let at : text ≡ digits = cc in (rw at is, same)
minus_is text number false digits size whole is same = absurd (no_minus text size (rw whole is))

-- and one that doesn't
plain_is : (text : List ℕ) (number : ℤ) (negative : Bool) (digits : List ℕ) (size : ℕ) → (get_or text 0 0 ≡ 45 → ⊥) → text ≡ (if negative then 45 ∷ digits else digits) → IsDecimal 6 digits size
    → number ≡ (if negative then neg_ℤ (pos size) else pos size) → IsDecimal 6 text size × (number ≡ pos size)
plain_is text number true digits size other whole is same = absurd (other (ap (λ (t : List ℕ). get_or t 0 0) whole))
plain_is text number false digits size other whole is same = (rw whole is, same)

minus_found : (text : List ℕ) → OneFound ℤ (IsSigned (45 ∷ text))
minus_found text =
    elim (number_found 10 6 text) [
      | inl found ↦ inl (record {
        it = neg_ℤ (pos found.0);
        is = record { negative = true; digits = text; size = found.0; whole = refl; is_decimal = found.1; number_is = refl };
        one = λ number is.
            let parts = minus_is text number is.negative is.digits is.size is.whole is.is_decimal is.number_is in
            parts.1 ∙ ap (λ n. neg_ℤ (pos n)) (parts.0.value ∙ sym found.1.value);
      })
      | inr none ↦ inr (λ number is. none is.size (minus_is text number is.negative is.digits is.size is.whole is.is_decimal is.number_is).0)
    ]

plain_found : (text : List ℕ) → (get_or text 0 0 ≡ 45 → ⊥) → OneFound ℤ (IsSigned text)
plain_found text other =
    elim (number_found 10 6 text) [
      | inl found ↦ inl (record {
        it = pos found.0;
        is = record { negative = false; digits = text; size = found.0; whole = refl; is_decimal = found.1; number_is = refl };
        one = λ number is.
            let parts = plain_is text number is.negative is.digits is.size other is.whole is.is_decimal is.number_is in
            parts.1 ∙ ap (λ n. pos n) (parts.0.value ∙ sym found.1.value);
      })
      | inr none ↦ inr (λ number is. none is.size (plain_is text number is.negative is.digits is.size other is.whole is.is_decimal is.number_is).0)
    ]

signed_found : (text : List ℕ) → OneFound ℤ (IsSigned text)
signed_found [] = plain_found [] (λ minus. omega (arith, minus))
signed_found (b ∷ text) =
    elim (cases_eq b 45) [
      | inl minus ↦ rw minus (minus_found text)
      | inr other ↦ plain_found (b ∷ text) other
    ]

end_found : (text : List ℕ) → OneFound ℤ (IsEnd text)
end_found text =
    elim (signed_found text) [
      | inr none ↦ inr (λ number is. none number is.is)
      | inl found ↦ elim (decide_bool (fits found.it)) [
        | inl within ↦ inl (record { it = found.it; is = record { is = found.is; within = within }; one = λ other also. found.one other also.is })
        | inr over ↦ inr (λ number is. over (sym (ap fits (found.one number is.is)) ∙ is.within))
      ]
    ]

pub offset_found : (text : List ℕ) → OneFound ℤ (IsOffset text)
offset_found text =
    elim (signed_found text) [
      | inr none ↦ inr (λ number is. none number is.is)
      | inl found ↦ elim (decide_bool (is_offset found.it)) [
        | inl within ↦ inl (record { it = found.it; is = record { is = found.is; within = within }; one = λ other also. found.one other also.is })
        | inr over ↦ inr (λ number is. over (sym (ap is_offset (found.one number is.is)) ∙ is.within))
      ]
    ]

-- ---- values

-- the range of all words
val_first : val (2 ^ 17) ≡ neg_ℤ (pos (2 ^ 17))
unfolding val
val_first = refl

val_last : val (2 ^ 17 - 1) ≡ pos (2 ^ 17 - 1)
unfolding val
val_last = refl

abbrev every : RangeOf
every = record {
  least = 2 ^ 17;
  greatest = 2 ^ 17 - 1;
  least_word = omega arith;
  greatest_word = omega arith;
  ordered = (let first = val_first in let last = val_last in omega (arith, ints));
}

every_full : IsFull value_meaning (Range every)
every_full = record {
  kept = refl;
  every = λ w is.
      let first = val_first in
      let last = val_last in
      let least = val_least w is in
      let most = val_most w is in
      lies_inside (range_ends every) w (omega (arith, ints)) (omega (arith, ints));
}

every_found : Only (Option Value) IsEveryWord
every_found = record {
  it = Some (Range every);
  is = record { every = Range every; value_is = refl; full = every_full };
  one = λ value is. every_one value (Range every) is every_full;
}

-- the range between two ends
between_found : (least greatest : ℤ) → fits least ≡ true → fits greatest ≡ true → Only (Option Value) (IsValueBetween least greatest)
between_found least greatest fits_least fits_greatest = by_lt_z greatest least none some
  where
    none : greatest <ℤ least → Only (Option Value) (IsValueBetween least greatest)
    none below = record { it = None; is = below; one = no_other }
      where
        no_other : (other : Option Value) → IsValueBetween least greatest other → other ≡ None
        no_other None is = refl
        no_other (Some (Words set)) is = absurd is
        no_other (Some (Range range)) is = absurd (let least_first = is.2 in omega (arith, ints, below, least_first))

    some : least ≤ℤ greatest → Only (Option Value) (IsValueBetween least greatest)
    some ordered =
        let low = val-wrap least fits_least in
        let high = val-wrap greatest fits_greatest in
        let range : RangeOf = record {
          least = wrap least;
          greatest = wrap greatest;
          least_word = wrap_below least;
          greatest_word = wrap_below greatest;
          ordered = rw (low, high) ordered;
        } in
        let is : IsValueBetween least greatest (Some (Range range)) = (fits_least, fits_greatest, ordered, refl) in
        record { it = Some (Range range); is = is; one = λ other also. range_one least greatest other range is also }

ends_found : (text : List ℕ) → FrontFound (BeginsWithEnds text)
ends_found text =
    elim (end_found (next_field text)) [
      | inr none ↦ inr (λ value rest is stops. none is.least is.least_is)
      | inl least ↦ elim (end_found (next_field (behind_field text))) [
        | inr none ↦ inr (λ value rest is stops. none is.greatest is.greatest_is)
        | inl greatest ↦ inl (of least greatest (between_found least.it greatest.it least.is.within greatest.is.within))
      ]
    ]
  where
    of : (least : Only ℤ (IsEnd (next_field text))) (greatest : Only ℤ (IsEnd (next_field (behind_field text)))) → Only (Option Value) (IsValueBetween least.it greatest.it)
        → OnlyFront (BeginsWithEnds text)
    of least greatest between = record {
      value = between.it;
      rest = behind_field (behind_field text);
      is = record { least = least.it; greatest = greatest.it; least_is = least.is; greatest_is = greatest.is; value_is = between.is; rest_is = refl };
      one = λ value rest is stops. (
        between.one value (rw (← least.one is.least is.least_is, ← greatest.one is.greatest is.greatest_is) is.value_is),
        sym is.rest_is,
      );
    }

-- as many words as are at the front of a text, and no more than so many
record Taken (most : ℕ) (text : List ℕ) : Type 0 where
  fields : List (List ℕ)
  words : List ℕ
  rest : List ℕ
  front : AreAtFront fields text rest
  are : AreWords fields words
  stops : (BeginsWithWord rest → ⊥) ⊎ (length words ≡ most)
  few : length words ≤ most

taken : (most : ℕ) (text : List ℕ) → Taken most text
taken zero text = record { fields = []; words = []; rest = text; front = refl; are = tt; stops = inr refl; few = omega arith }
taken (suc most) text =
    elim (written_found 6 (next_field text)) [
      | inr none ↦ record { fields = []; words = []; rest = text; front = refl; are = tt; stops = inl (λ word. none word.0 word.1); few = omega arith }
      | inl word ↦ more word.it word.is (taken most (behind_field text))
    ]
  where
    more : (word : ℕ) → Writes 8 6 (next_field text) word → Taken most (behind_field text) → Taken (suc most) text
    more word is later = record {
      fields = next_field text ∷ later.fields;
      words = word ∷ later.words;
      rest = later.rest;
      front = (refl, later.front);
      are = (is, later.are);
      stops = elim later.stops [ inl stop ↦ inl stop | inr full ↦ inr (omega (arith, full)) ];
      few = (let few = later.few in omega (arith, few));
    }

-- they are the words of a set at that front, if any are
words_one : (text : List ℕ) (words : Taken 16 text) (value : Option Value) (rest : List ℕ) → (is : BeginsWithWords text value rest) → (BeginsWithWord rest → ⊥)
    → (is.set.list ≡ words.words) × (words.rest ≡ rest)
words_one text words value rest is stops =
    munch 16 text words.rest rest words.fields is.words words.words is.set.list words.front words.are is.front is.are words.stops is.set.few stops

words_found : (text : List ℕ) → FrontFound (BeginsWithWords text)
words_found text = of (taken 16 text)
  where
    of : Taken 16 text → FrontFound (BeginsWithWords text)
    of words =
        elim (decide_le 1 (length words.words)) [
          | inr none ↦ inr (λ value rest is stops. none (let some = is.set.some in let same = ap length (words_one text words value rest is stops).0 in omega (arith, some, same)))
          | inl some ↦ elim (decide_bool (ascends_from 0 words.words)) [
            | inr fails ↦ inr (λ value rest is stops. fails (rw (← (words_one text words value rest is stops).0) is.set.ascending))
            | inl ascending ↦ inl (with_set (record { list = words.words; ascending = ascending; some = omega (arith, some); few = words.few }) refl)
          ]
        ]
      where
        with_set : (set : WordSet) → set.list ≡ words.words → OnlyFront (BeginsWithWords text)
        with_set set list = record {
          value = Some (Words set);
          rest = words.rest;
          is = record { words = words.fields; set = set; value_is = refl; front = words.front; are = rw list words.are };
          one = λ value rest is stops.
              let one = words_one text words value rest is stops in
              let same = set_one set words.words words.rest value rest list (record { set = is.set; value_is = is.value_is; list_is = one.0; rest_is = one.1 }) in
              (sym same.0, sym same.1);
        }

-- the form of a value, told by the first letter of its name
abbrev form_by : ℕ → Form
form_by letter = cond (eqb letter 65) form.Any (cond (eqb letter 82) form.Ends form.Listed)

form_is : (its : Form) → form_by (get_or (form_name its) 0 0) ≡ its
form_is form.Any = refl
form_is form.Ends = refl
form_is form.Listed = refl

form_found : (name : List ℕ) → OneFound Form (λ its. form_name its ≡ name)
form_found name =
    elim (decide_list (form_name (form_by (get_or name 0 0))) name) [
      | inl is ↦ inl (record { it = form_by (get_or name 0 0); is = is; one = λ its named. sym (form_is its) ∙ ap (λ (t : List ℕ). form_by (get_or t 0 0)) named })
      | inr fails ↦ inr (λ its named. fails (ap (λ (t : List ℕ). form_name (form_by (get_or t 0 0))) (sym named) ∙ ap form_name (form_is its) ∙ named))
    ]

in_form_found : (its : Form) (text : List ℕ) → FrontFound (IsInForm its text)
in_form_found form.Any text =
    inl (record { value = every_found.it; rest = text; is = (every_found.is, refl); one = λ value rest is stops. (every_found.one value is.0, sym is.1) })
in_form_found form.Ends text = ends_found text
in_form_found form.Listed text = words_found text

pub value_found : (text : List ℕ) → FrontFound (BeginsWithValue text)
value_found text =
    elim (form_found (next_field text)) [
      | inr none ↦ inr (λ value rest is stops. let has = value_form text value rest is in none has.its has.named)
      | inl its ↦ of its (in_form_found its.it (behind_field text))
    ]
  where
    of : (its : Only Form (λ its. form_name its ≡ next_field text)) → FrontFound (IsInForm its.it (behind_field text)) → FrontFound (BeginsWithValue text)
    of its (inl front) = inl (record {
      value = front.value;
      rest = front.rest;
      is = form_value its.it text front.value front.rest its.is front.is;
      one = λ value rest is stops. let has = value_form text value rest is in front.one value rest (rw (← its.one has.its has.named) has.is) stops;
    })
    of its (inr none) = inr (λ value rest is stops. let has = value_form text value rest is in none value rest (rw (← its.one has.its has.named) has.is) stops)

pub named_found : (name : ℕ) (text : List ℕ) → FrontFound (BeginsWithNamed name text)
named_found name text =
    elim (decide_list (next_field text) (name ∷ [])) [
      | inr other ↦ inr (λ value rest is stops. other is.named)
      | inl named ↦ elim (value_found (behind_field text)) [
        | inr none ↦ inr (λ value rest is stops. none value rest is.value_is stops)
        | inl front ↦ inl (record {
          value = front.value;
          rest = front.rest;
          is = record { named = named; value_is = front.is };
          one = λ value rest is stops. front.one value rest is.value_is stops;
        })
      ]
    ]
