-- What stands at the front of a text's fields.
use Rattle.std.proofs.Common.{◌≡◌, ℕ, ◌+◌, ◌<◌, ◌≤◌, Bool, true, false, not, List, [], ◌∷◌, ◌++◌, length, Option, Some, None, refl, sym, ap, inl, inr, arith}
use Rattle.std.specs.Prelude.{ℤ, IfSome, codes, if◌then◌else◌}
use Rattle.std.specs.List.{list_all}
use Rattle.std.proofs.lemmas.Bool.{ne_eqb}
use Rattle.ags_text.specs.Field.{is_blank, AreBlanks, HasNoBlank, IsField, AreFields, AreSome, HasFields, AreCut, next_field, behind_field}
use Rattle.ags_text.proofs.FieldLaws.{cut_standing, blanks_none, number_field, writes_field}
use Rattle.ags_domain.specs.Value.{value_meaning}
use Rattle.ags_domain.specs.Domain.{IsFull}
use Rattle.ags_domain.specs.declared.values.Value.{Value}
use Rattle.ags_domain.specs.declared.values.Value.TheVariants.{Range, Words}
use Rattle.ags_row.specs.Flag.{some_flag}
use Rattle.ags_certtext.specs.declared.forms.Form.{Form}
use Rattle.ags_certtext.specs.declared.forms.Form.TheVariants as form
use Rattle.ags_certtext.specs.Spelling.{IsSigned, AreEnds, AreWords, StateValue, flag_digits}
use Rattle.ags_certtext.specs.Front.{AreAtFront, BeginsWithWord, BeginsWithValue, IsValueBetween, IsEnd, IsEveryWord, form_name, IsInForm}
use Rattle.ags_certtext.proofs.FlagLemmas.{some_digits}

-- what holds of something found follows from what else holds of it
pub some_also : {T : Type 0} {P Q : T → Type 0} (found : Option T) → ((x : T) → P x → Q x) → IfSome found P → IfSome found Q
some_also None also is = tt
some_also (Some x) also is = also x is

-- blanks begin with no word
pub no_word : (rest : List ℕ) → AreBlanks rest → BeginsWithWord rest → ⊥
no_word rest are word = let none = ap length (blanks_none rest are).0 in let six = word.1.length in omega (arith, none, six)

-- nor does a field of fewer bytes
pub no_word_name : (rest name : List ℕ) → next_field rest ≡ name → length name < 6 → BeginsWithWord rest → ⊥
no_word_name rest name is few word = let same = ap length is in let six = word.1.length in omega (arith, same, six, few)

pub not_blank : (rest other : List ℕ) (b : Bool) → b ≡ list_all is_blank rest → b ≡ false → rest ≡ other → AreBlanks other → ⊥
not_blank rest other b is fails same are = let all : list_all is_blank rest ≡ true = rw same are in absurd (cc)

-- ---- forms of values

every_state : (value : Option Value) → (is : IsEveryWord value) → StateValue (codes "ANY" ∷ []) value
every_state value is = rw is.value_is (of is.every is.full)
  where
    of : (every : Value) → IsFull value_meaning every → StateValue (codes "ANY" ∷ []) (Some every)
    of (Range range) full = inl (refl, full)
    of (Words set) full = absurd (let kept = full.kept in cc)

ends_state : (first second : List ℕ) (least greatest : ℤ) (value : Option Value) → IsEnd first least → IsEnd second greatest → IsValueBetween least greatest value
    → StateValue (codes "RANGE" ∷ first ∷ second ∷ []) value
ends_state first second least greatest (Some (Range range)) one two is = inr (
  least,
  greatest,
  record { first = first; second = second; are = refl; least_is = one.is; greatest_is = two.is; least_fits = one.within; greatest_fits = two.within },
  is,
)
ends_state first second least greatest (Some (Words set)) one two is = absurd is
ends_state first second least greatest None one two is = (
  least,
  greatest,
  record { first = first; second = second; are = refl; least_is = one.is; greatest_is = two.is; least_fits = one.within; greatest_fits = two.within },
  is,
)

pub form_value : (form : Form) (text : List ℕ) (value : Option Value) (rest : List ℕ) → form_name form ≡ next_field text → IsInForm form (behind_field text) value rest
    → BeginsWithValue text value rest
form_value form.Any text value rest named is = record { taken = codes "ANY" ∷ []; front = (sym named, is.1); value_is = every_state value is.0 }
form_value form.Ends text value rest named is = record {
  taken = codes "RANGE" ∷ next_field (behind_field text) ∷ next_field (behind_field (behind_field text)) ∷ [];
  front = (sym named, (refl, (refl, is.rest_is)));
  value_is = ends_state (next_field (behind_field text)) (next_field (behind_field (behind_field text))) is.least is.greatest value is.least_is is.greatest_is is.value_is;
}
form_value form.Listed text value rest named is =
    record { taken = codes "WORDS" ∷ is.words; front = (sym named, is.front); value_is = rw is.value_is (is.words, refl, is.are) }

-- the form of a value at the front of a text
pub record HasForm (text : List ℕ) (value : Option Value) (rest : List ℕ) : Type 0 where
  pub its : Form
  pub named : form_name its ≡ next_field text
  pub is : IsInForm its (behind_field text) value rest

ends_form : (text taken rest : List ℕ) (fields : List (List ℕ)) (value : Option Value) (least greatest : ℤ) → AreEnds fields least greatest → IsValueBetween least greatest value
    → AreAtFront fields text rest → HasForm text value rest
ends_form text taken rest fields value least greatest ends is front =
    let cut = rw ends.are at front in record {
      its = form.Ends;
      named = sym cut.0;
      is = record {
        least = least;
        greatest = greatest;
        least_is = record { is = rw cut.1.0 ends.least_is; within = ends.least_fits };
        greatest_is = record { is = rw cut.1.1.0 ends.greatest_is; within = ends.greatest_fits };
        value_is = is;
        rest_is = cut.1.1.1;
      };
    }

value_in_form : (text rest : List ℕ) (fields : List (List ℕ)) (value : Option Value) → StateValue fields value → AreAtFront fields text rest → HasForm text value rest
value_in_form text rest fields (Some (Range range)) (inl every) front =
    let cut = rw every.0 at front in
    record { its = form.Any; named = sym cut.0; is = (record { every = Range range; value_is = refl; full = every.1 }, cut.1) }
value_in_form text rest fields (Some (Range range)) (inr between) front =
    ends_form text [] rest fields (Some (Range range)) between.0 between.1 between.2 between.3 front
value_in_form text rest fields (Some (Words set)) is front =
    let cut = rw is.1 at front in
    record { its = form.Listed; named = sym cut.0; is = record { words = is.0; set = set; value_is = refl; front = cut.1; are = is.2 } }
value_in_form text rest fields None is front = ends_form text [] rest fields None is.0 is.1 is.2 is.3 front

pub value_form : (text : List ℕ) (value : Option Value) (rest : List ℕ) → BeginsWithValue text value rest → HasForm text value rest
value_form text value rest is = value_in_form text rest is.taken value is.value_is is.front

-- ---- fields

-- the fields at a front, and those after it
pub front_cut : (taken others : List (List ℕ)) (text rest : List ℕ) → AreAtFront taken text rest → AreCut others rest → AreCut (taken ++ others) text
front_cut [] others text rest front are = rw front are
front_cut (field ∷ taken) others text rest front are = (front.0, front_cut taken others (behind_field text) rest front.1 are)

pub record Split (taken others : List (List ℕ)) (text : List ℕ) : Type 0 where
  pub rest : List ℕ
  pub front : AreAtFront taken text rest
  pub are : AreCut others rest

pub cut_front : (taken others : List (List ℕ)) (text : List ℕ) → AreCut (taken ++ others) text → Split taken others text
cut_front [] others text are = record { rest = text; front = refl; are = are }
cut_front (field ∷ taken) others text are =
    let later = cut_front taken others (behind_field text) are.1 in
    record { rest = later.rest; front = (are.0, later.front); are = later.are }

pub fields_append : (taken others : List (List ℕ)) → AreFields taken → AreFields others → AreFields (taken ++ others)
fields_append [] others are more = more
fields_append (field ∷ taken) others are more = (are.0, fields_append taken others are.1 more)

fields_some : (fields : List (List ℕ)) → AreFields fields → AreSome fields
fields_some [] are = tt
fields_some (field ∷ fields) are = (are.0.some, fields_some fields are.1)

pub cut_stands : (line : List ℕ) (fields : List (List ℕ)) → AreFields fields → AreCut fields line → HasFields line fields
cut_stands line fields are cut = (cut_standing line fields (fields_some fields are) cut).1

-- the fields of a value
pub signed_field : (text : List ℕ) (number : ℤ) → IsSigned text number → IsField text
signed_field text number is = rw is.whole (by_sign is.negative (number_field 10 6 is.digits is.size (omega arith) is.is_decimal))
  where
    by_sign : (negative : Bool) → IsField is.digits → IsField (if negative then 45 ∷ is.digits else is.digits)
    by_sign true field = record { some = omega arith; marks = field.marks }
    by_sign false field = field

words_fields : (fields : List (List ℕ)) (words : List ℕ) → AreWords fields words → AreFields fields
words_fields [] [] are = tt
words_fields [] (word ∷ words) are = absurd are
words_fields (field ∷ fields) [] are = absurd are
words_fields (field ∷ fields) (word ∷ words) are = (writes_field 8 6 field word (omega arith) (omega arith) are.0, words_fields fields words are.1)

ends_fields : (fields : List (List ℕ)) (least greatest : ℤ) → AreEnds fields least greatest → AreFields fields
ends_fields fields least greatest ends =
    rw ends.are (record { some = omega arith; marks = refl }, (signed_field ends.first least ends.least_is, (signed_field ends.second greatest ends.greatest_is, tt)))

pub value_fields : (fields : List (List ℕ)) (value : Option Value) → StateValue fields value → AreFields fields
value_fields fields (Some (Range range)) (inl every) = rw every.0 (record { some = omega arith; marks = refl }, tt)
value_fields fields (Some (Range range)) (inr between) = ends_fields fields between.0 between.1 between.2
value_fields fields (Some (Words set)) is = rw is.1 (record { some = omega arith; marks = refl }, words_fields is.0 set.list is.2)
value_fields fields None is = ends_fields fields is.0 is.1 is.2

-- digits of flags are a field
digit_mark : (digit : ℕ) → 48 ≤ digit → not (is_blank digit) ≡ true
digit_mark digit from =
    let space = ne_eqb digit 32 (λ is. omega (arith, is, from)) in
    let tab = ne_eqb digit 9 (λ is. omega (arith, is, from)) in
    rw (space, tab) refl

digits_marks : (digit : ℕ) (flags : List Bool) → 48 ≤ digit → HasNoBlank (flag_digits digit flags)
digits_marks digit [] from = refl
digits_marks digit (true ∷ flags) from = rw (digit_mark digit from) (digits_marks (digit + 1) flags (omega (arith, from)))
digits_marks digit (false ∷ flags) from = digits_marks (digit + 1) flags (omega (arith, from))

pub flags_field : (flags : List Bool) → some_flag flags ≡ true → IsField (flag_digits 48 flags)
flags_field flags some = record { some = some_digits 48 flags some; marks = digits_marks 48 flags (omega arith) }
