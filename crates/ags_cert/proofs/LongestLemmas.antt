-- The values that begin at a position of a line, the shorter ones first.
use Rattle.std.proofs.Common.{◌≡◌, ℕ, ◌+◌, ◌-◌, ◌<◌, ◌≤◌, true, false, List, [], ◌∷◌, ◌++◌, length, take, drop, Option, Some, None, refl, sym, ap, inl, inr, ◌∙◌, append_assoc, arith}
use Rattle.std.specs.Prelude.{◌==◌, IfSome, IfNone}
use Rattle.std.proofs.lemmas.Bool.{cases_lt, eqb-true, true≢false}
use Rattle.std.proofs.lemmas.List.{drop_at, drop-drop, take-append-drop, take_all, length-append, length-drop, length-take, append_cancel_right}
use Rattle.ags_text.specs.Field.{AreFields, AreSome, next_field, behind_field}
use Rattle.ags_domain.specs.declared.values.Value.{Value}
use Rattle.ags_domain.specs.declared.values.Value.TheVariants.{Range, Words}
use Rattle.ags_certtext.specs.Front.{AreAtFront, BeginsWithWord, BeginsWithValue}
use Rattle.ags_certtext.specs.Spelling.{AreWords, StateValue}
use Rattle.ags_certtext.proofs.FrontLemmas.{no_word, value_fields}
use Rattle.ags_cert.specs.ValueAt.{StandsAt, IsLongestAt}
use Rattle.ags_text.proofs.FieldLaws.{field_parts}
use Rattle.ags_cert.proofs.CutLemmas.{Stops, cut_off, put_on, one_more, no_longer}

-- ---- the fields of a value

fields_some : (fields : List (List ℕ)) → AreFields fields → AreSome fields
fields_some [] are = tt
fields_some (field ∷ fields) are = (are.0.some, fields_some fields are.1)

value_some : (fields : List (List ℕ)) (value : Value) → StateValue fields (Some value) → AreSome fields
value_some fields value is = fields_some fields (value_fields fields (Some value) is)

words_count : (fields : List (List ℕ)) (words : List ℕ) → AreWords fields words → length fields ≡ length words
words_count [] [] are = refl
words_count [] (word ∷ words) are = absurd are
words_count (field ∷ fields) [] are = absurd are
words_count (field ∷ fields) (word ∷ words) are = omega (arith, words_count fields words are.1)

few_fields : (fields : List (List ℕ)) (value : Value) → StateValue fields (Some value) → length fields ≤ 17
few_fields fields (Range range) (inl every) = omega (arith, ap length every.0)
few_fields fields (Range range) (inr between) = omega (arith, ap length between.2.are)
few_fields fields (Words set) is = let few = set.few in omega (arith, ap length is.1, words_count is.0 set.list is.2, few)

-- ---- a part of a line

-- what stands after a field from a position on is the line from a further position on
pub left_is : (line rest : List ℕ) (from : ℕ) → from ≤ length line → rest ≡ behind_field (drop from line)
    → (from ≤ length line - length rest) × (length rest ≤ length line) × (drop (length line - length rest) line ≡ rest)
left_is line rest from within is =
    let parts = field_parts (drop from line) in
    let mid : List ℕ = parts.0 ++ next_field (drop from line) in
    let front : List ℕ = take from line ++ mid in
    let part : drop from line ≡ mid ++ rest = parts.2 ∙ sym (append_assoc parts.0 (next_field (drop from line)) (behind_field (drop from line)))
    ∙ ap (λ (r : List ℕ). mid ++ r) (sym is) in
    let whole : line ≡ front ++ rest = sym (take-append-drop from line) ∙ ap (λ (r : List ℕ). take from line ++ r) part ∙ sym (append_assoc (take from line) mid rest) in
    let long : length line ≡ length front + length rest = ap length whole ∙ length-append front rest in
    let further : from ≤ length front = omega (arith, length-append (take from line) mid, length-take from line, within) in
    let position : length front ≡ length line - length rest = omega (arith, long) in
    (omega (arith, further, position), omega (arith, long), ap (λ (l : List ℕ). drop (length line - length rest) l) whole ∙ drop_at front rest (length line - length rest) position)

-- a line from a position on
pub all_left : (line : List ℕ) (from : ℕ) → take (length line - from) (drop from line) ≡ drop from line
all_left line from = take_all (length line - from) (drop from line) (omega (arith, length-drop from line))

-- a part of a line, and what stands after it
pub part_whole : (line : List ℕ) (from behind : ℕ) → from ≤ behind → take (behind - from) (drop from line) ++ drop behind line ≡ drop from line
part_whole line from behind ordered =
    let position : drop (behind - from) (drop from line) ≡ drop behind line = drop-drop (behind - from) from line ∙ ap (λ (n : ℕ). drop n line) (omega (arith, ordered)) in
    rw (← position) (take-append-drop (behind - from) (drop from line))

-- the value of such a part stands in the line
pub part_stands : (line text : List ℕ) (from behind : ℕ) (value : Value) → behind ≤ length line → Stops (drop behind line) → text ++ drop behind line ≡ drop from line
    → BeginsWithValue text (Some value) [] → StandsAt line from value behind
part_stands line text from behind value within stops whole is = record {
  within = within;
  taken = is.taken;
  front = rw (← whole) (put_on is.taken text (drop behind line) (value_some is.taken value is.value_is) stops is.front);
  value_is = is.value_is;
}

-- and a value that stands there is that of the part
pub part_begins : (line text : List ℕ) (from behind : ℕ) (value : Value) → text ++ drop behind line ≡ drop from line → StandsAt line from value behind
    → BeginsWithValue text (Some value) []
part_begins line text from behind value whole is =
    let cut = cut_off is.taken (drop from line) (drop behind line) (value_some is.taken value is.value_is) is.front in
    let same : cut.front ≡ text = append_cancel_right cut.front text (drop behind line) (sym cut.whole ∙ sym whole) in
    record { taken = is.taken; front = rw (← same) cut.are; value_is = is.value_is }

-- what is told of a part that ends after a field
pub told_stands : (line text rest before : List ℕ) (from behind : ℕ) (value : Option Value) → behind ≤ length line → drop behind line ≡ behind_field before
    → text ++ drop behind line ≡ drop from line → rest ≡ [] → BeginsWithValue text value rest → IfSome value (λ v. StandsAt line from v behind)
told_stands line text rest before from behind None within left whole none is = tt
told_stands line text rest before from behind (Some value) within left whole none is =
    part_stands line text from behind value within (rw left (field_parts before).4) whole (rw none at is)

pub no_word_behind : BeginsWithWord [] → ⊥
no_word_behind word = no_word [] refl word

pub none_left : (rest : List ℕ) → (length rest == 0) ≡ true → rest ≡ []
none_left [] none = refl
none_left (b ∷ rest) none = let count = eqb-true (length (b ∷ rest)) 0 none in absurd (omega (arith, count))

pub some_left : (rest : List ℕ) → false ≡ (length rest == 0) → rest ≡ [] → ⊥
some_left rest some none = let test = rw none at some in true≢false (sym test)

-- ---- one field further each time

-- so many fields stand from one position of a line to another
pub record Counted (line : List ℕ) (from count behind : ℕ) : Type 0 where
  pub ordered : from ≤ behind
  pub within : behind ≤ length line
  pub fields : List (List ℕ)
  pub count_is : length fields ≡ count
  pub are : AreAtFront fields (drop from line) (drop behind line)

pub counted_more : (line : List ℕ) (from count behind next : ℕ) → Counted line from count behind → behind ≤ next → next ≤ length line
    → drop next line ≡ behind_field (drop behind line) → Counted line from (count + 1) next
counted_more line from count behind next counted further within left = record {
  ordered = (let ordered = counted.ordered in omega (arith, ordered, further));
  within = within;
  fields = counted.fields ++ next_field (drop behind line) ∷ [];
  count_is = omega (arith, length-append counted.fields (next_field (drop behind line) ∷ []), counted.count_is);
  are = rw left (one_more counted.fields (drop from line) (drop behind line) counted.are);
}

-- a value of no more fields ends no further, and one of no fewer no earlier
ends_before : (line : List ℕ) (from count behind further : ℕ) (value : Value) → Counted line from count behind → (is : StandsAt line from value further) → length is.taken ≤ count
    → further ≤ behind
ends_before line from count behind further value counted is few =
    let shorter = no_longer counted.fields is.taken (drop from line) (drop behind line) (drop further line) counted.are is.front (omega (arith, few, counted.count_is)) in
    omega (arith, shorter, length-drop behind line, length-drop further line, counted.within, is.within)

ends_behind : (line : List ℕ) (from count behind further : ℕ) (value : Value) → Counted line from count behind → (is : StandsAt line from value further) → count ≤ length is.taken
    → behind ≤ further
ends_behind line from count behind further value counted is many =
    let shorter = no_longer is.taken counted.fields (drop from line) (drop further line) (drop behind line) is.front counted.are (omega (arith, many, counted.count_is)) in
    omega (arith, shorter, length-drop behind line, length-drop further line, counted.within, is.within)

-- of the values of so many fields at most it is the longest, and no other ends where it does
pub record IsLongestOf (count : ℕ) (line : List ℕ) (from : ℕ) (value : Value) (behind : ℕ) : Type 0 where
  pub stands : StandsAt line from value behind
  pub longest : (other : Value) (further : ℕ) → (is : StandsAt line from other further) → length is.taken ≤ count → further ≤ behind
  pub one : (other : Value) → StandsAt line from other behind → Some value ≡ Some other

-- or there is none
abbrev pub LongestOf : (count : ℕ) (line : List ℕ) (from : ℕ) → Option (Value × ℕ) → Type 0
LongestOf count line from (Some found) = IsLongestOf count line from found.0 found.1
LongestOf count line from None = (value : Value) (behind : ℕ) → (is : StandsAt line from value behind) → length is.taken ≤ count → ⊥

-- so far is searched
pub record Searched (line : List ℕ) (from count behind : ℕ) (found : Option (Value × ℕ)) : Type 0 where
  pub counted : Counted line from count behind
  pub longest : LongestOf count line from found

-- a value ends at the next field
pub searched_some : (line : List ℕ) (from count next : ℕ) (value : Value) → Counted line from (count + 1) next → StandsAt line from value next
    → ((other : Value) → StandsAt line from other next → Some value ≡ Some other) → Searched line from (count + 1) next (Some (value, next))
searched_some line from count next value counted stands one = record {
  counted = counted;
  longest = record { stands = stands; longest = λ other further is few. ends_before line from (count + 1) next further other counted is few; one = one };
}

-- or none does
same_end : (line : List ℕ) (from count next further : ℕ) (value : Value) → Counted line from (count + 1) next → (is : StandsAt line from value further)
    → length is.taken ≤ count + 1 → count < length is.taken → StandsAt line from value next
same_end line from count next further value counted is few many =
    let no_further = ends_before line from (count + 1) next further value counted is few in
    let no_earlier = ends_behind line from (count + 1) next further value counted is (omega (arith, many)) in
    let same : next ≡ further = omega (arith, no_further, no_earlier) in
    rw same is

pub searched_same : (line : List ℕ) (from count behind next : ℕ) (found : Option (Value × ℕ)) → Searched line from count behind found → Counted line from (count + 1) next
    → ((other : Value) → StandsAt line from other next → ⊥) → Searched line from (count + 1) next found
searched_same line from count behind next None so counted none = record {
  counted = counted;
  longest = λ value further is few. elim (cases_lt count (length is.taken)) [
    | inl more ↦ none value (same_end line from count next further value counted is few more)
    | inr old ↦ so.longest value further is old
  ];
}
searched_same line from count behind next (Some found) so counted none = record {
  counted = counted;
  longest = record {
    stands = so.longest.stands;
    longest = λ other further is few. elim (cases_lt count (length is.taken)) [
      | inl more ↦ absurd (none other (same_end line from count next further other counted is few more))
      | inr old ↦ so.longest.longest other further is old
    ];
    one = so.longest.one;
  };
}

-- ---- all are searched

fields_within : (count : ℕ) (fields : List (List ℕ)) (value : Value) → StateValue fields (Some value) → 17 ≤ count → length fields ≤ count
fields_within count fields value is all = omega (arith, few_fields fields value is, all)

pub all_found : (line : List ℕ) (from count behind : ℕ) (found : Option (Value × ℕ)) → 17 ≤ count → Searched line from count behind found → IfSome found (λ f. IsLongestAt line from f.0 f.1)
all_found line from count behind None all so = tt
all_found line from count behind (Some found) all so = record {
  stands = so.longest.stands;
  longest = λ other further is. so.longest.longest other further is (fields_within count is.taken other is.value_is all);
}

pub all_only : (line : List ℕ) (from count behind : ℕ) (found : Option (Value × ℕ)) → 17 ≤ count → Searched line from count behind found → (value : Value) (end : ℕ) → IsLongestAt line from value end
    → found ≡ Some (value, end)
all_only line from count behind None all so value end is = absurd (so.longest value end is.stands (fields_within count is.stands.taken value is.stands.value_is all))
all_only line from count behind (Some (first, last)) all so value end is =
    let no_further = so.longest.longest value end is.stands (fields_within count is.stands.taken value is.stands.value_is all) in
    let no_earlier = is.longest first last so.longest.stands in
    let position : last ≡ end = omega (arith, no_further, no_earlier) in
    let same = so.longest.one value (rw position is.stands) in
    cc

pub all_none : (line : List ℕ) (from count behind : ℕ) (found : Option (Value × ℕ)) → 17 ≤ count → Searched line from count behind found
    → IfNone found ((value : Value) (end : ℕ) → StandsAt line from value end → ⊥)
all_none line from count behind None all so = λ value end is. so.longest value end is (fields_within count is.taken value is.value_is all)
all_none line from count behind (Some found) all so = tt
