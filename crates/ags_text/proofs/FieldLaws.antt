-- What stands in a line is what is cut from it, and back.
--
-- The lemmas that the crates above may cite: field_cut and field_parts, and behind clauses of `field_laws.rt` standing_cut and
-- standing_behind, cut_standing and cut_behind, blanks_none, blanks_end and none_blank, first_byte and no_blank_text,
-- number_field and writes_field.
use Rattle.std.proofs.Common.{◌≡◌, ℕ, ◌<◌, ◌≤◌, Bool, true, false, eqb, not, List, [], ◌∷◌, ◌++◌, length, take, get_or, refl, sym, ap, inl, inr, ◌∙◌, one-add, arith}
use Rattle.std.specs.Prelude.{nat_lt}
use Rattle.std.specs.Char.{digit_value}
use Rattle.std.specs.List.{position_or_len, prefix_len, list_all}
use Rattle.std.specs.Str.Parse.{AllDigits}
use Rattle.std.proofs.lemmas.Bool.{cases_Bool, and_parts, and_from, or_cases, eqb-true, le-ltb, true≢false}
use Rattle.std.proofs.lemmas.List.{take_at, drop_at, take-append-drop, append-nil}
use Rattle.ags_text.specs.Field.{is_blank, AreBlanks, HasNoBlank, IsGap, IsField, AreFields, AreSome, Behind, HasFields, leading_field, behind_leading_field, behind_blanks, next_field, behind_field, AreCut}
use Rattle.ags_text.specs.Numeral.{IsNumber, Writes}
use Rattle.ags_text.proofs.FrontLemmas.{first_passes, front_passes, rest_stops, prefix_len_cut, first_of_front, no_front}
use Rattle.ags_text.proofs.NumberLaws.{digits_pass}

-- Fields and gaps.

-- a field, and a rest that is empty or begins with a blank
leading_cut : (field rest : List ℕ) → HasNoBlank field → first_passes (λ b. not (is_blank b)) rest ≡ false → (leading_field (field ++ rest) ≡ field) × (behind_leading_field (field ++ rest) ≡ rest)
unfolding leading_field behind_leading_field
leading_cut field rest no_blank stops =
    let cut : position_or_len is_blank (field ++ rest) ≡ length field = prefix_len_cut (λ b. not (is_blank b)) field rest no_blank stops in
    (rw (cut) (take_at field rest (length field) refl), rw (cut) (drop_at field rest (length field) refl))

-- blanks, and a rest that does not begin with one
blanks_cut : (blanks rest : List ℕ) → list_all is_blank blanks ≡ true → first_passes is_blank rest ≡ false → behind_blanks (blanks ++ rest) ≡ rest
unfolding behind_blanks
blanks_cut blanks rest all stops =
    let cut : prefix_len is_blank (blanks ++ rest) ≡ length blanks = prefix_len_cut is_blank blanks rest all stops in
    rw (cut) (drop_at blanks rest (length blanks) refl)

-- a text is the field at its start and what stands after it, which does not begin with a byte that is not blank
leading_parts : (text : List ℕ) → (text ≡ leading_field text ++ behind_leading_field text) × HasNoBlank (leading_field text) × (first_passes (λ b. not (is_blank b)) (behind_leading_field text) ≡ false)
unfolding leading_field behind_leading_field
leading_parts text = (sym (take-append-drop (position_or_len is_blank text) text), front_passes (λ b. not (is_blank b)) text, rest_stops (λ b. not (is_blank b)) text)

-- and blanks and what stands after them, which does not begin with a blank
blanks_parts : (text : List ℕ) → (blanks : List ℕ) × (text ≡ blanks ++ behind_blanks text) × (list_all is_blank blanks ≡ true) × (first_passes is_blank (behind_blanks text) ≡ false)
unfolding behind_blanks
blanks_parts text = (take (prefix_len is_blank text) text, sym (take-append-drop (prefix_len is_blank text) text), front_passes is_blank text, rest_stops is_blank text)

-- What stands at the start of a text.

-- a gap begins with a blank
gap_stops : (gap rest : List ℕ) → IsGap gap → first_passes (λ b. not (is_blank b)) (gap ++ rest) ≡ false
gap_stops [] rest is = absurd (omega (arith, is.some))
gap_stops (b ∷ gap) rest is = let parts = and_parts (is_blank b) (list_all is_blank gap) is.blanks in let blank : is_blank b ≡ true = parts.0 in rw (blank) refl

-- so do blanks, or they are none
blanks_stop : (blanks : List ℕ) → AreBlanks blanks → first_passes (λ b. not (is_blank b)) blanks ≡ false
blanks_stop [] are = refl
blanks_stop (b ∷ blanks) are = let parts = and_parts (is_blank b) (list_all is_blank blanks) are in let blank : is_blank b ≡ true = parts.0 in rw (blank) refl

-- a field does not
field_stops : (field rest : List ℕ) → 0 < length field → HasNoBlank field → first_passes is_blank (field ++ rest) ≡ false
field_stops [] rest some no_blank = absurd (omega arith)
field_stops (b ∷ field) rest some no_blank =
    let parts = and_parts (not (is_blank b)) (list_all (λ x. not (is_blank x)) field) no_blank in
    elim (cases_Bool (is_blank b)) [
      | inl blank ↦ absurd (true≢false (sym parts.0 ∙ ap not blank))
      | inr mark ↦ mark
    ]

-- The next field.

-- blanks, a field, and a rest that is empty or begins with a blank
pub field_cut : (blanks field rest : List ℕ) → AreBlanks blanks → 0 < length field → HasNoBlank field → first_passes (λ b. not (is_blank b)) rest ≡ false
    → (next_field (blanks ++ (field ++ rest)) ≡ field) × (behind_field (blanks ++ (field ++ rest)) ≡ rest)
unfolding next_field behind_field
field_cut blanks field rest are some no_blank stops =
    let skip : behind_blanks (blanks ++ (field ++ rest)) ≡ field ++ rest = blanks_cut blanks (field ++ rest) are (field_stops field rest some no_blank) in
    let cut = leading_cut field rest no_blank stops in
    (rw (skip) cut.0, rw (skip) cut.1)

-- a text is blanks, its next field and what stands after it
pub field_parts : (text : List ℕ) → (blanks : List ℕ) × AreBlanks blanks × (text ≡ blanks ++ (next_field text ++ behind_field text)) × HasNoBlank (next_field text)
    × (first_passes (λ b. not (is_blank b)) (behind_field text) ≡ false)
unfolding next_field behind_field
field_parts text =
    let parts = blanks_parts text in
    let field = leading_parts (behind_blanks text) in
    (parts.0, parts.2, parts.1 ∙ ap (λ (rest : List ℕ). parts.0 ++ rest) field.0, field.1, field.2)

-- blanks have no field, and nothing after it
pub blanks_end : (text : List ℕ) → AreBlanks text → (next_field text ≡ []) × (behind_field text ≡ [])
unfolding next_field behind_field leading_field behind_leading_field
blanks_end text are =
    let skip : behind_blanks text ≡ [] = sym (ap behind_blanks (append-nil text)) ∙ blanks_cut text [] are refl in
    (rw (skip) refl, rw (skip) refl)

-- so that what stands after it are blanks
pub blanks_none : (text : List ℕ) → AreBlanks text → (next_field text ≡ []) × AreBlanks (behind_field text)
blanks_none text are = let end = blanks_end text are in (end.0, rw (end.1) refl)

-- a text that does not begin with a blank and has no field is empty
empty_word : (text : List ℕ) → first_passes is_blank text ≡ false → leading_field text ≡ [] → text ≡ []
unfolding leading_field
empty_word [] stops none = refl
empty_word (b ∷ text) stops none =
    let n = prefix_len (λ x. not (is_blank x)) text in
    let some : b ∷ take n text ≡ [] = rw (stops, one-add n) at none in
    absurd cc

-- a text without a field is blanks
pub none_blank : (text : List ℕ) → next_field text ≡ [] → AreBlanks text
unfolding next_field
none_blank text none =
    let parts = blanks_parts text in
    let rest : behind_blanks text ≡ [] = empty_word (behind_blanks text) parts.3 none in
    let whole : text ≡ parts.0 = parts.1 ∙ ap (λ (more : List ℕ). parts.0 ++ more) rest ∙ append-nil parts.0 in
    rw (whole) parts.2

-- The fields of a line.

-- what stands after a field does not go on with it
behind_stops : (fields : List (List ℕ)) (text : List ℕ) → Behind fields text → first_passes (λ b. not (is_blank b)) text ≡ false
behind_stops [] text behind = blanks_stop text behind
behind_stops (field ∷ fields) text behind = rw (behind.3) (gap_stops behind.0 (field ++ behind.1) behind.2)

-- the fields that stand there are those that are cut
behind_cut : (fields : List (List ℕ)) (text : List ℕ) → AreFields fields → Behind fields text → AreCut fields text
behind_cut [] text are behind = behind
behind_cut (field ∷ fields) text are behind =
    let cut = field_cut behind.0 field behind.1 behind.2.blanks are.0.some are.0.marks (behind_stops fields behind.1 behind.4) in
    (rw (behind.3) cut.0, rw (behind.3, cut.1) (behind_cut fields behind.1 are.1 behind.4))

pub standing_cut : (line : List ℕ) (fields : List (List ℕ)) → AreFields fields → HasFields line fields → AreCut fields line
standing_cut line [] are has = has
standing_cut line (field ∷ fields) are has =
    let cut = field_cut has.0 field has.1 has.2 are.0.some are.0.marks (behind_stops fields has.1 has.4) in
    (rw (has.3) cut.0, rw (has.3, cut.1) (behind_cut fields has.1 are.1 has.4))

-- and so after a field
pub standing_behind : (line field behind : List ℕ) (fields : List (List ℕ)) → HasNoBlank field → AreFields fields → line ≡ field ++ behind → Behind fields behind
    → (leading_field line ≡ field) × AreCut fields (behind_leading_field line)
standing_behind line field behind fields marks are whole stand =
    let cut = leading_cut field behind marks (behind_stops fields behind stand) in
    (rw (whole) cut.0, rw (whole, cut.1) (behind_cut fields behind are stand))

-- where a text does not begin with its next field, a gap stands before it
gap_some : (blanks field rest text : List ℕ) → text ≡ blanks ++ (field ++ rest) → first_passes (λ b. not (is_blank b)) text ≡ false → 0 < length field → HasNoBlank field → 0 < length blanks
gap_some (b ∷ blanks) field rest text whole stops some no_blank = omega arith
gap_some [] [] rest text whole stops some no_blank = absurd (omega arith)
gap_some [] (b ∷ field) rest text whole stops some no_blank =
    let parts = and_parts (not (is_blank b)) (list_all (λ x. not (is_blank x)) field) no_blank in
    let fails : not (is_blank b) ≡ false = rw (whole) at stops in
    absurd (true≢false (sym parts.0 ∙ fails))

-- the fields that are cut stand there
cut_behind_stop : (fields : List (List ℕ)) (text : List ℕ) → AreSome fields → first_passes (λ b. not (is_blank b)) text ≡ false → AreCut fields text → Behind fields text
cut_behind_stop [] text some stops are = are
cut_behind_stop (field ∷ fields) text some stops are =
    let parts = field_parts text in
    let next_some : 0 < length (next_field text) = rw (are.0) some.0 in (
      parts.0,
      behind_field text,
      record { some = gap_some parts.0 (next_field text) (behind_field text) text parts.2 stops next_some parts.3; blanks = parts.1 },
      parts.2 ∙ ap (λ (field : List ℕ). parts.0 ++ (field ++ behind_field text)) are.0,
      cut_behind_stop fields (behind_field text) some.1 parts.4 are.1,
    )

cut_has : (line : List ℕ) (fields : List (List ℕ)) → AreSome fields → AreCut fields line → HasFields line fields
cut_has line [] some are = are
cut_has line (field ∷ fields) some are =
    let parts = field_parts line in (
      parts.0,
      behind_field line,
      parts.1,
      parts.2 ∙ ap (λ (field : List ℕ). parts.0 ++ (field ++ behind_field line)) are.0,
      cut_behind_stop fields (behind_field line) some.1 parts.4 are.1,
    )

-- what is cut is a field where it is not empty
cut_fields : (line : List ℕ) (fields : List (List ℕ)) → AreSome fields → AreCut fields line → AreFields fields
cut_fields line [] some are = tt
cut_fields line (field ∷ fields) some are = (record { some = some.0; marks = rw (← are.0) (field_parts line).3 }, cut_fields (behind_field line) fields some.1 are.1)

pub cut_standing : (line : List ℕ) (fields : List (List ℕ)) → AreSome fields → AreCut fields line → AreFields fields × HasFields line fields
cut_standing line fields some are = (cut_fields line fields some are, cut_has line fields some are)

-- and so after a field
pub cut_behind : (line : List ℕ) (fields : List (List ℕ)) → AreSome fields → AreCut fields (behind_leading_field line)
    → HasNoBlank (leading_field line) × (line ≡ leading_field line ++ behind_leading_field line) × Behind fields (behind_leading_field line)
cut_behind line fields some are =
    let parts = leading_parts line in
    (parts.1, parts.0, cut_behind_stop fields (behind_leading_field line) some parts.2 are)

-- The bytes of a field.

-- the first byte of a line begins its first field, where it is no blank
pub first_byte : (b : ℕ) (line : List ℕ) → is_blank b ≡ false → get_or (next_field (b ∷ line)) 0 0 ≡ b
unfolding next_field leading_field behind_blanks
first_byte b line mark = rw (no_front is_blank b line mark) (first_of_front (λ x. not (is_blank x)) b line (ap not mark))

-- a byte that passes a test which no blank passes is no blank
no_blank_byte : (p : ℕ → Bool) → p 32 ≡ false → p 9 ≡ false → (b : ℕ) → p b ≡ true → not (is_blank b) ≡ true
no_blank_byte p space tab b is =
    elim (cases_Bool (is_blank b)) [
      | inl blank ↦ absurd (elim (or_cases (eqb b 32) (eqb b 9) blank) [
        | inl at ↦ true≢false (sym is ∙ ap p (eqb-true b 32 at) ∙ space)
        | inr at ↦ true≢false (sym is ∙ ap p (eqb-true b 9 at) ∙ tab)
      ])
      | inr mark ↦ rw (mark) refl
    ]

-- a text of them has none
pub no_blank_text : (p : ℕ → Bool) → p 32 ≡ false → p 9 ≡ false → (text : List ℕ) → list_all p text ≡ true → HasNoBlank text
no_blank_text p space tab [] all = refl
no_blank_text p space tab (b ∷ text) all =
    let parts = and_parts (p b) (list_all p text) all in
    and_from _ _ (no_blank_byte p space tab b parts.0) (no_blank_text p space tab text parts.1)

-- digits have no blank
digits_no_blank : (base : ℕ) (text : List ℕ) → base ≤ 36 → AllDigits base text → HasNoBlank text
digits_no_blank base text most digits =
    no_blank_text (λ b. nat_lt (digit_value b) base) (le-ltb 36 base most) (le-ltb 36 base most) text (digits_pass base text digits)

-- so those of a number are a field
pub number_field : (base most : ℕ) (text : List ℕ) (number : ℕ) → base ≤ 36 → IsNumber base most text number → IsField text
number_field base most text number within is = record { some = is.digits.0; marks = digits_no_blank base text within is.digits.1 }

pub writes_field : (base width : ℕ) (text : List ℕ) (number : ℕ) → base ≤ 36 → 0 < width → Writes base width text number → IsField text
writes_field base width text number within some is = record { some = rw (is.length) some; marks = digits_no_blank base text within is.digits }
