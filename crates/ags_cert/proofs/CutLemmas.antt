-- A text is cut after the fields at its front, and the fields of what was cut off are the same.
use Rattle.std.proofs.Common.{◌≡◌, ℕ, ◌≤◌, false, not, List, [], ◌∷◌, ◌++◌, length, refl, sym, ap, ◌∙◌, append_assoc, arith}
use Rattle.std.proofs.lemmas.List.{length-append}
use Rattle.ags_text.specs.Field.{AreSome, is_blank, next_field, behind_field}
use Rattle.ags_certtext.specs.Front.{AreAtFront}
use Rattle.ags_text.proofs.FieldLaws.{field_cut, field_parts}
use Rattle.ags_text.proofs.FrontLemmas.{first_passes}

-- the text is empty, or begins with a blank
abbrev pub Stops : List ℕ → Type 0
Stops text = first_passes (λ b. not (is_blank b)) text ≡ false

front_stops : (front rest : List ℕ) → Stops (front ++ rest) → Stops front
front_stops [] rest stops = refl
front_stops (b ∷ front) rest stops = stops

both_stop : (front rest : List ℕ) → Stops front → Stops rest → Stops (front ++ rest)
both_stop [] rest one other = other
both_stop (b ∷ front) rest one other = one

-- what stands before a rest has these fields, and nothing after them
pub record Before (fields : List (List ℕ)) (text rest : List ℕ) : Type 0 where
  pub front : List ℕ
  pub whole : text ≡ front ++ rest
  pub are : AreAtFront fields front []

-- the fields at the front of a text are those of what stands before the rest
pub cut_off : (fields : List (List ℕ)) (text rest : List ℕ) → AreSome fields → AreAtFront fields text rest → Before fields text rest
cut_off [] text rest some are = record { front = []; whole = are; are = refl }
cut_off (field ∷ fields) text rest some are =
    let parts = field_parts text in
    let later = cut_off fields (behind_field text) rest some.1 are.1 in
    let next : List ℕ = next_field text in
    let again = field_cut parts.0 next later.front parts.1 (rw are.0 some.0) parts.3 (front_stops later.front rest (rw (← later.whole) parts.4)) in
    record {
      front = parts.0 ++ (next ++ later.front);
      whole = parts.2 ∙ ap (λ (r : List ℕ). parts.0 ++ (next ++ r)) later.whole
          ∙ sym (append_assoc parts.0 (next ++ later.front) rest ∙ ap (λ (r : List ℕ). parts.0 ++ r) (append_assoc next later.front rest));
      are = (again.0 ∙ are.0, rw again.1 later.are);
    }

-- and back
pub put_on : (fields : List (List ℕ)) (front rest : List ℕ) → AreSome fields → Stops rest → AreAtFront fields front [] → AreAtFront fields (front ++ rest) rest
put_on [] front rest some stops are = ap (λ (f : List ℕ). f ++ rest) are
put_on (field ∷ fields) front rest some stops are =
    let parts = field_parts front in
    let next : List ℕ = next_field front in
    let behind : List ℕ = behind_field front in
    let whole : front ++ rest ≡ parts.0 ++ (next ++ (behind ++ rest)) = ap (λ (f : List ℕ). f ++ rest) parts.2
    ∙ append_assoc parts.0 (next ++ behind) rest ∙ ap (λ (r : List ℕ). parts.0 ++ r) (append_assoc next behind rest) in
    let again = field_cut parts.0 next (behind ++ rest) parts.1 (rw are.0 some.0) parts.3 (both_stop behind rest parts.4 stops) in
    let left : behind_field (front ++ rest) ≡ behind ++ rest = ap behind_field whole ∙ again.1 in
    (ap next_field whole ∙ again.0 ∙ are.0, rw left (put_on fields behind rest some.1 stops are.1))

-- one field more
pub one_more : (fields : List (List ℕ)) (text rest : List ℕ) → AreAtFront fields text rest → AreAtFront (fields ++ next_field rest ∷ []) text (behind_field rest)
one_more [] text rest front = (ap next_field front, ap behind_field front)
one_more (field ∷ fields) text rest front = (front.0, one_more fields (behind_field text) rest front.1)

-- what stands after a field is no longer than the text
behind_shorter : (text : List ℕ) → length (behind_field text) ≤ length text
behind_shorter text =
    let parts = field_parts text in
    omega (arith, ap length parts.2, length-append parts.0 (next_field text ++ behind_field text), length-append (next_field text) (behind_field text))

-- the more fields are cut, the shorter is the rest
rest_shorter : (fields : List (List ℕ)) (text rest : List ℕ) → AreAtFront fields text rest → length rest ≤ length text
rest_shorter [] text rest are = omega (arith, ap length are)
rest_shorter (field ∷ fields) text rest are = omega (arith, rest_shorter fields (behind_field text) rest are.1, behind_shorter text)

pub no_longer : (fields others : List (List ℕ)) (text rest behind : List ℕ) → AreAtFront fields text rest → AreAtFront others text behind → length others ≤ length fields
    → length rest ≤ length behind
no_longer fields [] text rest behind are others_are few = omega (arith, rest_shorter fields text rest are, ap length others_are)
no_longer [] (other ∷ others) text rest behind are others_are few = absurd (omega (arith, few))
no_longer (field ∷ fields) (other ∷ others) text rest behind are others_are few =
    no_longer fields others (behind_field text) rest behind are.1 others_are.1 (omega (arith, few))
