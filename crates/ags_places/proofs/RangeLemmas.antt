-- What is wrong with what a card asks for, in the phase of places: what is told is so, and what is so is told. The crates above cite
-- `outside` and `outside_fails`.
use Rattle.std.proofs.Common.{◌≡◌, ℕ, ◌+◌, ◌<◌, length, Bool, true, false, ◌&&◌, List, [], Option, Some, None, refl, sym, ap, ◌∙◌, ◌⊎◌, inl, inr, arith}
use Rattle.std.specs.Prelude.{ℤ, pos, neg_ℤ, ◌+ℤ◌, ◌<ℤ◌}
use Rattle.std.specs.Int.RustNames.{int_le}
use Rattle.std.proofs.lemmas.Bool.Decides.{nat_tests}
use Rattle.std.proofs.lemmas.Int.{ints}
use Rattle.ags_card.specs.declared.cards.Body.{Body}
use Rattle.ags_card.specs.declared.cards.Body.TheVariants.{Comment, Order, Org, Equ, Bss, Bes, Dec, Oct, End}
use Rattle.ags_card.specs.declared.terms.Term.{Term}
use Rattle.ags_symbol.specs.Symbol.{Entry, NamesUnknown, sum_of}
use Rattle.ags_symbol.proofs.SumLemmas.{sum_none, unknown_none}
use Rattle.ags_places.specs.declared.source_error.PlaceFault.{PlaceFault}
use Rattle.ags_places.specs.declared.source_error.PlaceFault.TheVariants.{UndefinedEarly, PlaceRange}
use Rattle.ags_places.specs.Fault.{body_fault, fits_behind, holds_words, is_place, is_value, operand_fault, unless}
use Rattle.ags_places.specs.Faulty.{IsOutOfRange, placing_terms}

-- ---- tests of limits

and_fails : (one other : Bool) → one && other ≡ false → (one ≡ false) ⊎ (other ≡ false)
and_fails true other is = inr is
and_fails false other is = inl refl

fails_and : (one other : Bool) → (one ≡ false) ⊎ (other ≡ false) → one && other ≡ false
fails_and true other (inl is) = absurd cc
fails_and true other (inr is) = is
fails_and false other is = refl

above : (least value : ℤ) → int_le least value ≡ false → value <ℤ least
above least value is = grind (arith, ints, is)

not_below : (least value : ℤ) → value <ℤ least → int_le least value ≡ false
not_below least value is = grind (arith, ints, is)

-- a number is out of two limits where a test of one of them fails
pub outside : (least low high most : ℤ) → int_le least low && int_le high most ≡ false → (low <ℤ least) ⊎ (most <ℤ high)
outside least low high most is = elim (and_fails (int_le least low) (int_le high most) is) [
  | inl under ↦ inl (above least low under)
  | inr over ↦ inr (above high most over)
]

pub outside_fails : (least low high most : ℤ) → (low <ℤ least) ⊎ (most <ℤ high) → int_le least low && int_le high most ≡ false
outside_fails least low high most (inl under) = fails_and (int_le least low) (int_le high most) (inl (not_below least low under))
outside_fails least low high most (inr over) = fails_and (int_le least low) (int_le high most) (inr (not_below high most over))

-- ---- what is told of an operand or of a place

unless_told : (within : Bool) (fault : PlaceFault) → unless within ≡ Some fault → (fault ≡ PlaceRange) × (within ≡ false)
unless_told true fault is = absurd cc
unless_told false fault is = let same : PlaceRange ≡ fault = cc in (sym same, refl)

-- an operand has no value, or one that isn't within its limits
operand_told : (within : ℤ → Bool) (sum : Option ℤ) (fault : PlaceFault) → operand_fault within sum ≡ Some fault
    → ((fault ≡ UndefinedEarly) × (sum ≡ None)) ⊎ ((fault ≡ PlaceRange) × (value : ℤ) × (sum ≡ Some value) × (within value ≡ false))
operand_told within None fault is = let same : UndefinedEarly ≡ fault = cc in inl (sym same, refl)
operand_told within (Some value) fault is = let parts = unless_told (within value) fault is in inr (parts.0, value, refl, parts.1)

beyond : (at many : ℕ) → holds_words at many ≡ false → 4096 < at + many
beyond at many is = grind (arith, nat_tests)

not_within : (at many : ℕ) → 4096 < at + many → holds_words at many ≡ false
not_within at many is = grind (arith, nat_tests)

module _ (E : List Entry) (at : ℕ) where
  -- what is wrong with a body: a symbol without a pair, or a place or a value out of its limits
  BodyTold : Body → PlaceFault → Type 0
  BodyTold body fault = ((fault ≡ UndefinedEarly) × NamesUnknown E (placing_terms body)) ⊎ ((fault ≡ PlaceRange) × IsOutOfRange E at body)

  words_told : (many : ℕ) (body : Body) (fault : PlaceFault) → unless (holds_words at many) ≡ Some fault → (4096 < at + many → IsOutOfRange E at body) → BodyTold body fault
  unfolding BodyTold
  words_told many body fault is out = let parts = unless_told (holds_words at many) fault is in inr (parts.0, out (beyond at many parts.1))

  terms_told : (terms : List Term) (body : Body) (within : ℤ → Bool) (fault : PlaceFault) → placing_terms body ≡ terms → operand_fault within (sum_of E at terms) ≡ Some fault
      → ((value : ℤ) → sum_of E at terms ≡ Some value → within value ≡ false → IsOutOfRange E at body) → BodyTold body fault
  unfolding BodyTold
  terms_told terms body within fault same is out = elim (operand_told within (sum_of E at terms) fault is) [
    | inl undefined ↦ inl (undefined.0, rw same (sum_none E at terms undefined.1))
    | inr range ↦ inr (range.0, out range.1 range.2 range.3)
  ]

  pub body_told : (body : Body) (fault : PlaceFault) → body_fault E at body ≡ Some fault
      → ((fault ≡ UndefinedEarly) × NamesUnknown E (placing_terms body)) ⊎ ((fault ≡ PlaceRange) × IsOutOfRange E at body)
  unfolding BodyTold
  body_told Comment fault is = absurd cc
  body_told (Order order terms indexed) fault is = words_told 1 (Order order terms indexed) fault is (λ out. omega (arith, out))
  body_told (Org terms) fault is = terms_told terms (Org terms) is_place fault refl is (λ value sum test. (value, sum, outside (pos 0) value value (pos 4095) test))
  body_told (Equ terms) fault is = terms_told terms (Equ terms) is_value fault refl is (λ value sum test. (value, sum, outside (neg_ℤ (pos 262143)) value value (pos 262143) test))
  body_told (Bss terms) fault is =
      terms_told terms (Bss terms) (fits_behind at) fault refl is (λ value sum test. (value, sum, outside (pos 0) value (pos at +ℤ value) (pos 4096) test))
  body_told (Bes terms) fault is =
      terms_told terms (Bes terms) (fits_behind at) fault refl is (λ value sum test. (value, sum, outside (pos 0) value (pos at +ℤ value) (pos 4096) test))
  body_told (Dec numbers) fault is = words_told (length numbers) (Dec numbers) fault is (λ out. out)
  body_told (Oct words) fault is = words_told (length words) (Oct words) fault is (λ out. out)
  body_told End fault is = absurd cc

  -- and what is wrong is told
  operand_tells : (terms : List Term) (within : ℤ → Bool) (value : ℤ) → sum_of E at terms ≡ Some value → within value ≡ false
      → operand_fault within (sum_of E at terms) ≡ Some PlaceRange
  operand_tells terms within value sum test = ap (operand_fault within) sum ∙ ap unless test

  pub range_told : (body : Body) → IsOutOfRange E at body → body_fault E at body ≡ Some PlaceRange
  range_told Comment is = absurd is
  range_told (Order order terms indexed) is = ap unless (not_within at 1 (omega (arith, is)))
  range_told (Org terms) (value, sum, out) = operand_tells terms is_place value sum (outside_fails (pos 0) value value (pos 4095) out)
  range_told (Equ terms) (value, sum, out) = operand_tells terms is_value value sum (outside_fails (neg_ℤ (pos 262143)) value value (pos 262143) out)
  range_told (Bss terms) (value, sum, out) = operand_tells terms (fits_behind at) value sum (outside_fails (pos 0) value (pos at +ℤ value) (pos 4096) out)
  range_told (Bes terms) (value, sum, out) = operand_tells terms (fits_behind at) value sum (outside_fails (pos 0) value (pos at +ℤ value) (pos 4096) out)
  range_told (Dec numbers) is = ap unless (not_within at (length numbers) is)
  range_told (Oct words) is = ap unless (not_within at (length words) is)
  range_told End is = absurd is

  nothing_unknown : NamesUnknown E [] → ⊥
  nothing_unknown (term, name, among, is, missing) = omega (arith, among.1)

  pub unknown_told : (body : Body) → NamesUnknown E (placing_terms body) → body_fault E at body ≡ Some UndefinedEarly
  unknown_told Comment is = absurd (nothing_unknown is)
  unknown_told (Order order terms indexed) is = absurd (nothing_unknown is)
  unknown_told (Org terms) is = ap (operand_fault is_place) (unknown_none E at terms is)
  unknown_told (Equ terms) is = ap (operand_fault is_value) (unknown_none E at terms is)
  unknown_told (Bss terms) is = ap (operand_fault (fits_behind at)) (unknown_none E at terms is)
  unknown_told (Bes terms) is = ap (operand_fault (fits_behind at)) (unknown_none E at terms is)
  unknown_told (Dec numbers) is = absurd (nothing_unknown is)
  unknown_told (Oct words) is = absurd (nothing_unknown is)
  unknown_told End is = absurd (nothing_unknown is)
