-- The first fault of a list is the least of all faults that its elements have, by the number of the element and then by that of the
-- kind, where of each element the least is told. The crates above cite `Tells`, `first_holds`,
-- `first_least` and `first_none`, and, where there is no fault, `both_none`, `none_later`, `none_told` and `early_faultless`.
use Rattle.std.proofs.Common.{◌≡◌, ℕ, ◌<◌, ◌≤◌, List, [], ◌∷◌, ◌++◌, length, reverse, Option, Some, None, refl, sym, ap, subst, ◌∙◌, ◌⊎◌, inl, inr, arith, append-nil}
use Rattle.std.proofs.lemmas.Bool.{cases_lt, cases_eq}
use Rattle.std.specs.Option.{option_or}
use Rattle.ags_text.specs.Fault.{first_fault, or_later, IsFirstFault}
use Rattle.ags_text.proofs.FaultLemmas.{faultless, found}
use Rattle.ags_symbol.specs.Symbol.{Entry}
use Rattle.ags_places.specs.declared.source_error.SourceKind.{SourceKind}
use Rattle.ags_places.specs.declared.source_error.SourceKind.TheVariants as kind
use Rattle.ags_places.specs.Fault.{early_fault, first_card_fault, first_place_fault, told_as}
use Rattle.ags_places.specs.Faulty.{HoldsAt}

-- ---- no fault

pub both_none : {F : Type 0} (first later : Option F) → option_or first later ≡ None → (first ≡ None) × (later ≡ None)
both_none None later none = (refl, none)
both_none (Some fault) later none = absurd cc

pub none_later : {F : Type 0} (number : ℕ) (head : Option F) (later : Option (ℕ × F)) → or_later number head later ≡ None → (head ≡ None) × (later ≡ None)
none_later number None later none = (refl, none)
none_later number (Some fault) later none = absurd cc

pub none_told : {F : Type 0} (phase : F → SourceKind) (found : Option (ℕ × F)) → told_as phase found ≡ None → found ≡ None
none_told phase None none = refl
none_told phase (Some one) none = absurd cc

pub early_faultless : (text : List ℕ) (S : List Entry) → early_fault S text ≡ None → (first_card_fault text ≡ None) × (first_place_fault S text ≡ None)
early_faultless text S none =
    let (misread, misplaced) = both_none (told_as kind.Card (first_card_fault text)) (told_as kind.Place (first_place_fault S text)) none in
    (none_told kind.Card (first_card_fault text) misread, none_told kind.Place (first_place_fault S text) misplaced)

-- ---- two places in a list

-- the lesser of two fronts is a front of the other
lesser_front : {X : Type 0} (front other : List X) (x y : X) (behind rest : List X) → front ++ x ∷ behind ≡ other ++ y ∷ rest → length front < length other
    → (between : List X) × (other ≡ front ++ x ∷ between)
lesser_front [] [] x y behind rest same less = absurd (omega (arith, less))
lesser_front [] (z ∷ other) x y behind rest same less = let here : x ≡ z = cc in (other, ap (λ (w : _). w ∷ other) (sym here))
lesser_front (w ∷ front) [] x y behind rest same less = absurd (omega (arith, less))
lesser_front (w ∷ front) (z ∷ other) x y behind rest same less =
    let here : w ≡ z = cc in
    let later : front ++ x ∷ behind ≡ other ++ y ∷ rest = cc in
    let (between, is) = lesser_front front other x y behind rest later (omega (arith, less)) in
    (between, ap (λ (v : _). v ∷ other) (sym here) ∙ ap (λ (vs : List _). w ∷ vs) is)

-- two fronts of one length are one
same_front : {X : Type 0} (front other : List X) (x y : X) (behind rest : List X) → front ++ x ∷ behind ≡ other ++ y ∷ rest → length front ≡ length other
    → (front ≡ other) × (x ≡ y)
same_front [] [] x y behind rest same long = let here : x ≡ y = cc in (refl, here)
same_front [] (z ∷ other) x y behind rest same long = absurd (omega (arith, long))
same_front (w ∷ front) [] x y behind rest same long = absurd (omega (arith, long))
same_front (w ∷ front) (z ∷ other) x y behind rest same long =
    let here : w ≡ z = cc in
    let later : front ++ x ∷ behind ≡ other ++ y ∷ rest = cc in
    let (fronts, elements) = same_front front other x y behind rest later (omega (arith, long)) in
    (ap (λ (v : _). v ∷ front) here ∙ ap (λ (vs : List _). z ∷ vs) fronts, elements)

-- ---- the least fault

-- the first of two faults: its element comes first, or it is of the same one and of no greater number
abbrev pub NoLater : (number least other more : ℕ) → Type 0
NoLater number least other more = (number < other) ⊎ ((number ≡ other) × (least ≤ more))

module _ {X F : Type 0} (fault : List X → X → Option F) (Is : F → List X → X → Type 0) (size : F → ℕ) (xs : List X) where
  -- what is told of an element is so, and what is so is told, or one of no greater number is
  pub record Tells : Type 0 where
    pub sound : (front : List X) (x : X) (behind : List X) (f : F) → xs ≡ front ++ x ∷ behind → fault (reverse front) x ≡ Some f → Is f (reverse front) x
    pub least : (front : List X) (x : X) (behind : List X) (f : F) → xs ≡ front ++ x ∷ behind → Is f (reverse front) x
        → (g : F) × (fault (reverse front) x ≡ Some g) × (size g ≤ size f)

  module _ (tells : Tells) where
    pub first_holds : (number : ℕ) (f : F) → first_fault fault [] xs ≡ Some (number, f) → HoldsAt (Is f) xs number
    first_holds number f is =
        let so : IsFirstFault fault [] xs (number, f) = found fault [] xs (number, f) is in
        record {
          front = so.front;
          x = so.faulty;
          behind = so.rest;
          whole = so.whole;
          number_is = omega (arith, so.number);
          is = tells.sound so.front so.faulty so.rest f so.whole (rw (append-nil (reverse so.front)) at so.is_faulty);
        }

    pub first_least : (number : ℕ) (f : F) → first_fault fault [] xs ≡ Some (number, f) → (other : ℕ) (g : F) → HoldsAt (Is g) xs other → NoLater number (size f) other (size g)
    first_least number f is other g held =
        elim (cases_lt number other) [
          | inl before ↦ inl before
          | inr not_before ↦ elim (cases_eq number other) [
            | inl same ↦ inr (same, at_one so same)
            | inr apart ↦ absurd (earlier so (omega (arith, not_before, apart)))
          ]
        ]
      where
        so : IsFirstFault fault [] xs (number, f)
        so = found fault [] xs (number, f) is

        told : (h : F) × (fault (reverse held.front) held.x ≡ Some h) × (size h ≤ size g)
        told = tells.least held.front held.x held.behind g held.whole held.is

        earlier : IsFirstFault fault [] xs (number, f) → other < number → ⊥
        earlier so less =
            let (between, is) = lesser_front held.front so.front held.x so.faulty held.behind so.rest (sym held.whole ∙ so.whole) (omega (arith, less, held.number_is, so.number)) in
            let none : fault (reverse held.front) held.x ≡ None = rw (append-nil (reverse held.front)) at (so.faultless held.front held.x between is) in
            let some = told.1 in
            absurd cc

        at_one : IsFirstFault fault [] xs (number, f) → number ≡ other → size f ≤ size g
        at_one so same =
            let (fronts, elements) = same_front held.front so.front held.x so.faulty held.behind so.rest (sym held.whole ∙ so.whole) (omega (arith, same, held.number_is, so.number)) in
            let here : fault (reverse so.front) so.faulty ≡ Some f = rw (append-nil (reverse so.front)) at so.is_faulty in
            let there : fault (reverse held.front) held.x ≡ Some f = ap (λ (fr : List X). fault (reverse fr) held.x) fronts ∙ ap (fault (reverse so.front)) elements ∙ here in
            let some = told.1 in
            let this : f ≡ told.0 = cc in
            subst (λ (h : F). size h ≤ size g) (sym this) told.2

    pub first_none : first_fault fault [] xs ≡ None → (other : ℕ) (g : F) → HoldsAt (Is g) xs other → ⊥
    first_none is other g held =
        let none : fault (reverse held.front) held.x ≡ None = rw (append-nil (reverse held.front)) at (faultless fault [] xs is held.front held.x held.behind held.whole) in
        let told = tells.least held.front held.x held.behind g held.whole held.is in
        let some = told.1 in
        absurd cc
