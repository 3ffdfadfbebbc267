-- The first fault of the phase of places is the least of all. The crates above cite `place_fault_holds`, `place_fault_least` and
-- `place_faultless`.
use Rattle.std.proofs.Common.{◌≡◌, ℕ, ◌+◌, ◌≤◌, List, [], ◌∷◌, ◌++◌, length, reverse, Option, Some, None, option_map, refl, sym, ap, subst, ◌∙◌, inl, inr, arith, append_assoc, append-nil}
use mathlib.Core.List.{reverse-cons}
use Rattle.std.specs.List.{Contains}
use Rattle.std.specs.Option.{option_or}
use Rattle.std.proofs.lemmas.List.Elements.{Contains-append_left, Contains-append_right, Contains-append_cases}
use Rattle.ags_card.specs.declared.cards.Card.{Card}
use Rattle.ags_card.specs.declared.terms.Term.{Term}
use Rattle.ags_symbol.specs.Symbol.{Entry, NamesUnknown, found}
use Rattle.ags_symbol.proofs.FoundLemmas.{Contains-cons, Contains-first, found_some, found_none}
use Rattle.ags_places.specs.declared.source_error.PlaceFault.{PlaceFault}
use Rattle.ags_places.specs.declared.source_error.PlaceFault.TheVariants.{SymbolTwice, UndefinedEarly, PlaceRange}
use Rattle.ags_places.specs.Deck.{cards}
use Rattle.ags_places.specs.Fault.{body_fault, first_place_fault, place_fault, twice}
use Rattle.ags_places.specs.Faulty.{DefinesBefore, HasPlaceFault, HoldsAt, IsMisplacedBy, UsesUndefined, place_fault_number, placing_terms}
use Rattle.ags_places.specs.Place.{Fits, early, pair_of, place, symbol_value}
use Rattle.ags_places.proofs.FirstLemmas.{NoLater, Tells, first_holds, first_least, first_none}
use Rattle.ags_places.proofs.RangeLemmas.{body_told, range_told, unknown_told}
use Rattle.ags_places.proofs.RunningLemmas.{Agrees, AgreesAlong, agrees_along, fits_one, known}

-- ---- the pairs of earlier cards

pair_defines : (symbol : Option (List ℕ)) (value : _) (number : ℕ) (entry : Entry) → Contains (pair_of symbol value number) entry → (entry.card ≡ number) × (symbol ≡ Some entry.name)
pair_defines None value number entry among = absurd (omega (arith, among.1))
pair_defines (Some name) value number entry among = elim (Contains-cons (record { name = name; value = value; card = number }) entry [] among) [
  | inl this ↦ (ap (λ (e : Entry). e.card) (sym this), ap (λ (e : Entry). Some e.name) this)
  | inr none ↦ absurd (omega (arith, none.1))
]

defined_further : (card : Card) (before : List Card) (number : ℕ) (name : List ℕ) → DefinesBefore before number name → DefinesBefore (card ∷ before) number name
defined_further card before number name (one, earlier, (later, whole, number_is), symbol) =
    (one, earlier, (card ∷ later, ap (λ (cs : List Card). card ∷ cs) whole, number_is), symbol)

-- a pair is of an earlier card that defines its symbol
known_defined : (before : List Card) (entry : Entry) → Contains (known before).pairs entry → DefinesBefore before entry.card entry.name
unfolding known
known_defined [] entry among = absurd (omega (arith, among.1))
known_defined (card ∷ before) entry among =
    let value = symbol_value (known before).pairs (known before).place card.body in
    elim (Contains-append_cases (known before).pairs (pair_of card.symbol value (length before + 1)) entry among) [
      | inl early ↦ defined_further card before entry.card entry.name (known_defined before entry early)
      | inr this ↦ let (number, symbol) = pair_defines card.symbol value (length before + 1) entry this in (card, before, ([], refl, number), symbol)
    ]

pair_there : (symbol : Option (List ℕ)) (value : _) (number : ℕ) (name : List ℕ) → symbol ≡ Some name → (entry : Entry) × Contains (pair_of symbol value number) entry × (entry.name ≡ name)
pair_there None value number name is = absurd cc
pair_there (Some other) value number name is =
    let same : other ≡ name = cc in
    (record { name = other; value = value; card = number }, Contains-first (record { name = other; value = value; card = number }) [], same)

-- and each symbol that an earlier card defines has one
known_there : (later : List Card) (card : Card) (earlier : List Card) (name : List ℕ) → card.symbol ≡ Some name
    → (entry : Entry) × Contains (known (later ++ card ∷ earlier)).pairs entry × (entry.name ≡ name)
unfolding known
known_there [] card earlier name symbol =
    let value = symbol_value (known earlier).pairs (known earlier).place card.body in
    let (entry, among, named) = pair_there card.symbol value (length earlier + 1) name symbol in
    (entry, Contains-append_right (known earlier).pairs (pair_of card.symbol value (length earlier + 1)) entry among, named)
known_there (other ∷ later) card earlier name symbol =
    let (entry, among, named) = known_there later card earlier name symbol in
    let before : List Card = later ++ card ∷ earlier in
    (entry, Contains-append_left (known before).pairs (pair_of other.symbol (symbol_value (known before).pairs (known before).place other.body) (length before + 1)) entry among, named)

defined_known : (before : List Card) (number : ℕ) (name : List ℕ) → DefinesBefore before number name
    → (entry : Entry) × Contains (known before).pairs entry × (entry.name ≡ name)
defined_known before number name (card, earlier, (later, whole, number_is), symbol) = rw whole (known_there later card earlier name symbol)

-- where S fits the cards, the pairs of the cards before one are these
agrees_from : (S : List Entry) (before front rest : List Card) → AgreesAlong S before (front ++ rest) → Agrees S (reverse front ++ before)
agrees_from S before [] [] along = along
agrees_from S before [] (card ∷ rest) along = along.0
agrees_from S before (card ∷ front) rest along =
    let turned : reverse (card ∷ front) ++ before ≡ reverse front ++ (card ∷ before) = rw (reverse-cons, append_assoc) refl in
    rw turned (agrees_from S (card ∷ before) front rest along.1)

agrees_at : (S : List Entry) (all front rest : List Card) → Fits S all → all ≡ front ++ rest → Agrees S (reverse front)
agrees_at S all front rest fits whole =
    let along : AgreesAlong S [] (front ++ rest) = subst (λ (cs : List Card). AgreesAlong S [] cs) whole (agrees_along S all fits) in
    subst (Agrees S) (append-nil (reverse front)) (agrees_from S [] front rest along)

-- ---- the fault of a card

module _ (S : List Entry) (before : List Card) (card : Card) (agrees : Agrees S before) where
  E : List Entry
  E = early S (length before)

  early_is : E ≡ (known before).pairs
  unfolding E
  early_is = agrees.pairs

  -- a symbol without a pair is one that no earlier card defines
  unknown_undefined : (terms : List Term) → NamesUnknown E terms → UsesUndefined before terms
  unknown_undefined terms (term, name, among, is, missing) = (term, name, among, is, λ number defined. apart number defined)
    where
      apart : (number : ℕ) → DefinesBefore before number name → ⊥
      apart number defined =
          let (entry, there, named) = defined_known before number name defined in
          missing entry (subst (λ (pairs : List Entry). Contains pairs entry) (sym early_is) there) named

  undefined_unknown : (terms : List Term) → UsesUndefined before terms → NamesUnknown E terms
  undefined_unknown terms (term, name, among, is, missing) = (term, name, among, is, λ entry there named. apart entry there named)
    where
      apart : (entry : Entry) → Contains E entry → entry.name ≡ name → ⊥
      apart entry there named =
          let defined = known_defined before entry (subst (λ (pairs : List Entry). Contains pairs entry) early_is there) in
          missing entry.card (subst (DefinesBefore before entry.card) named defined)

  -- what is told of the symbol
  twice_told : (symbol : Option (List ℕ)) (fault : PlaceFault) → twice E symbol ≡ Some fault
      → (name : List ℕ) × (first : ℕ) × (symbol ≡ Some name) × DefinesBefore before first name × (fault ≡ SymbolTwice first)
  twice_told None fault is = absurd cc
  twice_told (Some name) fault is = by_found (found name E) refl is
    where
      by_found : (pair : Option Entry) → found name E ≡ pair → option_map (λ (entry : Entry). SymbolTwice entry.card) pair ≡ Some fault
          → (other : List ℕ) × (first : ℕ) × (Some name ≡ Some other) × DefinesBefore before first other × (fault ≡ SymbolTwice first)
      by_found None found_is told = absurd cc
      by_found (Some entry) found_is told =
          let there = found_some name E entry found_is in
          let defined = known_defined before entry (subst (λ (pairs : List Entry). Contains pairs entry) early_is there.0) in
          let same : SymbolTwice entry.card ≡ fault = cc in
          (name, entry.card, refl, subst (DefinesBefore before entry.card) there.1 defined, sym same)

  body_sound : (fault : PlaceFault) → body_fault E (place S before) card.body ≡ Some fault → IsMisplacedBy S fault before card
  unfolding E
  body_sound fault is = elim (body_told E (place S before) card.body fault is) [
    | inl undefined ↦ rw (undefined.0) (unknown_undefined (placing_terms card.body) undefined.1)
    | inr range ↦ rw (range.0) (range.1)
  ]

  by_symbol : (symbol : Option PlaceFault) (fault : PlaceFault) → twice E card.symbol ≡ symbol → option_or symbol (body_fault E (place S before) card.body) ≡ Some fault
      → IsMisplacedBy S fault before card
  by_symbol None fault symbol_is is = body_sound fault is
  by_symbol (Some one) fault symbol_is is =
      let same : one ≡ fault = cc in
      let (name, first, symbol, defined, one_is) = twice_told card.symbol one symbol_is in
      rw (sym same ∙ one_is) (name, symbol, defined)

  place_sound : (fault : PlaceFault) → place_fault S before card ≡ Some fault → IsMisplacedBy S fault before card
  unfolding E
  place_sound fault is = by_symbol (twice E card.symbol) fault refl is

  -- what is told, where something is wrong: of no greater number
  Told : ℕ → Type 0
  Told most = (g : PlaceFault) × (place_fault S before card ≡ Some g) × (place_fault_number g ≤ most)

  -- the symbol comes first
  told_by : (symbol : Option PlaceFault) (fault : PlaceFault) → twice E card.symbol ≡ symbol → 10 ≤ place_fault_number fault
      → body_fault E (place S before) card.body ≡ Some fault → Told (place_fault_number fault)
  unfolding E Told
  told_by None fault symbol_is least is = (fault, rw symbol_is is, omega arith)
  told_by (Some one) fault symbol_is least is =
      let (name, first, symbol, defined, one_is) = twice_told card.symbol one symbol_is in
      (one, rw symbol_is refl, omega (arith, least, ap place_fault_number one_is))

  twice_tells : (name : List ℕ) (first : ℕ) → card.symbol ≡ Some name → DefinesBefore before first name → Told 10
  unfolding E Told
  twice_tells name first symbol defined = by_found (found name E) refl
    where
      by_found : (pair : Option Entry) → found name E ≡ pair → Told 10
      by_found None found_is =
          let (entry, there, named) = defined_known before first name defined in
          absurd (found_none name E entry found_is (subst (λ (pairs : List Entry). Contains pairs entry) (sym early_is) there) named)
      by_found (Some entry) found_is =
          let told : twice E card.symbol ≡ Some (SymbolTwice entry.card) = ap (twice E) symbol ∙ ap (option_map (λ (entry : Entry). SymbolTwice entry.card)) found_is in
          (SymbolTwice entry.card, ap (λ (one : Option PlaceFault). option_or one (body_fault E (place S before) card.body)) told, omega arith)

  place_least : (fault : PlaceFault) → IsMisplacedBy S fault before card → (g : PlaceFault) × (place_fault S before card ≡ Some g) × (place_fault_number g ≤ place_fault_number fault)
  unfolding E Told
  place_least (SymbolTwice first) (name, symbol, defined) = twice_tells name first symbol defined
  place_least UndefinedEarly is =
      told_by (twice E card.symbol) UndefinedEarly refl (omega arith) (unknown_told E (place S before) card.body (undefined_unknown (placing_terms card.body) is))
  place_least PlaceRange is = told_by (twice E card.symbol) PlaceRange refl (omega arith) (range_told E (place S before) card.body is)

-- ---- the first fault

module _ (S : List Entry) (text : List ℕ) (fits : Fits S (cards text)) where
  places_tell : Tells (place_fault S) (IsMisplacedBy S) place_fault_number (cards text)
  places_tell = record {
    sound = λ front card behind fault whole told. place_sound S (reverse front) card (agrees_at S (cards text) front (card ∷ behind) fits whole) fault told;
    least = λ front card behind fault whole so. place_least S (reverse front) card (agrees_at S (cards text) front (card ∷ behind) fits whole) fault so;
  }

  -- the one list that fits is S
  held_by : (number : ℕ) (fault : PlaceFault) → HasPlaceFault text number fault → HoldsAt (IsMisplacedBy S fault) (cards text) number
  held_by number fault (T, too, held) =
      let same : T ≡ S = fits_one T S (cards text) too fits in
      subst (λ (U : List Entry). HoldsAt (IsMisplacedBy U fault) (cards text) number) same held

  pub place_fault_holds : (number : ℕ) (fault : PlaceFault) → first_place_fault S text ≡ Some (number, fault) → HasPlaceFault text number fault
  place_fault_holds number fault is = (S, fits, first_holds (place_fault S) (IsMisplacedBy S) place_fault_number (cards text) places_tell number fault is)

  pub place_fault_least : (number : ℕ) (fault : PlaceFault) → first_place_fault S text ≡ Some (number, fault) → (other : ℕ) (too : PlaceFault) → HasPlaceFault text other too
      → NoLater number (place_fault_number fault) other (place_fault_number too)
  place_fault_least number fault is other too held =
      first_least (place_fault S) (IsMisplacedBy S) place_fault_number (cards text) places_tell number fault is other too (held_by other too held)

  pub place_faultless : first_place_fault S text ≡ None → (number : ℕ) (fault : PlaceFault) → HasPlaceFault text number fault → ⊥
  place_faultless none number fault held = first_none (place_fault S) (IsMisplacedBy S) place_fault_number (cards text) places_tell none number fault (held_by number fault held)
