-- The pairs and the place as a reader of the cards has them, card by card, and that the one list S that fits the cards is what
-- it ends with. The crates above cite `some_fits` and `fits_one`, behind the law `one_list_of_pairs_fits`.
use Rattle.std.proofs.Common.{◌≡◌, ℕ, ◌+◌, ◌<◌, ◌≤◌, List, [], ◌∷◌, ◌++◌, length, Option, Some, None, refl, sym, ap, ◌∙◌, append_assoc, arith}
use Rattle.std.specs.Prelude.{nat_le}
use Rattle.std.proofs.lemmas.Bool.{le-leb, lt-leb}
use Rattle.std.proofs.lemmas.List.{append-nil}
use Rattle.std.proofs.lemmas.List.Elements.{filter-append}
use Rattle.ags_text.specs.Fault.{first_fault}
use Rattle.ags_card.specs.declared.cards.Card.{Card}
use Rattle.ags_symbol.specs.Symbol.{Entry}
use Rattle.ags_places.specs.declared.source_error.PlaceFault.{PlaceFault}
use Rattle.ags_places.specs.Place.{early, place, place_after, symbol_value, pair_of, pairs_after, Fits, place_of_word, places_after, places}
use Rattle.ags_places.specs.Fault.{place_fault, place_fault_at}

-- ---- card by card

-- what is known after some cards: the pairs of their symbols, and the place
pub record Known : Type 0 where
  pub pairs : List Entry
  pub place : ℕ

-- one card further; the number is how many cards stand before it
abbrev pub further : Known → (number : ℕ) → Card → Known
further so number card = record {
  pairs = so.pairs ++ pair_of card.symbol (symbol_value so.pairs so.place card.body) (number + 1);
  place = place_after so.pairs so.place card.body;
}

-- what is known after cards, nearest first
unfoldable pub known : List Card → Known
known [] = record { pairs = []; place = 0 }
known (card ∷ before) = further (known before) (length before) card

-- the pair that a card gives after those before
abbrev pub next_pair : List Card → Card → List Entry
next_pair before card = pair_of card.symbol (symbol_value (known before).pairs (known before).place card.body) (length before + 1)

-- the pairs that come after those of the cards before
unfoldable pub next_pairs : List Card → List Card → List Entry
next_pairs before [] = []
next_pairs before (card ∷ cards) = next_pair before card ++ next_pairs (card ∷ before) cards

-- the fault of a card by what is known
abbrev pub known_fault : List Card → Card → Option PlaceFault
known_fault before card = place_fault_at (known before).pairs (known before).place card

-- the place of a card's word by what is known
abbrev pub known_word_place : List Card → Card → Option ℕ
known_word_place before card = place_of_word (known before).place card.body

unfoldable pub known_places : List Card → List Card → List (Option ℕ)
known_places before [] = []
known_places before (card ∷ cards) = known_word_place before card ∷ known_places (card ∷ before) cards

-- ---- the pairs of the first cards

-- a pair of a card up to that number stays, and one of a later card goes
early-pair : (symbol : Option (List ℕ)) (value : _) (number n : ℕ) → number ≤ n → early (pair_of symbol value number) n ≡ pair_of symbol value number
early-pair None value number n within = refl
early-pair (Some name) value number n within = rw (le-leb number n within) refl

late-pair : (symbol : Option (List ℕ)) (value : _) (number n : ℕ) → n < number → early (pair_of symbol value number) n ≡ []
late-pair None value number n past = refl
late-pair (Some name) value number n past = rw (lt-leb number n past) refl

early-append : (front rest : List Entry) (n : ℕ) → early (front ++ rest) n ≡ early front n ++ early rest n
early-append front rest n = filter-append (λ (entry : Entry). nat_le entry.card n) front rest

-- what is known after cards is of these cards
early-known : (before : List Card) (n : ℕ) → length before ≤ n → early (known before).pairs n ≡ (known before).pairs
unfolding known
early-known [] n within = refl
early-known (card ∷ before) n within =
    early-append (known before).pairs (next_pair before card) n
    ∙ rw (early-known before n (omega arith), early-pair card.symbol (symbol_value (known before).pairs (known before).place card.body) (length before + 1) n (omega arith)) refl

-- what comes after is of later ones, by whichever list its operands are taken
late-pairs : (S : List Entry) (before cards : List Card) (n : ℕ) → n ≤ length before → early (pairs_after S before cards) n ≡ []
unfolding pairs_after
late-pairs S before [] n within = refl
late-pairs S before (card ∷ cards) n within =
    let value = symbol_value (early S (length before)) (place S before) card.body in
    early-append (pair_of card.symbol value (length before + 1)) (pairs_after S (card ∷ before) cards) n
    ∙ rw (late-pair card.symbol value (length before + 1) n (omega arith), late-pairs S (card ∷ before) cards n (omega arith)) refl

late-next : (before cards : List Card) (n : ℕ) → n ≤ length before → early (next_pairs before cards) n ≡ []
unfolding next_pairs
late-next before [] n within = refl
late-next before (card ∷ cards) n within =
    let value = symbol_value (known before).pairs (known before).place card.body in
    early-append (pair_of card.symbol value (length before + 1)) (next_pairs (card ∷ before) cards) n
    ∙ rw (late-pair card.symbol value (length before + 1) n (omega arith), late-next (card ∷ before) cards n (omega arith)) refl

-- where S is what is known and later pairs, the pairs up to these cards are what is known
early-split : (S : List Entry) (before : List Card) (later : List Entry) → early later (length before) ≡ [] → S ≡ (known before).pairs ++ later → early S (length before) ≡ (known before).pairs
early-split S before later late is =
    ap (λ (xs : List Entry). early xs (length before)) is ∙ early-append (known before).pairs later (length before)
    ∙ rw (early-known before (length before) (omega arith), late) (append-nil (known before).pairs)

-- ---- S agrees with what is known

-- of the cards before, S says what is known
pub record Agrees (S : List Entry) (before : List Card) : Type 0 where
  pub pairs : early S (length before) ≡ (known before).pairs
  pub at : place S before ≡ (known before).place

-- and so of each front of the cards after them
abbrev pub AgreesAlong : List Entry → List Card → List Card → Type 0
AgreesAlong S before [] = Agrees S before
AgreesAlong S before (card ∷ cards) = Agrees S before × AgreesAlong S (card ∷ before) cards

-- one card further
place-further : (S : List Entry) (before : List Card) (card : Card) → Agrees S before → place S (card ∷ before) ≡ (known (card ∷ before)).place
unfolding place known
place-further S before card so = rw (so.pairs, so.at) refl

pairs-further : (S : List Entry) (before : List Card) (card : Card) (later : List Entry) → S ≡ (known before).pairs ++ (next_pair before card ++ later) → S ≡ (known (card ∷ before)).pairs ++ later
unfolding known
pairs-further S before card later is = is ∙ sym (append_assoc (known before).pairs (next_pair before card) later)

-- a list that fits after what is known has the pairs that come next
agree_fitting : (S : List Entry) (before cards : List Card) → S ≡ (known before).pairs ++ pairs_after S before cards → place S before ≡ (known before).place
    → (pairs_after S before cards ≡ next_pairs before cards) × AgreesAlong S before cards
unfolding pairs_after next_pairs
agree_fitting S before [] is at = (refl, record { pairs = early-split S before [] refl is; at = at })
agree_fitting S before (card ∷ cards) is at =
    let so : Agrees S before = record { pairs = early-split S before _ (late-pairs S before (card ∷ cards) (length before) (omega arith)) is; at = at } in
    let first : pair_of card.symbol (symbol_value (early S (length before)) (place S before) card.body) (length before + 1) ≡ next_pair before card = rw (so.pairs, so.at) refl in
    let behind = pairs_after S (card ∷ before) cards in
    let whole : S ≡ (known before).pairs ++ (next_pair before card ++ behind) = is ∙ ap (λ (pair : List Entry). (known before).pairs ++ (pair ++ behind)) first in
    let rest = agree_fitting S (card ∷ before) cards (pairs-further S before card behind whole) (place-further S before card so) in
    (rw (first, rest.0) refl, (so, rest.1))

-- and the list that has the pairs that come next fits
agree_next : (S : List Entry) (before cards : List Card) → S ≡ (known before).pairs ++ next_pairs before cards → place S before ≡ (known before).place
    → (pairs_after S before cards ≡ next_pairs before cards) × AgreesAlong S before cards
unfolding pairs_after next_pairs
agree_next S before [] is at = (refl, record { pairs = early-split S before [] refl is; at = at })
agree_next S before (card ∷ cards) is at =
    let so : Agrees S before = record { pairs = early-split S before _ (late-next before (card ∷ cards) (length before) (omega arith)) is; at = at } in
    let first : pair_of card.symbol (symbol_value (early S (length before)) (place S before) card.body) (length before + 1) ≡ next_pair before card = rw (so.pairs, so.at) refl in
    let rest = agree_next S (card ∷ before) cards (pairs-further S before card (next_pairs (card ∷ before) cards) is) (place-further S before card so) in
    (rw (first, rest.0) refl, (so, rest.1))

place-start : (S : List Entry) → place S [] ≡ (known []).place
unfolding place known
place-start S = refl

pairs-start : (S cards : List Entry) → S ≡ cards → S ≡ (known []).pairs ++ cards
unfolding known
pairs-start S cards is = is

-- ---- the one list that fits

-- each list that fits the cards has the pairs that come from the start
pub fits_only : (S : List Entry) (cards : List Card) → Fits S cards → S ≡ next_pairs [] cards
fits_only S cards fits = fits ∙ (agree_fitting S [] cards (pairs-start S (pairs_after S [] cards) fits) (place-start S)).0

-- the list with these pairs fits
pub fits_some : (cards : List Card) → Fits (next_pairs [] cards) cards
fits_some cards = sym (agree_next (next_pairs [] cards) [] cards (pairs-start (next_pairs [] cards) (next_pairs [] cards) refl) (place-start (next_pairs [] cards))).0

-- some list fits, and it is the only one
pub some_fits : (cards : List Card) → (S : List Entry) × Fits S cards
some_fits cards = (next_pairs [] cards, fits_some cards)

pub fits_one : (S T : List Entry) (cards : List Card) → Fits S cards → Fits T cards → S ≡ T
fits_one S T cards one other = fits_only S cards one ∙ sym (fits_only T cards other)

pub agrees_along : (S : List Entry) (cards : List Card) → Fits S cards → AgreesAlong S [] cards
agrees_along S cards fits = (agree_fitting S [] cards (pairs-start S (pairs_after S [] cards) fits) (place-start S)).1

-- ---- faults and places by what is known

fault-known : (S : List Entry) (before : List Card) (card : Card) → Agrees S before → place_fault S before card ≡ known_fault before card
fault-known S before card so = rw (so.pairs, so.at) refl

faults-along : (S : List Entry) (before cards : List Card) → AgreesAlong S before cards → first_fault (place_fault S) before cards ≡ first_fault known_fault before cards
unfolding first_fault
faults-along S before [] so = refl
faults-along S before (card ∷ cards) so = rw (fault-known S before card so.0, faults-along S (card ∷ before) cards so.1) refl

pub faults-known : (S : List Entry) (cards : List Card) → Fits S cards → first_fault (place_fault S) [] cards ≡ first_fault known_fault [] cards
faults-known S cards fits = faults-along S [] cards (agrees_along S cards fits)

places-along : (S : List Entry) (before cards : List Card) → AgreesAlong S before cards → places_after S before cards ≡ known_places before cards
unfolding places_after known_places
places-along S before [] so = refl
places-along S before (card ∷ cards) so = let here = so.0.at in rw (here, places-along S (card ∷ before) cards so.1) refl

pub places-known : (S : List Entry) (cards : List Card) → Fits S cards → places S cards ≡ known_places [] cards
places-known S cards fits = places-along S [] cards (agrees_along S cards fits)
