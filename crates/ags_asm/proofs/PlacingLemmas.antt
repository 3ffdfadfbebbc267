-- The cards of a source while they are placed, one further.
use Rattle.std.proofs.Common.{◌≡◌, ℕ, ◌+◌, List, [], ◌∷◌, ◌++◌, length, Some, None, refl, sym, ap, subst, ◌∙◌, append_assoc, append-nil, length-append, arith}
use Rattle.std.specs.Prelude.{Ok}
use Rattle.ags_text.specs.Fault.{first_fault, first_fault-nil, first_fault-faulty, first_fault-faultless}
use Rattle.ags_text.specs.Line.{LineAt, Follow}
use Rattle.ags_card.specs.declared.cards.Card.{Card}
use Rattle.ags_card.specs.Reading.{reading}
use Rattle.ags_symbol.specs.Symbol.{Entry}
use Rattle.ags_places.specs.declared.placed.Placed.{Placed}
use Rattle.ags_places.specs.declared.source_error.PlaceFault.{PlaceFault}
use Rattle.ags_places.specs.Deck.{card_lines, card_of, cards_in, cards}
use Rattle.ags_places.specs.Fault.{first_place_fault, place_fault_at}
use Rattle.ags_places.specs.Place.{Fits, count, counts, pair_of, place_after, place_of_word, symbol_value}
use Rattle.ags_places.specs.Source.{IsFirstPlaceFault, IsPlaced, placed_at, placed_cards}
use Rattle.ags_places.proofs.RunningLemmas.{known, next_pair, next_pairs, known_fault, known_places, fits_some, faults-known, places-known}
use Rattle.ags_asm.proofs.ReadingLemmas.{Reading, Reading-none, Reading-more, Reading-all}

-- the cards of some lines are placed, and these lines are left
pub record Placing (text : List ℕ) (left : List LineAt) (placed : List Placed) (E : List Entry) (at : ℕ) : Type 0 where
  pub reading : Reading text left (length placed)
  pub before : List Card
  pub many : length placed ≡ length before
  pub pairs_are : E ≡ (known before).pairs
  pub at_is : at ≡ (known before).place
  pub pairs : next_pairs [] (cards text) ≡ E ++ next_pairs before (cards_in left)
  pub fault : first_fault known_fault [] (cards text) ≡ first_fault known_fault before (cards_in left)
  pub cards_are : placed_cards (card_lines text) (known_places [] (cards text)) (counts (cards text)) ≡ placed ++ placed_cards left (known_places before (cards_in left)) (counts (cards_in left))

known-nil : ([] ≡ (known []).pairs) × (0 ≡ (known []).place)
unfolding known
known-nil = (refl, refl)

pub Placing-none : (text : List ℕ) → Follow text 0 (card_lines text) → Placing text (card_lines text) [] [] 0
Placing-none text follow = record {
  reading = Reading-none text follow;
  before = [];
  many = refl;
  pairs_are = known-nil.0;
  at_is = known-nil.1;
  pairs = refl;
  fault = refl;
  cards_are = refl;
}

-- the first fault of the phase of places
pub first_place_fault_is : (text : List ℕ) (found : ℕ × PlaceFault) → first_fault known_fault [] (cards text) ≡ Some found → IsFirstPlaceFault text found
first_place_fault_is text found is = record {
  symbols = next_pairs [] (cards text);
  fits = fits_some (cards text);
  first = faults-known (next_pairs [] (cards text)) (cards text) (fits_some (cards text)) ∙ is;
}

-- the next card can't be placed
pub Placing-fault : (text : List ℕ) (line : LineAt) (left : List LineAt) (placed : List Placed) (E : List Entry) (at : ℕ) (card : Card) (fault : PlaceFault)
    → Placing text (line ∷ left) placed E at → reading line.bytes ≡ Ok card → place_fault_at E at card ≡ Some fault
    → first_fault known_fault [] (cards text) ≡ Some (length placed + 1, fault)
Placing-fault text line left placed E at card fault so is wrong_at =
    let here : card_of (reading line.bytes) ≡ card = rw is refl in
    let wrong : known_fault so.before card ≡ Some fault = rw (← so.pairs_are, ← so.at_is) wrong_at in
    so.fault ∙ rw here (first_fault-faulty known_fault so.before card (cards_in left) fault wrong) ∙ ap (λ (n : ℕ). Some (n + 1, fault)) (sym so.many)

-- it is placed
pub Placing-more : (text : List ℕ) (line : LineAt) (left : List LineAt) (placed : List Placed) (E : List Entry) (at : ℕ) (card : Card)
    → Placing text (line ∷ left) placed E at → reading line.bytes ≡ Ok card → place_fault_at E at card ≡ None
    → Placing text left (placed ++ placed_at line (place_of_word at card.body) (count card.body) ∷ []) (E ++ pair_of card.symbol (symbol_value E at card.body) (length placed + 1)) (place_after E at card.body)
unfolding known next_pairs known_places
Placing-more text line left placed E at card so is fault =
    let here : card_of (reading line.bytes) ≡ card = rw is refl in
    let right : known_fault so.before card ≡ None = rw (← so.pairs_are, ← so.at_is) fault in
    let pair : next_pair so.before card ≡ pair_of card.symbol (symbol_value E at card.body) (length placed + 1) = rw (so.pairs_are, so.at_is, so.many) refl in
    record {
      reading = rw (length-append placed (placed_at line (place_of_word at card.body) (count card.body) ∷ [])) (Reading-more text line left (length placed) card so.reading is);
      before = card ∷ so.before;
      many = omega (arith, so.many, length-append placed (placed_at line (place_of_word at card.body) (count card.body) ∷ []));
      pairs_are = rw (← pair) (ap (λ (pairs : List Entry). pairs ++ next_pair so.before card) so.pairs_are);
      at_is = rw (so.pairs_are, so.at_is) refl;
      pairs = so.pairs ∙ rw (here, pair) (sym (append_assoc E (pair_of card.symbol (symbol_value E at card.body) (length placed + 1)) (next_pairs (card ∷ so.before) (cards_in left))));
      fault = so.fault ∙ rw here (first_fault-faultless known_fault so.before card (cards_in left) right);
      cards_are = so.cards_are ∙ rw (here, ← so.at_is) (sym (append_assoc placed (placed_at line (place_of_word at card.body) (count card.body) ∷ []) (placed_cards left (known_places (card ∷ so.before) (cards_in left)) (counts (cards_in left)))));
    }

-- all are placed
pub Placing-all : (text : List ℕ) (placed : List Placed) (E : List Entry) (at : ℕ) → Placing text [] placed E at → IsPlaced text placed E
unfolding next_pairs known_places
Placing-all text placed E at so =
    let S_is : next_pairs [] (cards text) ≡ E = so.pairs ∙ append-nil E in
    let fits : Fits E (cards text) = subst (λ (S : List Entry). Fits S (cards text)) S_is (fits_some (cards text)) in
    let none : first_place_fault E text ≡ None = faults-known E (cards text) fits ∙ so.fault ∙ first_fault-nil known_fault so.before in
    record {
      fits = fits;
      faultless = rw (Reading-all text (length placed) so.reading, none) refl;
      cards_are = sym (append-nil placed) ∙ sym so.cards_are ∙ rw (places-known E (cards text) fits) refl;
    }
