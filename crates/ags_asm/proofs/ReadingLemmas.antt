-- The lines of a source while they are read, one further.
use Rattle.std.proofs.Common.{◌≡◌, ℕ, ◌+◌, ◌≤◌, cond, List, [], ◌∷◌, length, Some, None, refl, sym, ap, ◌∙◌, arith}
use Rattle.std.specs.Prelude.{Result, Ok, Err}
use Rattle.ags_text.specs.Fault.{first_fault, first_fault-nil, first_fault-faulty, first_fault-faultless}
use Rattle.ags_text.specs.Line.{LineAt, Follow}
use Rattle.ags_card.specs.declared.cards.Card.{Card}
use Rattle.ags_card.specs.declared.cards.CardFault.{CardFault}
use Rattle.ags_card.specs.Reading.{reading}
use Rattle.ags_places.specs.Deck.{card_lines, deck, ends, readings}
use Rattle.ags_places.specs.Fault.{card_fault, first_card_fault}
use Rattle.ags_places.proofs.PlacingLemmas.{deck_left}

-- so many of a source's lines are cards, and these are left
pub record Reading (text : List ℕ) (left : List LineAt) (number : ℕ) : Type 0 where
  pub before : List (Result Card CardFault)
  pub many : number ≡ length before
  pub fault : first_card_fault text ≡ first_fault card_fault before (readings left)
  pub from : ℕ
  pub follow : Follow text from left
  pub few : number ≤ from

pub Reading-none : (text : List ℕ) → Follow text 0 (card_lines text) → Reading text (card_lines text) 0
Reading-none text follow = record { before = []; many = refl; fault = refl; from = 0; follow = follow; few = omega arith }

-- the next line stands within the text
pub Reading-within : (text : List ℕ) (line : LineAt) (left : List LineAt) (number : ℕ) → Reading text (line ∷ left) number → (number ≤ line.start) × (line.start + length line.bytes ≤ length text)
Reading-within text line left number so =
    let follow = so.follow in
    let few = so.few in
    (omega (arith, follow.0, few), follow.1.within)

-- it is a card
pub Reading-more : (text : List ℕ) (line : LineAt) (left : List LineAt) (number : ℕ) (card : Card) → Reading text (line ∷ left) number → reading line.bytes ≡ Ok card → Reading text left (number + 1)
Reading-more text line left number card so is =
    let follow = so.follow in
    record {
      before = reading line.bytes ∷ so.before;
      many = omega (arith, so.many);
      fault = so.fault ∙ first_fault-faultless card_fault so.before (reading line.bytes) (readings left) (rw is refl);
      from = line.start + length line.bytes + 1;
      follow = follow.2;
      few = omega (arith, so.few, follow.0);
    }

-- it is none
pub Reading-fault : (text : List ℕ) (line : LineAt) (left : List LineAt) (number : ℕ) (fault : CardFault) → Reading text (line ∷ left) number → reading line.bytes ≡ Err fault
    → first_card_fault text ≡ Some (number + 1, fault)
Reading-fault text line left number fault so is =
    so.fault ∙ first_fault-faulty card_fault so.before (reading line.bytes) (readings left) fault (rw is refl) ∙ ap (λ (n : ℕ). Some (n + 1, fault)) (sym so.many)

pub reading_fault : (text : List ℕ) (line : LineAt) (lines : List LineAt) (number : ℕ) (fault : CardFault) → Reading text (deck (line ∷ lines)) number → reading line.bytes ≡ Err fault
    → first_card_fault text ≡ Some (number + 1, fault)
reading_fault text line lines number fault so is =
    Reading-fault text line (cond (ends (reading line.bytes)) [] (deck lines)) number fault (deck_left (λ (left : List LineAt). Reading text left number) line lines so) is

pub reading_within : (text : List ℕ) (line : LineAt) (lines : List LineAt) (number : ℕ) → Reading text (deck (line ∷ lines)) number → (number ≤ line.start) × (line.start + length line.bytes ≤ length text)
reading_within text line lines number so =
    Reading-within text line (cond (ends (reading line.bytes)) [] (deck lines)) number (deck_left (λ (left : List LineAt). Reading text left number) line lines so)

pub Reading-all : (text : List ℕ) (number : ℕ) → Reading text [] number → first_card_fault text ≡ None
Reading-all text number so = so.fault ∙ first_fault-nil card_fault so.before
