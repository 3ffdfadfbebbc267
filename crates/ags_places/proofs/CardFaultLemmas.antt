-- The first fault of the phase of cards is the least of all. The crates above cite `card_fault_holds`, `card_fault_least` and
-- `card_faultless`.
use Rattle.std.proofs.Common.{◌≡◌, ℕ, suc, ◌≤◌, List, [], ◌∷◌, length, Option, Some, None, refl, sym, ap, subst, ◌∙◌}
use Rattle.std.specs.Prelude.{Result, Ok, Err}
use Rattle.ags_text.specs.Line.{LineAt}
use Rattle.ags_text.specs.Fault.{first_fault}
use Rattle.ags_card.specs.declared.cards.Card.{Card}
use Rattle.ags_card.specs.declared.cards.CardFault.{CardFault}
use Rattle.ags_card.specs.Reading.{reading}
use Rattle.ags_card.specs.Spelling.{HasFault, fault_number}
use Rattle.ags_card.proofs.CardLaws.{reading-spells}
use Rattle.ags_card.proofs.LeastFaultLaws.{not_both_answers, told_least}
use Rattle.ags_places.specs.Deck.{card_lines, readings}
use Rattle.ags_places.specs.Fault.{card_fault, first_card_fault}
use Rattle.ags_places.specs.Faulty.{HasCardFault, IsMisread}
use Rattle.ags_places.proofs.FirstLemmas.{NoLater, Tells, first_holds, first_least, first_none}

-- ---- the fault of a line

line_fault : List LineAt → LineAt → Option CardFault
line_fault before line = card_fault [] (reading line.bytes)

-- what stands before doesn't matter
alone : (before : List (Result Card CardFault)) (read : Result Card CardFault) → card_fault before read ≡ card_fault [] read
alone before (Ok card) = refl
alone before (Err fault) = refl

lines_fault : (before : List (Result Card CardFault)) (front lines : List LineAt) → length before ≡ length front → first_fault card_fault before (readings lines) ≡ first_fault line_fault front lines
unfolding first_fault line_fault
lines_fault before front [] same = refl
lines_fault before front (line ∷ lines) same =
    rw (same, alone before (reading line.bytes), lines_fault (reading line.bytes ∷ before) (line ∷ front) lines (ap suc same)) refl

line_sound : (line : LineAt) (read : Result Card CardFault) (fault : CardFault) → reading line.bytes ≡ read → card_fault [] read ≡ Some fault → IsMisread fault [] line
line_sound line (Ok card) fault is told = absurd cc
line_sound line (Err one) fault is told = let same : one ≡ fault = cc in subst (HasFault line.bytes) same (told_least line.bytes one is).has

line_least : (line : LineAt) (read : Result Card CardFault) (fault : CardFault) → reading line.bytes ≡ read → IsMisread fault [] line
    → (g : CardFault) × (card_fault [] read ≡ Some g) × (fault_number g ≤ fault_number fault)
line_least line (Ok card) fault is has = absurd (not_both_answers line.bytes card fault (reading-spells line.bytes card is) has)
line_least line (Err told) fault is has = (told, refl, (told_least line.bytes told is).least fault has)

lines_tell : (lines : List LineAt) → Tells line_fault IsMisread fault_number lines
unfolding line_fault
lines_tell lines = record {
  sound = λ front line behind fault whole told. line_sound line (reading line.bytes) fault refl told;
  least = λ front line behind fault whole so. line_least line (reading line.bytes) fault refl so;
}

-- ---- the first fault

first_line : (text : List ℕ) → first_fault line_fault [] (card_lines text) ≡ first_card_fault text
first_line text = sym (lines_fault [] [] (card_lines text) refl)

pub card_fault_holds : (text : List ℕ) (number : ℕ) (fault : CardFault) → first_card_fault text ≡ Some (number, fault) → HasCardFault text number fault
card_fault_holds text number fault is = first_holds line_fault IsMisread fault_number (card_lines text) (lines_tell (card_lines text)) number fault (first_line text ∙ is)

pub card_fault_least : (text : List ℕ) (number : ℕ) (fault : CardFault) → first_card_fault text ≡ Some (number, fault) → (other : ℕ) (too : CardFault) → HasCardFault text other too
    → NoLater number (fault_number fault) other (fault_number too)
card_fault_least text number fault is = first_least line_fault IsMisread fault_number (card_lines text) (lines_tell (card_lines text)) number fault (first_line text ∙ is)

pub card_faultless : (text : List ℕ) → first_card_fault text ≡ None → (number : ℕ) (fault : CardFault) → HasCardFault text number fault → ⊥
card_faultless text none = first_none line_fault IsMisread fault_number (card_lines text) (lines_tell (card_lines text)) (first_line text ∙ none)
