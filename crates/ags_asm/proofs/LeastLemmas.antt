-- The fault that is told of a source is the least of all that its cards are faulty by.
use Rattle.std.proofs.Common.{◌≡◌, ℕ, ◌<◌, List, [], Option, Some, None, refl, subst, inl, inr, arith}
use Rattle.std.specs.Option.{option_or}
use Rattle.ags_card.specs.declared.cards.CardFault.{CardFault}
use Rattle.ags_card.specs.Spelling.{fault_number}
use Rattle.ags_symbol.specs.Symbol.{Entry}
use Rattle.ags_places.specs.declared.source_error.PlaceFault.{PlaceFault}
use Rattle.ags_places.specs.declared.source_error.SourceError.{SourceError}
use Rattle.ags_places.specs.declared.source_error.SourceKind.{SourceKind}
use Rattle.ags_places.specs.declared.source_error.SourceKind.TheVariants.{Card, Place, Word}
use Rattle.ags_places.specs.declared.source_error.WordFault.{WordFault}
use Rattle.ags_places.specs.Deck.{cards}
use Rattle.ags_places.specs.Fault.{first_card_fault, first_place_fault, told_as}
use Rattle.ags_places.specs.Faulty.{kind_number, place_fault_number, word_fault_number}
use Rattle.ags_places.specs.Place.{Fits}
use Rattle.ags_places.proofs.CardFaultLemmas.{card_fault_holds, card_fault_least, card_faultless}
use Rattle.ags_places.proofs.FirstLemmas.{NoLater}
use Rattle.ags_places.proofs.PlaceFaultLemmas.{place_fault_holds, place_fault_least, place_faultless}
use Rattle.ags_asm.specs.Faulty.{ArePlacedBefore, IsFaultyCard, IsLeastFaulty, NoneBefore, phase_of}
use Rattle.ags_asm.specs.Source.{Defines, IsFaulty}
use Rattle.ags_asm.specs.Word.{CardWords, first_word_fault}
use Rattle.ags_asm.proofs.ApartLemmas.{source_faultless}
use Rattle.ags_asm.proofs.MeaningLemmas.{each_means}
use Rattle.ags_asm.proofs.WordFaultLemmas.{word_fault_holds, word_fault_least, word_faultless}

-- ---- the least

not_earlier : (card number other more : ℕ) → NoLater card number other more → other < card → ⊥
not_earlier card number other more (inl before) less = omega (arith, before, less)
not_earlier card number other more (inr (same, at)) less = omega (arith, same, less)

module _ (S : List Entry) (text : List ℕ) (fits : Fits S (cards text)) (card : ℕ) where
  least_card : (fault : CardFault) → first_card_fault text ≡ Some (card, fault) → IsLeastFaulty text card (Card fault)
  least_card fault is = record { faulty = card_fault_holds text card fault is; least = least }
    where
      least : (number : ℕ) (too : SourceKind) → IsFaultyCard text number too → NoneBefore 1 card (fault_number fault) (phase_of too) number (kind_number too)
      least number (Card too) faulty = inr (refl, card_fault_least text card fault is number too faulty)
      least number (Place too) faulty = inl (omega arith)
      least number (Word too) faulty = inl (omega arith)

  least_place : (fault : PlaceFault) → first_card_fault text ≡ None → first_place_fault S text ≡ Some (card, fault) → IsLeastFaulty text card (Place fault)
  least_place fault none is =
      let first : ArePlacedBefore text card = λ other too less faulty.
      not_earlier card (place_fault_number fault) other (place_fault_number too) (place_fault_least S text fits card fault is other too faulty) less in
      record { faulty = (place_fault_holds S text fits card fault is, card_faultless text none, first); least = least }
    where
      least : (number : ℕ) (too : SourceKind) → IsFaultyCard text number too → NoneBefore 2 card (place_fault_number fault) (phase_of too) number (kind_number too)
      least number (Card too) faulty = absurd (card_faultless text none number too faulty)
      least number (Place too) faulty = inr (refl, place_fault_least S text fits card fault is number too faulty.0)
      least number (Word too) faulty = inl (omega arith)

  least_word : (fault : WordFault) → first_card_fault text ≡ None → first_place_fault S text ≡ None → first_word_fault S text ≡ Some (card, fault) → IsLeastFaulty text card (Word fault)
  least_word fault none placed is =
      record { faulty = (word_fault_holds S text fits card fault is, card_faultless text none, place_faultless S text fits placed); least = least }
    where
      least : (number : ℕ) (too : SourceKind) → IsFaultyCard text number too → NoneBefore 3 card (word_fault_number fault) (phase_of too) number (kind_number too)
      least number (Card too) faulty = absurd (card_faultless text none number too faulty)
      least number (Place too) faulty = absurd (place_faultless S text fits placed number too faulty.0)
      least number (Word too) faulty = inr (refl, word_fault_least S text fits card fault is number too faulty.0)

-- what is told is of the first phase that tells a fault
by_phase : (S : List Entry) (text : List ℕ) → Fits S (cards text) → (misread : Option (ℕ × CardFault)) (misplaced : Option (ℕ × PlaceFault)) (mismade : Option (ℕ × WordFault)) (found : ℕ × SourceKind)
    → first_card_fault text ≡ misread → first_place_fault S text ≡ misplaced → first_word_fault S text ≡ mismade
    → option_or (option_or (told_as Card misread) (told_as Place misplaced)) (told_as Word mismade) ≡ Some found → IsLeastFaulty text found.0 found.1
by_phase S text fits (Some one) misplaced mismade found misread_is misplaced_is mismade_is told =
    let same : (one.0, Card one.1) ≡ found = cc in
    subst (λ (f : ℕ × SourceKind). IsLeastFaulty text f.0 f.1) same (least_card S text fits one.0 one.1 misread_is)
by_phase S text fits None (Some one) mismade found misread_is misplaced_is mismade_is told =
    let same : (one.0, Place one.1) ≡ found = cc in
    subst (λ (f : ℕ × SourceKind). IsLeastFaulty text f.0 f.1) same (least_place S text fits one.0 one.1 misread_is misplaced_is)
by_phase S text fits None None (Some one) found misread_is misplaced_is mismade_is told =
    let same : (one.0, Word one.1) ≡ found = cc in
    subst (λ (f : ℕ × SourceKind). IsLeastFaulty text f.0 f.1) same (least_word S text fits one.0 one.1 misread_is misplaced_is mismade_is)
by_phase S text fits None None None found misread_is misplaced_is mismade_is told = absurd cc

pub told_least : (text : List ℕ) (error : SourceError) → IsFaulty text error → IsLeastFaulty text error.card error.kind
told_least text error so =
    by_phase so.symbols text so.fits (first_card_fault text) (first_place_fault so.symbols text) (first_word_fault so.symbols text) (error.card, error.kind) refl refl refl so.first

-- ---- where the source is defined

pub defined_faultless : (codes text : List ℕ) (defined : CardWords) → Defines codes text defined → (card : ℕ) (kind : SourceKind) → IsFaultyCard text card kind → ⊥
defined_faultless codes text defined so card (Card fault) faulty = card_faultless text (source_faultless so.symbols text so.faultless).0 card fault faulty
defined_faultless codes text defined so card (Place fault) faulty = place_faultless so.symbols text so.fits (source_faultless so.symbols text so.faultless).1 card fault faulty.0
defined_faultless codes text defined so card (Word fault) faulty = word_faultless so.symbols text so.fits (source_faultless so.symbols text so.faultless).2 card fault faulty.0

-- ---- and the least is told

-- of two that aren't before each other the cards and the numbers are the same
neither_before : (phase card number other_phase other_card other_number : ℕ) → NoneBefore phase card number other_phase other_card other_number
    → NoneBefore other_phase other_card other_number phase card number → (card ≡ other_card) × (number ≡ other_number)
neither_before p c n q d m (inl before) (inl later) = absurd (omega (arith, before, later))
neither_before p c n q d m (inl before) (inr (same, rest)) = absurd (omega (arith, before, same))
neither_before p c n q d m (inr (same, rest)) (inl later) = absurd (omega (arith, later, same))
neither_before p c n q d m (inr (same, inl before)) (inr (too, inl later)) = absurd (omega (arith, before, later))
neither_before p c n q d m (inr (same, inl before)) (inr (too, inr (at, more))) = absurd (omega (arith, before, at))
neither_before p c n q d m (inr (same, inr (at, less))) (inr (too, inl later)) = absurd (omega (arith, later, at))
neither_before p c n q d m (inr (same, inr (at, less))) (inr (too, inr (there, more))) = (at, omega (arith, less, more))

pub least_told : (text : List ℕ) (card : ℕ) (kind : SourceKind) → IsLeastFaulty text card kind
    → (error : SourceError) × IsFaulty text error × (error.card ≡ card) × (kind_number error.kind ≡ kind_number kind)
least_told text card kind least = elim (each_means [] text) [
  | inl (defined, defines) ↦ absurd (defined_faultless [] text defined defines card kind least.faulty)
  | inr (error, faulty) ↦
      let told = told_least text error faulty in
      let same = neither_before (phase_of error.kind) error.card (kind_number error.kind) (phase_of kind) card (kind_number kind)
      (told.least card kind least.faulty) (least.least error.card error.kind told.faulty) in
      (error, faulty, same.0, same.1)
]
