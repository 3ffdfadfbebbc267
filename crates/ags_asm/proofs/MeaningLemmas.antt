-- A text means one thing, and no text means nothing. The crates above cite, behind the laws `source_means_one_thing`,
-- `each_text_has_a_meaning` and `each_card_has_its_definition`:
--     one_meaning, one_fault, not_both    a text defines one list of words, or has one first fault, and never both
--     each_means                          each text does one of these
--     one_for_each                        what it defines has one entry for each card
use Rattle.std.proofs.Common.{◌≡◌, ℕ, suc, List, [], ◌∷◌, length, Option, Some, None, refl, sym, ap, subst, ◌∙◌, inl, inr}
use Rattle.std.specs.Prelude.{◌⊎◌}
use Rattle.std.proofs.lemmas.List.{length-map}
use Rattle.ags_card.specs.declared.cards.Card.{Card}
use Rattle.ags_card.specs.Reading.{reading}
use Rattle.ags_symbol.specs.Symbol.{Entry}
use Rattle.ags_places.specs.declared.source_error.SourceError.{SourceError}
use Rattle.ags_places.specs.declared.source_error.SourceKind.{SourceKind}
use Rattle.ags_places.specs.Deck.{card_of, card_lines, cards}
use Rattle.ags_places.specs.Place.{Fits}
use Rattle.ags_places.proofs.RunningLemmas.{some_fits, fits_one}
use Rattle.ags_asm.specs.Source.{source_fault, Defines, IsFaulty}
use Rattle.ags_asm.specs.Word.{CardWords, definitions, definitions_after}

-- ---- a text means one thing

pub one_meaning : (codes text : List ℕ) (defined other : CardWords) → Defines codes text defined → Defines codes text other → defined ≡ other
one_meaning codes text defined other one two =
    let same = fits_one one.symbols two.symbols (cards text) one.fits two.fits in
    one.words ∙ ap (λ (S : List Entry). definitions codes S (cards text)) same ∙ sym two.words

error_of : (error other : SourceError) → ◌≡◌ {A = Option (ℕ × SourceKind)} (Some (error.card, error.kind)) (Some (other.card, other.kind)) → error ≡ other
error_of error other is =
    let pair : (error.card, error.kind) ≡ (other.card, other.kind) = cc in
    ap (λ (p : ℕ × SourceKind). record { card = p.0; kind = p.1 }) pair

pub one_fault : (text : List ℕ) (error other : SourceError) → IsFaulty text error → IsFaulty text other → error ≡ other
one_fault text error other one two =
    let same = fits_one one.symbols two.symbols (cards text) one.fits two.fits in
    error_of error other (sym one.first ∙ ap (λ (S : List Entry). source_fault S text) same ∙ two.first)

pub not_both : (codes text : List ℕ) (defined : CardWords) (error : SourceError) → Defines codes text defined → IsFaulty text error → ⊥
not_both codes text defined error defines faulty =
    let same = fits_one defines.symbols faulty.symbols (cards text) defines.fits faulty.fits in
    let none : source_fault faulty.symbols text ≡ None = subst (λ (S : List Entry). source_fault S text ≡ None) same defines.faultless in
    let some = faulty.first in
    absurd cc

-- ---- no text means nothing

means_by : (codes text : List ℕ) (S : List Entry) (found : Option (ℕ × SourceKind)) → Fits S (cards text) → source_fault S text ≡ found
    → ((defined : CardWords) × Defines codes text defined) ⊎ ((error : SourceError) × IsFaulty text error)
means_by codes text S None fits is = inl (definitions codes S (cards text), record { symbols = S; fits = fits; faultless = is; words = refl })
means_by codes text S (Some fault) fits is = inr (record { card = fault.0; kind = fault.1 }, record { symbols = S; fits = fits; first = is })

pub each_means : (codes text : List ℕ) → ((defined : CardWords) × Defines codes text defined) ⊎ ((error : SourceError) × IsFaulty text error)
each_means codes text =
    let some = some_fits (cards text) in
    means_by codes text some.0 (source_fault some.0 text) some.1 refl

-- ---- one for each card

pub length-definitions_after : (codes : List ℕ) (S : List Entry) (before cards : List Card) → length (definitions_after codes S before cards) ≡ length cards
unfolding definitions_after
length-definitions_after codes S before [] = refl
length-definitions_after codes S before (card ∷ cards) = ap suc (length-definitions_after codes S (card ∷ before) cards)

pub length-definitions : (codes text : List ℕ) (S : List Entry) → length (definitions codes S (cards text)) ≡ length (card_lines text)
length-definitions codes text S = length-definitions_after codes S [] (cards text) ∙ length-map (card_lines text) (λ line. card_of (reading line.bytes))

pub one_for_each : (codes text : List ℕ) (defined : CardWords) → Defines codes text defined → length defined ≡ length (card_lines text)
one_for_each codes text defined so = ap length so.words ∙ length-definitions codes text so.symbols
