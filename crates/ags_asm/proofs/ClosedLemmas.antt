-- A source whose cards are placed and whose words are in the image.
use Rattle.std.proofs.Common.{◌≡◌, ℕ, zero, suc, ◌<◌, true, cond, List, [], ◌∷◌, length, Option, Some, None, refl, sym, ap, ◌∙◌, arith}
use Rattle.std.specs.Prelude.{All, nat_lt, Result, Ok, Err, IfSome, IfOk}
use Rattle.std.proofs.lemmas.Bool.{lt-ltb}
use Rattle.std.proofs.lemmas.List.Elements.{All-cons, All-head, All-tail}
use Rattle.ags_places.specs.Fault.{early_fault, told_as}
use Rattle.ags_places.proofs.FirstLemmas.{both_none}
use Rattle.ags_places.proofs.PlacingLemmas.{words_within}
use Rattle.std.specs.List.{Contains}
use Rattle.ags_text.specs.Line.{LineAt}
use Rattle.ags_image.specs.Image.{PlacedWord, IsImageOf, word_at}
use Rattle.ags_image.proofs.ImageLaws.{word_at-some}
use Rattle.ags_card.specs.declared.cards.Body.{Body}
use Rattle.ags_card.specs.declared.cards.Card.{Card}
use Rattle.ags_card.specs.Reading.{reading}
use Rattle.ags_symbol.specs.Symbol.{Entry}
use Rattle.ags_places.specs.declared.placed.Placed.{Placed}
use Rattle.ags_places.specs.declared.source_error.AssembleError.{AssembleError}
use Rattle.ags_places.specs.declared.source_error.SourceKind.TheVariants as kind
use Rattle.ags_places.specs.Deck.{card_lines, card_of, cards_in}
use Rattle.ags_places.specs.Place.{count, counts, place, place_of_word, places_after}
use Rattle.ags_places.specs.Source as early
use Rattle.ags_asm.specs.Pass.{IsClosed}
use Rattle.ags_asm.specs.Word.{words_at, placed_from, definitions_after, first_word_fault}
use Rattle.ags_asm.specs.Source.{IsAssembled, placed_at, placed_cards}
use Rattle.ags_asm.specs.declared.assembling.Assembled.{Assembled}
use Rattle.ags_asm.proofs.ApartLemmas.{words_counted}
use Rattle.ags_asm.proofs.OwnedLemmas.{length-placed_from}

-- the image has each of the words
abbrev pub Has : List (Option ℕ) → List PlacedWord → Type 0
Has image words = (one : PlacedWord) → Contains words one → word_at image one.place ≡ one.word

pub image_has : (words : List PlacedWord) (image : List (Option ℕ)) → IsImageOf words image → Has image words
image_has words image so = λ one among. word_at-some image one.place one.word (so.has_words one.place one.word among)

-- ---- the cards as they are placed

-- a card of so many words
words_placed : (line : LineAt) (at : ℕ) (words : List ℕ) (many : ℕ) → length words ≡ many → early.placed_at line (cond (nat_lt 0 many) (Some at) None) many ≡ placed_at line (placed_from at words)
words_placed line at [] zero same = refl
words_placed line at [] (suc many) same = absurd (omega (arith, same))
words_placed line at (word ∷ words) zero same = absurd (omega (arith, same))
words_placed line at (word ∷ words) (suc many) same =
    let some : nat_lt 0 (suc many) ≡ true = lt-ltb 0 (suc many) (omega arith) in
    let long : suc many ≡ length (placed_from at (word ∷ words)) = sym same ∙ sym (length-placed_from at (word ∷ words)) in
    rw some (ap (λ (n : ℕ). early.placed_at line (Some at) n) long)

card_placed : (codes : List ℕ) (S : List Entry) (line : LineAt) (at : ℕ) (body : Body) → early.placed_at line (place_of_word at body) (count body) ≡ placed_at line (placed_from at (words_at codes S at body))
card_placed codes S line at body = words_placed line at (words_at codes S at body) (count body) (words_counted codes S at body)

cards_placed : (codes : List ℕ) (S : List Entry) (before : List Card) (lines : List LineAt)
    → early.placed_cards lines (places_after S before (cards_in lines)) (counts (cards_in lines)) ≡ placed_cards lines (definitions_after codes S before (cards_in lines))
unfolding definitions_after places_after
cards_placed codes S before [] = refl
cards_placed codes S before (line ∷ lines) =
    let card = card_of (reading line.bytes) in
    rw (card_placed codes S line (place S before) card.body, cards_placed codes S (card ∷ before) lines) refl

pub whole : (codes text : List ℕ) (placed : List Placed) (S : List Entry) (image : List (Option ℕ)) → IsClosed codes text placed S image → IsAssembled codes text placed S image
whole codes text placed S image so = record {
  fits = so.fits;
  faultless = so.faultless;
  cards_are = so.cards_are ∙ cards_placed codes S [] (card_lines text);
  image_is = so.image_is;
}

-- ---- the places are the memory's

within_along : (S : List Entry) (before : List Card) (lines : List LineAt) → All (λ at. IfSome at (λ place. place < 4096)) (places_after S before (cards_in lines))
    → All early.IsInMemory (early.placed_cards lines (places_after S before (cards_in lines)) (counts (cards_in lines)))
unfolding places_after
within_along S before [] within = λ k d lt. absurd (omega (arith, lt))
within_along S before (line ∷ lines) within =
    let card = card_of (reading line.bytes) in
    let stands = place_of_word (place S before) card.body in
    All-cons early.IsInMemory (early.placed_at line stands (count card.body)) (early.placed_cards lines (places_after S (card ∷ before) (cards_in lines)) (counts (cards_in lines)))
    (All-head (λ at. IfSome at (λ place. place < 4096)) stands (places_after S (card ∷ before) (cards_in lines)) within)
    (within_along S (card ∷ before) lines (All-tail (λ at. IfSome at (λ place. place < 4096)) stands (places_after S (card ∷ before) (cards_in lines)) within))

pub within_memory : (codes text : List ℕ) (placed : List Placed) (S : List Entry) (image : List (Option ℕ)) → IsClosed codes text placed S image → All early.IsInMemory placed
within_memory codes text placed S image so =
    rw so.cards_are (within_along S [] (card_lines text) (words_within text S so.fits (both_none (early_fault S text) (told_as kind.Word (first_word_fault S text)) so.faultless).0))

-- ---- the answer

pub whole_made : (codes text : List ℕ) (result : Result Assembled AssembleError) → IfOk result (λ made. IsClosed codes text made.cards.items made.symbols made.image)
    → IfOk result (λ made. IsAssembled codes text made.cards.items made.symbols made.image)
whole_made codes text (Ok made) so = whole codes text made.cards.items made.symbols made.image so
whole_made codes text (Err error) so = tt

pub within_made : (codes text : List ℕ) (result : Result Assembled AssembleError) → IfOk result (λ made. IsClosed codes text made.cards.items made.symbols made.image)
    → IfOk result (λ made. All early.IsInMemory made.cards.items)
within_made codes text (Ok made) so = within_memory codes text made.cards.items made.symbols made.image so
within_made codes text (Err error) so = tt
