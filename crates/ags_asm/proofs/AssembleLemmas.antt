-- What the assembler answers, put together.
use Rattle.std.proofs.Common.{◌≡◌, ℕ, suc, ◌+◌, List, [], ◌∷◌, length, map, Option, refl, ap, ◌∙◌, arith, inl, inr}
use Rattle.std.specs.Prelude.{Result, Ok, Err, IfOk, IfErr, IsOkAnd, IsErrOf, ◌⊎◌}
use Rattle.std.proofs.lemmas.List.Elements.{Contains-append_left, Contains-append_right}
use Rattle.ags_text.specs.Line.{LineAt, Follow}
use Rattle.ags_image.specs.Image.{PlacedWord, IsImageOf, word_at}
use Rattle.ags_card.specs.declared.cards.Card.{Card}
use Rattle.ags_card.specs.Reading.{reading}
use Rattle.ags_symbol.specs.Symbol.{Entry}
use Rattle.ags_symbol.proofs.FoundLemmas.{Contains-first, Contains-later}
use Rattle.ags_places.specs.declared.source_error.SourceError.{SourceError}
use Rattle.ags_places.specs.declared.source_error.AssembleError.{AssembleError}
use Rattle.ags_places.specs.declared.source_error.AssembleError.TheVariants.{Source, NoMemory}
use Rattle.ags_places.specs.Deck.{card_of, card_lines, cards_in, cards}
use Rattle.ags_places.specs.Place.{place}
use Rattle.ags_places.proofs.PlacingLemmas.{lines_of_cards_follow}
use Rattle.ags_asm.specs.declared.assembling.Assembled.{Assembled}
use Rattle.ags_asm.specs.Source.{AreSpans, card_words, defined, words_in, placed_at, placed_cards, placed_words, Defines, IsFaulty, IsAssembled, IsRefused}
use Rattle.ags_asm.specs.Word.{CardWords, words_at, placed_from, definition, definitions, definitions_after}
use Rattle.ags_asm.proofs.ClosedLemmas.{Has, image_has}
use Rattle.ags_asm.proofs.OwnedLemmas.{length-placed_from}
use Rattle.ags_asm.proofs.MeaningLemmas.{one_meaning, one_fault, not_both, length-definitions}

-- ---- placed cards and what they define

-- what an image has of the words at a place is these
words_read : (image : List (Option ℕ)) (at : ℕ) (words : List ℕ) → Has image (placed_from at words) → words_in image at (length words) ≡ words
words_read image at [] has = refl
words_read image at (word ∷ words) has =
    let one : PlacedWord = record { place = at; word = word } in
    let here : word_at image at ≡ word = has one (Contains-first one (placed_from (at + 1) words)) in
    let rest = words_read image (at + 1) words (λ other among. has other (Contains-later one other (placed_from (at + 1) words) among)) in
    rw (here, rest) refl

defined-placed_at : (image : List (Option ℕ)) (line : LineAt) (at : ℕ) (words : List ℕ) → Has image (placed_from at words) → defined image (placed_at line (placed_from at words)) ≡ placed_from at words
defined-placed_at image line at [] has = refl
defined-placed_at image line at (word ∷ words) has =
    let same : length (placed_from at (word ∷ words)) ≡ length (word ∷ words) = length-placed_from at (word ∷ words) in
    ap (λ (many : ℕ). placed_from at (words_in image at many)) same ∙ ap (placed_from at) (words_read image at (word ∷ words) has)

defined-placed_cards : (codes : List ℕ) (S : List Entry) (image : List (Option ℕ)) (before : List Card) (lines : List LineAt) → Has image (placed_words (definitions_after codes S before (cards_in lines)))
    → map (defined image) (placed_cards lines (definitions_after codes S before (cards_in lines))) ≡ definitions_after codes S before (cards_in lines)
unfolding definitions_after
defined-placed_cards codes S image before [] has = refl
defined-placed_cards codes S image before (line ∷ lines) has =
    let card = card_of (reading line.bytes) in
    let mine = definition codes S before card in
    let rest = placed_words (definitions_after codes S (card ∷ before) (cards_in lines)) in
    rw (
      defined-placed_at image line (place S before) (words_at codes S (place S before) card.body) (λ one among. has one (Contains-append_left mine rest one among)),
      defined-placed_cards codes S image (card ∷ before) lines (λ one among. has one (Contains-append_right mine rest one among)),
    ) refl

pub defined_are : (codes text : List ℕ) (S : List Entry) (image : List (Option ℕ)) → IsImageOf (placed_words (definitions codes S (cards text))) image
    → map (defined image) (placed_cards (card_lines text) (definitions codes S (cards text))) ≡ definitions codes S (cards text)
defined_are codes text S image so = defined-placed_cards codes S image [] (card_lines text) (image_has (placed_words (definitions codes S (cards text))) image so)

-- one for each line
length-placed_cards : (lines : List LineAt) (words : CardWords) → length words ≡ length lines → length (placed_cards lines words) ≡ length lines
length-placed_cards [] words same = refl
length-placed_cards (line ∷ lines) [] same = same
length-placed_cards (line ∷ lines) (one ∷ words) same = ap suc (length-placed_cards lines words (omega arith))

-- their spans follow each other
spans_along : (text : List ℕ) (from : ℕ) (lines : List LineAt) (words : CardWords) → Follow text from lines → AreSpans from (length text) (placed_cards lines words)
spans_along text from [] words follow = tt
spans_along text from (line ∷ lines) [] follow = tt
spans_along text from (line ∷ lines) ([] ∷ words) follow = (follow.0, omega arith, follow.1.within, spans_along text (line.start + length line.bytes + 1) lines words follow.2)
spans_along text from (line ∷ lines) ((one ∷ more) ∷ words) follow = (follow.0, omega arith, follow.1.within, spans_along text (line.start + length line.bytes + 1) lines words follow.2)

-- ---- the answer

module _ (codes text : List ℕ) where
  pub defines_made : (result : Result Assembled AssembleError) → IfOk result (λ made. IsAssembled codes text made.cards.items made.symbols made.image) → IfOk result (λ made. Defines codes text (card_words made))
  defines_made (Ok made) so = record { symbols = made.symbols; fits = so.fits; faultless = so.faultless; words = rw so.cards_are (defined_are codes text made.symbols made.image so.image_is) }
  defines_made (Err error) so = tt

  pub image_made : (result : Result Assembled AssembleError) → IfOk result (λ made. IsAssembled codes text made.cards.items made.symbols made.image)
      → IfOk result (λ made. IsImageOf (placed_words (card_words made)) made.image)
  image_made (Ok made) so = rw (so.cards_are, defined_are codes text made.symbols made.image so.image_is) so.image_is
  image_made (Err error) so = tt

  pub each_made : (result : Result Assembled AssembleError) → IfOk result (λ made. IsAssembled codes text made.cards.items made.symbols made.image) → IfOk result (λ made. length made.cards.items ≡ length (card_lines text))
  each_made (Ok made) so = ap length so.cards_are ∙ length-placed_cards (card_lines text) (definitions codes made.symbols (cards text)) (length-definitions codes text made.symbols)
  each_made (Err error) so = tt

  pub spans_made : (result : Result Assembled AssembleError) → IfOk result (λ made. IsAssembled codes text made.cards.items made.symbols made.image) → IfOk result (λ made. AreSpans 0 (length text) made.cards.items)
  spans_made (Ok made) so = rw so.cards_are (spans_along text 0 (card_lines text) (definitions codes made.symbols (cards text)) (lines_of_cards_follow text))
  spans_made (Err error) so = tt

pub words_exactly : (codes text : List ℕ) (result : Result Assembled AssembleError) → IfOk result (λ made. IsAssembled codes text made.cards.items made.symbols made.image) → IfErr result (IsRefused text)
    → (words : CardWords) → Defines codes text words → (IsOkAnd result (λ made. made.cards.items ≡ placed_cards (card_lines text) words)) ⊎ (IsErrOf result NoMemory)
words_exactly codes text (Ok made) is refused words defines =
    let mine : Defines codes text (definitions codes made.symbols (cards text)) = record { symbols = made.symbols; fits = is.fits; faultless = is.faultless; words = refl } in
    inl (is.cards_are ∙ ap (placed_cards (card_lines text)) (one_meaning codes text (definitions codes made.symbols (cards text)) words mine defines))
words_exactly codes text (Err (Source error)) is refused words defines = absurd (not_both codes text words error defines refused)
words_exactly codes text (Err NoMemory) is refused words defines = inr refl

pub faulty_exactly : (codes text : List ℕ) (result : Result Assembled AssembleError) → IfOk result (λ made. IsAssembled codes text made.cards.items made.symbols made.image) → IfErr result (IsRefused text)
    → (error : SourceError) → IsFaulty text error → (IsErrOf result (Source error)) ⊎ (IsErrOf result NoMemory)
faulty_exactly codes text (Ok made) is refused error faulty =
    let mine : Defines codes text (definitions codes made.symbols (cards text)) = record { symbols = made.symbols; fits = is.fits; faultless = is.faultless; words = refl } in
    absurd (not_both codes text (definitions codes made.symbols (cards text)) error mine faulty)
faulty_exactly codes text (Err (Source other)) is refused error faulty = inl (ap (λ (e : SourceError). Err (Source e)) (one_fault text other error refused faulty))
faulty_exactly codes text (Err NoMemory) is refused error faulty = inr refl
