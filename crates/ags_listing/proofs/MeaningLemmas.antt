-- What the bytes of a listing mean, and that a source's listing means its words.
use Rattle.std.proofs.Common.{◌≡◌, ℕ, suc, ◌+◌, ◌<◌, Bool, true, false, ◌&&◌, List, [], ◌∷◌, ◌++◌, length, take, drop, Option, Some, None, refl, sym, ap, subst, ◌∙◌, ◌⊎◌, inl, inr, arith}
use Rattle.std.specs.Prelude.{nat_lt, if◌then◌else◌}
use Rattle.std.specs.List.{All, Contains, list_all}
use Rattle.std.proofs.lemmas.Bool.Decides.{nat_tests}
use Rattle.std.proofs.lemmas.List.{length-take-le, length-drop}
use Rattle.std.proofs.lemmas.List.Elements.{All-cons, Contains-append_left, Contains-append_right, filter_map-append}
use Rattle.ags_text.specs.Line.{LineAt, HasNoFeed, IsCutFrom, lines_of}
use Rattle.ags_text.proofs.CutLemmas.{lines_are_cut}
use Rattle.ags_isa.specs.Code.{AreCodes}
use Rattle.ags_image.specs.Image.{PlacedWord, IsMemoryWord, IsImageOf}
use Rattle.ags_card.specs.Reading.{reading}
use Rattle.ags_places.specs.Deck.{deck, ends, card_lines}
use Rattle.ags_asm.specs.Source.{CardWords, Defines, placed_words}
use Rattle.ags_asm.proofs.ApartLemmas.{each_place_once}
use Rattle.ags_asm.proofs.MeaningLemmas.{one_for_each}
use Rattle.ags_asm.proofs.MemoryLemmas.{words_of_memory}
use Rattle.ags_image.specs.Columns.{placed_in}
use Rattle.ags_image.specs.Fault.{LineFault}
use Rattle.ags_image.specs.Fault.LineFault.{Misshapen, Twice}
use Rattle.ags_image.specs.Form.{PutsInMemory}
use Rattle.ags_image.specs.Lines.{feed_lines}
use Rattle.ags_image.proofs.ColumnLemmas.{and_left, columns_in_memory}
use Rattle.ags_image.proofs.MeaningLemmas.{each_means, one_reading}
use Rattle.ags_image.proofs.ReadLemmas.{read_faultless}
use Rattle.ags_listing.specs.declared.list_error.ListError.{ListError}
use Rattle.ags_listing.specs.declared.list_error.ListError.TheVariants.{BadLine, PlaceTwice, NoMemory}
use Rattle.ags_listing.specs.Listing.{PrintedCard, IsPrintable, printed_words, printed_more, printed_card, printed_from, listing}
use Rattle.ags_listing.specs.Reads.{is_ruled, is_space, said, put, listing_form, Reads, IsFaultyListing}
use Rattle.ags_listing.proofs.ListingLemmas.{printed_reads}

-- ---- the bytes of a listing

ruled_is_long : (line : List ℕ) → is_ruled line ≡ true → 19 < length line
unfolding is_ruled
ruled_is_long line is = let long = and_left (nat_lt 19 (length line)) _ is in grind (arith, nat_tests)

put_placed : (found : Option PlacedWord) (placed : PlacedWord) → put found ≡ Some (Some placed) → found ≡ Some placed
put_placed None placed is = absurd cc
put_placed (Some one) placed is = let same : one ≡ placed = cc in ap Some same

said_placed : (place word : List ℕ) (placed : PlacedWord) → said place word ≡ Some (Some placed) → placed_in place word ≡ Some placed
unfolding said
said_placed place word placed is = by_blank (list_all is_space place && list_all is_space word) is
  where
    by_blank : (blank : Bool) → (if blank then Some None else put (placed_in place word)) ≡ Some (Some placed) → placed_in place word ≡ Some placed
    by_blank true is = absurd cc
    by_blank false is = put_placed (placed_in place word) placed is

listing_puts_in_memory : PutsInMemory listing_form
unfolding listing_form
listing_puts_in_memory line placed is = by_rule (is_ruled line) refl is
  where
    by_rule : (ruled : Bool) → is_ruled line ≡ ruled → (if ruled then said (take 4 (drop 8 line)) (take 6 (drop 13 line)) else None) ≡ Some (Some placed) → IsMemoryWord placed
    by_rule true rules is =
        let long = ruled_is_long line rules in
        let four : length (take 4 (drop 8 line)) ≡ 4 = omega (arith, length-take-le 4 (drop 8 line) (omega (arith, long, length-drop 8 line))) in
        let six : length (take 6 (drop 13 line)) ≡ 6 = omega (arith, length-take-le 6 (drop 13 line) (omega (arith, long, length-drop 13 line))) in
        columns_in_memory (take 4 (drop 8 line)) (take 6 (drop 13 line)) placed four six (said_placed (take 4 (drop 8 line)) (take 6 (drop 13 line)) placed is)
    by_rule false rules is = absurd cc

pub each_listing_means : (bytes : List ℕ) → ((image : List (Option ℕ)) × Reads bytes image) ⊎ ((error : ListError) × IsFaultyListing bytes error)
each_listing_means bytes = elim (each_means listing_form listing_puts_in_memory (feed_lines bytes)) [
  | inl (image, reads) ↦ inl (image, reads)
  | inr (number, Misshapen, first) ↦ inr (BadLine number, first)
  | inr (number, Twice place, first) ↦ inr (PlaceTwice number place, first)
]

pub one_listing : (bytes : List ℕ) (image other : List (Option ℕ)) → Reads bytes image → Reads bytes other → image ≡ other
one_listing bytes image other reads too = one_reading listing_form (feed_lines bytes) image other reads too

-- what is found is one thing
found_once : (found : Option (ℕ × LineFault)) (one other : ℕ × LineFault) → found ≡ Some one → found ≡ Some other → one ≡ other
found_once found one other is too = let same : Some one ≡ Some other = sym is ∙ too in cc

pub one_fault : (bytes : List ℕ) (error other : ListError) → IsFaultyListing bytes error → IsFaultyListing bytes other → error ≡ other
one_fault bytes (BadLine line) (BadLine number) is too =
    ap BadLine (ap (λ (f : ℕ × LineFault). f.0) (found_once _ (line, Misshapen) (number, Misshapen) is too))
one_fault bytes (BadLine line) (PlaceTwice number place) is too =
    let same : Misshapen ≡ Twice place = ap (λ (f : ℕ × LineFault). f.1) (found_once _ (line, Misshapen) (number, Twice place) is too) in absurd cc
one_fault bytes (PlaceTwice line location) (BadLine number) is too =
    let same : Twice location ≡ Misshapen = ap (λ (f : ℕ × LineFault). f.1) (found_once _ (line, Twice location) (number, Misshapen) is too) in absurd cc
one_fault bytes (PlaceTwice line location) (PlaceTwice number place) is too =
    let pair = found_once _ (line, Twice location) (number, Twice place) is too in
    let twice : Twice location ≡ Twice place = ap (λ (f : ℕ × LineFault). f.1) pair in
    let here : location ≡ place = cc in
    ap (λ (n : ℕ). PlaceTwice n location) (ap (λ (f : ℕ × LineFault). f.0) pair) ∙ ap (PlaceTwice number) here
one_fault bytes NoMemory other is too = absurd is
one_fault bytes (BadLine line) NoMemory is too = absurd too
one_fault bytes (PlaceTwice line location) NoMemory is too = absurd too

pub not_both : (bytes : List ℕ) (image : List (Option ℕ)) (error : ListError) → Reads bytes image → IsFaultyListing bytes error → ⊥
not_both bytes image (BadLine line) reads is = let none = read_faultless listing_form (feed_lines bytes) image reads in absurd cc
not_both bytes image (PlaceTwice line location) reads is = let none = read_faultless listing_form (feed_lines bytes) image reads in absurd cc
not_both bytes image NoMemory reads is = is

-- ---- the listing of a source

-- no line has a line feed in it
AreUnbroken : List LineAt → Type 0
AreUnbroken [] = Unit {0}
AreUnbroken (line ∷ lines) = HasNoFeed line.bytes × AreUnbroken lines

cut_unbroken : (start : ℕ) (text : List ℕ) (lines : List LineAt) → IsCutFrom start text lines → AreUnbroken lines
unfolding AreUnbroken
cut_unbroken start text [] is = tt
cut_unbroken start text (line ∷ lines) (here, inl (return, behind, begins, rest)) =
    (begins.unbroken, cut_unbroken (start + length line.bytes + length return + 1) behind lines rest)
cut_unbroken start text (line ∷ lines) (here, inr (return, last, none)) = (last.unbroken, subst AreUnbroken (sym none) tt)

deck_unbroken : (lines : List LineAt) → AreUnbroken lines → AreUnbroken (deck lines)
unfolding AreUnbroken deck
deck_unbroken [] are = tt
deck_unbroken (line ∷ lines) are = (are.0, by_end (ends (reading line.bytes)) (deck_unbroken lines are.1))
  where
    by_end : (last : Bool) → AreUnbroken (deck lines) → AreUnbroken (if last then [] else deck lines)
    by_end true rest = tt
    by_end false rest = rest

cards_unbroken : (text : List ℕ) → AreUnbroken (card_lines text)
cards_unbroken text = deck_unbroken (lines_of text) (cut_unbroken 0 text (lines_of text) (lines_are_cut text))

-- the words of the printed cards are those that were defined
further_are : (number : ℕ) (words : List PlacedWord) → printed_words (printed_more number words) ≡ words
further_are number [] = refl
further_are number (one ∷ more) = ap (λ (ps : List PlacedWord). one ∷ ps) (further_are number more)

words_of_card : (number : ℕ) (text : List ℕ) (words : List PlacedWord) → printed_words (printed_card number text words) ≡ words
words_of_card number text [] = refl
words_of_card number text (one ∷ more) = ap (λ (ps : List PlacedWord). one ∷ ps) (further_are number more)

words_are : (number : ℕ) (lines : List LineAt) (defined : CardWords) → length defined ≡ length lines → printed_words (printed_from number lines defined) ≡ placed_words defined
words_are number [] [] same = refl
words_are number [] (words ∷ defined) same = absurd (omega arith)
words_are number (line ∷ lines) [] same = absurd (omega arith)
words_are number (line ∷ lines) (words ∷ defined) same =
    filter_map-append (λ (card : PrintedCard). card.placed) (printed_card number line.bytes words) (printed_from (number + 1) lines defined)
    ∙ rw (words_of_card number line.bytes words, words_are (number + 1) lines defined (omega (arith, same))) refl

AllPrintable : List PrintedCard → Type 0
AllPrintable [] = Unit {0}
AllPrintable (card ∷ cards) = IsPrintable card × AllPrintable cards

all_printable : (cards : List PrintedCard) → AllPrintable cards → All IsPrintable cards
unfolding AllPrintable
all_printable [] are = λ k d within. absurd (omega arith)
all_printable (card ∷ cards) are = All-cons IsPrintable card cards are.0 (all_printable cards are.1)

both_printable : (cards others : List PrintedCard) → AllPrintable cards → AllPrintable others → AllPrintable (cards ++ others)
unfolding AllPrintable
both_printable [] others are too = too
both_printable (card ∷ cards) others are too = (are.0, both_printable cards others are.1 too)

-- each word is one of the memory
AreOfMemory : List PlacedWord → Type 0
AreOfMemory words = (one : PlacedWord) → Contains words one → IsMemoryWord one

further_printable : (number : ℕ) (words : List PlacedWord) → AreOfMemory words → AllPrintable (printed_more number words)
unfolding AllPrintable AreOfMemory
further_printable number [] are = tt
further_printable number (one ∷ more) are = (
  record { within = are one (0, omega arith, refl); unbroken = refl },
  further_printable number more (λ other held. are other (suc held.0, omega (arith, held.1), held.2)),
)

card_printable : (number : ℕ) (text : List ℕ) (words : List PlacedWord) → HasNoFeed text → AreOfMemory words → AllPrintable (printed_card number text words)
unfolding AllPrintable AreOfMemory
card_printable number text [] unbroken are = (record { within = tt; unbroken = unbroken }, tt)
card_printable number text (one ∷ more) unbroken are = (
  record { within = are one (0, omega arith, refl); unbroken = unbroken },
  further_printable number more (λ other held. are other (suc held.0, omega (arith, held.1), held.2)),
)

printed_printable : (number : ℕ) (lines : List LineAt) (defined : CardWords) → AreUnbroken lines → AreOfMemory (placed_words defined)
    → AllPrintable (printed_from number lines defined)
unfolding AllPrintable AreUnbroken AreOfMemory
printed_printable number [] defined unbroken are = tt
printed_printable number (line ∷ lines) [] unbroken are = tt
printed_printable number (line ∷ lines) (words ∷ defined) unbroken are =
    both_printable (printed_card number line.bytes words) (printed_from (number + 1) lines defined)
    (card_printable number line.bytes words unbroken.0 (λ one among. are one (Contains-append_left words (placed_words defined) one among)))
    (printed_printable (number + 1) lines defined unbroken.1 (λ one among. are one (Contains-append_right words (placed_words defined) one among)))

pub written_reads : (codes text : List ℕ) (words : CardWords) (image : List (Option ℕ)) → AreCodes codes
    → Defines codes text words → IsImageOf (placed_words words) image → Reads (listing text words) image
unfolding listing AreOfMemory
written_reads codes text words image are defines filled =
    let lines : List LineAt = card_lines text in
    let same = words_are 1 lines words (one_for_each codes text words defines) in
    let printable = all_printable (printed_from 1 lines words)
    (printed_printable 1 lines words (cards_unbroken text) (words_of_memory codes text words are defines)) in
    printed_reads (printed_from 1 lines words) image printable (rw same (each_place_once codes text words defines)) (rw same filled)
