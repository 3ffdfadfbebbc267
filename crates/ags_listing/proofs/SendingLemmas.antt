-- The listing, a card further, and by the lines of its source.
use Rattle.std.proofs.Common.{◌≡◌, ℕ, zero, suc, ◌+◌, ◌-◌, ◌<◌, ◌≤◌, List, [], ◌∷◌, ◌++◌, length, take, drop, get_or, Option, Some, None, map, refl, sym, ap, ◌∙◌, append_assoc, append-nil, arith}
use Rattle.std.proofs.lemmas.Bool.{true≢false}
use Rattle.std.proofs.lemmas.List.{get_or_past, drop_more, drop_all}
use Rattle.ags_text.specs.Line.{LineAt, LiesIn, Follow}
use Rattle.std.specs.Prelude.{false, Result, Ok, Err, OnOk, OnErr}
use Rattle.ags_outside.specs.Count.{HasCause}
use Rattle.ags_outside.specs.declared.sending.SendError.{SendError}
use Rattle.ags_outside.specs.Sink.{appended, Wrote, WroteFront, wrote_nothing, wrote_piece, wrote_all, wrote_front, appended_twice, front_in_second}
use Rattle.ags_places.specs.declared.placed.Placed.{Placed}
use Rattle.ags_places.specs.Deck as deck
use Rattle.ags_places.proofs.PlacingLemmas.{lines_of_cards_follow}
use Rattle.ags_asm.specs.declared.assembling.Assembled.{Assembled}
use Rattle.ags_asm.specs.Source.{AreSpans, card_words, defined, words_there, placed_at, placed_cards, words_in}
use Rattle.ags_asm.specs.Word.{placed_from}
use Rattle.ags_image.specs.Image.{PlacedWord, IsImage, entry_at, word_at}
use Rattle.ags_listing.specs.Listing.{AreCardsOf, PrintedCard, listing_line, listing_text, printed_card, printed_more, printed_from, listing}
use Rattle.ags_listing.specs.PlacedListing.{card_text, card_lines, further_lines, placed_listing}

-- ---- a card further

-- what a list of cards has after its end
abbrev pub nothing_placed : Placed
nothing_placed = record { start = 0; end = 0; place = None; count = 0 }

rest-more : (placed : List Placed) (i : ℕ) (card : Placed) → i < length placed → card ≡ get_or placed i nothing_placed → drop i placed ≡ card ∷ drop (i + 1) placed
rest-more placed i card within is = drop_more placed i nothing_placed within ∙ ap (λ (x : Placed). x ∷ drop (i + 1) placed) (sym is)

placed_listing-cons : (source : List ℕ) (image : List (Option ℕ)) (number : ℕ) (card : Placed) (cards : List Placed)
    → placed_listing source image number (card ∷ cards) ≡ card_lines source image number card ++ placed_listing source image (number + 1) cards
unfolding placed_listing
placed_listing-cons source image number card cards = refl

placed_listing-nil : (source : List ℕ) (image : List (Option ℕ)) (number : ℕ) → placed_listing source image number [] ≡ []
unfolding placed_listing
placed_listing-nil source image number = refl

-- The lines of the first i cards were sent.
pub record Sending (old now : Option (List ℕ)) (source : List ℕ) (image : List (Option ℕ)) (placed : List Placed) (i : ℕ) : Type 0 where
  pub wrote : Wrote old now (placed_listing source image 1 placed) (placed_listing source image (i + 1) (drop i placed))
  pub from : ℕ
  pub few : i ≤ from
  pub short : from ≤ length source + 1
  pub spans : AreSpans from (length source) (drop i placed)

pub Sending-none : (old : Option (List ℕ)) (source : List ℕ) (image : List (Option ℕ)) (placed : List Placed) → AreSpans 0 (length source) placed → Sending old old source image placed 0
Sending-none old source image placed spans = record { wrote = wrote_nothing old (placed_listing source image 1 placed); from = 0; few = omega arith; short = omega arith; spans = spans }

-- the next card's span lies in the source
pub Sending-span : (old now : Option (List ℕ)) (source : List ℕ) (image : List (Option ℕ)) (placed : List Placed) (i : ℕ) (card : Placed) → Sending old now source image placed i
    → i < length placed → card ≡ get_or placed i nothing_placed → (i ≤ length source) × (card.start ≤ card.end) × (card.end ≤ length source)
Sending-span old now source image placed i card so within is =
    let here = rw (rest-more placed i card within is) at so.spans in
    (omega (arith, so.few, here.0, here.1, here.2), here.1, here.2)

next-piece : (source : List ℕ) (image : List (Option ℕ)) (placed : List Placed) (i : ℕ) (card : Placed) → i < length placed → card ≡ get_or placed i nothing_placed
    → placed_listing source image (i + 1) (drop i placed) ≡ card_lines source image (i + 1) card ++ placed_listing source image (i + 1 + 1) (drop (i + 1) placed)
next-piece source image placed i card within is = rw (rest-more placed i card within is) (placed_listing-cons source image (i + 1) card (drop (i + 1) placed))

-- its line was sent
pub Sending-more : (old now new : Option (List ℕ)) (source : List ℕ) (image : List (Option ℕ)) (placed : List Placed) (i : ℕ) (card : Placed) → Sending old now source image placed i
    → i < length placed → card ≡ get_or placed i nothing_placed → new ≡ appended now (card_lines source image (i + 1) card) → Sending old new source image placed (i + 1)
Sending-more old now new source image placed i card so within is sent =
    let here = rw (rest-more placed i card within is) at so.spans in
    record {
      wrote = wrote_piece (card_lines source image (i + 1) card) (placed_listing source image (i + 1 + 1) (drop (i + 1) placed)) so.wrote (next-piece source image placed i card within is) sent;
      from = card.end + 1;
      few = omega (arith, so.few, here.0, here.1);
      short = omega (arith, here.2);
      spans = here.3;
    }

-- a front of its line was
pub Sending-front : (old now new : Option (List ℕ)) (source : List ℕ) (image : List (Option ℕ)) (placed : List Placed) (i : ℕ) (card : Placed) → Sending old now source image placed i
    → i < length placed → card ≡ get_or placed i nothing_placed → WroteFront now new (card_lines source image (i + 1) card) → WroteFront old new (placed_listing source image 1 placed)
Sending-front old now new source image placed i card so within is front =
    wrote_front (card_lines source image (i + 1) card) (placed_listing source image (i + 1 + 1) (drop (i + 1) placed)) so.wrote (next-piece source image placed i card within is) front

-- all lines were sent
pub Sending-all : (old now : Option (List ℕ)) (source : List ℕ) (image : List (Option ℕ)) (placed : List Placed) (i : ℕ) → Sending old now source image placed i → length placed ≤ i
    → now ≡ appended old (placed_listing source image 1 placed)
Sending-all old now source image placed i so past =
    let nothing : placed_listing source image (i + 1) (drop i placed) ≡ [] = rw (drop_all i placed past) (placed_listing-nil source image (i + 1)) in
    wrote_all (rw nothing at so.wrote)

-- ---- by the lines

card_text-placed_at : (source : List ℕ) (line : LineAt) (words : List PlacedWord) → LiesIn source line → card_text source (placed_at line words) ≡ line.bytes
card_text-placed_at source line [] lies = ap (λ (n : ℕ). take n (drop line.start source)) (omega arith) ∙ lies.bytes_are
card_text-placed_at source line (one ∷ more) lies = ap (λ (n : ℕ). take n (drop line.start source)) (omega arith) ∙ lies.bytes_are

card_lines-card : (source : List ℕ) (image : List (Option ℕ)) (number : ℕ) (line : LineAt) (card : Placed) → LiesIn source line → card ≡ placed_at line (defined image card)
    → card_lines source image number card ≡ listing_text (printed_card number line.bytes (defined image card))
unfolding card_lines
card_lines-card source image number line card lies is =
    let text_is : card_text source card ≡ line.bytes = ap (card_text source) is ∙ card_text-placed_at source line (defined image card) lies in
    ap (λ (text : List ℕ). listing_text (printed_card number text (defined image card))) text_is

listing_text-nil : [] ≡ listing_text []
unfolding listing_text
listing_text-nil = refl

listing_text-append : (cards others : List PrintedCard) → listing_text (cards ++ others) ≡ listing_text cards ++ listing_text others
unfolding listing_text
listing_text-append [] others = refl
listing_text-append (card ∷ cards) others =
    ap (λ (rest : List ℕ). listing_line card ++ rest) (listing_text-append cards others) ∙ sym (append_assoc (listing_line card) (listing_text cards) (listing_text others))

-- the cards' listing is that of the lines
listing_by_lines : (source : List ℕ) (image : List (Option ℕ)) (from number : ℕ) (lines : List LineAt) (placed : List Placed) → Follow source from lines → placed ≡ placed_cards lines (map (defined image) placed)
    → placed_listing source image number placed ≡ listing_text (printed_from number lines (map (defined image) placed))
unfolding placed_listing
listing_by_lines source image from number [] [] follow are = listing_text-nil
listing_by_lines source image from number [] (card ∷ cards) follow are = absurd cc
listing_by_lines source image from number (line ∷ lines) [] follow are = listing_text-nil
listing_by_lines source image from number (line ∷ lines) (card ∷ cards) follow are =
    let here : card ≡ placed_at line (defined image card) = cc in
    let rest : cards ≡ placed_cards lines (map (defined image) cards) = cc in
    rw (card_lines-card source image number line card follow.1 here, listing_by_lines source image (line.start + length line.bytes + 1) (number + 1) lines cards follow.2 rest)
    (sym (listing_text-append (printed_card number line.bytes (defined image card)) (printed_from (number + 1) lines (map (defined image) cards))))

-- ---- of a source that was read

-- the cards' listing is the listing of what the source defines
pub listing_is : (bytes : List ℕ) (made : Assembled) → AreCardsOf bytes made → placed_listing bytes made.image 1 made.cards.items ≡ listing bytes (card_words made)
unfolding listing
listing_is bytes made are = listing_by_lines bytes made.image 0 1 (deck.card_lines bytes) made.cards.items (lines_of_cards_follow bytes) are.cards_are

-- ---- the lines of a card

-- an image has no word after the memory
pub word_beyond : (image : List (Option ℕ)) (place : ℕ) → IsImage image → 4096 ≤ place → 0 ≡ word_at image place
unfolding word_at entry_at
word_beyond image place is beyond = rw (get_or_past image place None (omega (arith, is.whole, beyond))) refl

-- no further word has no line, and some have that of the first before the others
pub further-none : (image : List (Option ℕ)) (number at : ℕ) → further_lines image number at 0 ≡ []
unfolding further_lines listing_text
further-none image number at = refl

pub further-some : (image : List (Option ℕ)) (number at many : ℕ) → 0 < many
    → further_lines image number at many ≡ listing_line (record { number = number; placed = Some (record { place = at; word = word_at image at }); text = [] }) ++ further_lines image number (at + 1) (many - 1)
unfolding further_lines listing_text
further-some image number at zero some = absurd (omega (arith, some))
further-some image number at (suc many) some = let same : suc many - 1 ≡ many = omega arith in rw same refl

-- a card without words has a line, and one with words that of its first and those of the others
pub blank-lines : (source : List ℕ) (image : List (Option ℕ)) (number : ℕ) (card : Placed) → defined image card ≡ [] → card_lines source image number card ≡ listing_line (record { number = number; placed = None; text = card_text source card })
unfolding card_lines listing_text
blank-lines source image number card none = rw none (append-nil _)

pub words-lines : (source : List ℕ) (image : List (Option ℕ)) (number at : ℕ) (card : Placed) → card.place ≡ Some at → 0 < card.count
    → card_lines source image number card ≡ listing_line (record { number = number; placed = Some (record { place = at; word = word_at image at }); text = card_text source card }) ++ further_lines image number (at + 1) (card.count - 1)
unfolding card_lines further_lines listing_text
words-lines source image number at card place some = rw place (by_count card.count some)
  where
    by_count : (many : ℕ) → 0 < many → listing_text (printed_card number (card_text source card) (placed_from at (words_in image at many)))
        ≡ listing_line (record { number = number; placed = Some (record { place = at; word = word_at image at }); text = card_text source card })
        ++ listing_text (printed_more number (placed_from (at + 1) (words_in image (at + 1) (many - 1))))
    by_count zero some = absurd (omega (arith, some))
    by_count (suc many) some = let same : suc many - 1 ≡ many = omega arith in rw same refl

-- a card without a place, or without words, has none
pub wordless_none : (image : List (Option ℕ)) (card : Placed) → ((place : ℕ) → card.place ≡ Some place → ⊥) → defined image card ≡ []
wordless_none image card none = by_place card.place none
  where
    by_place : (at : Option ℕ) → ((place : ℕ) → at ≡ Some place → ⊥) → words_there image at card.count ≡ []
    by_place None none = refl
    by_place (Some place) none = absurd (none place refl)

pub wordless_zero : (image : List (Option ℕ)) (card : Placed) (at : ℕ) → card.place ≡ Some at → card.count ≡ 0 → defined image card ≡ []
wordless_zero image card at place none = rw (place, none) refl

-- ---- two pieces one after the other

pub all_sent : (result : Result (Unit {0}) SendError) (old mid new : Option (List ℕ)) (first second text : List ℕ) → text ≡ first ++ second → mid ≡ appended old first → OnOk result (new ≡ appended mid second) → OnOk result (new ≡ appended old text)
all_sent (Ok done) old mid new first second text whole one two = two ∙ ap (λ (held : Option (List ℕ)). appended held second) one ∙ appended_twice old first second ∙ ap (appended old) (sym whole)
all_sent (Err error) old mid new first second text whole one two = tt

pub part_sent : (result : Result (Unit {0}) SendError) (old mid new : Option (List ℕ)) (first second text : List ℕ) → text ≡ first ++ second → mid ≡ appended old first → OnErr result (WroteFront mid new second) → OnErr result (WroteFront old new text)
part_sent (Ok done) old mid new first second text whole one two = tt
part_sent (Err error) old mid new first second text whole one two = rw whole (front_in_second first second one two)

-- ---- a count of faults

-- where nothing failed it stays
pub unfailed : (before now : ℕ) → now ≡ before → HasCause before now false
unfailed before now same = record { stays = omega (arith, same); cause = λ is. absurd (true≢false (sym is)); clean = λ _. same }
