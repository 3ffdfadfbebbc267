-- The lines of the rows, a row further, and as the text of the source.
use Rattle.std.proofs.Common.{◌≡◌, ℕ, suc, ◌+◌, ◌<◌, ◌≤◌, List, [], ◌∷◌, ◌++◌, length, take, drop, get_or, map, Option, refl, sym, ap, ◌∙◌, arith, append_assoc}
use Rattle.std.specs.Prelude.{Vec, false}
use Rattle.std.specs.List.{flat_map}
use Rattle.std.proofs.lemmas.Bool.{true≢false}
use Rattle.std.proofs.lemmas.List.{drop_more, drop_all, replicate_more}
use Rattle.ags_text.specs.Line.{LineAt, LiesIn, Follow}
use Rattle.ags_card.specs.Reading.{reading}
use Rattle.ags_image.specs.Image.{PlacedWord}
use Rattle.ags_outside.specs.Count.{HasCause}
use Rattle.ags_outside.specs.Sink.{appended, Wrote, WroteFront, wrote_nothing, wrote_piece, wrote_all, wrote_front}
use Rattle.ags_places.specs.Deck.{card_of, card_lines, cards, cards_in}
use Rattle.ags_places.proofs.PlacingLemmas.{lines_of_cards_follow}
use Rattle.ags_symbol.specs.Symbol.{Entry}
use Rattle.ags_asm.specs.declared.assembling.Assembled.{Assembled}
use Rattle.ags_asm.specs.Source.{AreSpans, CardWords, Defines, placed_at, placed_cards}
use Rattle.ags_asm.specs.Word.{definitions}
use Rattle.ags_asm.proofs.MeaningLemmas.{one_for_each}
use Rattle.ags_xref.specs.declared.rows.Row.{Row}
use Rattle.ags_xref.specs.Gathering.{Gathered, card_at, entry_of, rows_text}
use Rattle.ags_xref.specs.Naming.{naming}
use Rattle.ags_xref.specs.Order.{by_name}
use Rattle.ags_xref.specs.Xref.{IsAssemblyOf, blanks, xref_line, xref_text}
use Rattle.ags_card.specs.declared.cards.Card.{Card}

-- ---- blanks

pub blanks_more : (line now new : List ℕ) (n m : ℕ) → now ≡ line ++ blanks n → new ≡ now ++ 32 ∷ [] → m ≡ n + 1 → new ≡ line ++ blanks m
blanks_more line now new n m so pushed more =
    pushed ∙ ap (λ (front : List ℕ). front ++ 32 ∷ []) so ∙ append_assoc line (blanks n) (32 ∷ []) ∙ ap (λ (behind : List ℕ). line ++ behind) (replicate_more n 32 ∙ ap blanks (sym more))

flat_map-map : {X Y : Type 0} (f : Y → List ℕ) (g : X → Y) (xs : List X) → flat_map f (map g xs) ≡ flat_map (λ x. f (g x)) xs
flat_map-map f g [] = refl
flat_map-map f g (x ∷ xs) = ap (λ (rest : List ℕ). f (g x) ++ rest) (flat_map-map f g xs)

-- ---- a row further

module _ {A : Type 0} where
  rows_text-nil : (naming : List (Vec ℕ A)) → rows_text [] naming ≡ []
  unfolding rows_text
  rows_text-nil naming = refl

  rows_text-cons : (row : Row) (rows : List Row) (numbers : Vec ℕ A) (naming : List (Vec ℕ A))
      → rows_text (row ∷ rows) (numbers ∷ naming) ≡ xref_line (entry_of row) numbers.items ++ rows_text rows naming
  unfolding rows_text
  rows_text-cons row rows numbers naming = refl

  -- the lines of the first rows were sent
  pub record Sending (old now : Option (List ℕ)) (rows : List Row) (naming : List (Vec ℕ A)) (i : ℕ) : Type 0 where
    pub wrote : Wrote old now (rows_text rows naming) (rows_text (drop i rows) (drop i naming))

  pub Sending-none : (old : Option (List ℕ)) (rows : List Row) (naming : List (Vec ℕ A)) → Sending old old rows naming 0
  Sending-none old rows naming = record { wrote = wrote_nothing old (rows_text rows naming) }

  next-piece : (rows : List Row) (naming : List (Vec ℕ A)) (i : ℕ) (row : Row) (numbers : Vec ℕ A) → i < length rows → length naming ≡ length rows
      → row ≡ get_or rows i row → numbers ≡ get_or naming i numbers
      → rows_text (drop i rows) (drop i naming) ≡ xref_line (entry_of row) numbers.items ++ rows_text (drop (i + 1) rows) (drop (i + 1) naming)
  next-piece rows naming i row numbers within long is has =
      let rest_rows : drop i rows ≡ row ∷ drop (i + 1) rows = drop_more rows i row within ∙ ap (λ (x : Row). x ∷ drop (i + 1) rows) (sym is) in
      let rest_naming : drop i naming ≡ numbers ∷ drop (i + 1) naming =
      drop_more naming i numbers (omega (arith, within, long)) ∙ ap (λ (x : Vec ℕ A). x ∷ drop (i + 1) naming) (sym has) in
      rw (rest_rows, rest_naming) (rows_text-cons row (drop (i + 1) rows) numbers (drop (i + 1) naming))

  pub Sending-more : (old now new : Option (List ℕ)) (rows : List Row) (naming : List (Vec ℕ A)) (i : ℕ) (row : Row) (numbers : Vec ℕ A) → Sending old now rows naming i
      → i < length rows → length naming ≡ length rows → row ≡ get_or rows i row → numbers ≡ get_or naming i numbers
      → new ≡ appended now (xref_line (entry_of row) numbers.items) → Sending old new rows naming (i + 1)
  Sending-more old now new rows naming i row numbers so within long is has sent = record {
    wrote = wrote_piece (xref_line (entry_of row) numbers.items) (rows_text (drop (i + 1) rows) (drop (i + 1) naming)) so.wrote (next-piece rows naming i row numbers within long is has) sent;
  }

  pub Sending-front : (old now new : Option (List ℕ)) (rows : List Row) (naming : List (Vec ℕ A)) (i : ℕ) (row : Row) (numbers : Vec ℕ A) → Sending old now rows naming i
      → i < length rows → length naming ≡ length rows → row ≡ get_or rows i row → numbers ≡ get_or naming i numbers
      → WroteFront now new (xref_line (entry_of row) numbers.items) → WroteFront old new (rows_text rows naming)
  Sending-front old now new rows naming i row numbers so within long is has front =
      wrote_front (xref_line (entry_of row) numbers.items) (rows_text (drop (i + 1) rows) (drop (i + 1) naming)) so.wrote (next-piece rows naming i row numbers within long is has) front

  pub Sending-all : (old now : Option (List ℕ)) (rows : List Row) (naming : List (Vec ℕ A)) (i : ℕ) → Sending old now rows naming i → length rows ≤ i → now ≡ appended old (rows_text rows naming)
  Sending-all old now rows naming i so past =
      let nothing : rows_text (drop i rows) (drop i naming) ≡ [] = rw (drop_all i rows past) (rows_text-nil (drop i naming)) in
      wrote_all (rw nothing at so.wrote)

  -- ---- as the text of the source

  rows_text_is : (rows : List Row) (cards : List Card) (gathered : List (Vec ℕ A)) → Gathered rows cards gathered
      → rows_text rows gathered ≡ flat_map (λ row. xref_line (entry_of row) (naming cards row.name)) rows
  rows_text_is [] cards gathered so = rows_text-nil gathered
  rows_text_is (row ∷ rows) cards [] so = absurd (omega (arith, so.long))
  rows_text_is (row ∷ rows) cards (numbers ∷ gathered) so =
      let here : numbers.items ≡ naming cards row.name = so.each 0 row numbers (omega arith) in
      let rest = rows_text_is rows cards gathered (record { long = omega (arith, so.long); each = λ i d e within. so.each (suc i) d e (omega (arith, within)) }) in
      rows_text-cons row rows numbers gathered ∙ rw (here, rest) refl

  pub reference_is : (source : List ℕ) (symbols : List Entry) (rows : List Row) (gathered : List (Vec ℕ A)) → map entry_of rows ≡ by_name symbols → Gathered rows (cards source) gathered
      → rows_text rows gathered ≡ xref_text source symbols
  reference_is source symbols rows gathered are so =
      rows_text_is rows (cards source) gathered so ∙ sym (flat_map-map (λ entry. xref_line entry (naming (cards source) entry.name)) entry_of rows)
      ∙ ap (flat_map (λ entry. xref_line entry (naming (cards source) entry.name))) are

-- ---- the cards by their spans

card_at-line : (source : List ℕ) (line : LineAt) (words : List PlacedWord) → LiesIn source line → card_at source (placed_at line words) ≡ card_of (reading line.bytes)
card_at-line source line [] lies = ap (λ (bytes : List ℕ). card_of (reading bytes)) (ap (λ (n : ℕ). take n (drop line.start source)) (omega arith) ∙ lies.bytes_are)
card_at-line source line (one ∷ more) lies = ap (λ (bytes : List ℕ). card_of (reading bytes)) (ap (λ (n : ℕ). take n (drop line.start source)) (omega arith) ∙ lies.bytes_are)

cards_at : (source : List ℕ) (from : ℕ) (lines : List LineAt) (ds : CardWords) → length ds ≡ length lines → Follow source from lines
    → map (card_at source) (placed_cards lines ds) ≡ cards_in lines
cards_at source from [] ds long follow = refl
cards_at source from (line ∷ lines) [] long follow = absurd (omega (arith, long))
cards_at source from (line ∷ lines) (d ∷ ds) long follow =
    rw (card_at-line source line d follow.1, cards_at source (line.start + length line.bytes + 1) lines ds (omega (arith, long)) follow.2) refl

spans_at : (source : List ℕ) (from : ℕ) (lines : List LineAt) (ds : CardWords) → Follow source from lines → AreSpans from (length source) (placed_cards lines ds)
spans_at source from [] ds follow = tt
spans_at source from (line ∷ lines) [] follow = tt
spans_at source from (line ∷ lines) ([] ∷ ds) follow = (follow.0, omega arith, follow.1.within, spans_at source (line.start + length line.bytes + 1) lines ds follow.2)
spans_at source from (line ∷ lines) ((one ∷ more) ∷ ds) follow = (follow.0, omega arith, follow.1.within, spans_at source (line.start + length line.bytes + 1) lines ds follow.2)

-- the spans of an assembled source's cards are those of its lines
pub spans_of : (source : List ℕ) (made : Assembled) → IsAssemblyOf source made → AreSpans 0 (length source) made.cards.items
spans_of source made so = rw so.assembled.cards_are (spans_at source 0 (card_lines source) (definitions so.order_codes made.symbols (cards source)) (lines_of_cards_follow source))

-- and there its cards stand
pub cards_of : (source : List ℕ) (made : Assembled) → IsAssemblyOf source made → map (card_at source) made.cards.items ≡ cards source
cards_of source made so =
    let defines : Defines so.order_codes source (definitions so.order_codes made.symbols (cards source)) = record { symbols = made.symbols; fits = so.assembled.fits; faultless = so.assembled.faultless; words = refl } in
    ap (map (card_at source)) so.assembled.cards_are
    ∙ cards_at source 0 (card_lines source) (definitions so.order_codes made.symbols (cards source)) (one_for_each so.order_codes source (definitions so.order_codes made.symbols (cards source)) defines) (lines_of_cards_follow source)

-- ---- a count of faults

-- where nothing failed it stays
pub unfailed : (before now : ℕ) → now ≡ before → HasCause before now false
unfailed before now same = record { stays = omega (arith, same); cause = λ is. absurd (true≢false (sym is)); clean = λ _. same }
