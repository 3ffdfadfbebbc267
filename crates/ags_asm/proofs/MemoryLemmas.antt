-- What a source defines are words of the memory. The crates above cite `words_of_memory`, behind the law
-- `source_defines_words_of_the_memory`.
use Rattle.std.proofs.Common.{◌≡◌, ℕ, zero, suc, get_or, ◌+◌, ◌<◌, ◌≤◌, ◌^◌, Bool, true, false, cond, List, [], ◌∷◌, length, Option, Some, None, unwrap_or, refl, subst, inl, inr, arith, ℤ, pos, negsuc}
use Rattle.std.specs.Prelude.{Result, Ok, Err, IsOk, unsigned_abs}
use Rattle.std.specs.List.{Contains}
use Rattle.std.proofs.lemmas.Bool.{leb-true, and_parts}
use Rattle.std.proofs.lemmas.List.Elements.{Contains-append_cases}
use Rattle.ags_text.specs.Fault.{first_fault, or_later}
use Rattle.ags_text.specs.Line.{LineAt}
use Rattle.ags_word.specs.Word.{fits, word_of_value}
use Rattle.ags_word.proofs.WordLaws.{wrap_below, word_of_value-fits, word_of_value-not}
use Rattle.ags_decimal.specs.Decimal.{Parts, nearest_value}
use Rattle.ags_isa.specs.Code.{AreCodes}
use Rattle.ags_isa.proofs.WordLemmas.{order_word-below}
use Rattle.ags_image.specs.Image.{PlacedWord, IsMemoryWord}
use Rattle.ags_card.specs.declared.cards.Body.{Body}
use Rattle.ags_card.specs.declared.cards.Body.TheVariants.{Comment, Order, Org, Equ, Bss, Bes, Dec, Oct, End}
use Rattle.ags_card.specs.declared.cards.Card.{Card}
use Rattle.ags_card.specs.declared.cards.CardFault.{CardFault}
use Rattle.ags_card.specs.Limit.{KeepsLimits}
use Rattle.ags_card.specs.Reading.{reading}
use Rattle.ags_card.proofs.LimitLaws.{card_limits}
use Rattle.ags_symbol.specs.Symbol.{Entry, sum_of}
use Rattle.ags_places.specs.declared.source_error.WordFault.{WordFault}
use Rattle.ags_places.specs.declared.source_error.WordFault.TheVariants.{AddressRange}
use Rattle.ags_places.specs.Deck.{card_of, card_lines, cards_in, readings}
use Rattle.ags_places.specs.Fault.{body_fault, card_fault, is_place, place_fault, twice}
use Rattle.ags_places.proofs.FirstLemmas.{both_none, none_later}
use Rattle.ags_places.specs.Place.{early, operand, place}
use Rattle.ags_places.proofs.PlacingLemmas.{each_within}
use Rattle.ags_asm.specs.Source.{Defines, placed_words}
use Rattle.ags_asm.specs.Word.{CardWords, address_fault, decimal_words, words_at, definition, definitions_after, word_fault_at, taken, word_fault}
use Rattle.ags_asm.proofs.ApartLemmas.{in_from, source_faultless, words_counted}

-- ---- the word of a card

-- an operand without a fault comes to an address
within_so : (value : ℤ) (b : Bool) → is_place value ≡ b → ◌≡◌ {A = Option WordFault} (cond b None (Some (AddressRange value))) None → is_place value ≡ true
within_so value true is none = is
within_so value false is none = absurd cc

address_small : (found : Option ℤ) → address_fault found ≡ None → unsigned_abs (unwrap_or found (pos 0)) < 4096
address_small None none = absurd cc
address_small (Some (pos n)) none =
    let within = within_so (pos n) (is_place (pos n)) refl none in
    let most : n ≤ 4095 = leb-true n 4095 (and_parts _ _ within).1 in
    omega (arith, most)
address_small (Some (negsuc n)) none = absurd cc

-- the word of a value is below 2 ^ 18
value_small : (value : ℤ) (b : Bool) → fits value ≡ b → unwrap_or (word_of_value value) 0 < 2 ^ 18
value_small value true is = rw (word_of_value-fits value is) (wrap_below value)
value_small value false is = rw (word_of_value-not value is) (omega arith)

only : (word : ℕ) (i : ℕ) → i < 1 → word < 2 ^ 18 → get_or (word ∷ []) i 0 < 2 ^ 18
only word zero within small = small
only word (suc i) within small = absurd (omega (arith, within))

no_more : (i : ℕ) → i < 0 → get_or {A = ℕ} [] i 0 < 2 ^ 18
no_more i within = absurd (omega (arith, within))

decimals_small : (numbers : List Parts) (i : ℕ) → i < length (decimal_words numbers) → get_or (decimal_words numbers) i 0 < 2 ^ 18
decimals_small [] i within = absurd (omega (arith, within))
decimals_small (number ∷ numbers) zero within = value_small (nearest_value number) (fits (nearest_value number)) refl
decimals_small (number ∷ numbers) (suc i) within = decimals_small numbers i (omega (arith, within))

words_small : (codes : List ℕ) (S : List Entry) (at : ℕ) (body : Body) (i : ℕ) → AreCodes codes → KeepsLimits body → word_fault_at S at body ≡ None → i < length (words_at codes S at body)
    → get_or (words_at codes S at body) i 0 < 2 ^ 18
words_small codes S at Comment i are limits none within = no_more i within
words_small codes S at (Order order terms indexed) i are limits none within =
    only _ i within (order_word-below codes are order indexed (unsigned_abs (operand S at terms)) (address_small (sum_of S at terms) none))
words_small codes S at (Org terms) i are limits none within = no_more i within
words_small codes S at (Equ terms) i are limits none within = no_more i within
words_small codes S at (Bss terms) i are limits none within = no_more i within
words_small codes S at (Bes terms) i are limits none within = no_more i within
words_small codes S at (Dec numbers) i are limits none within = decimals_small numbers i within
words_small codes S at (Oct words) i are limits none within = limits.1 i 0 within
words_small codes S at End i are limits none within = no_more i within

place_small : (codes : List ℕ) (S early : List Entry) (at : ℕ) (body : Body) (i : ℕ) → body_fault early at body ≡ None → i < length (words_at codes S at body) → at + i < 4096
place_small codes S early at body i none within = each_within early at i body none (omega (arith, within, words_counted codes S at body))

-- ---- of each card

limits_of : (bytes : List ℕ) (read : Result Card CardFault) → reading bytes ≡ read → IsOk read → KeepsLimits (card_of read).body
limits_of bytes (Ok card) is ok = card_limits bytes card is
limits_of bytes (Err fault) is ok = absurd cc

card_here : (number : ℕ) (read : Result Card CardFault) (later : Option (ℕ × CardFault)) → or_later number (card_fault [] read) later ≡ None → IsOk read × (later ≡ None)
card_here number (Ok card) later none = (refl, none)
card_here number (Err fault) later none = absurd cc

memory_along : (codes : List ℕ) (S : List Entry) (before : List Card) (lines : List LineAt) (was : List (Result Card CardFault)) (one : PlacedWord) → AreCodes codes → first_fault card_fault was (readings lines) ≡ None
    → first_fault (place_fault S) before (cards_in lines) ≡ None → first_fault (word_fault S) before (cards_in lines) ≡ None
    → Contains (placed_words (definitions_after codes S before (cards_in lines))) one → IsMemoryWord one
unfolding first_fault definitions_after
memory_along codes S before [] was one are read placed none among = absurd (omega (arith, among.1))
memory_along codes S before (line ∷ lines) was one are read placed none among =
    let card = card_of (reading line.bytes) in
    let at = place S before in
    let standing = none_later (length before + 1) (place_fault S before card) (first_fault (place_fault S) (card ∷ before) (cards_in lines)) placed in
    let lines_read = card_here (length was + 1) (reading line.bytes) (first_fault card_fault (reading line.bytes ∷ was) (readings lines)) read in
    let parts = none_later (length before + 1) (word_fault S before card) (first_fault (word_fault S) (card ∷ before) (cards_in lines)) none in
    elim (Contains-append_cases (definition codes S before card) (placed_words (definitions_after codes S (card ∷ before) (cards_in lines))) one among) [
      | inl here ↦
          let so = in_from at (words_at codes S at card.body) one here in
          let inside = (both_none (twice (early S (length before)) card.symbol) (body_fault (early S (length before)) at card.body) standing.0).1 in
          let faultless = (both_none (word_fault_at S at card.body) (taken S before card) parts.0).0 in
          record {
            place = omega (arith, so.2, place_small codes S (early S (length before)) at card.body so.0 inside so.1);
            word = rw so.3 (words_small codes S at card.body so.0 are (limits_of line.bytes (reading line.bytes) refl lines_read.0) faultless so.1);
          }
      | inr later ↦
          memory_along codes S (card ∷ before) lines (reading line.bytes ∷ was) one are lines_read.1 standing.1 parts.1 later
    ]

pub words_of_memory : (codes text : List ℕ) (defined : CardWords) → AreCodes codes → Defines codes text defined → (one : PlacedWord) → Contains (placed_words defined) one → IsMemoryWord one
words_of_memory codes text defined are so one among =
    let (read, placed, made) = source_faultless so.symbols text so.faultless in
    memory_along codes so.symbols [] (card_lines text) [] one are read placed made (subst (λ (words : CardWords). Contains (placed_words words) one) so.words among)
