-- The tape, a location further; and that what is written reads back.
use Rattle.std.proofs.Common.{◌≡◌, ◌≢◌, ℕ, zero, suc, ◌+◌, ◌<◌, ◌≤◌, ◌^◌, true, not, ◌==◌, List, [], ◌∷◌, ◌++◌, length, drop, get_or, Option, Some, None, refl, ap, ◌∙◌, arith, inl, inr, ◌⊎◌, append_assoc, codes}
use Rattle.std.specs.Char.{digit_value}
use Rattle.std.specs.Str.Parse.{AllDigits}
use Rattle.std.specs.List.{All, Contains}
use Rattle.std.proofs.lemmas.Bool.Decides.{nat_tests}
use Rattle.std.proofs.lemmas.List.{drop_more, drop_all}
use Rattle.std.proofs.lemmas.List.Elements.{All-cons}
use Rattle.std.proofs.lemmas.List.Folds.{list_all-append}
use Rattle.std.proofs.lemmas.List.Kept.{AllPairs-cons}
use Rattle.ags_text.specs.Line.{HasNoFeed}
use Rattle.ags_text.specs.Numeral.{numeral, octal4_text, octal6_text, Writes}
use Rattle.ags_text.proofs.NumeralLemmas.{writes}
use Rattle.ags_image.specs.Image.{memory_size, entry_at, IsImage, PlacedWord, EachPlaceOnce, IsImageOf}
use Rattle.ags_image.proofs.ImageLaws.{word_at-some}
use Rattle.ags_outside.specs.Sink.{appended, Wrote, WroteFront, wrote_nothing, wrote_piece, wrote_all, wrote_front}
use Rattle.ags_image.specs.Form.{HasForm, words_of}
use Rattle.ags_image.specs.Lines.{IsCutAtFeeds, feed_lines}
use Rattle.ags_image.proofs.ColumnLemmas.{printed_columns}
use Rattle.ags_image.proofs.CutLemmas.{one_cut}
use Rattle.ags_image.specs.Tape.{tape_line, tape_from, tape_text, put, tape_form, ReadsTape}

-- ---- a location further

tape_from-none : (location : ℕ) (entries : List (Option ℕ)) → tape_from location (None ∷ entries) ≡ tape_from (location + 1) entries
unfolding tape_from
tape_from-none location entries = refl

tape_from-some : (location word : ℕ) (entries : List (Option ℕ))
    → tape_from location (Some word ∷ entries) ≡ (tape_line location word ++ codes "\n") ++ tape_from (location + 1) entries
unfolding tape_from
tape_from-some location word entries = refl

tape_from-nil : (location : ℕ) → tape_from location [] ≡ []
unfolding tape_from
tape_from-nil location = refl

entry_more : (image : List (Option ℕ)) (location : ℕ) → location < length image → drop location image ≡ entry_at image location ∷ drop (location + 1) image
unfolding entry_at
entry_more image location within = drop_more image location None within

-- The lines of the words below a location were sent. That it is an image is known once a location was looked at.
pub record Sending (old now : Option (List ℕ)) (image : List (Option ℕ)) (location : ℕ) : Type 0 where
  pub wrote : Wrote old now (tape_text image) (tape_from location (drop location image))
  pub known : 0 < location → IsImage image

pub sending_none : (old : Option (List ℕ)) (image : List (Option ℕ)) → Sending old old image 0
sending_none old image = record { wrote = wrote_nothing old (tape_text image); known = λ some. absurd (omega arith) }

module _ (old now : Option (List ℕ)) (image : List (Option ℕ)) (location : ℕ) (so : Sending old now image location) (is : IsImage image) (within : location < memory_size) where
  inside : location < length image
  inside = omega (arith, is.whole)

  pub sending_skip : entry_at image location ≡ None → Sending old now image (location + 1)
  sending_skip none =
      let cut : drop location image ≡ None ∷ drop (location + 1) image = rw (← none) (entry_more image location inside) in
      record { wrote = rw (ap (tape_from location) cut ∙ tape_from-none location (drop (location + 1) image)) at so.wrote; known = λ some. is }

  next_piece : (word : ℕ) → entry_at image location ≡ Some word
      → tape_from location (drop location image) ≡ (tape_line location word ++ codes "\n") ++ tape_from (location + 1) (drop (location + 1) image)
  next_piece word some =
      let cut : drop location image ≡ Some word ∷ drop (location + 1) image = rw (← some) (entry_more image location inside) in
      ap (tape_from location) cut ∙ tape_from-some location word (drop (location + 1) image)

  pub sending_more : (new : Option (List ℕ)) (word : ℕ) → entry_at image location ≡ Some word → new ≡ appended now (tape_line location word ++ codes "\n") → Sending old new image (location + 1)
  sending_more new word some sent = record {
    wrote = wrote_piece (tape_line location word ++ codes "\n") (tape_from (location + 1) (drop (location + 1) image)) so.wrote (next_piece word some) sent;
    known = λ more. is;
  }

  pub sending_front : (new : Option (List ℕ)) (word : ℕ) → entry_at image location ≡ Some word → WroteFront now new (tape_line location word ++ codes "\n") → WroteFront old new (tape_text image)
  sending_front new word some front =
      wrote_front (tape_line location word ++ codes "\n") (tape_from (location + 1) (drop (location + 1) image)) so.wrote (next_piece word some) front

pub sending_all : (old now : Option (List ℕ)) (image : List (Option ℕ)) (location : ℕ) → Sending old now image location → memory_size ≤ location → now ≡ appended old (tape_text image)
sending_all old now image location so past =
    let is = so.known (omega arith) in
    let nothing : tape_from location (drop location image) ≡ [] = ap (tape_from location) (drop_all location image (omega (arith, is.whole))) ∙ tape_from-nil location in
    wrote_all (rw nothing at so.wrote)

-- ---- the lines of a tape

lines_from : (location : ℕ) → List (Option ℕ) → List (List ℕ)
lines_from location [] = []
lines_from location (None ∷ entries) = lines_from (location + 1) entries
lines_from location (Some word ∷ entries) = tape_line location word ∷ lines_from (location + 1) entries

-- and the words that they put
unfoldable pub placed_from : (location : ℕ) → List (Option ℕ) → List PlacedWord
placed_from location [] = []
placed_from location (None ∷ entries) = placed_from (location + 1) entries
placed_from location (Some word ∷ entries) = record { place = location; word = word } ∷ placed_from (location + 1) entries

no_feed : (b : ℕ) → digit_value b < 8 → not (b == 10) ≡ true
no_feed b digit = grind (arith, nat_tests)

digits_no_feed : (text : List ℕ) → AllDigits 8 text → HasNoFeed text
digits_no_feed [] digits = refl
digits_no_feed (b ∷ text) digits = rw (no_feed b digits.0, digits_no_feed text digits.1) refl

-- the words of an image are below 2 ^ 18, and its places in the memory
AreWords : (location : ℕ) → List (Option ℕ) → Type 0
AreWords location [] = Unit {0}
AreWords location (None ∷ entries) = AreWords (location + 1) entries
AreWords location (Some word ∷ entries) = (location < memory_size) × (word < 2 ^ 18) × AreWords (location + 1) entries

line_no_feed : (location word : ℕ) → location < memory_size → word < 2 ^ 18 → HasNoFeed (tape_line location word)
line_no_feed location word within below =
    let four : Writes 8 4 (octal4_text location) location = writes 8 4 location (omega arith) (omega arith) within in
    let six : Writes 8 6 (octal6_text word) word = writes 8 6 word (omega arith) (omega arith) below in
    list_all-append (λ (b : ℕ). not (b == 10)) (octal4_text location ++ codes " ") (octal6_text word)
    ∙ rw (list_all-append (λ (b : ℕ). not (b == 10)) (octal4_text location) (codes " "), digits_no_feed (octal4_text location) four.digits, digits_no_feed (octal6_text word) six.digits) refl

tape_is_cut : (location : ℕ) (entries : List (Option ℕ)) → AreWords location entries → IsCutAtFeeds (tape_from location entries) (lines_from location entries)
unfolding tape_from lines_from AreWords
tape_is_cut location [] are = refl
tape_is_cut location (None ∷ entries) are = tape_is_cut (location + 1) entries are
tape_is_cut location (Some word ∷ entries) are = (
  line_no_feed location word are.0 are.1,
  inl (tape_from (location + 1) entries, append_assoc (tape_line location word) (codes "\n") (tape_from (location + 1) entries), tape_is_cut (location + 1) entries are.2),
)

tape_form-line : (location word : ℕ) → location < memory_size → word < 2 ^ 18 → tape_form (tape_line location word) ≡ Some (Some (record { place = location; word = word }))
unfolding tape_form numeral
tape_form-line location word within below = ap put (printed_columns location word within below)

-- ---- the words that the lines put

lines_have_form : (location : ℕ) (entries : List (Option ℕ)) → AreWords location entries → All (HasForm tape_form) (lines_from location entries)
unfolding lines_from AreWords
lines_have_form location [] are = λ k d within. absurd (omega arith)
lines_have_form location (None ∷ entries) are = lines_have_form (location + 1) entries are
lines_have_form location (Some word ∷ entries) are =
    let form = tape_form-line location word are.0 are.1 in
    All-cons (HasForm tape_form) (tape_line location word) (lines_from (location + 1) entries) (λ none. absurd cc) (lines_have_form (location + 1) entries are.2)

words_are : (location : ℕ) (entries : List (Option ℕ)) → AreWords location entries → words_of tape_form (lines_from location entries) ≡ placed_from location entries
unfolding lines_from placed_from AreWords
words_are location [] are = refl
words_are location (None ∷ entries) are = words_are (location + 1) entries are
words_are location (Some word ∷ entries) are = rw (tape_form-line location word are.0 are.1, words_are (location + 1) entries are.2) refl

pub from_there : (least location : ℕ) (entries : List (Option ℕ)) → least ≤ location → All (λ (placed : PlacedWord). least ≤ placed.place) (placed_from location entries)
unfolding placed_from
from_there least location [] low = λ k d within. absurd (omega arith)
from_there least location (None ∷ entries) low = from_there least (location + 1) entries (omega arith)
from_there least location (Some word ∷ entries) low =
    All-cons (λ (placed : PlacedWord). least ≤ placed.place) (record { place = location; word = word }) (placed_from (location + 1) entries) low (from_there least (location + 1) entries (omega arith))

above_apart : (location : ℕ) (words : List PlacedWord) → All (λ (placed : PlacedWord). location + 1 ≤ placed.place) words → All (λ (other : PlacedWord). location ≢ other.place) words
above_apart location words above = λ k d within same. let more = above k d within in omega (arith, more, same)

placed_once : (location : ℕ) (entries : List (Option ℕ)) → EachPlaceOnce (placed_from location entries)
unfolding placed_from
placed_once location [] = λ i j d before within. absurd (omega arith)
placed_once location (None ∷ entries) = placed_once (location + 1) entries
placed_once location (Some word ∷ entries) =
    let rest : List PlacedWord = placed_from (location + 1) entries in
    AllPairs-cons (λ (one other : PlacedWord). one.place ≢ other.place) (record { place = location; word = word }) rest
    (above_apart location rest (from_there (location + 1) (location + 1) entries (omega arith))) (placed_once (location + 1) entries)

-- an element of a list is its first or one of the others
contains_more : (x : PlacedWord) (words : List PlacedWord) (y : PlacedWord) → Contains words y → Contains (x ∷ words) y
contains_more x words y (k, within, is) = (suc k, omega (arith, within), is)

contains_cases : (x : PlacedWord) (words : List PlacedWord) (y : PlacedWord) → Contains (x ∷ words) y → (x ≡ y) ⊎ Contains words y
contains_cases x words y (zero, within, is) = inl is
contains_cases x words y (suc k, within, is) = inr (k, omega (arith, within), is)

pub placed_has : (location : ℕ) (entries : List (Option ℕ)) (k word : ℕ) → get_or entries k None ≡ Some word → Contains (placed_from location entries) (record { place = location + k; word = word })
unfolding placed_from
placed_has location [] k word is = absurd cc
placed_has location (None ∷ entries) zero word is = absurd cc
placed_has location (None ∷ entries) (suc k) word is =
    let at : location + 1 + k ≡ location + suc k = omega arith in
    rw (← at) (placed_has (location + 1) entries k word is)
placed_has location (Some first ∷ entries) zero word is =
    let same : first ≡ word = cc in
    let at : location ≡ location + zero = omega arith in
    (0, omega arith, rw (← at, same) refl)
placed_has location (Some first ∷ entries) (suc k) word is =
    let at : location + 1 + k ≡ location + suc k = omega arith in
    rw (← at) (contains_more (record { place = location; word = first }) (placed_from (location + 1) entries) (record { place = location + 1 + k; word = word }) (placed_has (location + 1) entries k word is))

pub placed_of : (location : ℕ) (entries : List (Option ℕ)) (place word : ℕ) → Contains (placed_from location entries) (record { place = place; word = word })
    → (k : ℕ) × (place ≡ location + k) × (get_or entries k None ≡ Some word)
unfolding placed_from
placed_of location [] place word held = absurd (omega (arith, held.1))
placed_of location (None ∷ entries) place word held =
    let r = placed_of (location + 1) entries place word held in
    (suc r.0, omega (arith, r.1), r.2)
placed_of location (Some first ∷ entries) place word held =
    elim (contains_cases (record { place = location; word = first }) (placed_from (location + 1) entries) (record { place = place; word = word }) held) [
      | inl same ↦
          let place_is : location ≡ place = ap (λ (p : PlacedWord). p.place) same in
          let word_is : first ≡ word = ap (λ (p : PlacedWord). p.word) same in
          (zero, omega arith, ap Some word_is)
      | inr behind ↦
          let r = placed_of (location + 1) entries place word behind in
          (suc r.0, omega (arith, r.1), r.2)
    ]

are_words : (location : ℕ) (entries : List (Option ℕ)) → location + length entries ≤ memory_size → ((k word : ℕ) → get_or entries k None ≡ Some word → word < 2 ^ 18) → AreWords location entries
unfolding AreWords
are_words location [] short below = tt
are_words location (None ∷ entries) short below = are_words (location + 1) entries (omega arith) (λ k word is. below (suc k) word is)
are_words location (Some word ∷ entries) short below = (omega arith, below zero word refl, are_words (location + 1) entries (omega arith) (λ k other is. below (suc k) other is))

-- ---- what is written reads back

words_below : (image : List (Option ℕ)) → IsImage image → (k word : ℕ) → get_or image k None ≡ Some word → word < 2 ^ 18
unfolding entry_at
words_below image is k word some = rw (word_at-some image k word some) at (is.words k)

image_filled : (image : List (Option ℕ)) → IsImage image → IsImageOf (placed_from 0 image) image
unfolding entry_at
image_filled image is = record {
  is_image = is;
  from_words = λ place word some. let at : 0 + place ≡ place = omega arith in rw at at (placed_has 0 image place word some);
  has_words = λ place word held. let r = placed_of 0 image place word held in let at : place ≡ r.0 = omega (arith, r.1) in rw at r.2;
}

pub written_reads : (image : List (Option ℕ)) → IsImage image → ReadsTape (tape_text image) image
written_reads image is =
    let are : AreWords 0 image = are_words 0 image (omega (arith, is.whole)) (words_below image is) in
    let lines : lines_from 0 image ≡ feed_lines (tape_text image) = one_cut (tape_text image) (lines_from 0 image) (tape_is_cut 0 image are) in
    let words = words_are 0 image are in
    rw (← lines) (record { each = lines_have_form 0 image are; once = rw words (placed_once 0 image); filled = rw words (image_filled image is) })
