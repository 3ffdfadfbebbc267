-- A printed listing reads back.
use Rattle.std.proofs.Common.{◌≡◌, ℕ, zero, suc, ◌+◌, ◌%◌, ◌/◌, ◌<◌, ◌≤◌, Bool, true, false, not, ◌&&◌, ◌==◌, List, [], ◌∷◌, ◌++◌, length, take, drop, Option, Some, None, refl, ◌∙◌, arith, inl, append_assoc, length-append, map, codes}
use Rattle.std.specs.Prelude.{nat_lt, IfSome}
use Rattle.std.specs.List.{All, list_all}
use Rattle.std.proofs.lemmas.Bool.Decides.{nat_tests}
use Rattle.std.proofs.lemmas.List.Elements.{All-cons}
use Rattle.std.proofs.lemmas.List.Folds.{list_all-append}
use Rattle.ags_text.specs.Line.{HasNoFeed}
use Rattle.ags_text.specs.Numeral.{numeral, decimal7_text, octal4_text, octal6_text}
use Rattle.ags_image.specs.Image.{PlacedWord, IsMemoryWord, EachPlaceOnce, IsImageOf}
use Rattle.ags_image.specs.Columns.{placed_in}
use Rattle.ags_image.specs.Form.{HasForm, words_of}
use Rattle.ags_image.specs.Lines.{IsCutAtFeeds, feed_lines}
use Rattle.ags_image.proofs.ColumnLemmas.{and_left, and_right, printed_columns}
use Rattle.ags_image.proofs.CutLemmas.{one_cut}
use Rattle.ags_listing.specs.Listing.{PrintedCard, columns, printed_line, listing_text, printed_words, IsPrintable}
use Rattle.ags_listing.specs.Reads.{is_digit, is_space, is_ruled, said, listing_form, Reads}

-- ---- the bytes of what is printed

-- a digit of a base of at most ten
last_is_digit : (base n : ℕ) → 0 < base → base ≤ 10 → is_digit (48 + n % base) ≡ true
last_is_digit base n some most = let below : n % base < base = omega arith in grind (arith, nat_tests)

one_digit : (base n : ℕ) → 0 < base → base ≤ 10 → list_all is_digit ((48 + n % base) ∷ []) ≡ true
one_digit base n some most = rw (last_is_digit base n some most) refl

numeral_digits : (base width n : ℕ) → 0 < base → base ≤ 10 → list_all is_digit (numeral base width n) ≡ true
unfolding numeral
numeral_digits base zero n some most = refl
numeral_digits base (suc width) n some most =
    list_all-append is_digit (numeral base width (n / base)) ((48 + n % base) ∷ []) ∙ rw (numeral_digits base width (n / base) some most, one_digit base n some most) refl

digit_no_feed : (b : ℕ) → is_digit b ≡ true → not (b == 10) ≡ true
digit_no_feed b digit = grind (arith, nat_tests)

digits_no_feed : (text : List ℕ) → list_all is_digit text ≡ true → HasNoFeed text
digits_no_feed [] digits = refl
digits_no_feed (b ∷ text) digits =
    rw (digit_no_feed b (and_left (is_digit b) (list_all is_digit text) digits), digits_no_feed text (and_right (is_digit b) (list_all is_digit text) digits)) refl

numeral_no_feed : (base width n : ℕ) → 0 < base → base ≤ 10 → HasNoFeed (numeral base width n)
numeral_no_feed base width n some most = digits_no_feed (numeral base width n) (numeral_digits base width n some most)

no_feed_behind : (front behind : List ℕ) → HasNoFeed front → HasNoFeed behind → HasNoFeed (front ++ behind)
no_feed_behind front behind none too = list_all-append (λ (b : ℕ). not (b == 10)) front behind ∙ rw (none, too) refl

columns_no_feed : (placed : Option PlacedWord) → HasNoFeed (columns placed)
columns_no_feed None = refl
columns_no_feed (Some placed) =
    no_feed_behind (octal4_text placed.place ++ codes " ") (octal6_text placed.word)
    (no_feed_behind (octal4_text placed.place) (codes " ") (numeral_no_feed 8 4 placed.place (omega arith) (omega arith)) refl)
    (numeral_no_feed 8 6 placed.word (omega arith) (omega arith))

line_no_feed : (card : PrintedCard) → IsPrintable card → HasNoFeed (printed_line card)
line_no_feed card is =
    no_feed_behind (decimal7_text card.number ++ codes " " ++ columns card.placed ++ codes " ") card.text
    (no_feed_behind (decimal7_text card.number ++ codes " " ++ columns card.placed) (codes " ")
    (no_feed_behind (decimal7_text card.number ++ codes " ") (columns card.placed)
    (no_feed_behind (decimal7_text card.number) (codes " ") (numeral_no_feed 10 7 card.number (omega arith) (omega arith)) refl)
    (columns_no_feed card.placed)) refl) is.unbroken

listing_is_cut : (cards : List PrintedCard) → All IsPrintable cards → IsCutAtFeeds (listing_text cards) (map printed_line cards)
unfolding listing_text
listing_is_cut [] are = refl
listing_is_cut (card ∷ cards) are = (
  line_no_feed card (are 0 card (omega arith)),
  inl (listing_text cards, append_assoc (printed_line card) (codes "\n") (listing_text cards), listing_is_cut cards (λ k d within. are (suc k) d (omega (arith, within)))),
)

-- ---- what a line that is printed says

all_three : (a b c : Bool) → a ≡ true → b ≡ true → c ≡ true → a && (b && c) ≡ true
all_three a b c is too also = rw (is, too, also) refl

long_test : (n : ℕ) → 19 < n → nat_lt 19 n ≡ true
long_test n more = grind (arith, nat_tests)

length-columns : (placed : Option PlacedWord) → length (columns placed) ≡ 11
unfolding numeral
length-columns None = refl
length-columns (Some placed) = refl

length-decimal7 : (number : ℕ) → length (decimal7_text number) ≡ 7
unfolding numeral
length-decimal7 number = refl

long_line : (number : ℕ) (placed : Option PlacedWord) (text : List ℕ) → 19 < length (decimal7_text number ++ codes " " ++ columns placed ++ codes " " ++ text)
long_line number placed text =
    omega (
      arith,
      length-decimal7 number,
      length-columns placed,
      length-append (decimal7_text number ++ codes " " ++ columns placed ++ codes " ") text,
      length-append (decimal7_text number ++ codes " " ++ columns placed) (codes " "),
      length-append (decimal7_text number ++ codes " ") (columns placed),
      length-append (decimal7_text number) (codes " "),
    )

ruled : (number : ℕ) (placed : Option PlacedWord) (text : List ℕ) → is_ruled (decimal7_text number ++ codes " " ++ columns placed ++ codes " " ++ text) ≡ true
unfolding is_ruled numeral
ruled number None text =
    all_three _ _ _ (long_test _ (long_line number None text)) (numeral_digits 10 7 number (omega arith) (omega arith)) refl
ruled number (Some placed) text =
    all_three _ _ _ (long_test _ (long_line number (Some placed) text)) (numeral_digits 10 7 number (omega arith) (omega arith)) refl

digit_no_space : (b : ℕ) → is_digit b ≡ true → is_space b ≡ false
digit_no_space b digit = grind (arith, nat_tests)

no_spaces : (text : List ℕ) → 0 < length text → list_all is_digit text ≡ true → list_all is_space text ≡ false
no_spaces [] some digits = absurd (omega arith)
no_spaces (b ∷ text) some digits = rw (digit_no_space b (and_left (is_digit b) (list_all is_digit text) digits)) refl

length-octal4 : (place : ℕ) → length (octal4_text place) ≡ 4
unfolding numeral
length-octal4 place = refl

said_placed : (place word : List ℕ) (placed : PlacedWord) → list_all is_space place ≡ false → placed_in place word ≡ Some placed → said place word ≡ Some (Some placed)
unfolding said
said_placed place word placed digits is = rw (digits, is) refl

form_by : (line : List ℕ) (entry : Option (Option PlacedWord)) → is_ruled line ≡ true → said (take 4 (drop 8 line)) (take 6 (drop 13 line)) ≡ entry → listing_form line ≡ entry
unfolding listing_form
form_by line entry is says = rw is says

said_none : said (codes "    ") (codes "      ") ≡ Some None
unfolding said
said_none = refl

form_of : (number : ℕ) (placed : Option PlacedWord) (text : List ℕ) → IfSome placed IsMemoryWord
    → listing_form (decimal7_text number ++ codes " " ++ columns placed ++ codes " " ++ text) ≡ Some placed
unfolding numeral
form_of number None text within = form_by _ (Some None) (ruled number None text) said_none
form_of number (Some placed) text within =
    let digits : list_all is_space (octal4_text placed.place) ≡ false =
    no_spaces (octal4_text placed.place) (omega (arith, length-octal4 placed.place)) (numeral_digits 8 4 placed.place (omega arith) (omega arith)) in
    form_by _ (Some (Some placed)) (ruled number (Some placed) text)
    (said_placed (octal4_text placed.place) (octal6_text placed.word) placed digits (printed_columns placed.place placed.word within.place within.word))

form_line : (card : PrintedCard) → IsPrintable card → listing_form (printed_line card) ≡ Some card.placed
form_line card is = form_of card.number card.placed card.text is.within

-- ---- what all of them say

lines_have_form : (cards : List PrintedCard) → All IsPrintable cards → All (HasForm listing_form) (map printed_line cards)
lines_have_form [] are = λ k d within. absurd (omega arith)
lines_have_form (card ∷ cards) are =
    let form = form_line card (are 0 card (omega arith)) in
    All-cons (HasForm listing_form) (printed_line card) (map printed_line cards) (λ none. absurd cc) (lines_have_form cards (λ k d within. are (suc k) d (omega (arith, within))))

words_are : (cards : List PrintedCard) → All IsPrintable cards → words_of listing_form (map printed_line cards) ≡ printed_words cards
words_are [] are = refl
words_are (card ∷ cards) are =
    rw (form_line card (are 0 card (omega arith)), words_are cards (λ k d within. are (suc k) d (omega (arith, within)))) refl

pub printed_reads : (cards : List PrintedCard) (image : List (Option ℕ)) → All IsPrintable cards → EachPlaceOnce (printed_words cards)
    → IsImageOf (printed_words cards) image → Reads (listing_text cards) image
printed_reads cards image are once filled =
    let lines : map printed_line cards ≡ feed_lines (listing_text cards) = one_cut (listing_text cards) (map printed_line cards) (listing_is_cut cards are) in
    let words = words_are cards are in
    rw (← lines) (record { each = lines_have_form cards are; once = rw words once; filled = rw words filled })
