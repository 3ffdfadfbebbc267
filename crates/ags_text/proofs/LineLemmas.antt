-- The lines of a text, from its front: a step for each line feed, and the last line.
use Rattle.std.proofs.Common.{◌≡◌, ℕ, ◌+◌, ◌<◌, ◌≤◌, Bool, true, false, cond, eqb, List, [], ◌∷◌, length, take, drop, refl, sym, ap, ◌∙◌, arith}
use Rattle.std.specs.List.{onto_first, position_or_len}
use Rattle.std.specs.Str.Lines.{strip_carriage_return}
use Rattle.std.proofs.lemmas.List.{length-take, drop-drop, drop_all, take_all}
use Rattle.std.proofs.lemmas.List.Sums.{fails_before_first}
use Rattle.std.proofs.lemmas.List.Splits.{slice_split_first, slice_split_none}
use Rattle.ags_text.specs.Line.{LineAt, lines_in, parts}

-- whether a byte is a line feed
abbrev pub is_feed : ℕ → Bool
is_feed b = eqb b 10

-- a text has a first part, and the others
pub first_of_parts : (text : List ℕ) → (part : List ℕ) × (others : List (List ℕ)) × (parts text ≡ part ∷ others)
first_of_parts [] = ([], [], refl)
first_of_parts (b ∷ text) =
    let r = first_of_parts text in
    elim (is_feed b) as (λ v. (part : List ℕ) × (others : List (List ℕ)) × (cond v ([] ∷ parts text) (onto_first b (parts text)) ≡ part ∷ others)) [
      | true ↦ ([], parts text, refl)
      | false ↦ (b ∷ r.0, r.1, rw r.2 refl)
    ]

-- a line before a line feed, and the lines after it
pub lines_in-feed : (start : ℕ) (text : List ℕ) (feed : ℕ) → feed ≡ position_or_len is_feed text → feed < length text
    → lines_in start (parts text) ≡ record { start = start; bytes = strip_carriage_return (take feed text) } ∷ lines_in (start + feed + 1) (parts (drop (feed + 1) text))
unfolding lines_in
lines_in-feed start text feed is within =
    let inside : position_or_len is_feed text < length text = omega arith in
    let behind = first_of_parts (drop (feed + 1) text) in
    let long : length (take feed text) ≡ feed = omega (arith, length-take feed text) in
    let whole : parts text ≡ take feed text ∷ parts (drop (feed + 1) text) = rw is (slice_split_first is_feed text 0 inside) in
    rw (whole, behind.2, long) refl

-- the last line, after which no line feed stands
pub lines_in-last : (start : ℕ) (text : List ℕ) → position_or_len is_feed text ≡ length text
    → lines_in start (parts text) ≡ lines_in start (text ∷ [])
lines_in-last start text is =
    rw (slice_split_none is_feed text (λ k d lt. fails_before_first is_feed text k d (omega arith))) refl

-- one call of `next` before a line feed
pub next-feed : (view : List LineAt) (start feed : ℕ) (text rest bytes : List ℕ) → lines_in start (parts (drop start text)) ≡ view → rest ≡ drop start text
    → feed ≡ position_or_len is_feed rest → feed < length rest → bytes ≡ strip_carriage_return (take feed rest)
    → view ≡ record { start = start; bytes = bytes } ∷ lines_in (start + feed + 1) (parts (drop (start + feed + 1) text))
next-feed view start feed text rest bytes view_is rest_is feed_is within bytes_is =
    let behind : drop (feed + 1) rest ≡ drop (start + feed + 1) text = rw (rest_is, drop-drop) (ap (λ (n : ℕ). drop n text) (omega arith)) in
    sym view_is ∙ rw (← rest_is) (lines_in-feed start rest feed feed_is within ∙ rw (← bytes_is, behind) refl)

-- there is no line at the end of a text
pub lines_in-end : (start : ℕ) (text : List ℕ) → length text ≤ start → lines_in start (parts (drop start text)) ≡ []
unfolding lines_in
lines_in-end start text past = rw (drop_all start text past) refl

-- the last part is a line where it is not empty
last_line : (view : List LineAt) (start feed : ℕ) (text rest bytes : List ℕ) → lines_in start (parts (drop start text)) ≡ view → rest ≡ drop start text
    → feed ≡ position_or_len is_feed rest → feed ≡ length rest → bytes ≡ strip_carriage_return (take feed rest)
    → view ≡ cond (eqb (length bytes) 0) [] (record { start = start; bytes = bytes } ∷ [])
unfolding lines_in
last_line view start feed text rest bytes view_is rest_is feed_is last bytes_is =
    let whole : take feed rest ≡ rest = take_all feed rest (omega arith) in
    let bytes_are : bytes ≡ strip_carriage_return rest = rw (← whole) bytes_is in
    sym view_is ∙ rw (← rest_is) (lines_in-last start rest (sym feed_is ∙ last) ∙ rw (bytes_are) refl)

-- one call of `next` in the last part, where something is in it
pub next-last : (view : List LineAt) (start feed : ℕ) (text rest bytes : List ℕ) (empty : Bool) → lines_in start (parts (drop start text)) ≡ view → rest ≡ drop start text
    → feed ≡ position_or_len is_feed rest → feed ≡ length rest → bytes ≡ strip_carriage_return (take feed rest) → empty ≡ eqb (length bytes) 0 → empty ≡ false
    → view ≡ record { start = start; bytes = bytes } ∷ lines_in (length text) (parts (drop (length text) text))
next-last view start feed text rest bytes empty view_is rest_is feed_is last bytes_is empty_is some =
    let test : eqb (length bytes) 0 ≡ false = sym empty_is ∙ some in
    rw (last_line view start feed text rest bytes view_is rest_is feed_is last bytes_is, test, lines_in-end (length text) text (omega arith)) refl

-- and where nothing is
pub next-none : (view : List LineAt) (start feed : ℕ) (text rest bytes : List ℕ) (empty : Bool) → lines_in start (parts (drop start text)) ≡ view → rest ≡ drop start text
    → feed ≡ position_or_len is_feed rest → feed ≡ length rest → bytes ≡ strip_carriage_return (take feed rest) → empty ≡ eqb (length bytes) 0 → empty ≡ true
    → view ≡ []
next-none view start feed text rest bytes empty view_is rest_is feed_is last bytes_is empty_is none =
    let test : eqb (length bytes) 0 ≡ true = sym empty_is ∙ none in
    rw (last_line view start feed text rest bytes view_is rest_is feed_is last bytes_is, test) refl
