-- A text that comes in pieces:
--   ended_none   before the first piece
--   ended_more   bytes without a line feed are of the rest
--   ended_feed   a line feed ends the line of the rest
--   ended_all    at the end of the text the rest is its last line, where something is in it
--   ended_long   a rest of more than 513 bytes is of a line of more than 512, however it goes on
use Rattle.std.proofs.Common.{◌≡◌, ℕ, ◌+◌, ◌-◌, ◌<◌, ◌≤◌, true, false, cond, not, eqb, List, [], ◌∷◌, ◌++◌, length, take, slice_index, refl, sym, ap, ◌∙◌, append_assoc, arith}
use Rattle.std.specs.List.{list_all}
use Rattle.std.specs.Str.Lines.{strip_carriage_return}
use Rattle.std.proofs.lemmas.Bool.{and_from, and_parts, ne_eqb}
use Rattle.std.proofs.lemmas.List.{append-nil, length-append, length-take}
use Rattle.std.proofs.lemmas.List.Folds.{list_all-append}
use Rattle.std.proofs.lemmas.List.Splits.{slice_split_at, slice_split_none}
use Rattle.ags_text.specs.Line.{LineAt, HasNoFeed, lines_in, lines_of, parts}
use Rattle.ags_text.specs.Piece.{HasEnded, last_lines, line_of}
use Rattle.ags_text.proofs.LineLemmas.{is_feed, first_of_parts}
use Rattle.ags_text.proofs.CutLemmas.{no_feeds, lines_in-part}

pub ended_none : HasEnded [] [] []
ended_none = record { start = 0; place = refl; on = λ more. refl; unbroken = refl }

pub ended_more : (text rest bytes : List ℕ) (ended : List LineAt) → HasEnded text ended rest → HasNoFeed bytes → HasEnded (text ++ bytes) ended (rest ++ bytes)
ended_more text rest bytes ended so none = record {
  start = so.start;
  place = omega (arith, so.place, length-append rest bytes, length-append text bytes);
  on = λ more. rw (append_assoc text bytes more, append_assoc rest bytes more) (so.on (bytes ++ more));
  unbroken = rw list_all-append (and_from _ _ so.unbroken none);
}

split_rest : (rest more : List ℕ) → HasNoFeed rest → parts (rest ++ 10 ∷ more) ≡ rest ∷ parts more
split_rest rest more unbroken = slice_split_at is_feed rest 10 more (no_feeds rest unbroken) refl

pub ended_feed : (text rest : List ℕ) (ended : List LineAt) → (so : HasEnded text ended rest) → HasEnded (text ++ 10 ∷ []) (ended ++ line_of so ∷ []) []
ended_feed text rest ended so = record {
  start = so.start + length rest + 1;
  place = omega (arith, so.place, length-append text (10 ∷ []));
  on = λ more. rw (append_assoc text (10 ∷ []) more, append_assoc ended (line_of so ∷ []))
      (so.on (10 ∷ more) ∙ ap (λ ps. ended ++ lines_in so.start ps) (split_rest rest more so.unbroken) ∙ ap (λ ls. ended ++ ls) (lines_in-part so.start rest more));
  unbroken = refl;
}

-- all lines of the text
pub ended_all : (text rest : List ℕ) (ended : List LineAt) → (so : HasEnded text ended rest)
    → lines_of text ≡ ended ++ last_lines so
unfolding lines_in
ended_all text rest ended so =
    let at_end : lines_of (text ++ []) ≡ ended ++ lines_in so.start (parts (rest ++ [])) = so.on [] in
    let whole : lines_of text ≡ ended ++ lines_in so.start (parts rest) =
    ap lines_of (sym (append-nil text)) ∙ at_end ∙ ap (λ r. ended ++ lines_in so.start (parts r)) (append-nil rest) in
    whole ∙ ap (λ ps. ended ++ lines_in so.start ps) (slice_split_none is_feed rest (no_feeds rest so.unbroken))

-- ---- a rest that is too long

onto_begun : (b : ℕ) (rest p text : List ℕ) (others : List (List ℕ)) → is_feed b ≡ false → parts text ≡ (rest ++ p) ∷ others
    → parts (b ∷ text) ≡ (b ∷ (rest ++ p)) ∷ others
onto_begun b rest p text others first is = rw (first, is) refl

begun : (rest more : List ℕ) → HasNoFeed rest → (p : List ℕ) × (others : List (List ℕ)) × (parts (rest ++ more) ≡ (rest ++ p) ∷ others)
begun [] more none = first_of_parts more
begun (b ∷ rest) more none =
    let first : is_feed b ≡ false = no_feeds (b ∷ rest) none 0 b (omega arith) in
    let tail = (and_parts (not (is_feed b)) (list_all (λ x. not (is_feed x)) rest) none).1 in
    let (p, others, is) = begun rest more tail in
    (p, others, onto_begun b rest p (rest ++ more) others first is)

no_shorter : (part : List ℕ) → length part ≤ length (strip_carriage_return part) + 1
no_shorter part =
    elim (eqb (slice_index part (length part - 1)) 13) as (λ b. length part ≤ length (cond b (take (length part - 1) part) part) + 1) [
      | true ↦ omega (arith, length-take (length part - 1) part)
      | false ↦ omega arith
    ]

long_first : (start : ℕ) (part : List ℕ) (others : List (List ℕ)) → 513 < length part
    → (line : LineAt) × (behind : List LineAt) × (512 < length line.bytes) × (lines_in start (part ∷ others) ≡ line ∷ behind)
unfolding lines_in
long_first start part [] long =
    let some : 512 < length (strip_carriage_return part) = omega (arith, no_shorter part) in
    let test : eqb (length (strip_carriage_return part)) 0 ≡ false = ne_eqb (length (strip_carriage_return part)) 0 (λ none. omega (arith, none, some)) in
    (record { start = start; bytes = strip_carriage_return part }, [], some, rw test refl)
long_first start part (next ∷ others) long =
    (record { start = start; bytes = strip_carriage_return part }, lines_in (start + length part + 1) (next ∷ others), omega (arith, no_shorter part), refl)

pub ended_long : (text rest more : List ℕ) (ended : List LineAt) → HasEnded text ended rest → 513 < length rest
    → (line : LineAt) × (behind : List LineAt) × (512 < length line.bytes) × (lines_of (text ++ more) ≡ ended ++ line ∷ behind)
ended_long text rest more ended so long =
    let (p, others, is) = begun rest more so.unbroken in
    let (line, behind, over, first) = long_first so.start (rest ++ p) others (omega (arith, length-append rest p)) in
    (line, behind, over, so.on more ∙ ap (λ ps. ended ++ lines_in so.start ps) is ∙ ap (λ ls. ended ++ ls) first)
