-- The lines of a text: as they are cut from its front, and that there is one way to cut it.
use Rattle.std.proofs.Common.{◌≡◌, ℕ, ◌+◌, ◌<◌, ◌≤◌, Bool, true, false, not, cond, eqb, List, [], ◌∷◌, length, take, drop, refl, sym, ap, ◌∙◌, unwrap_or, position, arith, inl, inr}
use Rattle.std.proofs.lemmas.Bool.{cases_lt, le-ltb, lt-ltb}
use Rattle.std.proofs.lemmas.Bool.Decides.{nat_tests}
use Rattle.std.specs.List.{onto_first, position_or_len, All}
use Rattle.std.proofs.lemmas.List.{drop_all}
use Rattle.std.proofs.lemmas.List.Sums.{fails_before_first, AllPass-from_list_all, prefix_len-le-length}
use Rattle.std.proofs.lemmas.List.Splits.{slice_split_first, slice_split_none, slice_split_at}
use Rattle.ags_text.specs.Line.{HasNoFeed, parts}
use Rattle.ags_image.specs.Lines.{IsCutAtFeeds, last_line, lines_in_parts, feed_lines}

-- whether a byte is a line feed
abbrev pub is_feed : ℕ → Bool
is_feed b = eqb b 10

-- a text has a first part, and the others
first_of_parts : (text : List ℕ) → (part : List ℕ) × (others : List (List ℕ)) × (parts text ≡ part ∷ others)
first_of_parts [] = ([], [], refl)
first_of_parts (b ∷ text) =
    let r = first_of_parts text in
    elim (is_feed b) as (λ v. (part : List ℕ) × (others : List (List ℕ)) × (cond v ([] ∷ parts text) (onto_first b (parts text)) ≡ part ∷ others)) [
      | true ↦ ([], parts text, refl)
      | false ↦ (b ∷ r.0, r.1, rw r.2 refl)
    ]

-- a part before a line feed is a line
lines_in_parts-more : (part text : List ℕ) → lines_in_parts (part ∷ parts text) ≡ part ∷ feed_lines text
unfolding lines_in_parts
lines_in_parts-more part text = let r = first_of_parts text in rw r.2 refl

-- ---- from the front

pub feed_lines-nil : feed_lines [] ≡ []
unfolding lines_in_parts last_line
feed_lines-nil = refl

-- whether a text is empty
pub feed_lines-empty : (text : List ℕ) (empty : Bool) → empty ≡ eqb (length text) 0 → empty ≡ true → feed_lines text ≡ []
feed_lines-empty [] empty is so = feed_lines-nil
feed_lines-empty (b ∷ text) empty is so = let none : eqb (length (b ∷ text)) 0 ≡ true = sym is ∙ so in absurd (grind (arith, nat_tests))

pub some_text : (text : List ℕ) (empty : Bool) → empty ≡ eqb (length text) 0 → empty ≡ false → 0 < length text
some_text text empty is so = let some : eqb (length text) 0 ≡ false = sym is ∙ so in grind (arith, nat_tests)

pub feed_lines-feed : (text : List ℕ) (feed : ℕ) → feed ≡ position_or_len is_feed text → feed < length text
    → feed_lines text ≡ take feed text ∷ feed_lines (drop (feed + 1) text)
feed_lines-feed text feed is within =
    let inside : position_or_len is_feed text < length text = omega arith in
    let whole : parts text ≡ take feed text ∷ parts (drop (feed + 1) text) = rw is (slice_split_first is_feed text 0 inside) in
    ap lines_in_parts whole ∙ lines_in_parts-more (take feed text) (drop (feed + 1) text)

-- a part alone, which isn't empty
lines_in_parts-last : (text : List ℕ) → 0 < length text → lines_in_parts (text ∷ []) ≡ text ∷ []
unfolding lines_in_parts last_line
lines_in_parts-last [] some = absurd (omega arith)
lines_in_parts-last (b ∷ text) some = refl

pub feed_lines-last : (text : List ℕ) (feed : ℕ) → feed ≡ position_or_len is_feed text → length text ≤ feed → 0 < length text
    → feed_lines text ≡ text ∷ feed_lines (drop feed text)
feed_lines-last text feed is past some =
    let whole : parts text ≡ text ∷ [] = slice_split_none is_feed text (λ k d lt. fails_before_first is_feed text k d (omega arith)) in
    ap lines_in_parts whole ∙ lines_in_parts-last text some ∙ ap (λ (lines : List (List ℕ)). text ∷ lines) (sym (ap feed_lines (drop_all feed text past) ∙ feed_lines-nil))

-- ---- every text is cut into its lines

-- a byte before the first line
push_first : ℕ → List (List ℕ) → List (List ℕ)
push_first b [] = (b ∷ []) ∷ []
push_first b (line ∷ lines) = (b ∷ line) ∷ lines

push_no_feed : (b : ℕ) (line : List ℕ) → is_feed b ≡ false → HasNoFeed line → HasNoFeed (b ∷ line)
push_no_feed b line apart none = rw apart none

push_cut : (b : ℕ) (text : List ℕ) (lines : List (List ℕ)) → is_feed b ≡ false → IsCutAtFeeds text lines → IsCutAtFeeds (b ∷ text) (push_first b lines)
unfolding push_first
push_cut b text [] apart cut = (push_no_feed b [] apart refl, inr (ap (λ (t : List ℕ). b ∷ t) cut, omega arith, refl))
push_cut b text (line ∷ lines) apart (none, inl at) = (push_no_feed b line apart none, inl (at.0, ap (λ (t : List ℕ). b ∷ t) at.1, at.2))
push_cut b text (line ∷ lines) apart (none, inr last) = (push_no_feed b line apart none, inr (ap (λ (t : List ℕ). b ∷ t) last.0, omega arith, last.2))

push_parts : (b : ℕ) (part : List ℕ) (others : List (List ℕ)) → lines_in_parts ((b ∷ part) ∷ others) ≡ push_first b (lines_in_parts (part ∷ others))
unfolding lines_in_parts last_line push_first
push_parts b [] [] = refl
push_parts b (c ∷ part) [] = refl
push_parts b part (next ∷ others) = refl

push_lines : (b : ℕ) (text : List ℕ) → is_feed b ≡ false → feed_lines (b ∷ text) ≡ push_first b (feed_lines text)
push_lines b text apart =
    let r = first_of_parts text in
    let whole : parts (b ∷ text) ≡ onto_first b (parts text) = rw apart refl in
    ap lines_in_parts (whole ∙ rw r.2 refl) ∙ push_parts b r.0 r.1 ∙ ap (λ (ps : List (List ℕ)). push_first b (lines_in_parts ps)) (sym r.2)

feed_first : (b : ℕ) (text : List ℕ) → is_feed b ≡ true → feed_lines (b ∷ text) ≡ [] ∷ feed_lines text
feed_first b text at_feed =
    let whole : parts (b ∷ text) ≡ [] ∷ parts text = rw at_feed refl in
    ap lines_in_parts whole ∙ lines_in_parts-more [] text

is_10 : (b : ℕ) → is_feed b ≡ true → b ≡ 10
is_10 b at_feed = grind (arith, nat_tests)

cut_at : (b : ℕ) (text : List ℕ) (test : Bool) → is_feed b ≡ test → IsCutAtFeeds text (feed_lines text) → IsCutAtFeeds (b ∷ text) (feed_lines (b ∷ text))
cut_at b text false apart cut = rw (push_lines b text apart) (push_cut b text (feed_lines text) apart cut)
cut_at b text true at_feed cut = rw (feed_first b text at_feed) (refl, inl (text, ap (λ (c : ℕ). c ∷ text) (is_10 b at_feed), cut))

pub lines_are_cut : (text : List ℕ) → IsCutAtFeeds text (feed_lines text)
lines_are_cut [] = rw feed_lines-nil refl
lines_are_cut (b ∷ text) = cut_at b text (is_feed b) refl (lines_are_cut text)

-- ---- and into apart others

from_not : (x : Bool) → not x ≡ true → x ≡ false
from_not true e = absurd cc
from_not false e = refl

no_feeds : (line : List ℕ) → HasNoFeed line → All (λ (b : ℕ). is_feed b ≡ false) line
no_feeds line none = λ k d within. from_not _ (AllPass-from_list_all (λ (b : ℕ). not (is_feed b)) line none k d within)

pub one_cut : (text : List ℕ) (lines : List (List ℕ)) → IsCutAtFeeds text lines → lines ≡ feed_lines text
one_cut text [] cut = sym (ap feed_lines cut ∙ feed_lines-nil)
one_cut text (line ∷ lines) (none, inl at) =
    let whole : parts text ≡ line ∷ parts at.0 = ap parts at.1 ∙ slice_split_at is_feed line 10 at.0 (no_feeds line none) refl in
    ap (λ (ls : List (List ℕ)). line ∷ ls) (one_cut at.0 lines at.2) ∙ sym (ap lines_in_parts whole ∙ lines_in_parts-more line at.0)
one_cut text (line ∷ lines) (none, inr last) =
    let whole : parts text ≡ line ∷ [] = ap parts last.0 ∙ slice_split_none is_feed line (no_feeds line none) in
    ap (λ (ls : List (List ℕ)). line ∷ ls) last.2 ∙ sym (ap lines_in_parts whole ∙ lines_in_parts-last line last.1)
