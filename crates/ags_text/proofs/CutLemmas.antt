-- A text is cut into its lines, and into no others.
use Rattle.std.proofs.Common.{◌≡◌, ℕ, ◌+◌, ◌-◌, ◌<◌, Bool, true, false, cond, not, eqb, List, [], ◌∷◌, ◌++◌, length, take, get_or, slice_index, eqb-true, eq-eqb, refl, sym, ap, subst, ◌∙◌, append_assoc, inl, inr, arith}
use Rattle.std.specs.List.{All, list_all, onto_first, join_with_byte}
use Rattle.std.specs.Str.Lines.{strip_carriage_return}
use Rattle.std.proofs.lemmas.Bool.{true≢false, cases_Bool, and_parts, and_from, ne_eqb}
use Rattle.std.proofs.lemmas.Grind.{common_steps}
use Rattle.std.proofs.lemmas.List.{append-nil, length-append, take_all, take_at, take_more}
use Rattle.std.proofs.lemmas.List.Folds.{list_all-append}
use Rattle.std.proofs.lemmas.List.Sums.{AllPass-from_list_all}
use Rattle.std.proofs.lemmas.List.Splits.{slice_split_at, slice_split_none, join_with_byte-slice_split}
use Rattle.ags_text.specs.Line.{LineAt, HasNoFeed, EndsInReturn, IsReturn, BeginsWithLine, IsLastLine, IsCutFrom, IsCut, lines_in, lines_of, parts}
use Rattle.ags_text.proofs.LineLemmas.{is_feed, first_of_parts}

-- ---- the return of a part

-- a text whose last byte is a return ends in one
last_return : (part : List ℕ) → 0 < length part → get_or part (length part - 1) 0 ≡ 13 → part ≡ take (length part - 1) part ++ 13 ∷ []
last_return part some is =
    let last : 13 ≡ get_or part (length part - 1) 13 = grind (arith, common_steps) in
    let whole : take (length part - 1 + 1) part ≡ part = take_all (length part - 1 + 1) part (omega arith) in
    let more : take (length part - 1 + 1) part ≡ take (length part - 1) part ++ 13 ∷ [] = rw last (take_more part (length part - 1) 13 (omega arith)) in
    sym whole ∙ more

-- where a text ends in one, that is its last byte
return_last : (front : List ℕ) → get_or (front ++ 13 ∷ []) (length (front ++ 13 ∷ []) - 1) 0 ≡ 13
return_last front = grind (arith, common_steps)

none_ends : EndsInReturn [] → ⊥
none_ends ends = let lengths = ap length ends.1 in omega (arith, lengths, length-append ends.0 (13 ∷ []))

-- a part is its line and the return after that
part_return : (part : List ℕ) → (return : List ℕ) × (part ≡ strip_carriage_return part ++ return) × IsReturn (strip_carriage_return part) return
part_return [] = ([], refl, inr (refl, none_ends))
part_return (b ∷ rest) =
    let part : List ℕ = b ∷ rest in
    elim (cases_Bool (eqb (slice_index part (length part - 1)) 13)) [
      | inl is ↦ rw is (13 ∷ [], last_return part (omega arith) (eqb-true _ 13 is), inl refl)
      | inr other ↦ rw other ([], sym (append-nil part), inr (refl, λ ends. true≢false (sym (eq-eqb _ 13 (ap (λ (x : List ℕ). get_or x (length x - 1) 0) ends.1 ∙ return_last ends.0)) ∙ other)))
    ]

-- a line with its return is a part that has that line
strip-same : (bytes : List ℕ) → (EndsInReturn bytes → ⊥) → strip_carriage_return bytes ≡ bytes
strip-same [] stays = refl
strip-same (b ∷ rest) stays =
    let bytes : List ℕ = b ∷ rest in
    elim (cases_Bool (eqb (slice_index bytes (length bytes - 1)) 13)) [
      | inl is ↦ absurd (stays (take (length bytes - 1) bytes, last_return bytes (omega arith) (eqb-true _ 13 is)))
      | inr other ↦ rw other refl
    ]

strip-return : (bytes return : List ℕ) → IsReturn bytes return → strip_carriage_return (bytes ++ return) ≡ bytes
strip-return bytes return (inl is) =
    rw (is, eq-eqb _ 13 (return_last bytes)) (ap (λ (n : ℕ). take n (bytes ++ 13 ∷ [])) (omega (arith, length-append bytes (13 ∷ []))) ∙ take_at bytes (13 ∷ []) (length bytes) refl)
strip-return bytes return (inr none) = rw (none.0, append-nil) (strip-same bytes none.1)

-- ---- parts without a line feed

-- no part has a line feed
HaveNoFeed : List (List ℕ) → Type 0
HaveNoFeed [] = Unit {0}
HaveNoFeed (part ∷ parts) = HasNoFeed part × HaveNoFeed parts

onto_first-no_feed : (b : ℕ) (ps : List (List ℕ)) → is_feed b ≡ false → HaveNoFeed ps → HaveNoFeed (onto_first b ps)
unfolding HaveNoFeed
onto_first-no_feed b [] is have = (rw is refl, tt)
onto_first-no_feed b (part ∷ ps) is have = (rw is have.0, have.1)

parts_have_no_feed : (text : List ℕ) → HaveNoFeed (parts text)
unfolding HaveNoFeed
parts_have_no_feed [] = (refl, tt)
parts_have_no_feed (b ∷ text) =
    elim (cases_Bool (is_feed b)) [
      | inl is ↦ rw is (refl, parts_have_no_feed text)
      | inr other ↦ rw other (onto_first-no_feed b (parts text) other (parts_have_no_feed text))
    ]

-- nor has a front of one
front_no_feed : (bytes return : List ℕ) → HasNoFeed (bytes ++ return) → HasNoFeed bytes
front_no_feed bytes return unbroken =
    (and_parts (list_all (λ b. not (is_feed b)) bytes) (list_all (λ b. not (is_feed b)) return) (rw list_all-append at unbroken)).0

-- ---- the lines are a cut

-- the last part: a line, or a return alone, or nothing
last_is_cut : (start : ℕ) (part bytes return : List ℕ) → part ≡ bytes ++ return → HasNoFeed part → IsReturn bytes return
    → IsCutFrom start part (cond (eqb (length bytes) 0) [] (record { start = start; bytes = bytes } ∷ []))
last_is_cut start part [] return whole unbroken (inl alone) = inr (whole ∙ alone)
last_is_cut start part [] return whole unbroken (inr none) = inl (whole ∙ none.0)
last_is_cut start part (b ∷ bytes) return whole unbroken ending =
    let test : eqb (length (b ∷ bytes)) 0 ≡ false = ne_eqb (length (b ∷ bytes)) 0 (λ none. omega (arith, none)) in
    rw test (refl, inr (return, record { whole = whole; some = omega arith; unbroken = front_no_feed (b ∷ bytes) return (rw whole at unbroken); ending = ending }, refl))

parts_are_cut : (start : ℕ) (ps : List (List ℕ)) → HaveNoFeed ps → IsCutFrom start (join_with_byte 10 ps) (lines_in start ps)
unfolding lines_in HaveNoFeed
parts_are_cut start [] have = inl refl
parts_are_cut start (part ∷ []) have = let r = part_return part in last_is_cut start part (strip_carriage_return part) r.0 r.1 have.0 r.2
parts_are_cut start (part ∷ next ∷ others) have =
    let r = part_return part in
    let bytes : List ℕ = strip_carriage_return part in
    let behind : List ℕ = join_with_byte 10 (next ∷ others) in
    let on : start + length part + 1 ≡ start + length bytes + length r.0 + 1 = omega (arith, ap length r.1, length-append bytes r.0) in (
      refl,
      inl (
        r.0,
        behind,
        record {
          whole = ap (λ (x : List ℕ). x ++ 10 ∷ behind) r.1 ∙ append_assoc bytes r.0 (10 ∷ behind);
          unbroken = front_no_feed bytes r.0 (subst HasNoFeed r.1 have.0);
          ending = r.2;
        },
        subst (λ (n : ℕ). IsCutFrom n behind (lines_in (start + length part + 1) (next ∷ others))) on (parts_are_cut (start + length part + 1) (next ∷ others) have.1),
      ),
    )

pub lines_are_cut : (text : List ℕ) → IsCut text (lines_of text)
lines_are_cut text = rw join_with_byte-slice_split at (parts_are_cut 0 (parts text) (parts_have_no_feed text))

-- ---- and there is no other cut

-- a part has no line feed where its line has none
part_no_feed : (bytes return : List ℕ) → HasNoFeed bytes → IsReturn bytes return → HasNoFeed (bytes ++ return)
part_no_feed bytes return unbroken (inl is) = rw (is, list_all-append) (and_from _ _ unbroken refl)
part_no_feed bytes return unbroken (inr none) = rw (none.0, append-nil) unbroken

not_feed : (test : Bool) → not test ≡ true → test ≡ false
not_feed true is = sym is
not_feed false is = refl

pub no_feeds : (part : List ℕ) → HasNoFeed part → All (λ b. is_feed b ≡ false) part
no_feeds part unbroken = λ k d within. not_feed _ (AllPass-from_list_all (λ b. not (is_feed b)) part unbroken k d within)

-- a part before others is a line before others
pub lines_in-part : (start : ℕ) (part behind : List ℕ)
    → lines_in start (part ∷ parts behind) ≡ record { start = start; bytes = strip_carriage_return part } ∷ lines_in (start + length part + 1) (parts behind)
unfolding lines_in
lines_in-part start part behind = rw (first_of_parts behind).2 refl

line_and_others : (start : ℕ) (text : List ℕ) (line : LineAt) (lines : List LineAt) (return behind : List ℕ) → line.start ≡ start → BeginsWithLine text line.bytes return behind
    → lines ≡ lines_in (start + length line.bytes + length return + 1) (parts behind) → line ∷ lines ≡ lines_in start (parts text)
line_and_others start text line lines return behind at is others =
    let part : List ℕ = line.bytes ++ return in
    let split : parts text ≡ part ∷ parts behind = ap parts (is.whole ∙ sym (append_assoc line.bytes return (10 ∷ behind)))
    ∙ slice_split_at is_feed part 10 behind (no_feeds part (part_no_feed line.bytes return is.unbroken is.ending)) refl in
    let on : start + length line.bytes + length return + 1 ≡ start + length part + 1 = omega (arith, length-append line.bytes return) in
    rw (split, lines_in-part, strip-return line.bytes return is.ending, ← on, ← others, ← at) refl

line_alone : (start : ℕ) (text : List ℕ) (line : LineAt) (return : List ℕ) → line.start ≡ start → IsLastLine text line.bytes return → line ∷ [] ≡ lines_in start (parts text)
unfolding lines_in
line_alone start text line return at is =
    let part : List ℕ = line.bytes ++ return in
    let split : parts text ≡ part ∷ [] = ap parts is.whole ∙ slice_split_none is_feed part (no_feeds part (part_no_feed line.bytes return is.unbroken is.ending)) in
    let some : eqb (length line.bytes) 0 ≡ false = ne_eqb (length line.bytes) 0 (λ none. omega (arith, is.some, none)) in
    rw (split, strip-return line.bytes return is.ending, some, ← at) refl

pub cut_is_lines : (start : ℕ) (text : List ℕ) (lines : List LineAt) → IsCutFrom start text lines → lines ≡ lines_in start (parts text)
unfolding lines_in
cut_is_lines start text [] (inl none) = rw none refl
cut_is_lines start text [] (inr alone) = rw alone refl
cut_is_lines start text (line ∷ lines) is =
    elim is.1 [
      | inl more ↦ line_and_others start text line lines more.0 more.1 is.0 more.2 (cut_is_lines (start + length line.bytes + length more.0 + 1) more.1 lines more.3)
      | inr last ↦ ap (λ (rest : List LineAt). line ∷ rest) last.2 ∙ line_alone start text line last.0 is.0 last.1
    ]
