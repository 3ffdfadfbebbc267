-- The lines of a text stand in it, one after the other.
use Rattle.std.proofs.Common.{◌≡◌, ℕ, ◌+◌, ◌-◌, ◌≤◌, Bool, true, false, cond, eqb, List, [], ◌∷◌, ◌++◌, length, take, slice_index, refl, sym, ap, ◌∙◌, append_assoc, arith}
use Rattle.std.specs.List.{join_with_byte}
use Rattle.std.specs.Str.Lines.{strip_carriage_return}
use Rattle.std.proofs.lemmas.List.{append-nil, length-append, length-take, drop_at, take-append-le, take_all}
use Rattle.std.proofs.lemmas.List.Splits.{join_with_byte-slice_split}
use Rattle.ags_text.specs.Line.{LineAt, lines_in, lines_of, parts, LiesIn, Follow}

-- a part less its return is a front of it
record IsFront (part line : List ℕ) : Type 0 where
  no_longer : length line ≤ length part
  front : take (length line) part ≡ line

strip-front : (part : List ℕ) → IsFront part (strip_carriage_return part)
strip-front part =
    elim (eqb (slice_index part (length part - 1)) 13) as (λ b. IsFront part (cond b (take (length part - 1) part) part)) [
      | true ↦ record {
        no_longer = omega (arith, length-take (length part - 1) part);
        front = ap (λ (n : ℕ). take n part) (omega (arith, length-take (length part - 1) part));
      }
      | false ↦ record { no_longer = omega arith; front = take_all (length part) part (omega arith) }
    ]

-- what follows from a byte on also follows from an earlier one
Follow-earlier : (text : List ℕ) (from earlier : ℕ) (lines : List LineAt) → earlier ≤ from → Follow text from lines → Follow text earlier lines
Follow-earlier text from earlier [] le follow = tt
Follow-earlier text from earlier (line ∷ lines) le follow = (omega (arith, follow.0), follow.1, follow.2)

-- a front of what stands in a text lies in it
lies : (text front part rest line : List ℕ) → text ≡ front ++ (part ++ rest) → IsFront part line → LiesIn text (record { start = length front; bytes = line })
lies text front part rest line whole is_front = record {
  within = rw whole (omega (arith, length-append front (part ++ rest), length-append part rest, is_front.no_longer));
  bytes_are = rw (whole, drop_at front (part ++ rest) (length front) refl, take-append-le (length line) part rest is_front.no_longer) is_front.front;
}

-- the last line, where it is one
last_follows : (text front part : List ℕ) (empty : Bool) → text ≡ front ++ part
    → Follow text (length front) (cond empty [] (record { start = length front; bytes = strip_carriage_return part } ∷ []))
last_follows text front part true whole = tt
last_follows text front part false whole =
    (omega arith, lies text front part [] (strip_carriage_return part) (whole ∙ ap (λ (rest : List ℕ). front ++ rest) (sym (append-nil part))) (strip-front part), tt)

-- the lines in parts that stand after some front of a text
parts_follow : (ps : List (List ℕ)) (text front : List ℕ) → text ≡ front ++ join_with_byte 10 ps → Follow text (length front) (lines_in (length front) ps)
unfolding lines_in
parts_follow [] text front whole = tt
parts_follow (part ∷ []) text front whole = last_follows text front part (eqb (length (strip_carriage_return part)) 0) whole
parts_follow (part ∷ next ∷ others) text front whole =
    let behind : List ℕ = join_with_byte 10 (next ∷ others) in
    let again : text ≡ (front ++ (part ++ 10 ∷ [])) ++ behind = whole ∙ rw (append_assoc, append_assoc) refl in
    let start : length (front ++ (part ++ 10 ∷ [])) ≡ length front + length part + 1 = omega (arith, length-append front (part ++ 10 ∷ []), length-append part (10 ∷ [])) in
    let rest = rw start at (parts_follow (next ∷ others) text (front ++ (part ++ 10 ∷ [])) again) in (
      omega arith,
      lies text front part (10 ∷ behind) (strip_carriage_return part) whole (strip-front part),
      Follow-earlier text (length front + length part + 1) _ _ (omega (arith, (strip-front part).no_longer)) rest,
    )

pub lines_follow : (text : List ℕ) → Follow text 0 (lines_of text)
lines_follow text = parts_follow (parts text) text [] (sym (join_with_byte-slice_split 10 text))
