-- The lines of a tape ascend by their locations, and each has its location's word.
use Rattle.std.proofs.Common.{◌≡◌, ℕ, ◌+◌, ◌<◌, ◌≤◌, List, [], ◌∷◌, ◌++◌, Option, Some, None, refl, ap, arith, codes, AllPairs}
use Rattle.std.specs.List.{All, Contains, flat_map}
use Rattle.std.proofs.lemmas.List.Kept.{AllPairs-cons}
use Rattle.ags_image.specs.Image.{entry_at, PlacedWord}
use Rattle.ags_image.specs.Tape.{tape_line, tape_from, tape_text, word_line, AreWordsInOrder}
use Rattle.ags_image.proofs.TapeLemmas.{placed_from, from_there, placed_has, placed_of}

lines_are : (location : ℕ) (entries : List (Option ℕ)) → tape_from location entries ≡ flat_map word_line (placed_from location entries)
unfolding tape_from placed_from
lines_are location [] = refl
lines_are location (None ∷ entries) = lines_are (location + 1) entries
lines_are location (Some word ∷ entries) = ap (λ (text : List ℕ). (tape_line location word ++ codes "\n") ++ text) (lines_are (location + 1) entries)

above : (location : ℕ) (words : List PlacedWord) → All (λ (placed : PlacedWord). location + 1 ≤ placed.place) words → All (λ (other : PlacedWord). location < other.place) words
above location words are = λ k d within. let more = are k d within in omega (arith, more)

placed_ascend : (location : ℕ) (entries : List (Option ℕ)) → AllPairs (λ (one other : PlacedWord). one.place < other.place) (placed_from location entries)
unfolding placed_from
placed_ascend location [] = λ i j d before within. absurd (omega (arith, within))
placed_ascend location (None ∷ entries) = placed_ascend (location + 1) entries
placed_ascend location (Some word ∷ entries) =
    let rest : List PlacedWord = placed_from (location + 1) entries in
    AllPairs-cons (λ (one other : PlacedWord). one.place < other.place) (record { place = location; word = word }) rest
    (above location rest (from_there (location + 1) (location + 1) entries (omega arith))) (placed_ascend (location + 1) entries)

word_there : (image : List (Option ℕ)) (place word : ℕ) → entry_at image place ≡ Some word → Contains (placed_from 0 image) (record { place = place; word = word })
unfolding entry_at
word_there image place word is = let at : 0 + place ≡ place = omega arith in rw at at (placed_has 0 image place word is)

there_word : (image : List (Option ℕ)) (place word : ℕ) → Contains (placed_from 0 image) (record { place = place; word = word }) → entry_at image place ≡ Some word
unfolding entry_at
there_word image place word held = let r = placed_of 0 image place word held in let at : place ≡ r.0 = omega (arith, r.1) in rw at r.2

pub tape_words : (image : List (Option ℕ)) → (words : List PlacedWord) × AreWordsInOrder image words × (tape_text image ≡ flat_map word_line words)
tape_words image = (
  placed_from 0 image,
  record { ascend = placed_ascend 0 image; each = λ place word. (word_there image place word, there_word image place word) },
  lines_are 0 image,
)
