-- What the bytes of a tape mean.
use Rattle.std.proofs.Common.{◌≡◌, ℕ, Bool, true, false, ◌&&◌, List, length, take, drop, Option, Some, None, refl, sym, ap, ◌∙◌, ◌⊎◌, inl, inr, arith}
use Rattle.std.specs.Prelude.{nat_eq, slice_index, if◌then◌else◌}
use Rattle.std.proofs.lemmas.Bool.Decides.{nat_tests}
use Rattle.std.proofs.lemmas.List.{length-take-le, length-drop}
use Rattle.ags_image.specs.Image.{PlacedWord, IsMemoryWord}
use Rattle.ags_image.specs.Columns.{placed_in}
use Rattle.ags_image.specs.Fault.{LineFault}
use Rattle.ags_image.specs.Fault.LineFault.{Misshapen, Twice}
use Rattle.ags_image.specs.Form.{PutsInMemory}
use Rattle.ags_image.specs.Lines.{feed_lines}
use Rattle.ags_image.proofs.ColumnLemmas.{and_left, columns_in_memory}
use Rattle.ags_image.proofs.MeaningLemmas.{each_means, one_reading}
use Rattle.ags_image.proofs.ReadLemmas.{read_faultless}
use Rattle.ags_image.specs.declared.tape_reading.TapeError.{TapeError}
use Rattle.ags_image.specs.declared.tape_reading.TapeError.TheVariants.{BadLine, PlaceTwice, NoMemory}
use Rattle.ags_image.specs.Tape.{put, tape_form, ReadsTape}
use Rattle.ags_image.specs.TapeFault.{IsFaultyTape}

-- ---- a line puts a word of the memory

eleven : (line : List ℕ) (space : Bool) → nat_eq (length line) 11 && space ≡ true → length line ≡ 11
eleven line space is = let long = and_left (nat_eq (length line) 11) space is in grind (arith, nat_tests)

put_placed : (found : Option PlacedWord) (placed : PlacedWord) → put found ≡ Some (Some placed) → found ≡ Some placed
put_placed None placed is = absurd cc
put_placed (Some one) placed is = let same : one ≡ placed = cc in ap Some same

tape_puts_in_memory : PutsInMemory tape_form
unfolding tape_form
tape_puts_in_memory line placed is = by_rule (nat_eq (length line) 11 && nat_eq (slice_index line 4) 32) refl is
  where
    by_rule : (ruled : Bool) → nat_eq (length line) 11 && nat_eq (slice_index line 4) 32 ≡ ruled → (if ruled then put (placed_in (take 4 line) (drop 5 line)) else None) ≡ Some (Some placed)
        → IsMemoryWord placed
    by_rule true rules is =
        let long = eleven line (nat_eq (slice_index line 4) 32) rules in
        let four : length (take 4 line) ≡ 4 = omega (arith, length-take-le 4 line (omega (arith, long))) in
        let six : length (drop 5 line) ≡ 6 = omega (arith, long, length-drop 5 line) in
        columns_in_memory (take 4 line) (drop 5 line) placed four six (put_placed (placed_in (take 4 line) (drop 5 line)) placed is)
    by_rule false rules is = absurd cc

-- ---- a text means one thing

pub each_tape_means : (bytes : List ℕ) → ((image : List (Option ℕ)) × ReadsTape bytes image) ⊎ ((error : TapeError) × IsFaultyTape bytes error)
each_tape_means bytes = elim (each_means tape_form tape_puts_in_memory (feed_lines bytes)) [
  | inl (image, reads) ↦ inl (image, reads)
  | inr (number, Misshapen, first) ↦ inr (BadLine number, first)
  | inr (number, Twice place, first) ↦ inr (PlaceTwice number place, first)
]

pub one_tape : (bytes : List ℕ) (image other : List (Option ℕ)) → ReadsTape bytes image → ReadsTape bytes other → image ≡ other
one_tape bytes image other reads too = one_reading tape_form (feed_lines bytes) image other reads too

-- what is found is one thing
found_once : (found : Option (ℕ × LineFault)) (one other : ℕ × LineFault) → found ≡ Some one → found ≡ Some other → one ≡ other
found_once found one other is too = let same : Some one ≡ Some other = sym is ∙ too in cc

pub one_fault : (bytes : List ℕ) (error other : TapeError) → IsFaultyTape bytes error → IsFaultyTape bytes other → error ≡ other
one_fault bytes (BadLine line) (BadLine number) is too =
    ap BadLine (ap (λ (f : ℕ × LineFault). f.0) (found_once _ (line, Misshapen) (number, Misshapen) is too))
one_fault bytes (BadLine line) (PlaceTwice number place) is too =
    let same : Misshapen ≡ Twice place = ap (λ (f : ℕ × LineFault). f.1) (found_once _ (line, Misshapen) (number, Twice place) is too) in absurd cc
one_fault bytes (PlaceTwice line location) (BadLine number) is too =
    let same : Twice location ≡ Misshapen = ap (λ (f : ℕ × LineFault). f.1) (found_once _ (line, Twice location) (number, Misshapen) is too) in absurd cc
one_fault bytes (PlaceTwice line location) (PlaceTwice number place) is too =
    let pair = found_once _ (line, Twice location) (number, Twice place) is too in
    let twice : Twice location ≡ Twice place = ap (λ (f : ℕ × LineFault). f.1) pair in
    let here : location ≡ place = cc in
    ap (λ (n : ℕ). PlaceTwice n location) (ap (λ (f : ℕ × LineFault). f.0) pair) ∙ ap (PlaceTwice number) here
one_fault bytes NoMemory other is too = absurd is
one_fault bytes (BadLine line) NoMemory is too = absurd too
one_fault bytes (PlaceTwice line location) NoMemory is too = absurd too

pub not_both : (bytes : List ℕ) (image : List (Option ℕ)) (error : TapeError) → ReadsTape bytes image → IsFaultyTape bytes error → ⊥
not_both bytes image (BadLine line) reads is = let none = read_faultless tape_form (feed_lines bytes) image reads in absurd cc
not_both bytes image (PlaceTwice line location) reads is = let none = read_faultless tape_form (feed_lines bytes) image reads in absurd cc
not_both bytes image NoMemory reads is = is
