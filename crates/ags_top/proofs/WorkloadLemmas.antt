-- What is said of a workload, and how many words a source has.
use Rattle.std.proofs.Common.{◌≡◌, ℕ, zero, suc, ◌+◌, ◌<◌, List, [], ◌∷◌, ◌++◌, length, map, take, get_or, Option, Some, refl, ◌∙◌, arith, add-one, append-nil, length-append}
use Rattle.std.proofs.Math.Seq.{take-suc}
use Rattle.std.proofs.lemmas.List.{map-append}
use Rattle.std.proofs.lemmas.Grind.{flat_map-append}
use Rattle.ags_asm.specs.Source.{defined, placed_words, words_in, words_there}
use Rattle.ags_asm.specs.Word.{placed_from}
use Rattle.ags_image.specs.Image.{PlacedWord}
use Rattle.ags_cert.specs.Cert.{certificate_of}
use Rattle.ags_domain.specs.Value.{value_meaning}
use Rattle.ags_domain.specs.declared.values.Value.{Value}
use Rattle.ags_outside.specs.Sink.{appended, WroteFront}
use Rattle.ags_places.specs.declared.placed.Placed.{Placed}
use Rattle.ags_plan.specs.Plan.{WorkAt}
use Rattle.ags_plan.specs.Saying.{SaidWhole, SaidInPart}
use Rattle.ags_verdict.specs.Verdict.{IsVerdict}
use Rattle.ags_verdict.specs.declared.verdicts.Verdict.{Verdict}
use Rattle.ags_program.specs.declared.works.ReadPair.{ReadPair}
use Rattle.ags_program.specs.Program.{program}
use Rattle.ags_program.specs.Views.{IsReadSource, pair_of}
use Rattle.ags_program.specs.Work.{JudgePair, CountsInstead, counts_line, verdict_status}
use Rattle.ags_played.proofs.JudgeLemmas.{judged_in_part, judged_whole}

-- so many words are taken of an image
words_in_count : (image : List (Option ℕ)) (at many : ℕ) → length (words_in image at many) ≡ many
words_in_count image at zero = refl
words_in_count image at (suc many) = let later = words_in_count image (at + 1) many in omega (arith, later)

-- each has its place
placed_from_count : (at : ℕ) (words : List ℕ) → length (placed_from at words) ≡ length words
placed_from_count at [] = refl
placed_from_count at (word ∷ words) = let later = placed_from_count (at + 1) words in omega (arith, later)

-- so a card with a place has as many words as it says
pub defined_count : (image : List (Option ℕ)) (at many : ℕ) → length (words_there image (Some at) many) ≡ many
defined_count image at many = placed_from_count at (words_in image at many) ∙ words_in_count image at many

-- the words of one card more
pub words_more : (image : List (Option ℕ)) (cards : List Placed) (i : ℕ) (d : Placed) → i < length cards
    → length (placed_words (map (defined image) (take (i + 1) cards)))
    ≡ length (placed_words (map (defined image) (take i cards))) + length (defined image (get_or cards i d))
words_more image cards i d within =
    let front = take i cards in
    let last = get_or cards i d in
    let cut : take (i + 1) cards ≡ front ++ last ∷ [] = rw add-one (take-suc cards i d within) in
    let mapped : map (defined image) (front ++ last ∷ []) ≡ map (defined image) front ++ (defined image last ∷ []) = map-append (defined image) front (last ∷ []) in
    let joined : placed_words (map (defined image) front ++ (defined image last ∷ [])) ≡ placed_words (map (defined image) front) ++ (defined image last ++ []) =
    flat_map-append (λ (words : List PlacedWord). words) (map (defined image) front) (defined image last ∷ []) in
    rw (cut, mapped, joined, append-nil) (length-append (placed_words (map (defined image) front)) (defined image last))

-- a source has one list of words for each card
pub card_words_count : (image : List (Option ℕ)) (cards : List Placed) → length (map (defined image) cards) ≡ length cards
card_words_count image [] = refl
card_words_count image (card ∷ cards) = let later = card_words_count image cards in omega (arith, later)

module _ (pair : ReadPair) (size : ℕ) (old new : Option (List ℕ)) (verdict : Verdict Value) (read : IsReadSource pair.source)
    (is : IsVerdict value_meaning pair.machine pair.source.made.image (certificate_of pair.cert) verdict) where
  abbrev text : List ℕ
  text = counts_line size (pair_of pair).assembly.defined verdict

  -- the line was sent
  pub counts_said : new ≡ appended old text → SaidWhole program (WorkAt (JudgePair (pair_of pair) (CountsInstead size))) old new (verdict_status verdict)
  counts_said sent = judged_whole pair (CountsInstead size) verdict read is old new text (verdict_status verdict) (refl, refl) sent

  -- a front of it was
  pub counts_said_in_part : WroteFront old new text → SaidInPart program (WorkAt (JudgePair (pair_of pair) (CountsInstead size))) old new
  counts_said_in_part front = judged_in_part pair (CountsInstead size) verdict read is old new text (verdict_status verdict) (refl, refl) front
