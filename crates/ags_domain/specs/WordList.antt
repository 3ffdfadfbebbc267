-- How a list of up to 16 words lies in an array: after the words it is filled up with 0.
use Rattle.std.specs.Prelude.{◌≡◌, ℕ, ◌+◌, ◌-◌, ◌<◌, ◌≤◌, List, ◌++◌, length, take, drop, replicate}
use Rattle.std.proofs.Common.{refl, ap, ◌∙◌, sym, arith}
use Rattle.std.proofs.Common.{set}
use Rattle.std.proofs.Math.ListN.{length-set}
use Rattle.std.proofs.lemmas.List.{length-take-le, take-append-drop, drop-drop, drop-set-lt, drop-replicate}
use Rattle.ags_domain.specs.declared.word_lists.WordList.TheInside.{Inside}

-- the words of a list, and as many zeros as are left of 16 places
abbrev pub filled_up : List ℕ → List ℕ
filled_up words = words ++ replicate (16 - length words) 0

-- the array has 16 places, and 0 after the words that count
pub record IsFilledUp (words : List ℕ) (count : ℕ) : Type 0 where
  pub places : length words ≡ 16
  pub few : count ≤ 16
  pub rest : drop count words ≡ replicate (16 - count) 0

filled : (words : List ℕ) (count : ℕ) → IsFilledUp words count → filled_up (take count words) ≡ words
filled words count is =
    let many : length (take count words) ≡ count = length-take-le count words (omega arith) in
    rw (many, ← is.rest) (take-append-drop count words)

-- the words of a list fill up to its array
pub filled_up-take : (list : Inside) → IsFilledUp list.words list.count
    → let back : Inside = record { words = filled_up (take list.count list.words); count = length (take list.count list.words) } in back ≡ list
filled_up-take list is =
    let many : length (take list.count list.words) ≡ list.count = length-take-le list.count list.words (omega arith) in
    rw (filled list.words list.count is, many) refl

-- one more word
pub pushed : (words : List ℕ) (count word : ℕ) → count < 16 → IsFilledUp words count → IsFilledUp (set words count word) (count + 1)
pushed words count word h is = record {
  places = length-set words count word ∙ is.places;
  few = omega arith;
  rest = drop-set-lt (count + 1) words count word (omega arith) ∙ drop-more ∙ ap (drop 1) is.rest ∙ drop-replicate 1 (16 - count) 0 ∙ ap (λ n. replicate n 0) (omega arith);
}
  where
    drop-more : drop (count + 1) words ≡ drop 1 (drop count words)
    drop-more = sym (drop-drop 1 count words)
