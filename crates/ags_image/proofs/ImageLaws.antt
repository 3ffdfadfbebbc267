-- What the crates above need of `no_words`, `entry_at`, `word_at` and `with_word`, whose bodies they don't see:
--     entry_at-no_words, word_at-no_words     the image without a word has none at any location, and its words are 0
--     IsImage-no_words                        it is an image
--     word_at-some, word_at-none              a location's word is its entry's, and 0 where that is none
--     entry_at-set, word_at-set               a location that is given a word has it
--     entry_at-other, word_at-other           every other location stays as it was
--     length-with_word, IsImage-with_word     an image that is given a word is an image of as many locations
--     image_same                              images with the same entry at each location are one
--     image_of_nothing                        the image without a word is that of no words
--     image_of_word_more                      what it is of one word more
--     some_image                              words of the memory have an image, where no place has two of them
--     one_word_a_place                        no place has two, where no two are put at one place
--     one_image                               words have one image
use Rattle.std.proofs.Common.{◌≡◌, ◌≢◌, ℕ, ◌<◌, ◌^◌, List, [], ◌∷◌, ◌++◌, Option, Some, None, length, get_or, refl, sym, ap, ◌∙◌, ⊎_elim, inl, inr, arith, append_assoc, append-nil}
use Rattle.std.specs.List.{Contains}
use Rattle.std.proofs.lemmas.Bool.{cases_lt, cases_eq}
use Rattle.std.proofs.lemmas.Grind.{common_steps}
use Rattle.std.proofs.lemmas.List.{get_or-set_same, get_or-set_other, get_or_past, get_or_default, length-set, length-replicate, get_or-replicate, same_lists}
use Rattle.std.proofs.lemmas.List.Elements.{Contains-append_left, Contains-push, Contains-push_cases}
use Rattle.ags_image.specs.Image.{memory_size, no_words, entry_at, word_at, with_word, IsImage, PlacedWord, IsMemoryWord, EachPlaceOnce, EachPlaceHasOneWord, IsImageOf}

-- ---- no word

length-no_words : length no_words ≡ memory_size
unfolding no_words
length-no_words = length-replicate {A = Option ℕ} memory_size None

pub entry_at-no_words : (location : ℕ) → entry_at no_words location ≡ None
unfolding no_words entry_at
entry_at-no_words location = ⊎_elim
    (λ below. get_or-replicate {A = Option ℕ} memory_size location None None below)
    (λ above. get_or_past no_words location None (rw length-no_words above))
    (cases_lt location memory_size)

pub word_at-none : (image : List (Option ℕ)) (location : ℕ) → entry_at image location ≡ None → word_at image location ≡ 0
unfolding word_at
word_at-none image location none = rw none

pub word_at-some : (image : List (Option ℕ)) (location word : ℕ) → entry_at image location ≡ Some word → word_at image location ≡ word
unfolding word_at
word_at-some image location word some = rw some

pub word_at-no_words : (location : ℕ) → word_at no_words location ≡ 0
word_at-no_words location = word_at-none no_words location (entry_at-no_words location)

pub IsImage-no_words : IsImage no_words
IsImage-no_words = record {
  whole = length-no_words;
  words = λ location. rw (word_at-no_words location) (omega arith);
}

-- ---- a word that is set

pub entry_at-set : (image : List (Option ℕ)) (location word : ℕ) → location < length image → entry_at (with_word image location word) location ≡ Some word
unfolding entry_at with_word
entry_at-set image location word inside = get_or-set_same image location (Some word) None inside

pub word_at-set : (image : List (Option ℕ)) (location word : ℕ) → location < length image → word_at (with_word image location word) location ≡ word
word_at-set image location word inside = word_at-some _ location word (entry_at-set image location word inside)

pub entry_at-other : (image : List (Option ℕ)) (location other word : ℕ) → other ≢ location → entry_at (with_word image location word) other ≡ entry_at image other
unfolding entry_at with_word
entry_at-other image location other word apart = get_or-set_other image location other (Some word) None apart

pub length-with_word : (image : List (Option ℕ)) (location word : ℕ) → length (with_word image location word) ≡ length image
unfolding with_word
length-with_word image location word = length-set image location (Some word)

pub IsImage-with_word : (image : List (Option ℕ)) (location word : ℕ) → IsImage image → word < 2 ^ 18 → IsImage (with_word image location word)
unfolding entry_at word_at with_word
IsImage-with_word image location word is below = record {
  whole = length-with_word image location word ∙ is.whole;
  words = λ other. grind (arith, common_steps, is.words other);
}

-- ---- one image

pub image_same : (left right : List (Option ℕ)) → IsImage left → IsImage right → ((location : ℕ) → location < memory_size → entry_at left location ≡ entry_at right location) → left ≡ right
unfolding entry_at
image_same left right is_left is_right same = same_lists left right (is_left.whole ∙ sym is_right.whole)
    (λ location entry inside.
    get_or_default left location entry None inside ∙ same location (rw (sym is_left.whole) inside) ∙ get_or_default right location None entry (rw (is_right.whole, sym is_left.whole) inside))

-- ---- the image of words

pub image_of_nothing : IsImageOf [] no_words
image_of_nothing = record {
  is_image = IsImage-no_words;
  from_words = λ place word is. let none = entry_at-no_words place in absurd cc;
  has_words = λ place word is. absurd (omega (arith, is.1));
}

-- words before, of which none is another word at the place of this one
abbrev MeetsNone : List PlacedWord → PlacedWord → Type 0
MeetsNone words placed = (other : PlacedWord) → Contains words other → other.place ≡ placed.place → other.word ≡ placed.word

-- a word more, over the words before and their image
module _ (words : List PlacedWord) (image : List (Option ℕ)) (placed : PlacedWord) (inside : IsMemoryWord placed) (of : IsImageOf words image) where
  -- what the image holds once it is set
  from_word_more : (place word : ℕ) → entry_at (with_word image placed.place placed.word) place ≡ Some word → Contains (words ++ placed ∷ []) (record { place = place; word = word })
  from_word_more place word is = elim (cases_eq place placed.place) [
    | inl same ↦
        let set = entry_at-set image placed.place placed.word (rw of.is_image.whole inside.place) in
        let here : entry_at (with_word image placed.place placed.word) placed.place ≡ Some word = rw same at is in
        let value : placed.word ≡ word = cc in
        rw (same, ← value) (Contains-push words placed)
    | inr apart ↦
        Contains-append_left words (placed ∷ []) (record { place = place; word = word })
        (of.from_words place word (sym (entry_at-other image placed.place place placed.word apart) ∙ is))
  ]

  -- and which of the words it holds
  has_word_more : MeetsNone words placed → (place word : ℕ) → Contains (words ++ placed ∷ []) (record { place = place; word = word })
      → entry_at (with_word image placed.place placed.word) place ≡ Some word
  has_word_more none place word is =
      let set = entry_at-set image placed.place placed.word (rw of.is_image.whole inside.place) in
      elim (Contains-push_cases words placed (record { place = place; word = word }) is) [
        | inr last ↦
            let same_place : placed.place ≡ place = ap (λ (p : PlacedWord). p.place) last in
            let same_word : placed.word ≡ word = ap (λ (p : PlacedWord). p.word) last in
            rw (← same_place, ← same_word) set
        | inl before ↦ elim (cases_eq place placed.place) [
          | inl same ↦
              let value : word ≡ placed.word = none (record { place = place; word = word }) before same in
              rw (same, value) set
          | inr other ↦ entry_at-other image placed.place place placed.word other ∙ of.has_words place word before
        ]
      ]

  pub image_of_word_more : MeetsNone words placed → IsImageOf (words ++ placed ∷ []) (with_word image placed.place placed.word)
  image_of_word_more none = record {
    is_image = IsImage-with_word image placed.place placed.word of.is_image inside.word;
    from_words = from_word_more;
    has_words = has_word_more none;
  }

-- words of the memory, of which no place has two
module _ (words : List PlacedWord) (inside : (placed : PlacedWord) → Contains words placed → IsMemoryWord placed) (apart : EachPlaceHasOneWord words) where
  -- The image of all words, where that of those at the front is this one: what is left is set word by word.
  image_grown : (front rest : List PlacedWord) (image : List (Option ℕ)) → words ≡ front ++ rest → IsImageOf front image → (whole : List (Option ℕ)) × IsImageOf words whole
  image_grown front [] image is of =
      let all : words ≡ front = is ∙ append-nil front in
      (image, rw all of)
  image_grown front (placed ∷ rest) image is of =
      let cut : words ≡ (front ++ placed ∷ []) ++ rest = is ∙ sym (append_assoc front (placed ∷ []) rest) in
      let held : Contains words placed = rw cut (Contains-append_left (front ++ placed ∷ []) rest placed (Contains-push front placed)) in
      let before : (other : PlacedWord) → Contains front other → Contains words other = λ other at. rw is (Contains-append_left front (placed ∷ rest) other at) in
      let more : IsImageOf (front ++ placed ∷ []) (with_word image placed.place placed.word) =
      image_of_word_more front image placed (inside placed held) of (λ other at. apart other placed (before other at) held) in
      image_grown (front ++ placed ∷ []) rest (with_word image placed.place placed.word) cut more

  pub some_image : (image : List (Option ℕ)) × IsImageOf words image
  some_image = image_grown [] words no_words refl image_of_nothing

-- an earlier word and a later one are put at two places
apart_at : (words : List PlacedWord) (one other : PlacedWord) (i j : ℕ) → EachPlaceOnce words → i < j → j < length words → get_or words i one ≡ one → get_or words j other ≡ other
    → one.place ≢ other.place
apart_at words one other i j once before inside one_is other_is =
    let there : get_or words j one ≡ other = get_or_default words j one other inside ∙ other_is in
    rw (one_is, there) at (once i j one before inside)

-- where no two words are put at one place, those at one place are one word
pub one_word_a_place : (words : List PlacedWord) → EachPlaceOnce words → EachPlaceHasOneWord words
one_word_a_place words once = λ one other held too same.
    elim (cases_lt held.0 too.0) [
      | inl before ↦ absurd (apart_at words one other held.0 too.0 once before too.1 held.2 too.2 same)
      | inr later ↦ elim (cases_eq held.0 too.0) [
        | inl at ↦
            let here : get_or words held.0 other ≡ other = rw at too.2 in
            ap (λ (p : PlacedWord). p.word) (sym held.2 ∙ get_or_default words held.0 one other held.1 ∙ here)
        | inr apart ↦ absurd (apart_at words other one too.0 held.0 once (omega arith) held.1 too.2 held.2 (sym same))
      ]
    ]

-- words have one image
module _ (words : List PlacedWord) (one other : List (Option ℕ)) (of : IsImageOf words one) (too : IsImageOf words other) where
  -- two images of the same words have the same entries
  entry_same : (place : ℕ) (entry : Option ℕ) → entry_at one place ≡ entry → entry ≡ entry_at other place
  entry_same place (Some word) is = sym (too.has_words place word (of.from_words place word is))
  entry_same place None is = none_too (entry_at other place) refl
    where
      none_too : (found : Option ℕ) → entry_at other place ≡ found → None ≡ entry_at other place
      none_too None found_is = sym found_is
      none_too (Some word) found_is = let some = of.has_words place word (too.from_words place word found_is) in absurd cc

  pub one_image : one ≡ other
  one_image = image_same one other of.is_image too.is_image (λ place within. entry_same place (entry_at one place) refl)
