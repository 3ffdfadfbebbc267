-- Each text means something: its lines are those of an image, or there is a first fault.
use Rattle.std.proofs.Common.{◌≡◌, ℕ, ◌+◌, List, [], ◌∷◌, Option, Some, None, refl, ◌⊎◌, inl, inr}
use Rattle.ags_image.specs.Image.{no_words, entry_at, with_word, PlacedWord}
use Rattle.ags_image.proofs.ImageLaws.{IsImage-with_word, one_image}
use Rattle.ags_image.specs.Form.{Form, PutsInMemory, ReadBy, words_of}
use Rattle.ags_image.specs.Fault.{LineFault, first_line_fault}
use Rattle.ags_image.specs.Fault.LineFault.{Misshapen, Twice}
use Rattle.ags_image.proofs.ReadLemmas.{Reading, reading_none, reading_skip, reading_misshapen, reading_twice, reading_more, reading_all}

-- the lines have an image, or a first fault
abbrev pub Meaning : Form → List (List ℕ) → Type 0
Meaning form lines = ((image : List (Option ℕ)) × ReadBy form lines image)
    ⊎ ((number : ℕ) × (fault : LineFault) × (first_line_fault form lines ≡ Some (number, fault)))

module _ (form : Form) (puts : PutsInMemory form) (lines : List (List ℕ)) where
  -- what is left, after lines that were read
  Onward : List (List ℕ) → Type 0
  Onward rest = (number : ℕ) (image : List (Option ℕ)) → Reading form lines rest number image → Meaning form lines

  by_entry : (rest : List (List ℕ)) (line : List ℕ) (number : ℕ) (image : List (Option ℕ)) (placed : PlacedWord) (entry : Option ℕ) → Onward rest
      → Reading form lines (line ∷ rest) number image → form line ≡ Some (Some placed) → entry_at image placed.place ≡ entry → Meaning form lines
  unfolding Onward
  by_entry rest line number image placed (Some word) onward so is held =
      inr (number + 1, Twice placed.place, reading_twice form lines rest line number image so placed word is held)
  by_entry rest line number image placed None onward so is free =
      let within = puts line placed is in
      let filled = IsImage-with_word image placed.place placed.word so.read.filled.is_image within.word in
      onward (number + 1) (with_word image placed.place placed.word) (reading_more form lines rest line number image so placed is free within.place filled)

  by_line : (rest : List (List ℕ)) (line : List ℕ) (number : ℕ) (image : List (Option ℕ)) (said : Option (Option PlacedWord)) → Onward rest
      → Reading form lines (line ∷ rest) number image → form line ≡ said → Meaning form lines
  unfolding Onward
  by_line rest line number image None onward so is = inr (number + 1, Misshapen, reading_misshapen form lines rest line number image so is)
  by_line rest line number image (Some None) onward so is = onward (number + 1) image (reading_skip form lines rest line number image so is)
  by_line rest line number image (Some (Some placed)) onward so is = by_entry rest line number image placed (entry_at image placed.place) onward so is refl

  from_here : (rest : List (List ℕ)) → Onward rest
  unfolding Onward
  from_here [] number image so = inl (image, reading_all form lines number image so)
  from_here (line ∷ rest) number image so = by_line rest line number image (form line) (from_here rest) so refl

  pub each_means : Meaning form lines
  unfolding Onward
  each_means = from_here lines 0 no_words (reading_none form lines)

-- the image of lines is one
pub one_reading : (form : Form) (lines : List (List ℕ)) (image other : List (Option ℕ)) → ReadBy form lines image → ReadBy form lines other → image ≡ other
one_reading form lines image other is too = one_image (words_of form lines) image other is.filled too.filled
