-- A text's lines, as they are read from the first to the last.
use Rattle.std.proofs.Common.{◌==◌, ◌≡◌, ◌≢◌, ℕ, ◌+◌, ◌-◌, ◌<◌, ◌^◌, Bool, true, false, List, [], ◌∷◌, ◌++◌, length, get_or, reverse, Option, Some, None, refl, sym, ap, ◌∙◌, arith, append_assoc, append-nil, length-append}
use Rattle.std.specs.Option.{is_some}
use Rattle.std.specs.List.{All, Contains}
use Rattle.std.proofs.lemmas.Bool.Decides.{nat_tests}
use Rattle.std.proofs.lemmas.List.{reverse-append, reverse-reverse, length-reverse, get_or_append_left, get_or-append_right, get_or_default}
use Rattle.std.proofs.lemmas.List.Elements.{All-push, filter_map-append}
use Rattle.std.proofs.lemmas.List.Quantifiers.{all_pairs_push}
use Rattle.std.proofs.lemmas.List.Folds.{list_any_at, list_any_none}
use Rattle.ags_text.specs.Fault.{first_fault, first_fault-faulty, first_fault-faultless, first_fault-nil}
use Rattle.ags_image.specs.Image.{memory_size, no_words, entry_at, with_word, IsImage, PlacedWord, EachPlaceOnce, IsImageOf}
use Rattle.ags_image.proofs.ImageLaws.{image_of_nothing, image_of_word_more, word_at-set}
use Rattle.ags_image.specs.Form.{Form, HasForm, word_in, words_of, ReadBy}
use Rattle.ags_image.specs.Fault.{LineFault, is_taken, fault_behind, line_fault, first_line_fault}
use Rattle.ags_image.specs.Fault.LineFault.{Misshapen, Twice}

-- ---- the words of a line more

words_more : (form : Form) (front : List (List ℕ)) (line : List ℕ) → words_of form (front ++ line ∷ []) ≡ words_of form front ++ words_of form (line ∷ [])
words_more form front line = filter_map-append (λ (l : List ℕ). word_in (form l)) front (line ∷ [])

words_none : (form : Form) (front : List (List ℕ)) (line : List ℕ) → form line ≡ Some None → words_of form (front ++ line ∷ []) ≡ words_of form front
words_none form front line is =
    let nothing : words_of form (line ∷ []) ≡ [] = rw is refl in
    words_more form front line ∙ rw nothing (append-nil (words_of form front))

words_one : (form : Form) (front : List (List ℕ)) (line : List ℕ) (placed : PlacedWord) → form line ≡ Some (Some placed)
    → words_of form (front ++ line ∷ []) ≡ words_of form front ++ placed ∷ []
words_one form front line placed is =
    let one : words_of form (line ∷ []) ≡ placed ∷ [] = rw is refl in
    words_more form front line ∙ rw one refl

-- ---- whether a place is taken

same_place : (x y : ℕ) → x ≡ y → (x == y) ≡ true
same_place x y is = grind (arith, nat_tests)

other_place : (x y : ℕ) → x ≢ y → (x == y) ≡ false
other_place x y apart = grind (arith, nat_tests)

taken : (words : List PlacedWord) (placed : PlacedWord) → Contains words placed → is_taken words placed.place ≡ true
taken words placed held =
    list_any_at (λ (other : PlacedWord). other.place == placed.place) words held.0 placed held.1 (same_place _ _ (ap (λ (p : PlacedWord). p.place) held.2))

free : (words : List PlacedWord) (place : ℕ) → All (λ (other : PlacedWord). other.place ≢ place) words → is_taken words place ≡ false
free words place apart = list_any_none (λ (other : PlacedWord). other.place == place) words (λ k d within. other_place _ _ (apart k d within))

-- a place at which the image has no word is that of none of its words
apart_from_image : (words : List PlacedWord) (image : List (Option ℕ)) (place : ℕ) → IsImageOf words image → entry_at image place ≡ None
    → All (λ (other : PlacedWord). other.place ≢ place) words
apart_from_image words image place of none = λ k d within same.
    let other : PlacedWord = get_or words k d in
    let held : Contains words other = (k, within, get_or_default words k other d within) in
    let some : entry_at image place ≡ Some other.word = rw (← same) (of.has_words other.place other.word held) in
    absurd cc

-- ---- the lines before those that are left

-- The lines before those that are left are read: they are those of the image so far, and have no fault.
pub record Reading (form : Form) (lines rest : List (List ℕ)) (number : ℕ) (image : List (Option ℕ)) : Type 0 where
  pub front : List (List ℕ)
  pub read : ReadBy form front image
  pub whole : lines ≡ front ++ rest
  pub number_is : number ≡ length front
  pub fault : first_line_fault form lines ≡ first_fault (line_fault form) (reverse front) rest

pub reading_none : (form : Form) (lines : List (List ℕ)) → Reading form lines lines 0 no_words
reading_none form lines = record {
  front = [];
  read = record { each = λ k d within. absurd (omega arith); once = λ i j d before within. absurd (omega arith); filled = image_of_nothing };
  whole = refl;
  number_is = refl;
  fault = refl;
}

-- the fault of the next line, by the words before it
next_fault : (form : Form) (front : List (List ℕ)) (line : List ℕ) → line_fault form (reverse front) line ≡ fault_behind (words_of form front) (form line)
next_fault form front line = ap (λ (before : List (List ℕ)). fault_behind (words_of form before) (form line)) (reverse-reverse front)

reverse_more : (front : List (List ℕ)) (line : List ℕ) → reverse (front ++ line ∷ []) ≡ line ∷ reverse front
reverse_more front line = reverse-append front (line ∷ [])

module _ (form : Form) (lines rest : List (List ℕ)) (line : List ℕ) (number : ℕ) (image : List (Option ℕ)) (so : Reading form lines (line ∷ rest) number image) where
  -- after a line without a fault
  fault_more : fault_behind (words_of form so.front) (form line) ≡ None → first_line_fault form lines ≡ first_fault (line_fault form) (reverse (so.front ++ line ∷ [])) rest
  fault_more none =
      so.fault ∙ first_fault-faultless (line_fault form) (reverse so.front) line rest (next_fault form so.front line ∙ none)
      ∙ ap (λ (before : List (List ℕ)). first_fault (line_fault form) before rest) (sym (reverse_more so.front line))

  -- at a line with one
  fault_here : (fault : LineFault) → fault_behind (words_of form so.front) (form line) ≡ Some fault → first_line_fault form lines ≡ Some (number + 1, fault)
  fault_here fault some =
      so.fault ∙ first_fault-faulty (line_fault form) (reverse so.front) line rest fault (next_fault form so.front line ∙ some)
      ∙ ap (λ (n : ℕ). Some (n + 1, fault)) (length-reverse so.front ∙ sym so.number_is)

  number_more : number + 1 ≡ length (so.front ++ line ∷ [])
  number_more = omega (arith, so.number_is, length-append so.front (line ∷ []))

  whole_more : lines ≡ (so.front ++ line ∷ []) ++ rest
  whole_more = so.whole ∙ sym (append_assoc so.front (line ∷ []) rest)

  pub reading_skip : form line ≡ Some None → Reading form lines rest (number + 1) image
  reading_skip is = record {
    front = so.front ++ line ∷ [];
    read = record {
      each = All-push (HasForm form) so.front line so.read.each (λ none. absurd cc);
      once = rw (words_none form so.front line is) so.read.once;
      filled = rw (words_none form so.front line is) so.read.filled;
    };
    whole = whole_more;
    number_is = number_more;
    fault = fault_more (rw is refl);
  }

  pub reading_misshapen : form line ≡ None → first_line_fault form lines ≡ Some (number + 1, Misshapen)
  reading_misshapen is = fault_here Misshapen (rw is refl)

  pub reading_twice : (placed : PlacedWord) (word : ℕ) → form line ≡ Some (Some placed) → entry_at image placed.place ≡ Some word
      → first_line_fault form lines ≡ Some (number + 1, Twice placed.place)
  reading_twice placed word is some =
      let before : PlacedWord = record { place = placed.place; word = word } in
      let held : is_taken (words_of form so.front) placed.place ≡ true = taken (words_of form so.front) before (so.read.filled.from_words placed.place word some) in
      fault_here (Twice placed.place) (rw (is, held) refl)

  pub reading_more : (placed : PlacedWord) → form line ≡ Some (Some placed) → entry_at image placed.place ≡ None → placed.place < memory_size
      → IsImage (with_word image placed.place placed.word) → Reading form lines rest (number + 1) (with_word image placed.place placed.word)
  reading_more placed is none within after =
      let words : List PlacedWord = words_of form so.front in
      let apart = apart_from_image words image placed.place so.read.filled none in
      let below : placed.word < 2 ^ 18 = rw (word_at-set image placed.place placed.word (rw so.read.filled.is_image.whole within)) at (after.words placed.place) in
      record {
        front = so.front ++ line ∷ [];
        read = record {
          each = All-push (HasForm form) so.front line so.read.each (λ wrong. absurd cc);
          once = rw (words_one form so.front line placed is) (all_pairs_push (λ (one other : PlacedWord). one.place ≢ other.place) words placed so.read.once apart);
          filled = rw (words_one form so.front line placed is)
              (image_of_word_more words image placed (record { place = within; word = below }) so.read.filled
              (λ other held same. absurd (apart held.0 other held.1 (ap (λ (p : PlacedWord). p.place) held.2 ∙ same))));
        };
        whole = whole_more;
        number_is = number_more;
        fault = fault_more (rw (is, free words placed.place apart) refl);
      }

pub reading_all : (form : Form) (lines : List (List ℕ)) (number : ℕ) (image : List (Option ℕ)) → Reading form lines [] number image → ReadBy form lines image
reading_all form lines number image so =
    let all : lines ≡ so.front = so.whole ∙ append-nil so.front in
    rw all so.read

-- ---- lines that are those of an image have no fault

-- an element after others is there
element_at : {X : Type 0} (front : List X) (x : X) (rest : List X) (d : X) → get_or (front ++ x ∷ rest) (length front) d ≡ x
element_at front x rest d = get_or-append_right front (x ∷ rest) (length front) (length front) d refl (omega arith) ∙ first_at (length front - length front) (omega arith)
  where
    first_at : (k : ℕ) → k ≡ 0 → get_or (x ∷ rest) k d ≡ x
    first_at k is = rw is refl

-- where no two words are put at one place, those before one are put at others
apart_before : (front : List PlacedWord) (placed : PlacedWord) (behind : List PlacedWord) → EachPlaceOnce (front ++ placed ∷ behind)
    → All (λ (other : PlacedWord). other.place ≢ placed.place) front
apart_before front placed behind once = λ k d within.
    let inside : length front < length (front ++ placed ∷ behind) = omega (arith, length-append front (placed ∷ behind)) in
    rw (get_or_append_left front (placed ∷ behind) d k within, element_at front placed behind d) at (once k (length front) d within inside)

words_behind : (form : Form) (front : List (List ℕ)) (line : List ℕ) (rest : List (List ℕ)) (placed : PlacedWord) → form line ≡ Some (Some placed)
    → words_of form (front ++ line ∷ rest) ≡ words_of form front ++ placed ∷ words_of form rest
words_behind form front line rest placed is =
    let behind : words_of form (line ∷ rest) ≡ placed ∷ words_of form rest = rw is refl in
    filter_map-append (λ (l : List ℕ). word_in (form l)) front (line ∷ rest) ∙ ap (λ (ws : List PlacedWord). words_of form front ++ ws) behind

-- a line of an image has no fault, after those before it
faultless_line : (form : Form) (front : List (List ℕ)) (line : List ℕ) (rest : List (List ℕ)) (said : Option (Option PlacedWord)) → form line ≡ said
    → All (HasForm form) (front ++ line ∷ rest) → EachPlaceOnce (words_of form (front ++ line ∷ rest)) → line_fault form (reverse front) line ≡ None
faultless_line form front line rest None is each once =
    let inside : length front < length (front ++ line ∷ rest) = omega (arith, length-append front (line ∷ rest)) in
    absurd ((rw (element_at front line rest line) at (each (length front) line inside)) is)
faultless_line form front line rest (Some None) is each once = next_fault form front line ∙ rw is refl
faultless_line form front line rest (Some (Some placed)) is each once =
    let apart = apart_before (words_of form front) placed (words_of form rest) (rw (words_behind form front line rest placed is) at once) in
    next_fault form front line ∙ rw (is, free (words_of form front) placed.place apart) refl

faultless_from : (form : Form) (front rest : List (List ℕ)) → All (HasForm form) (front ++ rest) → EachPlaceOnce (words_of form (front ++ rest))
    → first_fault (line_fault form) (reverse front) rest ≡ None
faultless_from form front [] each once = first_fault-nil (line_fault form) (reverse front)
faultless_from form front (line ∷ rest) each once =
    let none = faultless_line form front line rest (form line) refl each once in
    let cut : (front ++ line ∷ []) ++ rest ≡ front ++ line ∷ rest = append_assoc front (line ∷ []) rest in
    first_fault-faultless (line_fault form) (reverse front) line rest none
    ∙ ap (λ (before : List (List ℕ)). first_fault (line_fault form) before rest) (sym (reverse_more front line))
    ∙ faultless_from form (front ++ line ∷ []) rest (rw cut each) (rw cut once)

pub read_faultless : (form : Form) (lines : List (List ℕ)) (image : List (Option ℕ)) → ReadBy form lines image → first_line_fault form lines ≡ None
read_faultless form lines image read = faultless_from form [] lines read.each read.once

-- ---- what a test of an entry says of it

pub entry_held : (found entry : Option ℕ) (test : Bool) → test ≡ is_some found → found ≡ entry → test ≡ true → (word : ℕ) × (entry ≡ Some word)
entry_held (Some word) entry test is same so = (word, sym same)
entry_held None entry test is same so = let wrong : false ≡ true = sym is ∙ so in absurd cc

pub entry_free : (found entry : Option ℕ) (test : Bool) → test ≡ is_some found → found ≡ entry → test ≡ false → entry ≡ None
entry_free (Some word) entry test is same so = let wrong : true ≡ false = sym is ∙ so in absurd cc
entry_free None entry test is same so = sym same
