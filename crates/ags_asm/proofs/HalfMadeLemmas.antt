-- The half-made image, one card further, and closed.
use Rattle.std.proofs.Common.{◌≡◌, ℕ, ◌+◌, ◌<◌, ◌≤◌, List, [], ◌∷◌, ◌++◌, length, Option, Some, None, refl, sym, ap, ◌∙◌, append-nil, arith, inl, inr}
use Rattle.std.specs.List.{Contains}
use Rattle.std.proofs.lemmas.Bool.{cases_eq}
use Rattle.std.proofs.lemmas.List.{map-append}
use Rattle.std.specs.Prelude.{All}
use Rattle.std.proofs.lemmas.List.Elements.{All-head, All-tail, Contains-append_left, Contains-append_right, Contains-append_cases}
use Rattle.std.specs.Option.{option_or}
use Rattle.ags_text.specs.Fault.{first_fault}
use Rattle.ags_image.specs.Image.{no_words, entry_at, with_word, IsImage, PlacedWord, IsImageOf}
use Rattle.ags_image.proofs.ImageLaws.{entry_at-no_words, entry_at-set, entry_at-other, length-with_word}
use Rattle.ags_card.specs.declared.cards.Card.{Card}
use Rattle.ags_symbol.specs.Symbol.{Entry}
use Rattle.ags_symbol.proofs.FoundLemmas.{Contains-cons, Contains-first, Contains-later}
use Rattle.ags_places.specs.declared.source_error.WordFault.{WordFault}
use Rattle.ags_places.specs.Place.{place}
use Rattle.ags_places.proofs.FirstLemmas.{both_none}
use Rattle.ags_asm.specs.Source.{placed_words}
use Rattle.ags_asm.specs.Word.{placed_from, definitions_after, definitions, word_fault_at, taken, word_fault}
use Rattle.ags_asm.specs.Waiting.{Waiting, closed_word, closed_words, closing_fault, numbered, IsMade}
use Rattle.ags_asm.specs.HalfMade.{IsPartOf, HalfMade, filled, closed_into}
use Rattle.ags_asm.proofs.ApartLemmas.{OneWord, one_word_along}
use Rattle.ags_asm.proofs.FaultLemmas.{closing_more, fault_added}

-- ---- an image that has some of the words, and waits for the others

pub part_none : (all : List PlacedWord) → IsPartOf all all no_words
part_none all = record {
  from_words = λ at word is. let none = entry_at-no_words at in absurd cc;
  has_words = λ at word among. inr among;
  pending_in = λ one among. among;
}

-- every word that waits still waits
pub part_weaker : (all pending other : List PlacedWord) (image : List (Option ℕ)) → ((one : PlacedWord) → Contains pending one → Contains other one) → ((one : PlacedWord) → Contains other one → Contains pending one)
    → IsPartOf all pending image → IsPartOf all other image
part_weaker all pending other image to from so = record {
  from_words = so.from_words;
  has_words = λ at word among. elim (so.has_words at word among) [
    | inl here ↦ inl here
    | inr waits ↦ inr (to (record { place = at; word = word }) waits)
  ];
  pending_in = λ one among. so.pending_in one (from one among);
}

-- the first of those that wait is put in
pub part_fill : (all more : List PlacedWord) (image : List (Option ℕ)) (at word : ℕ) → OneWord all → at < length image → IsPartOf all (record { place = at; word = word } ∷ more) image
    → IsPartOf all more (with_word image at word)
part_fill all more image at word once small so =
    let mine : PlacedWord = record { place = at; word = word } in
    let inside = so.pending_in mine (Contains-first mine more) in
    record {
      from_words = λ q w is. elim (cases_eq q at) [
        | inl same ↦
            let set : entry_at (with_word image at word) q ≡ Some word = rw same (entry_at-set image at word small) in
            let words : word ≡ w = cc in
            rw (same, ← words) inside
        | inr other ↦ so.from_words q w (sym (entry_at-other image at q word other) ∙ is)
      ];
      has_words = λ q w among. elim (cases_eq q at) [
        | inl same ↦
            let words : w ≡ word = once (record { place = q; word = w }) mine among inside same in
            inl (rw (same, words) (entry_at-set image at word small))
        | inr other ↦ elim (so.has_words q w among) [
          | inl here ↦ inl (entry_at-other image at q word other ∙ here)
          | inr waits ↦ elim (Contains-cons mine (record { place = q; word = w }) more waits) [
            | inl this ↦ absurd (other (ap (λ (p : PlacedWord). p.place) (sym this)))
            | inr later ↦ inr later
          ]
        ]
      ];
      pending_in = λ one among. so.pending_in one (Contains-later mine one more among);
    }

pub part_filled : (all more : List PlacedWord) (image : List (Option ℕ)) (at : ℕ) (words : List ℕ) → OneWord all → at + length words ≤ length image → IsPartOf all (placed_from at words ++ more) image
    → IsPartOf all more (filled image at words)
part_filled all more image at [] once small so = so
part_filled all more image at (word ∷ words) once small so =
    let longer = length-with_word image at word in
    part_filled all more (with_word image at word) (at + 1) words once (omega arith)
    (part_fill all (placed_from (at + 1) words ++ more) image at word once (omega arith) so)

pub part_all : (all : List PlacedWord) (image : List (Option ℕ)) → IsImage image → IsPartOf all [] image → IsImageOf all image
part_all all image is so = record {
  is_image = is;
  from_words = so.from_words;
  has_words = λ at word among. elim (so.has_words at word among) [
    | inl here ↦ here
    | inr waits ↦ absurd (omega (arith, waits.1))
  ];
}

-- ---- the cards so far

pub half_made_none : (codes : List ℕ) (S : List Entry) (cards : List Card) → HalfMade codes S cards [] cards no_words [] None
half_made_none codes S cards = record { fault = refl; part = λ none. part_none (placed_words (definitions codes S cards)) }

none_met : (known : Option (ℕ × WordFault)) (n : ℕ) (fault : WordFault) (later : Option (ℕ × WordFault)) → option_or known (option_or (Some (n, fault)) later) ≡ None → ⊥
none_met None n fault later none = cc
none_met (Some known) n fault later none = cc

module _ (codes : List ℕ) (S : List Entry) (cards before : List Card) (card : Card) (left : List Card) (image : List (Option ℕ)) (waiting : List Waiting) where
  -- after a fault of the phase of words no later card matters
  pub half_made_past : (fault : ℕ × WordFault) → HalfMade codes S cards before (card ∷ left) image waiting (Some fault) → HalfMade codes S cards (card ∷ before) left image waiting (Some fault)
  half_made_past fault so = record {
    fault = so.fault;
    part = λ none. absurd (none_met (closing_fault S waiting) fault.0 fault.1 (first_fault (word_fault S) before (card ∷ left)) (sym so.fault ∙ none));
  }

  module _ (own : Option WordFault) (words : List ℕ) (new : List Waiting) (so : HalfMade codes S cards before (card ∷ left) image waiting None) (made : IsMade codes S (length before + 1) (place S before) card.body own words new) where
    fault_there : first_fault (word_fault S) [] cards ≡ option_or (closing_fault S (waiting ++ new)) (option_or (numbered (length before + 1) (option_or own (taken S before card))) (first_fault (word_fault S) (card ∷ before) left))
    unfolding first_fault
    fault_there =
        so.fault
        ∙ fault_added (length before + 1) (word_fault_at S (place S before) card.body) (taken S before card) own (closing_fault S waiting) (closing_fault S new) (first_fault (word_fault S) (card ∷ before) left) made.fault
        ∙ ap (λ (known : Option (ℕ × WordFault)). option_or known (option_or (numbered (length before + 1) (option_or own (taken S before card))) (first_fault (word_fault S) (card ∷ before) left))) (sym (closing_more S waiting new))

    -- a card with a fault that is known at once; the order of it that waits may still come to a lesser one
    pub half_made_fault : (fault : WordFault) (other : List (Option ℕ)) → option_or own (taken S before card) ≡ Some fault → HalfMade codes S cards (card ∷ before) left other (waiting ++ new) (Some (length before + 1, fault))
    half_made_fault fault other is =
        let whole = fault_there ∙ ap (λ (known : Option WordFault). option_or (closing_fault S (waiting ++ new)) (option_or (numbered (length before + 1) known) (first_fault (word_fault S) (card ∷ before) left))) is in
        record {
          fault = whole;
          part = λ none. absurd (none_met (closing_fault S (waiting ++ new)) (length before + 1) fault (first_fault (word_fault S) (card ∷ before) left) (sym whole ∙ none));
        }

    own_none : option_or own (taken S before card) ≡ None → own ≡ None
    own_none none = (both_none own (taken S before card) none).0

    pending_so : own ≡ None → placed_words (definitions_after codes S before (card ∷ left)) ≡ (placed_from (place S before) words ++ closed_words codes S new) ++ placed_words (definitions_after codes S (card ∷ before) left)
    unfolding definitions_after
    pending_so none = ap (λ (mine : List PlacedWord). mine ++ placed_words (definitions_after codes S (card ∷ before) left)) (made.words_are none)

    -- a card without
    pub half_made_more : option_or own (taken S before card) ≡ None → place S before + length words ≤ length image → HalfMade codes S cards (card ∷ before) left (filled image (place S before) words) (waiting ++ new) None
    half_made_more none small =
        let all = placed_words (definitions codes S cards) in
        let known = closed_words codes S waiting in
        let mine = placed_from (place S before) words in
        let waits = closed_words codes S new in
        let rest = placed_words (definitions_after codes S (card ∷ before) left) in
        record {
          fault = fault_there ∙ ap (λ (met : Option WordFault). option_or (closing_fault S (waiting ++ new)) (option_or (numbered (length before + 1) met) (first_fault (word_fault S) (card ∷ before) left))) none;
          part = λ faultless.
              let was = rw (pending_so (own_none none)) at (so.part faultless) in
              part_filled all (closed_words codes S (waiting ++ new) ++ rest) image (place S before) words (one_word_along codes S [] cards faultless) small
              (rw (map-append _ waiting new) (part_weaker all (known ++ ((mine ++ waits) ++ rest)) (mine ++ ((known ++ waits) ++ rest)) image
              (λ one among. moved known mine waits rest one among) (λ one among. moved_back known mine waits rest one among) was));
        }
      where
        moved : (known mine waits rest : List PlacedWord) (one : PlacedWord) → Contains (known ++ ((mine ++ waits) ++ rest)) one → Contains (mine ++ ((known ++ waits) ++ rest)) one
        moved known mine waits rest one among = elim (Contains-append_cases known ((mine ++ waits) ++ rest) one among) [
          | inl here ↦ Contains-append_right mine ((known ++ waits) ++ rest) one (Contains-append_left (known ++ waits) rest one (Contains-append_left known waits one here))
          | inr later ↦ elim (Contains-append_cases (mine ++ waits) rest one later) [
            | inr last ↦ Contains-append_right mine ((known ++ waits) ++ rest) one (Contains-append_right (known ++ waits) rest one last)
            | inl own ↦ elim (Contains-append_cases mine waits one own) [
              | inl first ↦ Contains-append_left mine ((known ++ waits) ++ rest) one first
              | inr second ↦ Contains-append_right mine ((known ++ waits) ++ rest) one (Contains-append_left (known ++ waits) rest one (Contains-append_right known waits one second))
            ]
          ]
        ]

        moved_back : (known mine waits rest : List PlacedWord) (one : PlacedWord) → Contains (mine ++ ((known ++ waits) ++ rest)) one → Contains (known ++ ((mine ++ waits) ++ rest)) one
        moved_back known mine waits rest one among = elim (Contains-append_cases mine ((known ++ waits) ++ rest) one among) [
          | inl here ↦ Contains-append_right known ((mine ++ waits) ++ rest) one (Contains-append_left (mine ++ waits) rest one (Contains-append_left mine waits one here))
          | inr later ↦ elim (Contains-append_cases (known ++ waits) rest one later) [
            | inr last ↦ Contains-append_right known ((mine ++ waits) ++ rest) one (Contains-append_right (mine ++ waits) rest one last)
            | inl own ↦ elim (Contains-append_cases known waits one own) [
              | inl first ↦ Contains-append_left known ((mine ++ waits) ++ rest) one first
              | inr second ↦ Contains-append_right known ((mine ++ waits) ++ rest) one (Contains-append_left (mine ++ waits) rest one (Contains-append_right mine waits one second))
            ]
          ]
        ]

-- ---- closed

-- the words of the orders that waited are put in, one after the other
pub part_closed : (codes : List ℕ) (S : List Entry) (all : List PlacedWord) (image : List (Option ℕ)) (waiting : List Waiting) → OneWord all → length image ≡ 4096 → All (λ w. w.place < 4096) waiting
    → IsPartOf all (closed_words codes S waiting) image → IsPartOf all [] (closed_into codes S image waiting)
part_closed codes S all image [] once whole within so = so
part_closed codes S all image (first ∷ waiting) once whole within so =
    let one = closed_word codes S first in
    let small : first.place < 4096 = All-head (λ w. w.place < 4096) first waiting within in
    part_closed codes S all (with_word image one.place one.word) waiting once (length-with_word image one.place one.word ∙ whole) (All-tail (λ w. w.place < 4096) first waiting within)
    (part_fill all (closed_words codes S waiting) image one.place one.word once (rw whole small) so)

pub half_made_closed : (codes : List ℕ) (S : List Entry) (cards before : List Card) (image : List (Option ℕ)) (waiting : List Waiting) → HalfMade codes S cards before [] image waiting None → closing_fault S waiting ≡ None
    → length image ≡ 4096 → All (λ w. w.place < 4096) waiting → IsImage (closed_into codes S image waiting) → IsImageOf (placed_words (definitions codes S cards)) (closed_into codes S image waiting)
unfolding first_fault definitions_after
half_made_closed codes S cards before image waiting so none whole within is =
    let faultless : first_fault (word_fault S) [] cards ≡ None = so.fault ∙ rw none refl in
    let all = placed_words (definitions codes S cards) in
    let part = rw (append-nil (closed_words codes S waiting)) at (so.part faultless) in
    part_all all (closed_into codes S image waiting) is (part_closed codes S all image waiting (one_word_along codes S [] cards faultless) whole within part)

pub half_made_end : (codes : List ℕ) (S : List Entry) (cards before : List Card) (image : List (Option ℕ)) (waiting : List Waiting) (met : Option (ℕ × WordFault)) → HalfMade codes S cards before [] image waiting met
    → first_fault (word_fault S) [] cards ≡ option_or (closing_fault S waiting) met
unfolding first_fault
half_made_end codes S cards before image waiting met so = so.fault ∙ ap (option_or (closing_fault S waiting)) (or_none met)
  where
    or_none : (met : Option (ℕ × WordFault)) → option_or met None ≡ met
    or_none None = refl
    or_none (Some fault) = refl
