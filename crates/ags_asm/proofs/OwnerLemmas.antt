-- The owner of a place is the nearest earlier card that has a word there.
use Rattle.std.proofs.Common.{◌≡◌, ℕ, ◌+◌, ◌-◌, ◌<◌, ◌≤◌, Bool, true, false, cond, List, [], ◌∷◌, ◌++◌, length, Option, Some, None, refl, sym, ap, subst, ◌∙◌, ◌⊎◌, inl, inr, arith, length-append, reverse, append_assoc, append-nil}
use Rattle.std.proofs.lemmas.Bool.{true≢false, and_parts, cases_lt, leb-true, ltb-true}
use mathlib.Core.List.{reverse-cons}
use Rattle.std.proofs.lemmas.List.{reverse-append, reverse-reverse}
use Rattle.ags_text.specs.Fault.{first_fault}
use Rattle.ags_text.proofs.FaultLemmas.{faultless}
use Rattle.ags_card.specs.declared.cards.Card.{Card}
use Rattle.ags_symbol.specs.Symbol.{Entry}
use Rattle.ags_places.specs.Place.{count, place}
use Rattle.ags_places.proofs.FirstLemmas.{both_none}
use Rattle.ags_asm.specs.Faulty.{HasWordAt, StandsBefore, StandsNearest}
use Rattle.ags_asm.specs.Word.{is_among, owner, taken, word_fault, word_fault_at}
use Rattle.ags_asm.proofs.ApartLemmas.{among_so, unowned_from}

-- ---- a card that has a word there

tested_has : (S : List Entry) (before : List Card) (card : Card) (at : ℕ) → is_among at (place S before) (count card.body) ≡ true → HasWordAt S before card at
tested_has S before card at test =
    let parts = and_parts _ _ test in
    (leb-true (place S before) at parts.0, ltb-true at (place S before + count card.body) parts.1)

has_tested : (S : List Entry) (before : List Card) (card : Card) (at : ℕ) → HasWordAt S before card at → is_among at (place S before) (count card.body) ≡ true
has_tested S before card at has = among_so at (place S before) (count card.body) has.0 has.1

-- where it has a word and no place of it is taken, no earlier one owns the place
pub unowned_here : (S : List Entry) (before : List Card) (card : Card) (at : ℕ) → taken S before card ≡ None → HasWordAt S before card at → owner S at before ≡ None
unowned_here S before card at none has =
    let within : at - place S before < count card.body = omega (arith, has.0, has.1) in
    let same : place S before + (at - place S before) ≡ at = omega (arith, has.0) in
    subst (λ (q : ℕ). owner S q before ≡ None) same (unowned_from (λ q. owner S q before) (place S before) (count card.body) (at - place S before) none within)

stands_further : (S : List Entry) (card : Card) (before : List Card) (number at : ℕ) → StandsBefore S before number at → StandsBefore S (card ∷ before) number at
stands_further S card before number at (one, earlier, (later, whole, number_is), stands) =
    (one, earlier, (card ∷ later, ap (λ (cs : List Card). card ∷ cs) whole, number_is), stands)

-- it is the nearest card, or one after that
stands_cases : (S : List Entry) (card : Card) (before : List Card) (number at : ℕ) → StandsBefore S (card ∷ before) number at
    → ((number ≡ length before + 1) × HasWordAt S before card at) ⊎ StandsBefore S before number at
stands_cases S card before number at (one, earlier, ([], whole, number_is), stands) =
    let this : card ≡ one = cc in
    let rest : before ≡ earlier = cc in
    inl (
      number_is ∙ ap (λ (cs : List Card). length cs + 1) (sym rest),
      subst (λ (cs : List Card). HasWordAt S cs card at) (sym rest) (subst (λ (c : Card). HasWordAt S earlier c at) (sym this) stands),
    )
stands_cases S card before number at (one, earlier, (other ∷ later, whole, number_is), stands) =
    let rest : before ≡ later ++ one ∷ earlier = cc in
    inr (one, earlier, (later, rest, number_is), stands)

-- its number is one of theirs
stands_low : (S : List Entry) (before : List Card) (number at : ℕ) → StandsBefore S before number at → number ≤ length before
stands_low S before number at (one, earlier, (later, whole, number_is), stands) = omega (arith, number_is, ap length whole, length-append later (one ∷ earlier))

-- ---- what is told

some_step : (S : List Entry) (card : Card) (before : List Card) (number at : ℕ) (here : Bool) → is_among at (place S before) (count card.body) ≡ here
    → (owner S at before ≡ Some number → StandsBefore S before number at) → cond here (Some (length before + 1)) (owner S at before) ≡ Some number
    → StandsBefore S (card ∷ before) number at
some_step S card before number at true test later is =
    let same : length before + 1 ≡ number = cc in
    (card, before, ([], refl, sym same), tested_has S before card at test)
some_step S card before number at false test later is = stands_further S card before number at (later is)

pub owner_stands : (S : List Entry) (at : ℕ) (before : List Card) (number : ℕ) → owner S at before ≡ Some number → StandsBefore S before number at
unfolding owner
owner_stands S at [] number is = absurd cc
owner_stands S at (card ∷ before) number is =
    some_step S card before number at (is_among at (place S before) (count card.body)) refl (owner_stands S at before number) is

near_step : (S : List Entry) (card : Card) (before : List Card) (number other at : ℕ) (here : Bool) → is_among at (place S before) (count card.body) ≡ here
    → (owner S at before ≡ Some number → StandsBefore S before other at → other ≤ number) → cond here (Some (length before + 1)) (owner S at before) ≡ Some number
    → StandsBefore S (card ∷ before) other at → other ≤ number
near_step S card before number other at true test later is stands =
    let same : length before + 1 ≡ number = cc in
    omega (arith, same, stands_low S (card ∷ before) other at stands)
near_step S card before number other at false test later is stands = elim (stands_cases S card before other at stands) [
  | inl this ↦ absurd (true≢false (sym (has_tested S before card at this.1) ∙ test))
  | inr behind ↦ later is behind
]

pub owner_nearest : (S : List Entry) (at : ℕ) (before : List Card) (number other : ℕ) → owner S at before ≡ Some number → StandsBefore S before other at → other ≤ number
unfolding owner
owner_nearest S at [] number other is stands = absurd cc
owner_nearest S at (card ∷ before) number other is stands =
    near_step S card before number other at (is_among at (place S before) (count card.body)) refl (owner_nearest S at before number other) is stands

none_step : (S : List Entry) (card : Card) (before : List Card) (other at : ℕ) (here : Bool) → is_among at (place S before) (count card.body) ≡ here
    → (owner S at before ≡ None → StandsBefore S before other at → ⊥) → cond here (Some (length before + 1)) (owner S at before) ≡ None
    → StandsBefore S (card ∷ before) other at → ⊥
none_step S card before other at true test later is stands = absurd cc
none_step S card before other at false test later is stands = elim (stands_cases S card before other at stands) [
  | inl this ↦ true≢false (sym (has_tested S before card at this.1) ∙ test)
  | inr behind ↦ later is behind
]

pub owner_none : (S : List Entry) (at : ℕ) (before : List Card) → owner S at before ≡ None → (other : ℕ) → StandsBefore S before other at → ⊥
unfolding owner
owner_none S at [] is other stands = omega (arith, stands_low S [] other at stands, stands.2.2)
owner_none S at (card ∷ before) is other stands =
    none_step S card before other at (is_among at (place S before) (count card.body)) refl (λ none. owner_none S at before none other) is stands

-- ---- both ways

pub owner_of : (S : List Entry) (at : ℕ) (before : List Card) (number : ℕ) → StandsNearest S before number at → owner S at before ≡ Some number
owner_of S at before number nearest = by_owner (owner S at before) refl
  where
    by_owner : (owned : Option ℕ) → owner S at before ≡ owned → owner S at before ≡ Some number
    by_owner None is = absurd (owner_none S at before is number nearest.0)
    by_owner (Some one) is =
        let up = nearest.1 one (owner_stands S at before one is) in
        let down = owner_nearest S at before one number is nearest.0 in
        let same : one ≡ number = omega (arith, up, down) in
        is ∙ ap Some same

pub unowned : (S : List Entry) (at : ℕ) (before : List Card) → ((number : ℕ) → StandsBefore S before number at → ⊥) → owner S at before ≡ None
unowned S at before none = by_owner (owner S at before) refl
  where
    by_owner : (owned : Option ℕ) → owner S at before ≡ owned → owner S at before ≡ None
    by_owner None is = is
    by_owner (Some one) is = absurd (none one (owner_stands S at before one is))

-- ---- it is the only one, where no card has a fault of the phase of words

-- of two cards of a list the one with fewer after it stands after the other
behind_other : (later other : List Card) (card one : Card) (earlier rest : List Card) → later ++ card ∷ earlier ≡ other ++ one ∷ rest → length rest < length earlier
    → (between : List Card) × (earlier ≡ between ++ one ∷ rest)
behind_other [] [] card one earlier rest same less = let is : earlier ≡ rest = cc in absurd (omega (arith, less, ap length is))
behind_other [] (x ∷ other) card one earlier rest same less = let is : earlier ≡ other ++ one ∷ rest = cc in (other, is)
behind_other (y ∷ later) [] card one earlier rest same less =
    let is : later ++ card ∷ earlier ≡ rest = cc in
    absurd (omega (arith, less, ap length is, length-append later (card ∷ earlier)))
behind_other (y ∷ later) (x ∷ other) card one earlier rest same less =
    let is : later ++ card ∷ earlier ≡ other ++ one ∷ rest = cc in
    behind_other later other card one earlier rest is less

-- a card after earlier ones, as it stands in the list
turned : (cards later : List Card) (card : Card) (earlier : List Card) → reverse cards ≡ later ++ card ∷ earlier → cards ≡ reverse earlier ++ card ∷ reverse later
turned cards later card earlier is =
    sym (reverse-reverse cards) ∙ ap reverse is ∙ reverse-append later (card ∷ earlier) ∙ ap (λ (front : List Card). front ++ reverse later) (reverse-cons card earlier)
    ∙ append_assoc (reverse earlier) (card ∷ []) (reverse later)

module _ (S : List Entry) (cards : List Card) (at : ℕ) (none : first_fault (word_fault S) [] cards ≡ None) where
  -- what has a word at a place has no earlier card there
  none_earlier : (later : List Card) (card : Card) (earlier : List Card) → reverse cards ≡ later ++ card ∷ earlier → HasWordAt S earlier card at
      → owner S at earlier ≡ None
  none_earlier later card earlier is stands =
      let here : word_fault S (reverse (reverse earlier) ++ []) card ≡ None = faultless (word_fault S) [] cards none (reverse earlier) card (reverse later) (turned cards later card earlier is) in
      let free : word_fault S earlier card ≡ None = subst (λ (before : List Card). word_fault S before card ≡ None) (append-nil (reverse (reverse earlier)) ∙ reverse-reverse earlier) here in
      unowned_here S earlier card at (both_none (word_fault_at S (place S earlier) card.body) (taken S earlier card) free).1 stands

  not_two : (one other : ℕ) → StandsBefore S (reverse cards) one at → StandsBefore S (reverse cards) other at → one < other → ⊥
  not_two one other (card, rest, (front, whole, number_is), stands) (later_card, earlier, (later, later_whole, later_is), later_stands) less =
      let (between, is) = behind_other later front later_card card earlier rest (sym later_whole ∙ whole) (omega (arith, less, number_is, later_is)) in
      owner_none S at earlier (none_earlier later later_card earlier later_whole later_stands) one (card, rest, (between, is, number_is), stands)

  pub only_one : (one other : ℕ) → StandsBefore S (reverse cards) one at → StandsBefore S (reverse cards) other at → one ≡ other
  only_one one other is too = elim (cases_lt one other) [
    | inl before ↦ absurd (not_two one other is too before)
    | inr not_before ↦ elim (cases_lt other one) [
      | inl later ↦ absurd (not_two other one too is later)
      | inr not_later ↦ omega (arith, not_before, not_later)
    ]
  ]
