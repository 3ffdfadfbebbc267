-- In a source without a fault no card has a word where an earlier one has one. The crates above cite `each_place_once`,
-- behind the law `source_defines_each_place_once`.
use Rattle.std.proofs.Common.{◌≡◌, ◌≢◌, ℕ, zero, suc, ◌+◌, ◌<◌, ◌≤◌, Bool, true, false, cond, List, [], ◌∷◌, ◌++◌, length, get_or, Option, Some, None, option_map, refl, sym, ap, subst, ◌∙◌, arith, inl, inr}
use Rattle.std.specs.Prelude.{All}
use Rattle.std.specs.List.{Contains, AllPairs}
use Rattle.std.proofs.lemmas.Bool.{true≢false, le-leb, lt-ltb}
use Rattle.std.proofs.lemmas.List.Elements.{All-append, Contains-append_cases, Contains-get_or}
use Rattle.std.proofs.lemmas.List.{length-map}
use Rattle.std.proofs.lemmas.List.Kept.{AllPairs-cons}
use Rattle.ags_text.specs.Fault.{first_fault}
use Rattle.ags_image.specs.Image.{PlacedWord, EachPlaceOnce}
use Rattle.ags_card.specs.declared.cards.Body.{Body}
use Rattle.ags_card.specs.declared.cards.Body.TheVariants.{Comment, Order, Org, Equ, Bss, Bes, Dec, Oct, End}
use Rattle.ags_card.specs.declared.cards.Card.{Card}
use Rattle.ags_symbol.specs.Symbol.{Entry}
use Rattle.ags_symbol.proofs.FoundLemmas.{Contains-cons, Contains-first, Contains-later}
use Rattle.ags_places.specs.declared.source_error.WordFault.{WordFault}
use Rattle.ags_places.specs.declared.source_error.WordFault.TheVariants.{PlaceTwice}
use Rattle.ags_places.specs.declared.source_error.SourceKind.TheVariants as kind
use Rattle.ags_places.specs.Deck.{cards}
use Rattle.ags_places.specs.Fault.{early_fault, first_card_fault, first_place_fault, told_as}
use Rattle.ags_places.specs.Place.{count, place}
use Rattle.ags_places.proofs.FirstLemmas.{both_none, early_faultless, none_later, none_told}
use Rattle.ags_asm.specs.Source.{Defines, placed_words, source_fault}
use Rattle.ags_asm.specs.Word.{CardWords, definition, definitions, definitions_after, first_word_fault, is_among, owner, placed_from, taken, taken_from, word_fault, word_fault_at, word_of_decimal, words_at}

-- ---- words at places

pub in_from : (at : ℕ) (words : List ℕ) (one : PlacedWord) → Contains (placed_from at words) one → (i : ℕ) × (i < length words) × (one.place ≡ at + i) × (one.word ≡ get_or words i 0)
in_from at [] one among = absurd (omega (arith, among.1))
in_from at (word ∷ words) one among = elim (Contains-cons (record { place = at; word = word }) one (placed_from (at + 1) words) among) [
  | inl this ↦ (0, omega arith, ap (λ (p : PlacedWord). p.place) (sym this) ∙ omega arith, ap (λ (p : PlacedWord). p.word) (sym this))
  | inr later ↦ let rest = in_from (at + 1) words one later in (suc rest.0, omega (arith, rest.1), omega (arith, rest.2), rest.3)
]

same_from : (at : ℕ) (words : List ℕ) (one other : PlacedWord) → Contains (placed_from at words) one → Contains (placed_from at words) other → one.place ≡ other.place → one.word ≡ other.word
same_from at words one other this that same =
    let a = in_from at words one this in
    let b = in_from at words other that in
    let index : a.0 ≡ b.0 = omega (arith, a.2, b.2, same) in
    a.3 ∙ ap (λ (i : ℕ). get_or words i 0) index ∙ sym b.3

pub words_counted : (codes : List ℕ) (S : List Entry) (at : ℕ) (body : Body) → length (words_at codes S at body) ≡ count body
words_counted codes S at Comment = refl
words_counted codes S at (Order order terms indexed) = refl
words_counted codes S at (Org terms) = refl
words_counted codes S at (Equ terms) = refl
words_counted codes S at (Bss terms) = refl
words_counted codes S at (Bes terms) = refl
words_counted codes S at (Dec numbers) = length-map numbers word_of_decimal
words_counted codes S at (Oct words) = refl
words_counted codes S at End = refl

-- ---- no place has two words in a source without a fault of the phase of words

-- a source without a fault has none of any phase
pub source_faultless : (S : List Entry) (text : List ℕ) → source_fault S text ≡ None → (first_card_fault text ≡ None) × (first_place_fault S text ≡ None) × (first_word_fault S text ≡ None)
source_faultless S text none =
    let (early, word) = both_none (early_fault S text) (told_as kind.Word (first_word_fault S text)) none in
    let (misread, misplaced) = early_faultless text S early in
    (misread, misplaced, none_told kind.Word (first_word_fault S text) word)

not_taken : (owned : Option ℕ) → ◌≡◌ {A = Option WordFault} (option_map PlaceTwice owned) None → owned ≡ None
not_taken None none = refl
not_taken (Some number) none = absurd cc

-- none of the places is owned
pub unowned_from : (owned : ℕ → Option ℕ) (at many : ℕ) (i : ℕ) → taken_from owned at many ≡ None → i < many → owned (at + i) ≡ None
unowned_from owned at zero i none within = absurd (omega (arith, within))
unowned_from owned at (suc many) zero none within =
    let here = not_taken (owned at) (both_none (option_map PlaceTwice (owned at)) (taken_from owned (at + 1) many) none).0 in
    let same : at + 0 ≡ at = omega arith in
    rw same here
unowned_from owned at (suc many) (suc i) none within =
    let later = unowned_from owned (at + 1) many i (both_none (option_map PlaceTwice (owned at)) (taken_from owned (at + 1) many) none).1 (omega arith) in
    let same : at + suc i ≡ at + 1 + i = omega arith in
    rw same later

pub among_so : (q at many : ℕ) → at ≤ q → q < at + many → is_among q at many ≡ true
among_so q at many from below = rw (le-leb at q from, lt-ltb q (at + many) below) refl

pub not_here : (here : Bool) (n : ℕ) (later : Option ℕ) → cond here (Some n) later ≡ None → (here ≡ false) × (later ≡ None)
not_here true n later none = absurd cc
not_here false n later none = (refl, none)

-- the words of cards are at places that no card before them owns
pub unowned : (codes : List ℕ) (S : List Entry) (before cards : List Card) (one : PlacedWord) → first_fault (word_fault S) before cards ≡ None
    → Contains (placed_words (definitions_after codes S before cards)) one → owner S one.place before ≡ None
unfolding first_fault definitions_after owner
unowned codes S before [] one none among = absurd (omega (arith, among.1))
unowned codes S before (card ∷ cards) one none among =
    let parts = none_later (length before + 1) (word_fault S before card) (first_fault (word_fault S) (card ∷ before) cards) none in
    let at = place S before in
    elim (Contains-append_cases (definition codes S before card) (placed_words (definitions_after codes S (card ∷ before) cards)) one among) [
      | inl here ↦
          let so = in_from at (words_at codes S at card.body) one here in
          let free = (both_none (word_fault_at S at card.body) (taken S before card) parts.0).1 in
          subst (λ (q : ℕ). owner S q before ≡ None) (sym so.2) (unowned_from (λ (q : ℕ). owner S q before) at (count card.body) so.0 free (rw (← words_counted codes S at card.body) so.1))
      | inr later ↦ (not_here (is_among one.place at (count card.body)) (length before + 1) (owner S one.place before) (unowned codes S (card ∷ before) cards one parts.1 later)).1
    ]

-- of one place there is one word
abbrev pub OneWord : List PlacedWord → Type 0
OneWord all = (one other : PlacedWord) → Contains all one → Contains all other → one.place ≡ other.place → one.word ≡ other.word

-- a card's own place is owned after it
pub held : (codes : List ℕ) (S : List Entry) (before : List Card) (card : Card) (one : PlacedWord) → Contains (definition codes S before card) one → owner S one.place (card ∷ before) ≡ None → ⊥
unfolding owner
held codes S before card one here none =
    let at = place S before in
    let so = in_from at (words_at codes S at card.body) one here in
    let few = words_counted codes S at card.body in
    let this : is_among one.place at (count card.body) ≡ true = among_so one.place at (count card.body) (omega (arith, so.2)) (omega (arith, so.2, so.1, few)) in
    true≢false (sym this ∙ (not_here (is_among one.place at (count card.body)) (length before + 1) (owner S one.place before) none).0)

pub one_word_along : (codes : List ℕ) (S : List Entry) (before cards : List Card) → first_fault (word_fault S) before cards ≡ None → OneWord (placed_words (definitions_after codes S before cards))
unfolding first_fault definitions_after
one_word_along codes S before [] none one other this that same = absurd (omega (arith, this.1))
one_word_along codes S before (card ∷ cards) none one other this that same =
    let parts = none_later (length before + 1) (word_fault S before card) (first_fault (word_fault S) (card ∷ before) cards) none in
    let at = place S before in
    let mine = definition codes S before card in
    let rest = placed_words (definitions_after codes S (card ∷ before) cards) in
    elim (Contains-append_cases mine rest one this) [
      | inl here ↦ elim (Contains-append_cases mine rest other that) [
        | inl there ↦ same_from at (words_at codes S at card.body) one other here there same
        | inr later ↦ absurd (held codes S before card one here (subst (λ (q : ℕ). owner S q (card ∷ before) ≡ None) (sym same) (unowned codes S (card ∷ before) cards other parts.1 later)))
      ]
      | inr later ↦ elim (Contains-append_cases mine rest other that) [
        | inl here ↦ absurd (held codes S before card other here (subst (λ (q : ℕ). owner S q (card ∷ before) ≡ None) same (unowned codes S (card ∷ before) cards one parts.1 later)))
        | inr there ↦ one_word_along codes S (card ∷ before) cards parts.1 one other later there same
      ]
    ]

-- ---- so each place comes once

behind : {X : Type 0} (R : X → X → Type 0) (x : X) (xs : List X) → AllPairs R (x ∷ xs) → AllPairs R xs
behind R x xs pairs = λ i j d first within. pairs (suc i) (suc j) d (omega arith) (omega arith)

of_first : {X : Type 0} (R : X → X → Type 0) (x : X) (xs : List X) → AllPairs R (x ∷ xs) → All (R x) xs
of_first R x xs pairs = λ k d within. pairs 0 (suc k) d (omega arith) (omega (arith, within))

joined : {X : Type 0} (R : X → X → Type 0) (xs ys : List X) → AllPairs R xs → AllPairs R ys → ((x y : X) → Contains xs x → Contains ys y → R x y) → AllPairs R (xs ++ ys)
joined R [] ys one other across = other
joined R (x ∷ xs) ys one other across =
    AllPairs-cons R x (xs ++ ys) (All-append (R x) xs ys (of_first R x xs one) (λ k d within. across x (get_or ys k d) (Contains-first x xs) (Contains-get_or ys k d within)))
    (joined R xs ys (behind R x xs one) other (λ a b here there. across a b (Contains-later x a xs here) there))

from_once : (at : ℕ) (words : List ℕ) → EachPlaceOnce (placed_from at words)
from_once at [] = λ i j d first within. absurd (omega (arith, first, within))
from_once at (word ∷ words) =
    let one : PlacedWord = record { place = at; word = word } in
    AllPairs-cons (λ (p q : PlacedWord). p.place ≢ q.place) one (placed_from (at + 1) words)
    (λ k d within.
    let so = in_from (at + 1) words (get_or (placed_from (at + 1) words) k d) (Contains-get_or (placed_from (at + 1) words) k d within) in
    λ same. omega (arith, so.2, same))
    (from_once (at + 1) words)

pub once_along : (codes : List ℕ) (S : List Entry) (before cards : List Card) → first_fault (word_fault S) before cards ≡ None → EachPlaceOnce (placed_words (definitions_after codes S before cards))
unfolding first_fault definitions_after
once_along codes S before [] none = λ i j d first within. absurd (omega (arith, first, within))
once_along codes S before (card ∷ cards) none =
    let parts = none_later (length before + 1) (word_fault S before card) (first_fault (word_fault S) (card ∷ before) cards) none in
    joined (λ (p q : PlacedWord). p.place ≢ q.place) (definition codes S before card) (placed_words (definitions_after codes S (card ∷ before) cards))
    (from_once (place S before) (words_at codes S (place S before) card.body)) (once_along codes S (card ∷ before) cards parts.1)
    (λ one other here there same. held codes S before card one here (subst (λ (q : ℕ). owner S q (card ∷ before) ≡ None) (sym same) (unowned codes S (card ∷ before) cards other parts.1 there)))

pub words_once : (codes text : List ℕ) (S : List Entry) → first_word_fault S text ≡ None → EachPlaceOnce (placed_words (definitions codes S (cards text)))
words_once codes text S none = once_along codes S [] (cards text) none

pub each_place_once : (codes text : List ℕ) (defined : CardWords) → Defines codes text defined → EachPlaceOnce (placed_words defined)
each_place_once codes text defined so =
    rw so.words (words_once codes text so.symbols (source_faultless so.symbols text so.faultless).2)
