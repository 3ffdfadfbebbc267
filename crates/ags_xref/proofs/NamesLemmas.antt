-- The cards that name a symbol: their numbers ascend, and are exactly those of the cards whose operand names it.
use Rattle.std.proofs.Common.{◌≡◌, ℕ, ◌+◌, ◌<◌, ◌≤◌, Bool, true, false, List, [], ◌∷◌, ◌++◌, length, refl, sym, ap, subst, ◌∙◌, ◌⊎◌, inl, inr, arith, nat_eq, All, AllPairs, true≢false}
use Rattle.std.specs.Cmp.Lexicographic.{pointwise, same_text, other_text}
use Rattle.std.specs.List.{Contains}
use Rattle.std.proofs.lemmas.List.Elements.{All-cons, Contains-append_right}
use Rattle.std.proofs.lemmas.List.Folds.{Any-from_list_any, list_any-from_Any}
use Rattle.std.proofs.lemmas.List.Kept.{AllPairs-cons}
use Rattle.ags_card.specs.declared.cards.Card.{Card}
use Rattle.ags_card.specs.declared.terms.Atom.{Atom}
use Rattle.ags_card.specs.declared.terms.Atom.TheVariants.{Number, Here, Symbol}
use Rattle.ags_card.specs.declared.terms.Term.{Term}
use Rattle.ags_symbol.proofs.FoundLemmas.{Contains-cons, Contains-first}
use Rattle.ags_xref.specs.Naming.{Names, NamesIt, card_names, is_symbol_of, naming, naming_from, number_where, operand_terms}

-- ---- whether a card names a symbol

same_name : (name : List ℕ) → pointwise nat_eq name name ≡ true
same_name name = by_test (pointwise nat_eq name name) refl
  where
    by_test : (b : Bool) → b ≡ pointwise nat_eq name name → pointwise nat_eq name name ≡ true
    by_test true is = sym is
    by_test false is = absurd (other_text name name is refl)

symbol_is : (name : List ℕ) (atom : Atom) → is_symbol_of name atom ≡ true → atom ≡ Symbol name
symbol_is name (Number number) is = absurd (true≢false (sym is))
symbol_is name Here is = absurd (true≢false (sym is))
symbol_is name (Symbol other) is = ap Symbol (sym (same_text name other (sym is)))

tested_names : (name : List ℕ) (card : Card) → card_names name card ≡ true → Names name card
tested_names name card is =
    let (k, term, within, stands, named) = Any-from_list_any (λ (term : Term). is_symbol_of name term.atom) (operand_terms card.body) is in
    (term, (k, within, stands), symbol_is name term.atom named)

names_tested : (name : List ℕ) (card : Card) → Names name card → card_names name card ≡ true
names_tested name card (term, among, is) =
    list_any-from_Any (λ (term : Term). is_symbol_of name term.atom) (operand_terms card.body)
    (among.0, term, among.1, among.2, ap (is_symbol_of name) is ∙ same_name name)

-- ---- the numbers ascend

all_where : (named : Bool) (least number : ℕ) (rest : List ℕ) → least ≤ number → All (λ n. least ≤ n) rest → All (λ n. least ≤ n) (number_where named number ++ rest)
all_where true least number rest low are = All-cons (λ n. least ≤ n) number rest low are
all_where false least number rest low are = are

from_there : (name : List ℕ) (least number : ℕ) (cards : List Card) → least ≤ number → All (λ n. least ≤ n) (naming_from name number cards)
unfolding naming_from
from_there name least number [] low = λ k d within. absurd (omega (arith, within))
from_there name least number (card ∷ cards) low =
    all_where (card_names name card) least number (naming_from name (number + 1) cards) low (from_there name least (number + 1) cards (omega (arith, low)))

pairs_where : (named : Bool) (number : ℕ) (rest : List ℕ) → All (λ n. number + 1 ≤ n) rest → AllPairs (λ one other. one < other) rest
    → AllPairs (λ one other. one < other) (number_where named number ++ rest)
pairs_where true number rest above pairs =
    AllPairs-cons (λ (one other : ℕ). one < other) number rest (λ k d within. let more = above k d within in omega (arith, more)) pairs
pairs_where false number rest above pairs = pairs

ascend_from : (name : List ℕ) (number : ℕ) (cards : List Card) → AllPairs (λ one other. one < other) (naming_from name number cards)
unfolding naming_from
ascend_from name number [] = λ i j d before within. absurd (omega (arith, within))
ascend_from name number (card ∷ cards) =
    pairs_where (card_names name card) number (naming_from name (number + 1) cards) (from_there name (number + 1) (number + 1) cards (omega arith))
    (ascend_from name (number + 1) cards)

pub naming_ascends : (cards : List Card) (name : List ℕ) → AllPairs (λ one other. one < other) (naming cards name)
naming_ascends cards name = ascend_from name 1 cards

-- ---- they are those of the cards that name it

-- so where the first card has that number
record NamesFrom (cards : List Card) (name : List ℕ) (first number : ℕ) : Type 0 where
  front : List Card
  card : Card
  behind : List Card
  whole : cards ≡ front ++ card ∷ behind
  number_is : number ≡ length front + first
  names : Names name card

names_later : (card : Card) (cards : List Card) (name : List ℕ) (first number : ℕ) → NamesFrom cards name (first + 1) number → NamesFrom (card ∷ cards) name first number
names_later card cards name first number so = record {
  front = card ∷ so.front;
  card = so.card;
  behind = so.behind;
  whole = ap (λ (cs : List Card). card ∷ cs) so.whole;
  number_is = omega (arith, so.number_is);
  names = so.names;
}

where_cases : (named : Bool) (first number : ℕ) (rest : List ℕ) → Contains (number_where named first ++ rest) number → ((named ≡ true) × (first ≡ number)) ⊎ Contains rest number
where_cases true first number rest among = elim (Contains-cons first number rest among) [
  | inl this ↦ inl (refl, this)
  | inr later ↦ inr later
]
where_cases false first number rest among = inr among

told_names : (name : List ℕ) (first : ℕ) (cards : List Card) (number : ℕ) → Contains (naming_from name first cards) number → NamesFrom cards name first number
unfolding naming_from
told_names name first [] number among = absurd (omega (arith, among.1))
told_names name first (card ∷ cards) number among =
    elim (where_cases (card_names name card) first number (naming_from name (first + 1) cards) among) [
      | inl this ↦ record {
        front = [];
        card = card;
        behind = cards;
        whole = refl;
        number_is = omega (arith, this.1);
        names = tested_names name card this.0;
      }
      | inr later ↦ names_later card cards name first number (told_names name (first + 1) cards number later)
    ]

pub naming_names : (cards : List Card) (name : List ℕ) (number : ℕ) → Contains (naming cards name) number → NamesIt cards name number
naming_names cards name number among =
    let so = told_names name 1 cards number among in
    record { front = so.front; card = so.card; behind = so.behind; whole = so.whole; number_is = so.number_is; names = so.names }

told_at : (name : List ℕ) (first : ℕ) (front : List Card) (card : Card) (behind : List Card) → card_names name card ≡ true
    → Contains (naming_from name first (front ++ card ∷ behind)) (length front + first)
unfolding naming_from
told_at name first [] card behind named =
    let at : first ≡ 0 + first = omega arith in
    rw (named, ← at) (Contains-first first (naming_from name (first + 1) behind))
told_at name first (other ∷ front) card behind named =
    let at : length front + (first + 1) ≡ length (other ∷ front) + first = omega arith in
    let there = told_at name (first + 1) front card behind named in
    Contains-append_right (number_where (card_names name other) first) (naming_from name (first + 1) (front ++ card ∷ behind)) (length (other ∷ front) + first)
    (subst (Contains (naming_from name (first + 1) (front ++ card ∷ behind))) at there)

pub names_naming : (cards : List Card) (name : List ℕ) (number : ℕ) → NamesIt cards name number → Contains (naming cards name) number
names_naming cards name number so =
    rw (so.whole, so.number_is) (told_at name 1 so.front so.card so.behind (names_tested name so.card so.names))
