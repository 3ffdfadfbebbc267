-- Which cards of a source name a symbol.
use Rattle.std.specs.Prelude.{◌≡◌, ℕ, ◌+◌, Bool, false, if◌then◌else◌, nat_eq, List, [], ◌∷◌, ◌++◌, length}
use Rattle.std.specs.Cmp.Lexicographic.{pointwise}
use Rattle.std.specs.List.{Contains, list_any}
use Rattle.ags_card.specs.declared.cards.Body.{Body}
use Rattle.ags_card.specs.declared.cards.Body.TheVariants.{Comment, Order, Org, Equ, Bss, Bes, Dec, Oct, End}
use Rattle.ags_card.specs.declared.cards.Card.{Card}
use Rattle.ags_card.specs.declared.terms.Atom.{Atom}
use Rattle.ags_card.specs.declared.terms.Atom.TheVariants.{Number, Here, Symbol}
use Rattle.ags_card.specs.declared.terms.Term.{Term}

-- the terms of a card's operand: those of an order, an ORG, an EQU or a SYN, a BSS or a BES
abbrev pub operand_terms : Body → List Term
operand_terms Comment = []
operand_terms (Order order terms indexed) = terms
operand_terms (Org terms) = terms
operand_terms (Equ terms) = terms
operand_terms (Bss terms) = terms
operand_terms (Bes terms) = terms
operand_terms (Dec numbers) = []
operand_terms (Oct words) = []
operand_terms End = []

-- whether an atom is that symbol
abbrev pub is_symbol_of : (name : List ℕ) → Atom → Bool
is_symbol_of name (Number number) = false
is_symbol_of name Here = false
is_symbol_of name (Symbol other) = pointwise nat_eq name other

-- whether one of the terms names that symbol
abbrev pub terms_name : (name : List ℕ) → List Term → Bool
terms_name name terms = list_any (λ term. is_symbol_of name term.atom) terms

-- whether a card's operand names that symbol
abbrev pub card_names : (name : List ℕ) → Card → Bool
card_names name card = terms_name name (operand_terms card.body)

-- a card's number, where the condition holds
abbrev pub number_where : Bool → ℕ → List ℕ
number_where named number = if named then number ∷ [] else []

-- the numbers of those cards whose operand names a symbol, ascending and once each, where the first card has that number
unfoldable pub naming_from : (name : List ℕ) → (number : ℕ) → List Card → List ℕ
naming_from name number [] = []
naming_from name number (card ∷ cards) = number_where (card_names name card) number ++ naming_from name (number + 1) cards

-- so of all cards of a source, which are numbered from 1
abbrev pub naming : (cards : List Card) → (name : List ℕ) → List ℕ
naming cards name = naming_from name 1 cards

-- ---- so in the subject's words

-- the symbol is a term of the card's operand
abbrev pub Names : (name : List ℕ) → Card → Type 0
Names name card = (term : Term) × Contains (operand_terms card.body) term × (term.atom ≡ Symbol name)

-- the card of that number, counted from 1, names the symbol
pub record NamesIt (cards : List Card) (name : List ℕ) (number : ℕ) : Type 0 where
  pub front : List Card
  pub card : Card
  pub behind : List Card
  pub whole : cards ≡ front ++ card ∷ behind
  pub number_is : number ≡ length front + 1
  pub names : Names name card
