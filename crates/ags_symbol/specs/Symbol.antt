-- What the symbols of a source stand for, and what a sum of terms comes to.
use Rattle.std.specs.Prelude.{◌≡◌, ◌≢◌, ℕ, Bool, if◌then◌else◌, List, [], ◌∷◌, Option, Some, None, option_map, map, ℤ, pos, neg_ℤ, ◌+ℤ◌, ◌≤ℤ◌, nat_eq}
use Rattle.std.specs.Cmp.Lexicographic.{pointwise}
use Rattle.std.specs.List.{AllPairs, AllZip, Contains}
use Rattle.ags_card.specs.declared.terms.Term.{Term}
use Rattle.ags_card.specs.declared.terms.Atom.{Atom}
use Rattle.ags_card.specs.declared.terms.Atom.TheVariants.{Number, Here, Symbol}
use Rattle.ags_symbol.specs.Limit.{value_limit}

-- A pair of a symbol and its value, with the number of the card that defines it.
pub record Entry : Type 0 where
  pub name : List ℕ
  pub value : ℤ
  pub card : ℕ

-- a number that a symbol may stand for
pub record IsValue (value : ℤ) : Type 0 where
  pub least : neg_ℤ value_limit ≤ℤ value
  pub most : value ≤ℤ value_limit

-- the symbols that pairs are of, in order
abbrev pub names : List Entry → List (List ℕ)
names symbols = map (λ entry. entry.name) symbols

-- no two of the pairs are of one symbol
abbrev pub EachNameOnce : List Entry → Type 0
EachNameOnce symbols = AllPairs (λ one other. one ≢ other) (names symbols)

-- whether the pair is of that symbol
abbrev pub is_of : List ℕ → Entry → Bool
is_of name entry = pointwise nat_eq name entry.name

-- the first pair of a symbol, where it has one
abbrev pub found : List ℕ → List Entry → Option Entry
found name [] = None
found name (entry ∷ symbols) = if is_of name entry then Some entry else found name symbols

-- what an atom stands for: a number for itself, an asterisk for the place, a symbol for its value, where it has one
abbrev pub atom_value : List Entry → (here : ℕ) → Atom → Option ℤ
atom_value symbols here (Number number) = Some (pos number)
atom_value symbols here Here = Some (pos here)
atom_value symbols here (Symbol name) = option_map (λ entry. entry.value) (found name symbols)

-- a value, or with a minus sign its negative
abbrev pub signed : Bool → ℤ → ℤ
signed minus value = if minus then neg_ℤ value else value

-- what a term stands for, by its sign
abbrev pub term_value : List Entry → (here : ℕ) → Term → Option ℤ
term_value symbols here term = option_map (signed term.minus) (atom_value symbols here term.atom)

-- the sum of two numbers, where both are there
abbrev pub plus : Option ℤ → Option ℤ → Option ℤ
plus None other = None
plus (Some one) None = None
plus (Some one) (Some other) = Some (one +ℤ other)

-- The sum of terms at a place, where each of their symbols has a value.
abbrev pub sum_of : List Entry → (here : ℕ) → List Term → Option ℤ
sum_of symbols here [] = Some (pos 0)
sum_of symbols here (term ∷ terms) = plus (term_value symbols here term) (sum_of symbols here terms)

-- ---- a sum in the subject's words

-- the number that an atom is: a number itself, an asterisk the place, and a symbol the value of the pair that is found of it
abbrev pub IsSizeOf : List Entry → (here : ℕ) → Atom → ℤ → Type 0
IsSizeOf symbols here (Number number) size = size ≡ pos number
IsSizeOf symbols here Here size = size ≡ pos here
IsSizeOf symbols here (Symbol name) size = (entry : Entry) × (found name symbols ≡ Some entry) × (size ≡ entry.value)

-- the value of a term: that number, and its negative where the term has a minus sign
abbrev pub IsValueOf : List Entry → (here : ℕ) → Term → ℤ → Type 0
IsValueOf symbols here term value = (size : ℤ) × IsSizeOf symbols here term.atom size × (value ≡ (if term.minus then neg_ℤ size else size))

-- the list has the value of each of the terms, in their order
abbrev pub AreValuesOf : List Entry → (here : ℕ) → List Term → List ℤ → Type 0
AreValuesOf symbols here terms values = AllZip (IsValueOf symbols here) terms values

-- the sum of numbers
abbrev pub total : List ℤ → ℤ
total [] = pos 0
total (value ∷ values) = value +ℤ total values

-- among the terms is a symbol that has no pair
abbrev pub NamesUnknown : List Entry → List Term → Type 0
NamesUnknown symbols terms = (term : Term) × (name : List ℕ) × Contains terms term × (term.atom ≡ Symbol name)
    × ((entry : Entry) → Contains symbols entry → entry.name ≢ name)
