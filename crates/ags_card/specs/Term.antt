-- The terms of an expression: how many they may be, and how large their numbers.
use Rattle.std.specs.Prelude.{◌<◌, ◌≤◌, false, List, [], ◌∷◌, length, All}
use Rattle.ags_card.specs.declared.terms.Atom.{Atom}
use Rattle.ags_card.specs.declared.terms.Atom.TheVariants.{Number, Here, Symbol}
use Rattle.ags_card.specs.declared.terms.Term.{Term}

-- a number is one that six decimal digits can write; what is no number is not bounded
abbrev pub HasSmallNumber : Atom → Type 0
HasSmallNumber (Number number) = number ≤ 999999
HasSmallNumber Here = Unit {0}
HasSmallNumber (Symbol name) = Unit {0}

-- one term or more, 64 at most, and each number at most 999,999
pub record AreTerms (terms : List Term) : Type 0 where
  pub some : 0 < length terms
  pub most : length terms ≤ 64
  pub small : All (λ term. HasSmallNumber term.atom) terms

-- the one term 0
abbrev pub zero_terms : List Term
zero_terms = record { minus = false; atom = Number 0 } ∷ []
