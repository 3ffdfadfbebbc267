-- What a sum of terms comes to, by the values of the terms. The crates above cite `sum_none` and `unknown_none`, behind the law
-- `sums_are_of_the_terms_values`.
use Rattle.std.proofs.Common.{◌≡◌, ◌≢◌, ℕ, Bool, List, [], ◌∷◌, Option, Some, None, refl, sym, ap, ◌∙◌, ◌⊎◌, inl, inr, arith}
use Rattle.std.specs.Prelude.{ℤ, option_map}
use Rattle.std.specs.List.{Contains}
use Rattle.ags_card.specs.declared.terms.Term.{Term}
use Rattle.ags_card.specs.declared.terms.Atom.{Atom}
use Rattle.ags_card.specs.declared.terms.Atom.TheVariants.{Number, Here, Symbol}
use Rattle.ags_symbol.specs.Symbol.{Entry, found, atom_value, signed, term_value, plus, sum_of, IsSizeOf, IsValueOf, AreValuesOf, total, NamesUnknown}
use Rattle.ags_symbol.proofs.FoundLemmas.{Contains-cons, Contains-first, Contains-later, found_some, found_none}

-- ---- a symbol without a pair

-- an atom without a value is a symbol, and none is found of it
atom_none : (symbols : List Entry) (here : ℕ) (minus : Bool) (atom : Atom) → option_map (signed minus) (atom_value symbols here atom) ≡ None
    → (name : List ℕ) × (atom ≡ Symbol name) × (found name symbols ≡ None)
atom_none symbols here minus (Number number) none = absurd cc
atom_none symbols here minus Here none = absurd cc
atom_none symbols here minus (Symbol name) none = (name, refl, by_found (found name symbols) none)
  where
    by_found : (pair : Option Entry) → option_map (signed minus) (option_map (λ (entry : Entry). entry.value) pair) ≡ None → pair ≡ None
    by_found None none = refl
    by_found (Some entry) none = absurd cc

plus_none : (one other : Option ℤ) → plus one other ≡ None → (one ≡ None) ⊎ (other ≡ None)
plus_none None other none = inl refl
plus_none (Some one) None none = inr refl
plus_none (Some one) (Some other) none = absurd cc

pub sum_none : (symbols : List Entry) (here : ℕ) (terms : List Term) → sum_of symbols here terms ≡ None → NamesUnknown symbols terms
sum_none symbols here [] none = absurd cc
sum_none symbols here (term ∷ terms) none = elim (plus_none (term_value symbols here term) (sum_of symbols here terms) none) [
  | inl first ↦
      let (name, is, missing) = atom_none symbols here term.minus term.atom first in
      (term, name, Contains-first term terms, is, λ entry among. found_none name symbols entry missing among)
  | inr later ↦
      let (other, name, among, is, missing) = sum_none symbols here terms later in
      (other, name, Contains-later term other terms among, is, missing)
]

-- a symbol that no pair is of isn't found
unfound : (symbols : List Entry) (name : List ℕ) → ((entry : Entry) → Contains symbols entry → entry.name ≢ name) → found name symbols ≡ None
unfound symbols name missing = by_found (found name symbols) refl
  where
    by_found : (pair : Option Entry) → found name symbols ≡ pair → found name symbols ≡ None
    by_found None is = is
    by_found (Some entry) is = let there = found_some name symbols entry is in absurd (missing entry there.0 there.1)

term_none : (symbols : List Entry) (here : ℕ) (term : Term) (name : List ℕ) → term.atom ≡ Symbol name → found name symbols ≡ None → term_value symbols here term ≡ None
term_none symbols here term name is missing =
    ap (λ (atom : Atom). option_map (signed term.minus) (atom_value symbols here atom)) is
    ∙ ap (λ (pair : Option Entry). option_map (signed term.minus) (option_map (λ (entry : Entry). entry.value) pair)) missing

later_none : (one : Option ℤ) → plus one None ≡ None
later_none None = refl
later_none (Some one) = refl

pub unknown_none : (symbols : List Entry) (here : ℕ) (terms : List Term) → NamesUnknown symbols terms → sum_of symbols here terms ≡ None
unknown_none symbols here [] (term, name, among, is, missing) = absurd (omega (arith, among.1))
unknown_none symbols here (first ∷ terms) (term, name, among, is, missing) = elim (Contains-cons first term terms among) [
  | inl this ↦
      ap (λ (value : Option ℤ). plus value (sum_of symbols here terms))
      (ap (term_value symbols here) this ∙ term_none symbols here term name is (unfound symbols name missing))
  | inr later ↦
      ap (plus (term_value symbols here first)) (unknown_none symbols here terms (term, name, later, is, missing)) ∙ later_none (term_value symbols here first)
]

-- ---- the sum of the values

size_of : (symbols : List Entry) (here : ℕ) (atom : Atom) (size : ℤ) → IsSizeOf symbols here atom size → atom_value symbols here atom ≡ Some size
size_of symbols here (Number number) size is = ap Some (sym is)
size_of symbols here Here size is = ap Some (sym is)
size_of symbols here (Symbol name) size (entry, is, value) = ap (option_map (λ (entry : Entry). entry.value)) is ∙ ap Some (sym value)

value_of : (symbols : List Entry) (here : ℕ) (term : Term) (value : ℤ) → IsValueOf symbols here term value → term_value symbols here term ≡ Some value
value_of symbols here term value (size, is, value_is) = ap (option_map (signed term.minus)) (size_of symbols here term.atom size is) ∙ ap Some (sym value_is)

pub values_sum : (symbols : List Entry) (here : ℕ) (terms : List Term) (values : List ℤ) → AreValuesOf symbols here terms values → sum_of symbols here terms ≡ Some (total values)
values_sum symbols here [] [] are = refl
values_sum symbols here [] (value ∷ values) are = absurd are
values_sum symbols here (term ∷ terms) [] are = absurd are
values_sum symbols here (term ∷ terms) (value ∷ values) are = rw (value_of symbols here term value are.0, values_sum symbols here terms values are.1) refl
