-- The terms of an expression that have a value under some pairs, and those that haven't.
use Rattle.std.specs.Prelude.{ℕ, List, not, is_some, ℤ}
use Rattle.std.specs.List.{filter, filter_map}
use Rattle.ags_card.specs.declared.terms.Term.{Term}
use Rattle.ags_symbol.specs.Symbol.{Entry, term_value, total}

-- the sum of the terms that have a value: their symbols have a pair
abbrev pub known_sum : List Entry → (here : ℕ) → List Term → ℤ
known_sum symbols here terms = total (filter_map (λ term. term_value symbols here term) terms)

-- the other terms, in their order
abbrev pub open_terms : List Entry → (here : ℕ) → List Term → List Term
open_terms symbols here terms = filter (λ term. not (is_some (term_value symbols here term))) terms
