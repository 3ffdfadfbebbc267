-- What is found of a symbol among pairs. The crates above cite `found_some` and `found_none`, which stand behind the law
-- `pairs_are_found_by_name`, and of elements of lists `Contains-cons`, `Contains-first` and `Contains-later`.
use Rattle.std.proofs.Common.{◌≡◌, ◌≢◌, ◌⊎◌, ℕ, suc, Bool, true, false, cond, List, [], ◌∷◌, get_or, Some, None, refl, sym, ap, subst, ◌∙◌, inl, inr, arith, nat_eq}
use Rattle.std.specs.Cmp.Lexicographic.{pointwise, same_text, other_text}
use Rattle.std.specs.List.{Contains, AllPairs}
use Rattle.std.proofs.lemmas.List.Elements.{Contains-push, Contains-append_left, Contains-append_right, Contains-append_cases, Contains-push_cases}
use Rattle.ags_symbol.specs.Symbol.{Entry, EachNameOnce, names, found}

-- an element is the first one, or is among the others
pub Contains-cons : {X : Type 0} (x y : X) (xs : List X) → Contains (x ∷ xs) y → (x ≡ y) ⊎ Contains xs y
Contains-cons x y xs is = elim (Contains-append_cases (x ∷ []) xs y is) [
  | inr later ↦ inr later
  | inl here ↦ elim (Contains-push_cases [] x y here) [
    | inl nothing ↦ absurd (omega (arith, nothing.1))
    | inr same ↦ inl same
  ]
]

pub Contains-first : {X : Type 0} (x : X) (xs : List X) → Contains (x ∷ xs) x
Contains-first x xs = Contains-append_left (x ∷ []) xs x (Contains-push [] x)

pub Contains-later : {X : Type 0} (x y : X) (xs : List X) → Contains xs y → Contains (x ∷ xs) y
Contains-later x y xs is = Contains-append_right (x ∷ []) xs y is

-- ---- found

some_step : (name : List ℕ) (first entry : Entry) (symbols : List Entry) (b : Bool) → b ≡ pointwise nat_eq name first.name
    → (found name symbols ≡ Some entry → Contains symbols entry × (entry.name ≡ name))
    → cond b (Some first) (found name symbols) ≡ Some entry → Contains (first ∷ symbols) entry × (entry.name ≡ name)
some_step name first entry symbols true same later is =
    let this : first ≡ entry = cc in
    rw (← this) (Contains-first first symbols, sym (same_text name first.name same))
some_step name first entry symbols false other later is =
    let rest = later is in
    (Contains-later first entry symbols rest.0, rest.1)

pub found_some : (name : List ℕ) (symbols : List Entry) (entry : Entry) → found name symbols ≡ Some entry → Contains symbols entry × (entry.name ≡ name)
found_some name [] entry is = absurd cc
found_some name (first ∷ symbols) entry is = some_step name first entry symbols (pointwise nat_eq name first.name) refl (found_some name symbols entry) is

none_step : (name : List ℕ) (first entry : Entry) (symbols : List Entry) (b : Bool) → b ≡ pointwise nat_eq name first.name
    → (found name symbols ≡ None → Contains symbols entry → entry.name ≢ name)
    → cond b (Some first) (found name symbols) ≡ None → Contains (first ∷ symbols) entry → entry.name ≢ name
none_step name first entry symbols true same later is among = absurd cc
none_step name first entry symbols false other later is among = elim (Contains-cons first entry symbols among) [
  | inl this ↦ λ e. other_text name first.name other (sym e ∙ ap (λ (one : Entry). one.name) (sym this))
  | inr rest ↦ later is rest
]

pub found_none : (name : List ℕ) (symbols : List Entry) (entry : Entry) → found name symbols ≡ None → Contains symbols entry → entry.name ≢ name
found_none name [] entry is among = λ e. omega (arith, among.1)
found_none name (first ∷ symbols) entry is among = none_step name first entry symbols (pointwise nat_eq name first.name) refl (found_none name symbols entry) is among

-- ---- each symbol once

pairs_behind : {X : Type 0} (R : X → X → Type 0) (x : X) (xs : List X) → AllPairs R (x ∷ xs) → AllPairs R xs
pairs_behind R x xs pairs = λ i j d first within. pairs (suc i) (suc j) d (omega arith) (omega arith)

pair_of_first : {X : Type 0} (R : X → X → Type 0) (x y : X) (xs : List X) → AllPairs R (x ∷ xs) → Contains xs y → R x y
pair_of_first R x y xs pairs among =
    let here : R x (get_or xs among.0 y) = pairs 0 (suc among.0) y (omega arith) (omega (arith, among.1)) in
    subst (R x) among.2 here

name_among : (symbols : List Entry) (entry : Entry) → Contains symbols entry → Contains (names symbols) entry.name
name_among [] entry among = absurd (omega (arith, among.1))
name_among (first ∷ symbols) entry among = elim (Contains-cons first entry symbols among) [
  | inl this ↦ rw (← this) (Contains-first first.name (names symbols))
  | inr rest ↦ Contains-later first.name entry.name (names symbols) (name_among symbols entry rest)
]

only_step : (first entry : Entry) (symbols : List Entry) (b : Bool) → b ≡ pointwise nat_eq entry.name first.name → EachNameOnce (first ∷ symbols)
    → (first ≡ entry) ⊎ Contains symbols entry → (Contains symbols entry → found entry.name symbols ≡ Some entry) → cond b (Some first) (found entry.name symbols) ≡ Some entry
only_step first entry symbols true same once (inl this) later = ap (λ (one : Entry). Some one) this
only_step first entry symbols true same once (inr rest) later =
    absurd (pair_of_first (λ one other. one ≢ other) first.name entry.name (names symbols) once (name_among symbols entry rest) (sym (same_text entry.name first.name same)))
only_step first entry symbols false other once (inl this) later = absurd (other_text entry.name first.name other (ap (λ (one : Entry). one.name) (sym this)))
only_step first entry symbols false other once (inr rest) later = later rest

pub found_only : (symbols : List Entry) (entry : Entry) → EachNameOnce symbols → Contains symbols entry → found entry.name symbols ≡ Some entry
found_only [] entry once among = absurd (omega (arith, among.1))
found_only (first ∷ symbols) entry once among =
    only_step first entry symbols (pointwise nat_eq entry.name first.name) refl once (Contains-cons first entry symbols among)
    (found_only symbols entry (pairs_behind (λ one other. one ≢ other) first.name (names symbols) once))
