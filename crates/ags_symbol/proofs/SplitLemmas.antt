-- A sum of terms under more pairs than are known early. The crates above cite `sum_is_split` and `sum_stays`, behind the law
-- `sums_are_split`.
use Rattle.std.proofs.Common.{◌≡◌, ℕ, Bool, true, false, cond, List, [], ◌∷◌, ◌++◌, Option, Some, None, option_map, refl, ap, ℤ, ◌+ℤ◌, arith, nat_eq}
use Rattle.std.specs.Prelude.{not, is_some, ◌≤◌, length, All}
use Rattle.std.specs.List.{cons_option, filter_map}
use Rattle.std.proofs.lemmas.List.Elements.{All-filter}
use Rattle.std.proofs.lemmas.List.Sums.{length-filter, count_by-le-length}
use Rattle.ags_card.specs.Term.{AreTerms, HasSmallNumber}
use Rattle.std.specs.Cmp.Lexicographic.{pointwise}
use Rattle.std.proofs.lemmas.Int.{ints}
use Rattle.ags_card.specs.declared.terms.Term.{Term}
use Rattle.ags_card.specs.declared.terms.Atom.{Atom}
use Rattle.ags_card.specs.declared.terms.Atom.TheVariants.{Number, Here, Symbol}
use Rattle.ags_symbol.specs.Split.{known_sum, open_terms}
use Rattle.ags_symbol.specs.Symbol.{Entry, found, atom_value, term_value, signed, plus, sum_of, total}

-- ---- what is found early stays

found_step : (b : Bool) (first entry : Entry) (rest more : Option Entry) → (rest ≡ Some entry → more ≡ Some entry) → cond b (Some first) rest ≡ Some entry → cond b (Some first) more ≡ Some entry
found_step true first entry rest more later is = is
found_step false first entry rest more later is = later is

pub found_stays : (name : List ℕ) (early later : List Entry) (entry : Entry) → found name early ≡ Some entry → found name (early ++ later) ≡ Some entry
found_stays name [] later entry is = absurd cc
found_stays name (first ∷ early) later entry is =
    found_step (pointwise nat_eq name first.name) first entry (found name early) (found name (early ++ later)) (found_stays name early later entry) is

value_stays : (was now : Option Entry) (value : ℤ) → ((entry : Entry) → was ≡ Some entry → now ≡ Some entry) → option_map (λ (entry : Entry). entry.value) was ≡ Some value → option_map (λ (entry : Entry). entry.value) now ≡ Some value
value_stays None now value stays is = absurd cc
value_stays (Some entry) now value stays is = rw (stays entry refl) is

atom_stays : (early later : List Entry) (here : ℕ) (atom : Atom) (value : ℤ) → atom_value early here atom ≡ Some value → atom_value (early ++ later) here atom ≡ Some value
atom_stays early later here (Number number) value is = is
atom_stays early later here Here value is = is
atom_stays early later here (Symbol name) value is = value_stays (found name early) (found name (early ++ later)) value (found_stays name early later) is

signed_stays : (minus : Bool) (was now : Option ℤ) (value : ℤ) → ((v : ℤ) → was ≡ Some v → now ≡ Some v) → option_map (signed minus) was ≡ Some value → option_map (signed minus) now ≡ Some value
signed_stays minus None now value stays is = absurd cc
signed_stays minus (Some v) now value stays is = rw (stays v refl) is

pub term_stays : (early later : List Entry) (here : ℕ) (term : Term) (value : ℤ) → term_value early here term ≡ Some value → term_value (early ++ later) here term ≡ Some value
term_stays early later here term value is =
    signed_stays term.minus (atom_value early here term.atom) (atom_value (early ++ later) here term.atom) value (atom_stays early later here term.atom) is

-- ---- sums

known_more : (v k : ℤ) (rest : Option ℤ) → plus (Some v) (plus (Some k) rest) ≡ plus (Some (v +ℤ k)) rest
known_more v k None = refl
known_more v k (Some r) = ap (λ (n : ℤ). Some n) (omega (arith, ints))

open_more : (term : Option ℤ) (k : ℤ) (rest : Option ℤ) → plus term (plus (Some k) rest) ≡ plus (Some k) (plus term rest)
open_more None k None = refl
open_more None k (Some r) = refl
open_more (Some v) k None = refl
open_more (Some v) k (Some r) = ap (λ (n : ℤ). Some n) (omega (arith, ints))

split_step : (was now : Option ℤ) (early all : List Entry) (here : ℕ) (term : Term) (terms : List Term)
    → ((v : ℤ) → was ≡ Some v → now ≡ Some v) → now ≡ term_value all here term
    → sum_of all here terms ≡ plus (Some (known_sum early here terms)) (sum_of all here (open_terms early here terms))
    → plus now (sum_of all here terms)
    ≡ plus (Some (total (cons_option was (filter_map (λ term. term_value early here term) terms)))) (sum_of all here (cond (not (is_some was)) (term ∷ open_terms early here terms) (open_terms early here terms)))
split_step None now early all here term terms stays is rest =
    rw (rest, ← is) (open_more now (known_sum early here terms) (sum_of all here (open_terms early here terms)))
split_step (Some v) now early all here term terms stays is rest =
    rw (rest, stays v refl) (known_more v (known_sum early here terms) (sum_of all here (open_terms early here terms)))

pub sum_is_split : (early later : List Entry) (here : ℕ) (terms : List Term)
    → sum_of (early ++ later) here terms ≡ plus (Some (known_sum early here terms)) (sum_of (early ++ later) here (open_terms early here terms))
sum_is_split early later here [] = refl
sum_is_split early later here (term ∷ terms) =
    split_step (term_value early here term) (term_value (early ++ later) here term) early (early ++ later) here term terms (term_stays early later here term) refl (sum_is_split early later here terms)

stays_step : (term now rest more : Option ℤ) (value : ℤ) → ((v : ℤ) → term ≡ Some v → now ≡ Some v) → ((v : ℤ) → rest ≡ Some v → more ≡ Some v) → plus term rest ≡ Some value → plus now more ≡ Some value
stays_step None now rest more value one other is = absurd cc
stays_step (Some v) now None more value one other is = absurd cc
stays_step (Some v) now (Some r) more value one other is = rw (one v refl, other r refl) is

pub sum_stays : (early later : List Entry) (here : ℕ) (terms : List Term) (value : ℤ) → sum_of early here terms ≡ Some value → sum_of (early ++ later) here terms ≡ Some value
sum_stays early later here [] value is = is
sum_stays early later here (term ∷ terms) value is =
    stays_step (term_value early here term) (term_value (early ++ later) here term) (sum_of early here terms) (sum_of (early ++ later) here terms) value
    (term_stays early later here term) (sum_stays early later here terms) is

-- ---- how many are open, and that they are such terms

pub open_few : (symbols : List Entry) (here : ℕ) (old terms : List Term) → AreTerms terms → old ≡ [] → length (old ++ open_terms symbols here terms) ≤ 64
open_few symbols here old terms so none =
    let test = λ (term : Term). not (is_some (term_value symbols here term)) in
    let bound = count_by-le-length test terms in
    rw none (omega (arith, so.most, length-filter test terms, bound))

pub open_small : (symbols : List Entry) (here : ℕ) (old terms : List Term) → AreTerms terms → old ≡ [] → All (λ term. HasSmallNumber term.atom) (old ++ open_terms symbols here terms)
open_small symbols here old terms so none =
    rw none (All-filter (λ term. not (is_some (term_value symbols here term))) (λ term. HasSmallNumber term.atom) terms so.small)
