use Rattle.std.proofs.Common.{◌≡◌, ℕ, ◌<◌, List, Option, None, length, get_or, sym, ◌∙◌, arith}
use Rattle.std.specs.Prelude.{unwrap_or}
use Rattle.std.proofs.lemmas.List.{get_or-map, length-map}
use Rattle.ags_times.specs.Budget.{bounds_where}
use Rattle.ags_times.proofs.GreatestLemmas.{greater}
use Rattle.ags_times.proofs.budgets.Budget.greatest.Goals as goal

pub loop-bound-preserved : goal.loop-bound-preserved
loop-bound-preserved c =
    let items : List (Option ℕ) = c.as_slice-bound-items.result.now in
    let position : ℕ = c.loop-bound.bound-index in
    let number : ℕ = c.unwrap_or.result in
    let inside : position < length items = c.loop-bound-test.true in
    let same : length (bounds_where items) ≡ length items = length-map items (λ (bound : Option ℕ). unwrap_or bound 20000) in
    let is : number ≡ get_or (bounds_where items) position number =
    c.unwrap_or.ensures ∙ sym (get_or-map (λ (bound : Option ℕ). unwrap_or bound 20000) items position None number inside) in
    greater (bounds_where items) position c.loop-bound.greatest number c.max-greatest.result (omega (arith, inside, same)) is c.max-greatest.ensures
    c.loop-bound.invariant.0 c.loop-bound.invariant.1
