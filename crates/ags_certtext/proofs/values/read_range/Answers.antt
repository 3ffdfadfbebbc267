use Rattle.std.proofs.Common.{◌≡◌, ℤ, rules, sym, ◌∙◌}
use Rattle.std.specs.Prelude.{None, Some}
use Rattle.ags_certtext.specs.Front.{IsValueBetween}
use Rattle.ags_certtext.proofs.values.read_range.Goals as goal

none_is : {a : ℤ} → None ≡ Some a → ⊥
none_is same = absurd (cc)

some_is : {a b : ℤ} → Some a ≡ Some b → a ≡ b
some_is same = cc

pub returns-in_err-least-clause-only : goal.returns-in_err-least-clause-only
returns-in_err-least-clause-only c = λ value rest is. absurd (none_is (c.in_err-least.ensures.only is.least (rw c.split_field.ensures.field is.least_is)))

pub returns-in_err-greatest-clause-only : goal.returns-in_err-greatest-clause-only
returns-in_err-greatest-clause-only c = λ value rest is.
    absurd (none_is (c.in_err-greatest.ensures.only is.greatest (rw (c.split_field-2.ensures.field, c.split_field.ensures.behind) is.greatest_is)))

pub returns-clause-found : goal.returns-clause-found
returns-clause-found c = record {
  least = c.in_ok-least.least;
  greatest = c.in_ok-greatest.greatest;
  least_is = rw (← c.split_field.ensures.field) c.in_ok-least.ensures.found;
  greatest_is = rw (← c.split_field.ensures.behind, ← c.split_field-2.ensures.field) c.in_ok-greatest.ensures.found;
  value_is = search rules;
  rest_is = rw (← c.split_field.ensures.behind) (sym c.split_field-2.ensures.behind);
}

pub returns-clause-only : goal.returns-clause-only
returns-clause-only c = λ value rest is.
    let least = some_is (c.in_ok-least.ensures.only is.least (rw c.split_field.ensures.field is.least_is)) in
    let greatest = some_is (c.in_ok-greatest.ensures.only is.greatest (rw (c.split_field-2.ensures.field, c.split_field.ensures.behind) is.greatest_is)) in
    let between : IsValueBetween c.in_ok-least.least c.in_ok-greatest.greatest value = rw (least, greatest) is.value_is in
    (search rules, c.split_field-2.ensures.behind ∙ rw c.split_field.ensures.behind is.rest_is)
