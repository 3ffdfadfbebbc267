use Rattle.std.proofs.Common.{◌≡◌, ap, sym, ◌∙◌}
use Rattle.ags_certtext.specs.Front.{form_name}
use Rattle.ags_certtext.proofs.FrontLemmas.{some_also, form_value, value_form}
use Rattle.ags_certtext.proofs.values.read_value.Goals as goal

pub returns-clause-found : goal.returns-clause-found
returns-clause-found c =
    some_also c.read_form.result
    (λ front is. form_value c.in_ok-form.form c.args.text.now front.0 front.1.now (c.in_ok-form.ensures.found ∙ c.split_field.ensures.field) (rw (← c.split_field.ensures.behind) is))
    c.read_form.ensures.found

pub returns-clause-only : goal.returns-clause-only
returns-clause-only c = λ value rest is ends.
    let form = value_form c.args.text.now value rest is in
    let one = c.in_ok-form.ensures.only form.its (form.named ∙ sym c.split_field.ensures.field) in
    let same : c.in_ok-form.form ≡ form.its = cc in
    c.read_form.ensures.only value rest (rw (same, c.split_field.ensures.behind) form.is)
    (λ listed. ends (sym (c.in_ok-form.ensures.found ∙ c.split_field.ensures.field) ∙ ap form_name listed))

pub returns-in_err-form-clause-only : goal.returns-in_err-form-clause-only
returns-in_err-form-clause-only c = λ value rest is ends.
    let form = value_form c.args.text.now value rest is in
    let none = c.in_err-form.ensures.only form.its (form.named ∙ sym c.split_field.ensures.field) in
    absurd (cc)
