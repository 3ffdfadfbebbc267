use Rattle.ags_certtext.proofs.values.read_form.Goals as goal

pub returns-in-Any-clause-only : goal.returns-in-Any-clause-only
returns-in-Any-clause-only c = λ value rest is ends. let form = rw c.in-Any.is at is in (c.every_word.ensures.only value form.0, form.1)
