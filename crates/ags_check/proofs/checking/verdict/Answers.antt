use Rattle.std.proofs.Common.{ℕ, ◌+◌, ◌≤◌, refl, ap, ◌∙◌, inl, inr, arith}
use Rattle.std.specs.Prelude.{not}
use Rattle.ags_domain.specs.Value.{value_meaning}
use Rattle.ags_safe.specs.Accepted.{HoldsStart}
use Rattle.ags_verdict.specs.declared.verdicts.Refusal.TheVariants.{InitRange}
use Rattle.ags_certtype.specs.Cert.{certificate_of}
use Rattle.ags_check.proofs.FindingLemmas.{has_where_some, has_not_where_none}
use Rattle.ags_check.proofs.checking.verdict.Goals as goal

pub returns-in-Some-clause-verdict : goal.returns-in-Some-clause-verdict
returns-in-Some-clause-verdict g c = inl (record {
  address = c.in-Some.address;
  erasable = c.in-Some.ensures.some.erasable;
  first = c.in-Some.ensures.some.before;
  fails = c.in-Some.ensures.some.outside;
  is = ap (λ w. InitRange c.in-Some.address w) c.first_word-word.ensures;
})

pub returns-then-is_none-clause-verdict : goal.returns-then-is_none-clause-verdict
returns-then-is_none-clause-verdict g c = inr (inl (record {
  first_words = c.first_outside.ensures.none c.in_default.is;
  fails = has_not_where_none (HoldsStart value_meaning c.args.image.now (certificate_of c.args.cert.now)) c.args.cert.now.rows c.start_row.result
      c.start_row.ensures (c.is_none.ensures ∙ ap not c.if-is_none.true);
  is = refl;
}))

pub returns-in-Ok-clause-verdict : goal.returns-in-Ok-clause-verdict
returns-in-Ok-clause-verdict g c = (
  record {
    first_words = c.first_outside.ensures.none c.in_default.is;
    start = has_where_some (HoldsStart value_meaning c.args.image.now (certificate_of c.args.cert.now)) c.args.cert.now.rows c.start_row.result
        c.start_row.ensures (c.is_none.ensures ∙ ap not c.if-is_none.false);
    rows = c.in-Ok.ensures.judged;
  },
  c.number_of_rows.ensures.number,
)

pub returns-in-Err-clause-verdict : goal.returns-in-Err-clause-verdict
returns-in-Err-clause-verdict g c = inr (inr (record {
  first_words = c.first_outside.ensures.none c.in_default.is;
  start = has_where_some (HoldsStart value_meaning c.args.image.now (certificate_of c.args.cert.now)) c.args.cert.now.rows c.start_row.result
      c.start_row.ensures (c.is_none.ensures ∙ ap not c.if-is_none.false);
  rows = c.in-Err.ensures.judged;
}))

no_fewer : (steps cases : ℕ) → steps ≤ steps + cases
no_fewer steps cases = omega arith

pub first_word-word-requires : goal.first_word-word-requires
first_word-word-requires g c = c.in-Some.ensures.some.erasable

pub returns-in-Some-clause-steps : goal.returns-in-Some-clause-steps
returns-in-Some-clause-steps g c = λ cases have. no_fewer c.args.steps.now cases

pub returns-then-is_none-clause-steps : goal.returns-then-is_none-clause-steps
returns-then-is_none-clause-steps g c = λ cases have. no_fewer c.args.steps.now cases

pub returns-in-Ok-clause-steps : goal.returns-in-Ok-clause-steps
returns-in-Ok-clause-steps g c = c.judged_rows.ensures.steps

pub returns-in-Err-clause-steps : goal.returns-in-Err-clause-steps
returns-in-Err-clause-steps g c = c.judged_rows.ensures.steps
