use Rattle.std.proofs.Common.{refl, ap, ◌∙◌, inl, inr}
use Rattle.std.specs.Prelude.{not}
use Rattle.ags_domain.specs.Value.{value_meaning}
use Rattle.ags_safe.specs.Accepted.{HoldsStart}
use Rattle.ags_verdict.specs.declared.verdicts.Refusal.TheVariants.{InitRange}
use Rattle.ags_certtype.specs.Cert.{certificate_of}
use Rattle.ags_recheck.proofs.StartLemmas.{has_where_some, has_not_where_none}
use Rattle.ags_recheck.proofs.books.verdict_kept.Goals as goal

pub returns-in-Some : goal.returns-in-Some
returns-in-Some c = inl (record {
  address = c.in-Some.address;
  erasable = c.in-Some.ensures.some.erasable;
  first = c.in-Some.ensures.some.before;
  fails = c.in-Some.ensures.some.outside;
  is = ap (λ w. InitRange c.in-Some.address w) c.first_word-word.ensures;
})

pub returns-then-is_none : goal.returns-then-is_none
returns-then-is_none c = inr (inl (record {
  first_words = c.first_outside.ensures.none c.in_default.is;
  fails = has_not_where_none (HoldsStart value_meaning c.args.image.now (certificate_of c.args.cert.now)) c.args.cert.now.rows c.start_row.result
      c.start_row.ensures (c.is_none.ensures ∙ ap not c.if-is_none.true);
  is = refl;
}))

pub returns-in-Ok : goal.returns-in-Ok
returns-in-Ok c = (
  record {
    first_words = c.first_outside.ensures.none c.in_default.is;
    start = has_where_some (HoldsStart value_meaning c.args.image.now (certificate_of c.args.cert.now)) c.args.cert.now.rows c.start_row.result
        c.start_row.ensures (c.is_none.ensures ∙ ap not c.if-is_none.false);
    rows = c.in-Ok.ensures;
  },
  c.number_of_rows.ensures.number,
)

pub returns-in-Err : goal.returns-in-Err
returns-in-Err c = inr (inr (record {
  first_words = c.first_outside.ensures.none c.in_default.is;
  start = has_where_some (HoldsStart value_meaning c.args.image.now (certificate_of c.args.cert.now)) c.args.cert.now.rows c.start_row.result
      c.start_row.ensures (c.is_none.ensures ∙ ap not c.if-is_none.false);
  rows = c.in-Err.ensures;
}))
