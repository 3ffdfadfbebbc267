use Rattle.ags_certtype.proofs.certs.Cert.is_made_of.Goals as goal

pub returns-clause-yes : goal.returns-clause-yes
returns-clause-yes c = let sizes = c.are_sizes_right.ensures.0 c.if-not-are_sizes_right.false in λ yes. record {
  limits = c.every-every.ensures.whole;
  entries = sizes.1.0;
  certificate = record {
    start = sizes.0;
    init = (rw c.as_slice-2.ensures.value at c.are_firsts_within.ensures).0 c.if-not-are_firsts_within.false;
    cells = (rw c.as_slice-3.ensures.value at c.are_rows_within.ensures).0 yes;
    some_row = sizes.1.1.0;
  };
  few_rows = sizes.1.1.1;
  few_at_one = (rw c.as_slice.ensures.value at c.in_ok-are_few_at_each.ensures).0 c.if-not-branch.false;
}
