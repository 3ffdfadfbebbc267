use Rattle.std.proofs.Common.{sym}
use Rattle.ags_certtype.proofs.certs.Cert.is_use_within.Goals as goal

pub returns-then-is_start_within : goal.returns-then-is_start_within
returns-then-is_start_within c = rw (sym c.self.view_is) (
  λ yes. record {
    start = (rw c.as_slice.ensures.value at c.is_start_within.ensures).0 c.if-is_start_within.true;
    rows = (rw c.as_slice-then-is_start_within.ensures.value at c.are_uses_within.ensures).0 yes;
  },
  λ used. (rw c.as_slice-then-is_start_within.ensures.value at c.are_uses_within.ensures).1 used.rows,
)
