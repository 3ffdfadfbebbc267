use Rattle.std.proofs.Common.{sym, ap, not, Bool}
use Rattle.ags_certread.proofs.CheckLemmas.{within_told}
use Rattle.ags_certread.proofs.checks.is_outside.Goals as goal

pub returns : goal.returns
returns c = rw (c.in-Some.is, c.in-Some-limit.is)
    (ap (λ (b : Bool). not b) (sym (within_told c.in-Some.value c.in-Some-limit.limit c.within.result c.within.ensures.0 c.within.ensures.1)))
