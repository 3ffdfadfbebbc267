use Rattle.std.proofs.Common.{◌∙◌, ap, sym, Ok, Option}
use Rattle.ags_certtext.specs.declared.cert_error.CertKind.{CertKind}
use Rattle.ags_certread.proofs.gatherer.Gatherer.take_at.Goals as goal

pub returns-in-None-clause-taken : goal.returns-in-None-clause-taken
returns-in-None-clause-taken c =
    let none = ap (λ (fault : Option CertKind). Ok fault) c.in-None.is in (
      λ before stands. (sym (c.in_ok-kind.ensures.fault before stands) ∙ c.in-None.is, c.in_ok-kind.ensures.taken none before stands),
      c.in_ok-kind.ensures.version none,
    )
