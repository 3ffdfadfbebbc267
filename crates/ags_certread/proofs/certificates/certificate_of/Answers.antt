use Rattle.std.proofs.Common.{◌≡◌, subst, sym}
use Rattle.std.specs.Result.{IfOk}
use Rattle.ags_certtype.specs.Cert.{IsCert, Stated}
use Rattle.ags_certread.specs.Gathering.{gathering_of}
use Rattle.ags_certread.proofs.FinishLemmas.{cert_made, made_is}
use Rattle.ags_certread.proofs.certificates.certificate_of.Goals as goal

pub made_of-requires : goal.made_of-requires
made_of-requires c = subst (λ (made : Stated). IsCert made) (sym c.into_parts.ensures)
    (cert_made (gathering_of c.args.gatherer) c.in_ok-limits.limits c.requires c.in_ok-limits.ensures)

pub returns : goal.returns
returns c = made_is (gathering_of c.args.gatherer) c.in_ok-limits.limits c.made_of.result c.requires c.in_ok-limits.ensures
    (subst (λ (made : Stated). IfOk c.made_of.result (λ cert. cert ≡ made)) c.into_parts.ensures c.made_of.ensures)
