use Rattle.std.proofs.Common.{◌≡◌, subst, ⊎_elim, arith}
use Rattle.std.proofs.lemmas.Bool.{cases_lt}
use Rattle.ags_certtype.specs.Cert.{certificate_of}
use Rattle.ags_check.specs.Checking.{IsFirstHeldAt}
use Rattle.ags_check.proofs.firsts.first_outside.Goals as goal

pub loop-address-preserved : goal.loop-address-preserved
loop-address-preserved c = λ address near. ⊎_elim
    (λ less. c.loop-address.invariant address less)
    (λ more.
    let same : c.loop-address.address ≡ address = omega (arith, near, more) in
    subst (IsFirstHeldAt c.args.image.now (certificate_of c.args.cert.now)) same
    (c.is_first_held_at.ensures.0 c.if-not-is_first_held_at.false))
    (cases_lt address c.loop-address.address)
