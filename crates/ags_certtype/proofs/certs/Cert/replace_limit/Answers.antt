use Rattle.ags_certtype.proofs.EditLemmas.{limit_put_in, limit_put_as}
use Rattle.ags_certtype.proofs.certs.Cert.replace_limit.Goals as goal

pub invariant_of-self : goal.invariant_of-self
invariant_of-self c = (
  limit_put_in _ c.args.self.now c.set_cell.new.self c.args.cell.now.address c.args.cell.now.value c.self.view_is c.self.invariant.0 c.every-every.ensures.whole c.set_cell.ensures
      (c.is_use_within.ensures.0 c.if-not-is_use_within.false),
  c.self.invariant.1,
)

pub returns : goal.returns
returns c = (
  c.is_use_within.ensures.0 c.if-not-is_use_within.false,
  limit_put_as _ c.args.self.now c.set_cell.new.self c.args.cell.now.address c.args.cell.now.value c.self.view_is c.self.invariant.0
      c.every-every.ensures.whole c.requires c.set_cell.ensures,
)
