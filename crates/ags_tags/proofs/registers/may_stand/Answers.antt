use Rattle.std.proofs.Common.{sym, ◌∙◌, rules}
use Rattle.ags_tags.proofs.TagLemmas.{register_below}
use Rattle.ags_tags.proofs.registers.may_stand.Goals as goal

pub returns-in-In-clause-below : goal.returns-in-In-clause-below
returns-in-In-clause-below c = λ yes.
    register_below c.args.ports.now.inputs c.args.address c.inputs.ensures.registers.below (rw c.inputs.ensures.same at (sym c.has_register.ensures.same ∙ yes))

pub returns-in-Out-clause-below : goal.returns-in-Out-clause-below
returns-in-Out-clause-below c = λ yes.
    register_below c.args.ports.now.outputs c.args.address c.outputs.ensures.registers.below (rw c.outputs.ensures.same at (sym c.has_register-in-Out.ensures.same ∙ yes))

pub returns-in-Cell-clause-same : goal.returns-in-Cell-clause-same
returns-in-Cell-clause-same c = search rules
