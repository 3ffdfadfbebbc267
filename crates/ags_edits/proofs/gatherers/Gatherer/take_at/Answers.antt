use Rattle.std.proofs.Common.{sym, ◌∙◌}
use Rattle.ags_edits.specs.declared.statements.EditLine.TheVariants.{At}
use Rattle.ags_edits.proofs.EditLemmas.{ok_also, only_memory, at_fixed, at_closed, at_faulty, at_taken}
use Rattle.ags_edits.proofs.gatherers.Gatherer.take_at.Goals as goal

pub returns-then-is_fixed : goal.returns-then-is_fixed
returns-then-is_fixed c = record {
  taken = λ version. tt;
  untaken = λ version. at_fixed c.args.self.now version c.requires.unended c.args.its (sym c.is_fixed.ensures ∙ c.if-is_fixed.true);
}

pub returns-in_default : goal.returns-in_default
returns-in_default c = record {
  taken = λ version. tt;
  untaken = λ version. at_closed c.args.self.now version c.requires.unended c.args.its c.take_last.new.self.edits.items c.in_default.ensures.last;
}

pub returns-in-Some-at_fault : goal.returns-in-Some-at_fault
returns-in-Some-at_fault c = record {
  taken = λ version. tt;
  untaken = λ version.
      at_faulty c.args.self.now version c.requires.unended c.in-Some.row c.in-Some.old c.take_last.new.self.edits.items c.in-Some.ensures.last c.args.its c.in-Some-at_fault.kind
      (sym c.is_fixed.ensures ∙ c.if-is_fixed.false) (sym c.at_fault.ensures ∙ c.in-Some-at_fault.is);
}

pub returns-in-Ok : goal.returns-in-Ok
returns-in-Ok c = record {
  taken = λ version. ok_also c.add.result
      (λ x is. at_taken c.args.self.now version c.requires.unended c.in-Some.row c.in-Some.old c.take_last.new.self.edits.items c.in-Some.ensures.last
      c.add.new.self c.args.its c.in-Ok.new (sym c.is_fixed.ensures ∙ c.if-is_fixed.false) (sym c.at_fault.ensures ∙ c.in_default-at_fault.is) c.in-Ok.ensures
      (c.add.ensures.ended ∙ c.take_last.ensures.ended) is)
      c.add.ensures.added;
  untaken = λ version. only_memory c.args.self.now version c.requires.unended (At c.args.its) c.add.result c.add.ensures.untaken;
}

pub returns : goal.returns
returns c = record { taken = λ version. tt; untaken = λ version. tt }
