use Rattle.std.proofs.Common.{sym, ap, ◌∙◌, Option}
use Rattle.std.specs.Prelude.{is_some}
use Rattle.ags_row.specs.declared.links.Link.{Link}
use Rattle.ags_edits.specs.declared.statements.EditLine.TheVariants.{Linked}
use Rattle.ags_edits.proofs.EditLemmas.{ok_also, only_memory, link_fixed, link_closed, link_twice, link_taken}
use Rattle.ags_edits.proofs.gatherers.Gatherer.take_link.Goals as goal

pub returns-then-is_fixed : goal.returns-then-is_fixed
returns-then-is_fixed c = record {
  taken = λ version. tt;
  untaken = λ version. link_fixed c.args.self.now version c.requires.unended c.args.its (sym c.is_fixed.ensures ∙ c.if-is_fixed.true);
}

pub returns-in_default : goal.returns-in_default
returns-in_default c = record {
  taken = λ version. tt;
  untaken = λ version. link_closed c.args.self.now version c.requires.unended c.args.its c.take_last.new.self.edits.items c.in_default.ensures.last;
}

pub returns-then-is_some : goal.returns-then-is_some
returns-then-is_some c = record {
  taken = λ version. tt;
  untaken = λ version.
      link_twice c.args.self.now version c.requires.unended c.in-Some.row c.in-Some.old c.take_last.new.self.edits.items c.in-Some.ensures.last c.args.its
      (sym c.is_fixed.ensures ∙ c.if-is_fixed.false)
      (ap (λ (l : Option Link). is_some l) (sym c.link.ensures) ∙ sym c.is_some.ensures ∙ c.if-is_some.true);
}

pub returns-in-Ok : goal.returns-in-Ok
returns-in-Ok c = record {
  taken = λ version. ok_also c.add.result
      (λ x is. link_taken c.args.self.now version c.requires.unended c.in-Some.row c.in-Some.old c.take_last.new.self.edits.items c.in-Some.ensures.last
      c.add.new.self c.args.its c.in-Ok.new (sym c.is_fixed.ensures ∙ c.if-is_fixed.false)
      (ap (λ (l : Option Link). is_some l) (sym c.link.ensures) ∙ sym c.is_some.ensures ∙ c.if-is_some.false) c.in-Ok.ensures
      (c.add.ensures.ended ∙ c.take_last.ensures.ended) is)
      c.add.ensures.added;
  untaken = λ version. only_memory c.args.self.now version c.requires.unended (Linked c.args.its) c.add.result c.add.ensures.untaken;
}

pub returns : goal.returns
returns c = record { taken = λ version. tt; untaken = λ version. tt }
