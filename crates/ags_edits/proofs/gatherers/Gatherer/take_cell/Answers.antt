use Rattle.std.proofs.Common.{sym, ◌∙◌}
use Rattle.ags_edits.specs.declared.statements.EditLine.TheVariants.{Cell}
use Rattle.ags_edits.proofs.EditLemmas.{ok_also, only_memory, cell_fixed, cell_full, cell_taken}
use Rattle.ags_edits.proofs.gatherers.Gatherer.take_cell.Goals as goal

pub returns-then-is_fixed : goal.returns-then-is_fixed
returns-then-is_fixed c = record {
  taken = λ version. tt;
  untaken = λ version. cell_fixed c.args.self.now version c.requires.unended c.args.its (sym c.is_fixed.ensures ∙ c.if-is_fixed.true);
}

pub returns-then-is_full : goal.returns-then-is_full
returns-then-is_full c = record {
  taken = λ version. tt;
  untaken = λ version.
      cell_full c.args.self.now version c.requires.unended (sym c.is_full.ensures ∙ c.if-is_full.true) c.args.its c.in-Some.value c.in-Some.is
      (sym c.is_fixed.ensures ∙ c.if-is_fixed.false);
}

pub returns-clause-taken : goal.returns-clause-taken
returns-clause-taken c = λ version. ok_also c.add.result
    (λ x is. cell_taken c.args.self.now c.add.new.self version c.requires.unended c.add.ensures.ended c.args.its c.in-Some.value c.in-Some.is
    (sym c.is_fixed.ensures ∙ c.if-is_fixed.false) (sym c.is_full.ensures ∙ c.if-is_full.false) is)
    c.add.ensures.added

pub returns-clause-untaken : goal.returns-clause-untaken
returns-clause-untaken c = λ version. only_memory c.args.self.now version c.requires.unended (Cell c.args.its) c.add.result c.add.ensures.untaken
