use Rattle.std.proofs.Common.{sym, ◌∙◌}
use Rattle.ags_edits.specs.declared.statements.EditLine.TheVariants.{Word}
use Rattle.ags_edits.proofs.EditLemmas.{ok_also, only_memory, word_full, word_taken}
use Rattle.ags_edits.proofs.gatherers.Gatherer.take_word.Goals as goal

pub returns-then-is_full : goal.returns-then-is_full
returns-then-is_full c = record {
  taken = λ version. tt;
  untaken = λ version. word_full c.args.self.now version c.requires.unended (sym c.is_full.ensures ∙ c.if-is_full.true) c.args.its;
}

pub returns-clause-taken : goal.returns-clause-taken
returns-clause-taken c = λ version. ok_also c.add.result
    (λ x is. word_taken c.args.self.now c.add.new.self version c.requires.unended c.add.ensures.ended c.args.its c.requires.word
    (sym c.is_full.ensures ∙ c.if-is_full.false) is)
    c.add.ensures.added

pub returns-clause-untaken : goal.returns-clause-untaken
returns-clause-untaken c = λ version. only_memory c.args.self.now version c.requires.unended (Word c.args.its) c.add.result c.add.ensures.untaken
