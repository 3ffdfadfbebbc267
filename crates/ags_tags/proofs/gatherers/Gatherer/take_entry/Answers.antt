use Rattle.std.proofs.Common.{sym, ◌∙◌}
use Rattle.ags_tags.proofs.TagLemmas.{entry_taken, entry_twice}
use Rattle.ags_tags.proofs.gatherers.Gatherer.take_entry.Goals as goal

pub returns-then-is_tagged-clause-untaken : goal.returns-then-is_tagged-clause-untaken
returns-then-is_tagged-clause-untaken c = λ version.
    entry_twice c.args.self.now c.args.table c.args.its c.requires (sym c.may_stand.ensures.same ∙ c.if-not-may_stand.false) (c.may_stand.ensures.below c.if-not-may_stand.false) version
    (sym c.is_tagged.ensures ∙ c.if-is_tagged.true)

pub returns-clause-taken : goal.returns-clause-taken
returns-clause-taken c = λ version.
    entry_taken c.args.self.now c.args.table c.args.its c.requires (sym c.may_stand.ensures.same ∙ c.if-not-may_stand.false) (c.may_stand.ensures.below c.if-not-may_stand.false)
    c.put.new.self version (sym c.is_tagged.ensures ∙ c.if-is_tagged.false) c.put.ensures
