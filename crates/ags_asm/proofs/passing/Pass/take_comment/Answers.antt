use Rattle.ags_text.specs.LineView.{line_at}
use Rattle.ags_asm.proofs.PassLemmas.{taken_comment, none_of}
use Rattle.ags_asm.proofs.passing.Pass.take_comment.Goals as goal

pub returns-in_ok-push-clause-taken : goal.returns-in_ok-push-clause-taken
returns-in_ok-push-clause-taken c = λ codes number some.
    taken_comment codes (line_at c.args.line) number c.args.self.now _ (none_of c.args.self.now.misplaced c.is_none.result c.is_none.ensures c.if-is_none.true) c.requires.within (rw (← c.at.ensures) c.in_ok-push.ensures.items)
