use Rattle.std.proofs.Common.{rules}
use Rattle.ags_asm.proofs.KeptLemmas.{ended, closed_so}
use Rattle.ags_asm.proofs.half_words.HalfWords.close.Goals as goal

pub returns-in-Ok-clause-fault : goal.returns-in-Ok-clause-fault
returns-in-Ok-clause-fault c = λ cards before so. ended c.args.codes.now c.args.symbols.now cards before c.args.self.now so (rw c.deref.ensures.value at c.in-Ok.ensures.faultless)

pub returns-in-Ok-clause-image : goal.returns-in-Ok-clause-image
returns-in-Ok-clause-image c = λ cards before so none.
    closed_so c.args.codes.now c.args.symbols.now cards before c.args.self.now so none (rw c.deref.ensures.value at c.in-Ok.ensures.faultless) c.close_all.new.image (rw c.deref.ensures.value at c.in-Ok.ensures.closed) (c.close_all.ensures.image so.whole)

pub returns-in-Err-clause-fault : goal.returns-in-Err-clause-fault
returns-in-Err-clause-fault c = search rules
