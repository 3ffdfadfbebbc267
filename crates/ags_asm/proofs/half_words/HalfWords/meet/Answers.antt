use Rattle.std.proofs.Common.{[], sym, refl, append-nil}
use Rattle.ags_asm.proofs.KeptLemmas.{keep_fault, none_small}
use Rattle.ags_asm.proofs.half_words.HalfWords.meet.Goals as goal

pub returns-clause-step : goal.returns-clause-step
returns-clause-step c = λ codes S cards before left card next made so.
    keep_fault codes S cards before left card c.args.self.now _ so c.args.number c.args.at _ [] [] c.requires.not_met next made (sym (append-nil _)) none_small c.args.fault refl so.whole refl
