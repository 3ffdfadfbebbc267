use Rattle.std.proofs.Common.{refl}
use Rattle.std.proofs.lemmas.List.{take_all}
use Rattle.ags_drive.proofs.HearLemmas.{told_more, told_partly}
use Rattle.ags_drive.proofs.hearing.hear_words.Goals as goal

pub returns-in-Err-clause-part : goal.returns-in-Err-clause-part
returns-in-Err-clause-part g c =
    told_partly c.args.machine.now _ _ _ c.args.words.now c.loop-gave.gave-index c.gave-item.result c.loop-gave-test.true c.gave-item.is c.loop-gave.invariant c.in-Err.ensures.part

pub loop-gave-preserved : goal.loop-gave-preserved
loop-gave-preserved g c =
    told_more c.args.machine.now _ _ _ c.args.words.now c.loop-gave.gave-index c.gave-item.result c.loop-gave-test.true c.gave-item.is c.loop-gave.invariant c.in_default.ensures.heard

pub loop-gave-init : goal.loop-gave-init
loop-gave-init g c = refl

pub returns-in-Err-clause-heard : goal.returns-in-Err-clause-heard
returns-in-Err-clause-heard g c = tt

pub returns-clause-heard : goal.returns-clause-heard
returns-clause-heard g c = rw (take_all c.loop-gave.gave-index c.args.words.now c.loop-gave-test.false) at c.loop-gave.invariant

pub returns-clause-part : goal.returns-clause-part
returns-clause-part g c = tt
