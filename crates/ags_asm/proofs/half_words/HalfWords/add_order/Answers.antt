use Rattle.std.proofs.Common.{[], ◌++◌, arith}
use Rattle.std.proofs.lemmas.Result.{on_ok_weaker}
use Rattle.ags_asm.proofs.OwnedLemmas.{made_count}
use Rattle.ags_asm.proofs.half_words.HalfWords.add_order.Goals as goal

pub add_words-requires-clause-room : goal.add_words-requires-clause-room
add_words-requires-clause-room c = omega (arith, c.requires.room, made_count _ _ _ _ _ _ _ (c.in-Word.ensures.made []))

pub add_waiting-requires-clause-room : goal.add_waiting-requires-clause-room
add_waiting-requires-clause-room c = omega (arith, c.requires.room, made_count _ _ _ _ _ _ _ (c.in-Waits.ensures.made []))

pub make_order-requires : goal.make_order-requires
make_order-requires c = c.requires.room

pub add_words-requires-clause-not_met : goal.add_words-requires-clause-not_met
add_words-requires-clause-not_met c = c.requires.not_met

pub add_words-requires-clause-whole : goal.add_words-requires-clause-whole
add_words-requires-clause-whole c = c.requires.whole

pub add_words-requires-clause-few : goal.add_words-requires-clause-few
add_words-requires-clause-few c = c.requires.few

pub add_words-requires-clause-positive : goal.add_words-requires-clause-positive
add_words-requires-clause-positive c = c.requires.positive

pub add_waiting-requires-clause-not_met : goal.add_waiting-requires-clause-not_met
add_waiting-requires-clause-not_met c = c.requires.not_met

pub add_waiting-requires-clause-whole : goal.add_waiting-requires-clause-whole
add_waiting-requires-clause-whole c = c.requires.whole

pub add_waiting-requires-clause-few : goal.add_waiting-requires-clause-few
add_waiting-requires-clause-few c = c.requires.few

pub add_waiting-requires-clause-positive : goal.add_waiting-requires-clause-positive
add_waiting-requires-clause-positive c = c.requires.positive

pub add_waiting-requires-clause-there : goal.add_waiting-requires-clause-there
add_waiting-requires-clause-there c = c.in-Waits.ensures.there

pub meet-requires-clause-not_met : goal.meet-requires-clause-not_met
meet-requires-clause-not_met c = c.requires.not_met

pub meet-requires-clause-few : goal.meet-requires-clause-few
meet-requires-clause-few c = c.requires.few

pub returns-in-Word-clause-whole : goal.returns-in-Word-clause-whole
returns-in-Word-clause-whole c = c.add_words.ensures.whole

pub returns-in-Word-clause-few : goal.returns-in-Word-clause-few
returns-in-Word-clause-few c = c.add_words.ensures.few

pub returns-in-Word-clause-step : goal.returns-in-Word-clause-step
returns-in-Word-clause-step c = λ later cards before left card same next so. c.add_words.ensures.step c.args.codes.now (c.args.symbols.now ++ later) cards before left card next (rw same (c.in-Word.ensures.made later)) so

pub returns-in-Waits-clause-whole : goal.returns-in-Waits-clause-whole
returns-in-Waits-clause-whole c = c.add_waiting.ensures.whole

pub returns-in-Waits-clause-few : goal.returns-in-Waits-clause-few
returns-in-Waits-clause-few c = c.add_waiting.ensures.few

pub returns-in-Waits-clause-step : goal.returns-in-Waits-clause-step
returns-in-Waits-clause-step c = on_ok_weaker c.add_waiting.result (λ step later cards before left card same next so. step c.args.codes.now (c.args.symbols.now ++ later) cards before left card next (rw same (c.in-Waits.ensures.made later)) so) c.add_waiting.ensures.step

pub returns-in-Fault-clause-whole : goal.returns-in-Fault-clause-whole
returns-in-Fault-clause-whole c = rw c.meet.ensures.whole c.requires.whole

pub returns-in-Fault-clause-few : goal.returns-in-Fault-clause-few
returns-in-Fault-clause-few c = c.meet.ensures.few

pub returns-in-Fault-clause-step : goal.returns-in-Fault-clause-step
returns-in-Fault-clause-step c = λ later cards before left card same next so. c.meet.ensures.step c.args.codes.now (c.args.symbols.now ++ later) cards before left card next (rw same (c.in-Fault.ensures.made later)) so
