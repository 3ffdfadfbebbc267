use Rattle.std.proofs.Common.{◌++◌, ◌∙◌, arith, rules}
use Rattle.std.proofs.lemmas.Result.{on_ok_weaker}
use Rattle.ags_asm.proofs.KeptLemmas.{count_of_others, keep_wordless, none_of}
use Rattle.ags_asm.proofs.half_words.HalfWords.add.Goals as goal

pub returns-in_default-clause-step : goal.returns-in_default-clause-step
returns-in_default-clause-step c = λ later cards before left card same next so.
    keep_wordless c.args.codes.now _ cards before left card c.args.self.now c.args.number c.args.at (none_of c.args.self.now.met c.is_some.result c.is_some.ensures c.if-is_some.false)
    (rw same (count_of_others c.args.body.now (λ order terms indexed is. c.in_default.not-Order order terms indexed is) (λ numbers is. c.in_default.not-Dec numbers is) (λ words is. c.in_default.not-Oct words is))) c.requires.whole
    (omega (arith, c.requires.room)) next so

pub returns-in_default-clause-whole : goal.returns-in_default-clause-whole
returns-in_default-clause-whole c = c.requires.whole

pub returns-in_default-clause-few : goal.returns-in_default-clause-few
returns-in_default-clause-few c = c.requires.few

pub add_order-requires-clause-whole : goal.add_order-requires-clause-whole
add_order-requires-clause-whole c = c.requires.whole

pub add_order-requires-clause-few : goal.add_order-requires-clause-few
add_order-requires-clause-few c = c.requires.few

pub add_order-requires-clause-positive : goal.add_order-requires-clause-positive
add_order-requires-clause-positive c = c.requires.positive

pub add_order-requires-clause-room : goal.add_order-requires-clause-room
add_order-requires-clause-room c = omega (arith, rw c.in-Order.is at c.requires.room)

pub returns-in-Order-clause-whole : goal.returns-in-Order-clause-whole
returns-in-Order-clause-whole c = c.add_order.ensures.whole

pub returns-in-Order-clause-few : goal.returns-in-Order-clause-few
returns-in-Order-clause-few c = c.add_order.ensures.few

pub returns-in-Order-clause-step : goal.returns-in-Order-clause-step
returns-in-Order-clause-step c = on_ok_weaker c.add_order.result (λ step later cards before left card same next so. step later cards before left card (same ∙ c.in-Order.is) next so) c.add_order.ensures.step

pub add_decimals-requires-clause-whole : goal.add_decimals-requires-clause-whole
add_decimals-requires-clause-whole c = c.requires.whole

pub add_decimals-requires-clause-few : goal.add_decimals-requires-clause-few
add_decimals-requires-clause-few c = c.requires.few

pub add_decimals-requires-clause-positive : goal.add_decimals-requires-clause-positive
add_decimals-requires-clause-positive c = c.requires.positive

pub add_decimals-requires-clause-room : goal.add_decimals-requires-clause-room
add_decimals-requires-clause-room c = rw c.in-Dec.is at c.requires.room

pub returns-in-Dec-clause-whole : goal.returns-in-Dec-clause-whole
returns-in-Dec-clause-whole c = c.add_decimals.ensures.whole

pub returns-in-Dec-clause-few : goal.returns-in-Dec-clause-few
returns-in-Dec-clause-few c = c.add_decimals.ensures.few

pub returns-in-Dec-clause-step : goal.returns-in-Dec-clause-step
returns-in-Dec-clause-step c = λ later cards before left card same next so. c.add_decimals.ensures.step c.args.codes.now (c.args.symbols.now ++ later) cards before left card (same ∙ c.in-Dec.is) next so

pub add_octals-requires-clause-whole : goal.add_octals-requires-clause-whole
add_octals-requires-clause-whole c = c.requires.whole

pub add_octals-requires-clause-few : goal.add_octals-requires-clause-few
add_octals-requires-clause-few c = c.requires.few

pub add_octals-requires-clause-positive : goal.add_octals-requires-clause-positive
add_octals-requires-clause-positive c = c.requires.positive

pub add_octals-requires-clause-room : goal.add_octals-requires-clause-room
add_octals-requires-clause-room c = rw c.in-Oct.is at c.requires.room

pub returns-in-Oct-clause-whole : goal.returns-in-Oct-clause-whole
returns-in-Oct-clause-whole c = c.add_octals.ensures.whole

pub returns-in-Oct-clause-few : goal.returns-in-Oct-clause-few
returns-in-Oct-clause-few c = c.add_octals.ensures.few

pub returns-in-Oct-clause-step : goal.returns-in-Oct-clause-step
returns-in-Oct-clause-step c = λ later cards before left card same next so. c.add_octals.ensures.step c.args.codes.now (c.args.symbols.now ++ later) cards before left card (same ∙ c.in-Oct.is) next so

pub add_order-requires-clause-not_met : goal.add_order-requires-clause-not_met
add_order-requires-clause-not_met c = search rules
