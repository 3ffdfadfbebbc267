use Rattle.ags_asm.proofs.half_words.HalfWords.add_decimals.Goals as goal

pub meet-requires-clause-not_met : goal.meet-requires-clause-not_met
meet-requires-clause-not_met c = c.requires.not_met

pub meet-requires-clause-few : goal.meet-requires-clause-few
meet-requires-clause-few c = c.requires.few

pub returns-then-not-make_decimals-clause-whole : goal.returns-then-not-make_decimals-clause-whole
returns-then-not-make_decimals-clause-whole c = rw c.meet.ensures.whole c.requires.whole

pub returns-then-not-make_decimals-clause-few : goal.returns-then-not-make_decimals-clause-few
returns-then-not-make_decimals-clause-few c = c.meet.ensures.few

pub add_words-requires-clause-not_met : goal.add_words-requires-clause-not_met
add_words-requires-clause-not_met c = c.requires.not_met

pub add_words-requires-clause-whole : goal.add_words-requires-clause-whole
add_words-requires-clause-whole c = c.requires.whole

pub add_words-requires-clause-few : goal.add_words-requires-clause-few
add_words-requires-clause-few c = c.requires.few

pub add_words-requires-clause-positive : goal.add_words-requires-clause-positive
add_words-requires-clause-positive c = c.requires.positive

pub returns-clause-whole : goal.returns-clause-whole
returns-clause-whole c = c.add_words.ensures.whole

pub returns-clause-few : goal.returns-clause-few
returns-clause-few c = c.add_words.ensures.few
