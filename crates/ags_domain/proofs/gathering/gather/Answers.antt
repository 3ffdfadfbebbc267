use Rattle.std.proofs.Common.{ap, arith, ◌||◌}
use Rattle.ags_domain.specs.Domain.{held_by_either}
use Rattle.ags_domain.specs.Value.{value_meaning, value_held, value_ends}
use Rattle.ags_domain.specs.MeaningLaws.{value_lawful}
use Rattle.ags_domain.proofs.GatherLaws.{more_so_far, once_so_far, some_so_far, too_many}
use Rattle.ags_domain.proofs.gathering.gather.Goals as goal

pub returns-then-len-eq-MOST_WORDS : goal.returns-then-len-eq-MOST_WORDS
returns-then-len-eq-MOST_WORDS c =
    let held = held_by_either value_meaning c.args.left.now c.args.right.now in
    too_many held c.loop-word.list c.loop-word.from c.loop-word.invariant c.in-Some.word c.in-Some.ensures (omega arith)

pub loop-word-preserved : goal.loop-word-preserved
loop-word-preserved c =
    let held = held_by_either value_meaning c.args.left.now c.args.right.now in
    rw (c.push.ensures, c.number-from.ensures.same) (more_so_far held c.loop-word.list c.loop-word.from c.loop-word.invariant c.in-Some.word c.in-Some.ensures)

pub made-requires-clause-ascending : goal.made-requires-clause-ascending
made-requires-clause-ascending c =
    let held = held_by_either value_meaning c.args.left.now c.args.right.now in
    once_so_far held c.loop-word.list c.loop-word.from c.loop-word.invariant

pub made-requires-clause-some : goal.made-requires-clause-some
made-requires-clause-some c =
    let held = held_by_either value_meaning c.args.left.now c.args.right.now in
    let least = (value_ends c.args.left.now).least in
    some_so_far held c.loop-word.list c.loop-word.from c.loop-word.invariant c.in_default.ensures least (value_lawful.least_word c.args.left.now)
    (ap (λ b. b || value_held c.args.right.now least) (value_lawful.least_held c.args.left.now))
