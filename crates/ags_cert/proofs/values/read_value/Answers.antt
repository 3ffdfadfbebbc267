use Rattle.std.proofs.Common.{arith}
use Rattle.ags_cert.proofs.LongestLemmas.{counted_more, searched_some, searched_same, all_found, all_only, all_none}
use Rattle.ags_cert.proofs.values.read_value.Goals.{in-Some, in_default}
use Rattle.ags_cert.proofs.values.read_value.Goals as goal

pub loop-count-preserved : goal.loop-count-preserved
loop-count-preserved c =
    let counted = counted_more c.args.line.now c.args.from c.loop-count._count c.loop-count.behind c.field_end-behind.result c.loop-count.invariant.counted
    c.field_end-behind.ensures.ordered c.field_end-behind.ensures.within c.field_end-behind.ensures.left in
    elim c.match-value_between.branch [
      | in-Some w ↦ rw w.longest-is (
          searched_some c.args.line.now c.args.from c.loop-count._count c.field_end-behind.result w.in-Some.value counted w.in-Some.ensures.found w.in-Some.ensures.only)
      | in_default w ↦ rw w.longest-is (
          searched_same c.args.line.now c.args.from c.loop-count._count c.loop-count.behind c.field_end-behind.result c.loop-count.longest c.loop-count.invariant counted
          (λ other is. let none = w.in_default.ensures.only other is in absurd (cc)))
    ]

pub returns-clause-found : goal.returns-clause-found
returns-clause-found c = all_found c.args.line.now c.args.from c.loop-count._count c.loop-count.behind c.loop-count.longest (omega (arith, c.loop-count-test.false)) c.loop-count.invariant

pub returns-clause-only : goal.returns-clause-only
returns-clause-only c = all_only c.args.line.now c.args.from c.loop-count._count c.loop-count.behind c.loop-count.longest (omega (arith, c.loop-count-test.false)) c.loop-count.invariant

pub returns-clause-none : goal.returns-clause-none
returns-clause-none c = all_none c.args.line.now c.args.from c.loop-count._count c.loop-count.behind c.loop-count.longest (omega (arith, c.loop-count-test.false)) c.loop-count.invariant
