use Rattle.std.proofs.Common.{◌-◌, ◌^◌}
use Rattle.ags_domain.specs.Domain.{held_by_either}
use Rattle.ags_domain.specs.Value.{value_meaning}
use Rattle.ags_domain.specs.Gathering.{AreSoFar}
use Rattle.ags_domain.proofs.gathering.gather.Given as goal

abbrev pub invariant-loop-word : goal.invariant-loop-word
invariant-loop-word l = AreSoFar (held_by_either value_meaning l.left l.right) l.list l.from

abbrev pub decreases-loop-word : goal.decreases-loop-word
decreases-loop-word l = 2 ^ 18 - l.from
