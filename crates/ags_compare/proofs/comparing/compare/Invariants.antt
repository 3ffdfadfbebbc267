use Rattle.ags_compare.specs.Comparison.{AgreeBelow}
use Rattle.ags_compare.proofs.comparing.compare.Given as goal

abbrev pub invariant-loop-location : goal.invariant-loop-location
invariant-loop-location l = AgreeBelow l.left l.right l.location
