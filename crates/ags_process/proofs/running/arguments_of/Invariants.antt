use Rattle.std.proofs.Common.{◌≡◌, ◌++◌, drop}
use Rattle.std.specs.Vec.Iter.{into_iter_items}
use Rattle.ags_process.proofs.running.arguments_of.Given as goal

-- the arguments so far and those that are left are all arguments after the name
abbrev pub invariant-loop-argument : goal.invariant-loop-argument
invariant-loop-argument l = l.arguments.items ++ into_iter_items l.argument-iterator ≡ drop 1 (into_iter_items l.fn.all)
