-- How many words a bench script may put.
use Rattle.std.specs.Prelude.{ℕ, ◌*◌, List, sum_by}
use Rattle.ags_benchscript.specs.declared.commands.BenchCommand.{BenchCommand}
use Rattle.ags_benchscript.specs.declared.commands.BenchCommand.TheVariants.{Feed, Cycle}

-- the most words that a command puts, over as many positions as devices were handed in: FEED one, and each cycle one a position
abbrev pub put_count : (positions : ℕ) → BenchCommand → ℕ
put_count positions (Feed number) = 1
put_count positions (Cycle count) = count * positions
put_count positions _ = 0

-- the most words that the lines of a script put
abbrev pub puts_of : (positions : ℕ) → List (ℕ × BenchCommand) → ℕ
puts_of positions lines = sum_by (λ (line : ℕ × BenchCommand). put_count positions line.1) lines
