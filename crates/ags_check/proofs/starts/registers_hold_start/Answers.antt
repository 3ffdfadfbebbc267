use Rattle.std.proofs.Common.{rules}
use Rattle.ags_check.proofs.starts.registers_hold_start.Goals as goal

pub returns-then-x-clause-location : goal.returns-then-x-clause-location
returns-then-x-clause-location c = search rules

pub returns-else-x-clause-all : goal.returns-else-x-clause-all
returns-else-x-clause-all c = search rules
