use Rattle.std.proofs.Common.{rules}
use Rattle.ags_machfile.proofs.time_tables.time_entry.Goals as goal

pub returns-in-Some-whole_number-clause-time : goal.returns-in-Some-whole_number-clause-time
returns-in-Some-whole_number-clause-time c = search rules

pub returns-in-Some-whole_number-clause-least : goal.returns-in-Some-whole_number-clause-least
returns-in-Some-whole_number-clause-least c = search rules
