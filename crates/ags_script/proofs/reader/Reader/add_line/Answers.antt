use Rattle.std.proofs.Common.{rules}
use Rattle.ags_script.specs.Reading.{reading, fields_reading}
use Rattle.ags_script.proofs.reader.Reader.add_line.Goals as goal

pub returns-then-is_key-clause-fine : goal.returns-then-is_key-clause-fine
unfolding reading fields_reading
returns-then-is_key-clause-fine c = search rules
