use Rattle.std.proofs.Common.{rules}
use Rattle.ags_row.specs.Cover.{cell_value, post_value}
use Rattle.ags_row.specs.Limit.{cell_limit, input_limit, output_limit, is_named}
use Rattle.ags_row.proofs.coverage.covers_registers.Goals as goal

pub returns-then-within-clause-q : goal.returns-then-within-clause-q
unfolding cell_limit input_limit output_limit is_named cell_value post_value
returns-then-within-clause-q g c = search rules

pub returns-else-within-clause-all : goal.returns-else-within-clause-all
unfolding cell_limit input_limit output_limit is_named cell_value post_value
returns-else-within-clause-all g c = search rules

pub returns-then-within-clause-location : goal.returns-then-within-clause-location
returns-then-within-clause-location g c = search rules
