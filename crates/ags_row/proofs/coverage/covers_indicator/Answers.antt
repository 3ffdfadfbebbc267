use Rattle.std.proofs.Common.{rules}
use Rattle.ags_row.specs.Cover.{cell_value, post_value}
use Rattle.ags_row.specs.Limit.{cell_limit, input_limit, output_limit, is_named}
use Rattle.ags_row.proofs.coverage.covers_indicator.Goals as goal

pub returns-else-not-set-clause-set : goal.returns-else-not-set-clause-set
unfolding cell_limit input_limit output_limit is_named cell_value post_value
returns-else-not-set-clause-set c = search rules

pub returns-else-not-set-clause-all : goal.returns-else-not-set-clause-all
unfolding cell_limit input_limit output_limit is_named cell_value post_value
returns-else-not-set-clause-all c = search rules
