use Rattle.std.proofs.Common.{rules}
use Rattle.ags_row.specs.Cover.{cell_value, post_value}
use Rattle.ags_row.specs.Limit.{cell_limit, input_limit, output_limit, is_named}
use Rattle.ags_row.proofs.rows.Row.made_of.Goals as goal

pub invariant_of-result : goal.invariant_of-result
unfolding cell_limit input_limit output_limit is_named cell_value post_value
invariant_of-result c = search rules
