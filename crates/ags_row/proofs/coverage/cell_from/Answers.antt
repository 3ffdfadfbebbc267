use Rattle.std.proofs.Common.{rules}
use Rattle.ags_row.specs.Cover.{cell_value, post_value}
use Rattle.ags_row.specs.Limit.{cell_limit, input_limit, output_limit, is_named}
use Rattle.ags_row.proofs.coverage.cell_from.Goals as goal

pub returns-in-Some : goal.returns-in-Some
unfolding cell_limit input_limit output_limit is_named cell_value post_value
returns-in-Some g c = search rules
