use Rattle.std.proofs.Common.{rules}
use Rattle.ags_image.proofs.tape_reading.tape_error.Goals as goal

pub returns-in-BadLine : goal.returns-in-BadLine
returns-in-BadLine c = search rules
