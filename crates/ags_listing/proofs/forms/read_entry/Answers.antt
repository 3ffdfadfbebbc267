use Rattle.std.proofs.Common.{rules}
use Rattle.ags_listing.specs.Reads.{said}
use Rattle.ags_listing.proofs.forms.read_entry.Goals as goal

pub returns-then-are_spaces-2-clause-said : goal.returns-then-are_spaces-2-clause-said
unfolding said
returns-then-are_spaces-2-clause-said c = search rules
