use Rattle.ags_text.proofs.FollowLemmas.{lines_follow}
use Rattle.ags_text.proofs.line_laws.lines_follow.Goals as goal

pub returns : goal.returns
returns c = lines_follow
