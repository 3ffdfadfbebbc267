use Rattle.ags_text.proofs.FollowLemmas.{lines_follow}
use Rattle.ags_text.proofs.lines.Lines.of.Goals as goal

pub returns-clause-follow : goal.returns-clause-follow
returns-clause-follow c = lines_follow c.args.text.now
