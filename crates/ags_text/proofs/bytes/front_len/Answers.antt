use Rattle.std.proofs.Common.{◌==◌}
use Rattle.ags_text.proofs.FrontLemmas.{position_or_len_is}
use Rattle.ags_text.proofs.bytes.front_len.Goals as goal

pub returns-clause-place : goal.returns-clause-place
returns-clause-place c = rw (c.unwrap_or.ensures, c.first_place.ensures) (position_or_len_is (λ b. b == c.args.byte) c.args.text.now)
