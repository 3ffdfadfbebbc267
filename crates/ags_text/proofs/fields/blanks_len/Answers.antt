use Rattle.std.proofs.Common.{not}
use Rattle.ags_text.specs.Field.{is_blank}
use Rattle.ags_text.proofs.FrontLemmas.{position_or_len_is, prefix_len-not_not}
use Rattle.ags_text.proofs.fields.blanks_len.Goals as goal

pub returns-clause-place : goal.returns-clause-place
returns-clause-place c =
    rw (c.unwrap_or.ensures, c.first_mark.ensures, position_or_len_is (λ b. not (is_blank b)) c.args.text.now)
    (prefix_len-not_not is_blank c.args.text.now)
