use Rattle.ags_text.specs.Field.{is_blank}
use Rattle.ags_text.proofs.FrontLemmas.{position_or_len_is}
use Rattle.ags_text.proofs.fields.leading_field_len.Goals as goal

pub returns-clause-place : goal.returns-clause-place
returns-clause-place c = rw (c.unwrap_or.ensures, c.first_blank.ensures) (position_or_len_is is_blank c.args.text.now)
