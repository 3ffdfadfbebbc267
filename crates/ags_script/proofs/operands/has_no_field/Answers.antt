use Rattle.std.proofs.Common.{◌∙◌}
use Rattle.ags_script.proofs.FieldLemmas.{blanks_cut}
use Rattle.ags_script.proofs.operands.has_no_field.Goals as goal

pub returns : goal.returns
returns c = c.are_blanks.ensures ∙ blanks_cut c.args.text.now
