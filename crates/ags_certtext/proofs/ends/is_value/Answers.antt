use Rattle.std.proofs.Common.{w32, ap, sym, ◌∙◌}
use Rattle.std.proofs.lemmas.Int.{to_z-of_z}
use Rattle.ags_word.specs.Word.{word_of_value}
use Rattle.ags_certtext.proofs.ValueLemmas.{value_fits, value_over}
use Rattle.ags_certtext.proofs.ends.is_value.Goals as goal

pub returns-in-Some : goal.returns-in-Some
returns-in-Some c = sym (value_fits c.args.number c.in-Some.field-0 (sym (c.in-Some.ensures ∙ ap word_of_value (to_z-of_z w32 c.args.number c.ranges.number))))

pub returns-in-None : goal.returns-in-None
returns-in-None c = value_over c.args.number (c.in-None.ensures ∙ ap word_of_value (to_z-of_z w32 c.args.number c.ranges.number))
