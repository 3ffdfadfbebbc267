use Rattle.std.proofs.Common.{◌∙◌, arith}
use Rattle.ags_deda.specs.Key.{key_character, key_digit, blank_character, blank_digit}
use Rattle.ags_deda.proofs.SpellingLemmas.{spelled-set, spelled-far}
use Rattle.ags_deda.proofs.keyed.Keyed.write.Goals as goal

pub returns-then-column-lt-COLUMNS : goal.returns-then-column-lt-COLUMNS
returns-then-column-lt-COLUMNS c = λ keys column_is is. record {
  characters = rw (is.characters, c.character.ensures) (spelled-set key_character blank_character c.args.column c.args.key keys (omega arith) (omega arith));
  digits = rw (is.digits, c.digit.ensures) (spelled-set key_digit blank_digit c.args.column c.args.key keys (omega arith) (omega arith));
}

pub returns-else-column-lt-COLUMNS : goal.returns-else-column-lt-COLUMNS
returns-else-column-lt-COLUMNS c = λ keys column_is is. record {
  characters = is.characters ∙ spelled-far key_character blank_character c.args.key keys (omega arith);
  digits = is.digits ∙ spelled-far key_digit blank_digit c.args.key keys (omega arith);
}
