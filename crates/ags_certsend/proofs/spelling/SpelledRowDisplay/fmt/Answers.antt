use Rattle.std.proofs.Common.{◌≡◌, ◌++◌, append_assoc, refl}
use Rattle.std.specs.Prelude.{codes}
use Rattle.ags_text.specs.Numeral.{octal4_text}
use Rattle.ags_certtext.specs.Spelling.{flag_digits}
use Rattle.ags_certtext.specs.declared.statements.RowLine.{RowLine}
use Rattle.ags_certsend.specs.Spelled.{row_text, stated_value}
use Rattle.ags_certsend.proofs.spelling.SpelledRowDisplay.fmt.Goals as goal

row_parts : (row : RowLine) → row_text row ≡ octal4_text row.location ++ (codes " A " ++ (stated_value row.a ++ (codes " Q " ++ (stated_value row.q
    ++ (codes " X " ++ (flag_digits 48 row.x ++ (codes " V " ++ flag_digits 48 row.v)))))))
row_parts row = simp append_assoc refl

pub returns-clause-writes : goal.returns-clause-writes
returns-clause-writes g c = rw (row_parts c.args.self.now.0) c.write.ensures.writes
