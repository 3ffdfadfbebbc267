-- What is printed of what a row says of Q.
use Rattle.std.specs.Prelude.{ℕ, List, ◌++◌, codes}
use Rattle.ags_text.specs.Numeral.{octal6_text}
use Rattle.ags_load.specs.declared.lines.InQ.{InQ}
use Rattle.ags_load.specs.declared.lines.InQ.TheVariants.{Any, Return}

-- every word, or one word alone
abbrev pub q_text : InQ → List ℕ
q_text Any = codes "ANY"
q_text (Return word) = codes "WORDS " ++ octal6_text word
