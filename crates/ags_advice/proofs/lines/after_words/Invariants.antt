use Rattle.std.proofs.Common.{◌≡◌}
use denote.Text.{Utf8}
use denote.Shadow.{shadow}
use Rattle.ags_advice.specs.Line.{after_words}
use Rattle.ags_advice.proofs.lines.after_words.Given as goal

-- what is left is text, and stands after as many words as were passed
abbrev pub invariant-loop : goal.invariant-loop
invariant-loop l = shadow (Utf8 l.rest) × (l.rest ≡ after_words l.counter l.text)
