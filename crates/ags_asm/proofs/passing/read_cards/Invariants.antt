use Rattle.ags_places.specs.Deck.{deck}
use Rattle.ags_asm.specs.Passing.{IsWithinLimits}
use Rattle.ags_asm.proofs.PassLemmas.{Passed}
use Rattle.ags_asm.proofs.passing.read_cards.Given as goal

abbrev pub invariant-loop-line : goal.invariant-loop-line
invariant-loop-line l = record {
  passed : Passed l.codes l.bytes (deck l.line-iterator) l.number l.pass;
  within : IsWithinLimits l.pass;
}
