use Rattle.std.proofs.Common.{◌≡◌, ◌+◌, ◌*◌, ◌≤◌, length, take}
use Rattle.std.specs.Prelude.{All, []}
use Rattle.ags_card.specs.Reading.{terms_reading}
use Rattle.ags_card.specs.Term.{HasSmallNumber}
use Rattle.ags_card.proofs.TermLemmas.{prepended}
use Rattle.ags_card.proofs.expressions.read_terms.Given as goal

-- the terms so far before those that are left are those of the whole text, and a term takes two bytes of it at least
abbrev pub invariant-loop-atom : goal.invariant-loop-atom
invariant-loop-atom l = record {
  whole : prepended (take l.count l.terms) (terms_reading l.minus [] l.rest) ≡ terms_reading l.fn.minus [] l.text;
  most : l.count ≤ 64;
  room : 2 * l.count + length l.rest ≤ 120;
  small : All (λ term. HasSmallNumber term.atom) (take l.count l.terms);
}

abbrev pub decreases-loop-atom : goal.decreases-loop-atom
decreases-loop-atom l = length l.rest
