use Rattle.std.proofs.Common.{◌≡◌, ◌+◌, ◌*◌, ◌≤◌, length, take}
use Rattle.std.specs.Prelude.{[]}
use Rattle.ags_decimal.specs.Reading.{reading}
use Rattle.ags_card.specs.Reading.{list_reading}
use Rattle.ags_card.proofs.ListLaws.{listed}
use Rattle.ags_card.proofs.lists.read_decimals.Given as goal

-- the decimals so far before those that are left are those of the whole text, and each takes two bytes of it at least
abbrev pub invariant-loop-number : goal.invariant-loop-number
invariant-loop-number l = record {
  whole : listed (take l.count l.numbers) (list_reading reading [] l.rest) ≡ list_reading reading [] l.text;
  most : l.count ≤ 64;
  room : 2 * l.count + length l.rest ≤ 120;
}

abbrev pub decreases-loop-number : goal.decreases-loop-number
decreases-loop-number l = length l.rest
