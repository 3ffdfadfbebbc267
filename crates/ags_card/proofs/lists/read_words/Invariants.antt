use Rattle.std.proofs.Common.{◌≡◌, ◌+◌, ◌*◌, ◌≤◌, length, take}
use Rattle.std.specs.Prelude.{[]}
use Rattle.ags_card.specs.Reading.{list_reading, octal_reading}
use Rattle.ags_card.proofs.ListLaws.{listed}
use Rattle.ags_card.proofs.lists.read_words.Given as goal

-- the words so far before those that are left are those of the whole text, and each takes two bytes of it at least
abbrev pub invariant-loop-word : goal.invariant-loop-word
invariant-loop-word l = record {
  whole : listed (take l.count l.words) (list_reading octal_reading [] l.rest) ≡ list_reading octal_reading [] l.text;
  most : l.count ≤ 64;
  room : 2 * l.count + length l.rest ≤ 120;
}

abbrev pub decreases-loop-word : goal.decreases-loop-word
decreases-loop-word l = length l.rest
