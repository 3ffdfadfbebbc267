use Rattle.std.proofs.Common.{◌≡◌, ◌+◌, ◌<◌, ◌^◌, drop, IsTrue}
use Rattle.std.specs.List.{list_all}
use Rattle.ags_decimal.specs.Spelling.{is_digit, number_after}
use Rattle.ags_decimal.proofs.numbers.number_after.Given as goal

-- the number so far with the digits that are left is the whole one, it has no more digits than were read, and the rest is digits
abbrev pub invariant-loop-byte : goal.invariant-loop-byte
invariant-loop-byte l = record {
  value : number_after l.number (drop l.byte-index l.text) ≡ number_after l.fn.start l.text;
  small : l.number < 10 ^ (l.before + l.byte-index);
  digits : IsTrue (list_all is_digit (drop l.byte-index l.text));
}
