use Rattle.std.proofs.Common.{◌≡◌, ◌^◌, ◌<◌, drop}
use Rattle.std.specs.Str.Parse.{AllDigits, digits_value, digits_value_after}
use Rattle.ags_text.proofs.numerals.read_digits.Given as goal

-- the digits so far are the number, which is small, and the text is all digits where the rest is
abbrev pub invariant-loop-byte : goal.invariant-loop-byte
invariant-loop-byte l = record {
  value : digits_value_after l.base l.number (drop l.byte-index l.text) ≡ digits_value l.base l.text;
  small : l.number < l.base ^ l.byte-index;
  forward : AllDigits l.base (drop l.byte-index l.text) → AllDigits l.base l.text;
  back : AllDigits l.base l.text → AllDigits l.base (drop l.byte-index l.text);
}
