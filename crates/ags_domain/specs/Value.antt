-- Values: a range, or a word set.
use Rattle.std.specs.Prelude.{ℕ, Bool}
use Rattle.ags_domain.specs.WordSet.{lists}
use Rattle.ags_domain.specs.Domain.{Ends, Meaning, Form, Ranged, Listed}
use Rattle.ags_domain.specs.Range.{range_ends, lies_between, ends_of}
use Rattle.ags_domain.specs.SetOf.{least_of, greatest_of}
use Rattle.ags_domain.specs.declared.values.Value.{Value}
use Rattle.ags_domain.specs.declared.values.Value.TheVariants.{Range, Words}

-- the words of least and of greatest value
abbrev pub value_ends : Value → Ends
value_ends (Range range) = range_ends range
value_ends (Words set) = ends_of (least_of set.list) (greatest_of set.list)

-- a range holds the words between its ends, a word set its members
abbrev pub value_held : Value → ℕ → Bool
value_held (Range range) word = lies_between (range_ends range) word
value_held (Words set) word = lists set.list word

abbrev pub value_form : Value → Form
value_form (Range range) = Ranged
value_form (Words set) = Listed

-- what a value means; a set of a few words is made as a word set
abbrev pub value_meaning : Meaning Value
value_meaning = record { held = value_held; ends = value_ends; form = value_form; form_of_few = Listed }
