use Rattle.ags_text.specs.Field.{AreBlanks}
use Rattle.ags_edits.specs.Operand.{IsWordEdit}
use Rattle.ags_edits.proofs.LineLemmas.{none_some, word_alone, word_found_there}
use Rattle.ags_edits.proofs.lines.read_word_edit.Goals as goal
use Rattle.ags_edits.proofs.lines.read_word_edit.Goals.{After-then_some}

-- the location and the word are those of the text's fields
is_word : (c : After-then_some) → AreBlanks c.split_field-2.result.1.now → IsWordEdit c.args.text.now (record { location = c.in_ok-location.location; word = c.in_ok-word.word })
is_word c ends = record {
  location_is = rw c.split_field.ensures.field at c.in_ok-location.ensures.found;
  word_is = rw (c.split_field-2.ensures.field, c.split_field.ensures.behind) at c.in_ok-word.ensures.found;
  ends = rw (c.split_field-2.ensures.behind, c.split_field.ensures.behind) at ends;
}

pub returns-in_err-location-clause-only : goal.returns-in_err-location-clause-only
returns-in_err-location-clause-only c = λ its is. absurd (none_some its.location (c.in_err-location.ensures.only its.location (rw c.split_field.ensures.field is.location_is)))

pub returns-in_err-word-clause-only : goal.returns-in_err-word-clause-only
returns-in_err-word-clause-only c = λ its is.
    absurd (none_some its.word (c.in_err-word.ensures.only its.word (rw (c.split_field-2.ensures.field, c.split_field.ensures.behind) is.word_is)))

pub returns-clause-found : goal.returns-clause-found
returns-clause-found c =
    word_found_there c.args.text.now c.split_field-2.result.1.now _ c.are_blanks.result c.then_some.result c.then_some.ensures c.are_blanks.ensures (is_word c)

pub returns-clause-only : goal.returns-clause-only
returns-clause-only c =
    word_alone c.args.text.now c.split_field-2.result.1.now _ c.are_blanks.result c.then_some.result c.then_some.ensures c.are_blanks.ensures (is_word c)
    (λ ends. rw (c.split_field-2.ensures.behind, c.split_field.ensures.behind) ends)
