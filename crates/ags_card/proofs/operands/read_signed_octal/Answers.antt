use Rattle.std.proofs.Common.{◌≡◌, true, sym, ◌∙◌}
use Rattle.std.specs.Str.Parse.{starts_with_minus}
use Rattle.ags_text.specs.Numeral.{number_of}
use Rattle.ags_card.specs.Reading.{octal_reading}
use Rattle.ags_card.proofs.NumberLemmas.{negated_word}
use Rattle.ags_card.proofs.operands.read_signed_octal.Goals as goal

pub returns-then-begins_with_minus : goal.returns-then-begins_with_minus
unfolding octal_reading
returns-then-begins_with_minus c =
    let small = c.in-Some.ensures.below in
    let same : c.in-Some.number ≡ c.in_ok-word.word = (cc (c.of.ensures.fits small, c.in_ok-word.was)) in
    let minus : starts_with_minus c.args.text.now ≡ true = sym c.begins_with_minus.ensures ∙ c.if-begins_with_minus.true in
    rw (← c.behind_sign.ensures, minus) (
    negated_word (number_of 8 6 c.behind_sign.result.now) c.in-Some.number c.in_ok-word.word c.com.result.0 c.in-Some.ensures.same small same c.com.ensures.word
    )
