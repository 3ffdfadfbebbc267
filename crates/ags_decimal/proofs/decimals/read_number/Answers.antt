use Rattle.std.proofs.Common.{sym, drop}
use Rattle.ags_decimal.specs.Reading.{digits_of, front_at, rest_at}
use Rattle.ags_decimal.proofs.NumberLemmas.{number_after-append}
use Rattle.ags_decimal.proofs.WordLemmas.{below_tens}
use Rattle.ags_decimal.proofs.decimals.read_number.Goals as goal

pub returns-clause-number : goal.returns-clause-number
unfolding digits_of
returns-clause-number c =
    rw (c.number_after-number.ensures.same, c.number_after.ensures.same, c.behind_first-behind.ensures, c.split_at_mark.ensures.front, c.split_at_mark.ensures.rest)
    (sym (number_after-append 0 (front_at 46 c.args.text.now) (drop 1 (rest_at 46 c.args.text.now))))

pub returns-clause-below : goal.returns-clause-below
returns-clause-below c =
    below_tens c.number_after-number.result _ 10 c.number_after-number.ensures.below (c.are_number_digits.ensures.most c.if-not-are_number_digits.false)
