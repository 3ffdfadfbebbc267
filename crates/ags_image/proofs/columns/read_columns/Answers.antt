use Rattle.std.proofs.Common.{arith}
use Rattle.ags_image.proofs.ColumnLemmas.{placed_of_numbers, no_place, no_word, place_within}
use Rattle.ags_image.proofs.columns.read_columns.Goals as goal

pub returns-in_err-location-clause-placed : goal.returns-in_err-location-clause-placed
returns-in_err-location-clause-placed c =
    rw c.from_residual.ensures (no_place c.args.place.now c.args.word.now c.requires.four (λ number is. let some = c.in_err-location.ensures.only number is in absurd cc))

pub returns-in_err-word-clause-placed : goal.returns-in_err-word-clause-placed
returns-in_err-word-clause-placed c =
    rw c.from_residual-in_err-word.ensures (no_word c.args.place.now c.args.word.now c.requires.six (λ number is. let some = c.in_err-word.ensures.only number is in absurd cc))

pub overflow_cast-result : goal.overflow_cast-result
overflow_cast-result c =
    let within = place_within c.args.place.now c.in_ok-location.location c.requires.four c.in_ok-location.ensures.found in
    omega (arith, within)

pub returns-clause-placed : goal.returns-clause-placed
returns-clause-placed c =
    placed_of_numbers c.args.place.now c.args.word.now c.in_ok-location.location c.in_ok-word.word c.in_ok-location.ensures.found c.in_ok-word.ensures.found

pub returns-clause-within : goal.returns-clause-within
returns-clause-within c = place_within c.args.place.now c.in_ok-location.location c.requires.four c.in_ok-location.ensures.found
