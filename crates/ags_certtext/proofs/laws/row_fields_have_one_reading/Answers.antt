use Rattle.ags_certtext.proofs.StatementFound.{some_row, one_row}
use Rattle.ags_certtext.proofs.StatementLemmas.{row_states, row_stands}
use Rattle.ags_certtext.proofs.laws.row_fields_have_one_reading.Goals as goal

pub returns-clause-some : goal.returns-clause-some
returns-clause-some c = some_row

pub returns-clause-one : goal.returns-clause-one
returns-clause-one c = one_row

pub returns-clause-states : goal.returns-clause-states
returns-clause-states c = row_states

pub returns-clause-stands : goal.returns-clause-stands
returns-clause-stands c front line row are is = let stands = row_stands front line row are is in (stands.text, stands.at_front, stands.is_row)
