use Rattle.ags_times.proofs.LineLemmas.{also, fields_state, state_fields}
use Rattle.ags_times.proofs.lines.read_times_line.Goals as goal

pub returns-clause-found : goal.returns-clause-found
returns-clause-found c =
    also c.read_named.result (λ its are. fields_state c.args.line.now its (rw (← c.split_field.ensures.field, ← c.split_field.ensures.behind) are)) c.read_named.ensures.found

pub returns-clause-only : goal.returns-clause-only
returns-clause-only c = λ its is. c.read_named.ensures.only its (rw (c.split_field.ensures.field, c.split_field.ensures.behind) (state_fields c.args.line.now its is))
