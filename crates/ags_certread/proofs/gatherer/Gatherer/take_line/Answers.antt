use Rattle.ags_certtext.proofs.StatementLemmas.{stated_is}
use Rattle.ags_certread.proofs.gatherer.Gatherer.take_line.Goals as goal

pub take_at-requires-clause-statement : goal.take_at-requires-clause-statement
take_at-requires-clause-statement c = stated_is c.args.bytes.now c.in-Stated.statement c.in-Stated.ensures.found.states
