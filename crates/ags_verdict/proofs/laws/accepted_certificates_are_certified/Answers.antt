use Rattle.ags_verdict.proofs.VerdictLemmas.{certified_of, accepted_of, counted_of, refused_of}
use Rattle.ags_verdict.proofs.laws.accepted_certificates_are_certified.Goals as goal

pub returns-clause-certified : goal.returns-clause-certified
returns-clause-certified g c = certified_of g.D.Domain.meaning

pub returns-clause-accepted : goal.returns-clause-accepted
returns-clause-accepted g c = accepted_of g.D.Domain.meaning

pub returns-clause-counted : goal.returns-clause-counted
returns-clause-counted g c = counted_of g.D.Domain.meaning

pub returns-clause-refused : goal.returns-clause-refused
returns-clause-refused g c = λ machine image cert told is. refused_of g.D.Domain.meaning machine image cert g.met.D.Domain.lawful is told
