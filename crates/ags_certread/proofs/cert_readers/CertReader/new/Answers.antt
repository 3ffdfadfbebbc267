use Rattle.ags_certread.specs.Gathering.{gathering_of}
use Rattle.ags_certread.proofs.StandLemmas.{new_standing, stood_nothing}
use Rattle.ags_certread.proofs.cert_readers.CertReader.new.Goals as goal

pub invariant_of-result : goal.invariant_of-result
invariant_of-result c = stood_nothing (gathering_of c.in_ok-gatherer.gatherer) c.in_ok-gatherer.ensures

pub returns-clause-took : goal.returns-clause-took
returns-clause-took c =
    new_standing c.copy.result c.new-2.result.items (gathering_of c.in_ok-gatherer.gatherer) c.new-2.ensures.items c.in_ok-gatherer.ensures
