use Rattle.ags_verdict.proofs.TextLemmas.{refusal_parts}
use Rattle.ags_verdict.proofs.texts.RefusalValueDisplay.fmt.Goals as goal

pub returns-clause-writes : goal.returns-clause-writes
returns-clause-writes g c =
    rw (refusal_parts c.args.self.now, ← c.name-name.ensures, ← c.place-place.ensures, ← c.rest-rest.ensures) c.write.ensures.writes
