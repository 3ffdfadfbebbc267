use Rattle.ags_domain.proofs.ValueLaws.{value_ordered}
use Rattle.ags_domain.proofs.values.Value.span.Goals as goal

pub spanning-requires : goal.spanning-requires
spanning-requires c = rw (c.least_word.ensures, c.greatest_word.ensures) (value_ordered c.args.self.now)
