use Rattle.std.proofs.Common.{subst}
use Rattle.ags_word.specs.Operation.{long_right_high}
use Rattle.ags_domain.specs.Domain.{Ends}
use Rattle.ags_domain.specs.Hull.{no_cell, IsInterval}
use Rattle.ags_domain.specs.Range.{range_meaning}
use Rattle.ags_domain.specs.Value.{value_ends}
use Rattle.ags_domain.proofs.ValueLaws.{interval_value}
use Rattle.ags_domain.proofs.value_domain.ValueDomain.lrs_high.Goals as goal

pub returns : goal.returns
returns c =
    interval_value (long_right_high c.args.count) (value_ends c.args.self.now) no_cell c.long_rights.result
    (subst (λ (ends : Ends). IsInterval range_meaning (long_right_high c.args.count) ends no_cell c.long_rights.result) c.span.ensures c.long_rights.ensures)
