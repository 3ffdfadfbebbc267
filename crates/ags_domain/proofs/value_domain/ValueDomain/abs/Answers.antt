use Rattle.std.proofs.Common.{refl}
use Rattle.ags_word.specs.Operation.{size}
use Rattle.ags_domain.specs.Hull.{no_cell}
use Rattle.ags_domain.specs.Candidates.{sign_candidates}
use Rattle.ags_domain.specs.Range.{range_ends}
use Rattle.ags_domain.specs.Value.{value_ends}
use Rattle.ags_domain.proofs.ValueLaws.{answers_of_spans}
use Rattle.ags_domain.proofs.value_domain.ValueDomain.abs.Goals as goal

pub returns : goal.returns
returns c =
    answers_of_spans size sign_candidates (range_ends c.span.result) no_cell (value_ends c.args.self.now) no_cell
    c.span.ensures refl c.sizes.result c.ranged.result c.sizes.ensures c.ranged.ensures
