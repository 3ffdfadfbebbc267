use Rattle.ags_word.specs.Operation.{difference}
use Rattle.ags_domain.specs.Candidates.{difference_candidates}
use Rattle.ags_domain.specs.Range.{range_ends}
use Rattle.ags_domain.specs.Value.{value_ends}
use Rattle.ags_domain.proofs.ValueLaws.{answers_of_spans}
use Rattle.ags_domain.proofs.value_domain.ValueDomain.sub.Goals as goal

pub returns : goal.returns
returns c =
    answers_of_spans difference difference_candidates (range_ends c.span.result) (range_ends c.span-2.result) (value_ends c.args.self.now) (value_ends c.args.m.now)
    c.span.ensures c.span-2.ensures c.difference.result c.ranged.result c.difference.ensures c.ranged.ensures
