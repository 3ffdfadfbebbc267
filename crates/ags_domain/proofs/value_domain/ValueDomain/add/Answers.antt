use Rattle.ags_word.specs.Operation.{sum}
use Rattle.ags_domain.specs.Candidates.{sum_candidates}
use Rattle.ags_domain.specs.Range.{range_ends}
use Rattle.ags_domain.specs.Value.{value_ends}
use Rattle.ags_domain.proofs.ValueLaws.{answers_of_spans}
use Rattle.ags_domain.proofs.value_domain.ValueDomain.add.Goals as goal

pub returns : goal.returns
returns c =
    answers_of_spans sum sum_candidates (range_ends c.span.result) (range_ends c.span-2.result) (value_ends c.args.self.now) (value_ends c.args.m.now)
    c.span.ensures c.span-2.ensures c.sum.result c.ranged.result c.sum.ensures c.ranged.ensures
