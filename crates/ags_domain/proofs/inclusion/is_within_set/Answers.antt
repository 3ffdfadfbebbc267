use Rattle.ags_domain.proofs.ValueLaws.{words_in}
use Rattle.ags_domain.proofs.inclusion.is_within_set.Goals as goal

pub returns-in-Range : goal.returns-in-Range
returns-in-Range c = rw c.in-Range.is c.is_range_within.ensures

pub returns-in-Words : goal.returns-in-Words
returns-in-Words c = rw c.in-Words.is (words_in c.in-Words.words c.args.set.now c.is_within.result c.is_within.ensures)
