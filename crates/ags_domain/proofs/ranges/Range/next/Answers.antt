use Rattle.ags_domain.proofs.PartLaws.{rest_first, negative_next, rest_sign, negative_sign}
use Rattle.ags_domain.proofs.ranges.Range.next.Goals as goal

pub next_of_part-requires : goal.next_of_part-requires
next_of_part-requires c = rest_sign c.args.self.now c.rest_part.result c.rest_part.ensures

pub next_of_part-requires-in-None : goal.next_of_part-requires-in-None
next_of_part-requires-in-None c = negative_sign c.args.self.now c.negative_part.result c.negative_part.ensures

pub returns-in-Some : goal.returns-in-Some
returns-in-Some c = rest_first c.args.self.now c.args.from c.rest_part.result c.rest_part.ensures c.in-Some.word c.in-Some.ensures

pub returns-in-None : goal.returns-in-None
returns-in-None c =
    negative_next c.args.self.now c.args.from c.rest_part.result c.negative_part.result c.rest_part.ensures c.negative_part.ensures
    c.next_of_part-in-None.result c.in-None.ensures c.next_of_part-in-None.ensures
