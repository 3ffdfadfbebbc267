use Rattle.ags_scale.proofs.tagging.TaggingJudgeValue.case.Goals as goal

pub tagged_by_order-requires : goal.tagged_by_order-requires
tagged_by_order-requires g c = record {
  address = c.in-Some.ensures.address;
  read = rw c.word.ensures at c.in-Some.ensures.named;
}

pub returns-in-Some : goal.returns-in-Some
returns-in-Some g c = record {
  judged = c.tagged_by_order.ensures.judged;
  once = c.tagged_by_order.ensures.once;
  step = c.tagged_by_order.ensures.step;
}
