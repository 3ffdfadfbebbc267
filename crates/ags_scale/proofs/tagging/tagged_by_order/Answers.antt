use Rattle.std.proofs.Common.{inl, refl}
use Rattle.std.specs.Prelude.{Ok, Err}
use Rattle.ags_verdict.specs.RowCase.{case_in}
use Rattle.ags_scale.proofs.TaggingLemmas.{tags_of_case, one_step, no_step}
use Rattle.ags_scale.proofs.tagging.tagged_by_order.Goals as goal

pub tagged_by_posts-requires : goal.tagged_by_posts-requires
tagged_by_posts-requires g c =
    let t = c.args.tagging.now in
    tags_of_case t.scales.now (case_in t.machine.now t.image.now t.cert.now.limits c.args.row.now c.args.case) c.args.decoded c.effective_address-e.result
    c.index-x.result c.args.number c.row-before.result (Ok c.in-Ok.tags) c.requires.read c.index-x.ensures.same c.effective_address-e.ensures.address
    c.row-before.ensures c.in-Ok.ensures

pub returns-in-Ok : goal.returns-in-Ok
returns-in-Ok g c = record {
  judged = c.tagged_by_posts.ensures.judged;
  once = c.tagged_by_posts.ensures.once;
  step = one_step _ _ c.tagged_by_posts.ensures.step;
}

pub returns-in-Err : goal.returns-in-Err
returns-in-Err g c = record {
  judged = λ accepted. inl (record {
    two = c.in-Err.two;
    are_tags = tags_of_case c.args.tagging.now.scales.now
        (case_in c.args.tagging.now.machine.now c.args.tagging.now.image.now c.args.tagging.now.cert.now.limits c.args.row.now c.args.case) c.args.decoded
        c.effective_address-e.result c.index-x.result c.args.number c.row-before.result (Err c.in-Err.two) c.requires.read c.index-x.ensures.same
        c.effective_address-e.ensures.address c.row-before.ensures c.in-Err.ensures;
    is = rw (c.word.ensures, c.index-x.ensures.same, c.indicator.ensures) refl;
  });
  once = tt;
  step = no_step c.args.steps.now;
}
