use Rattle.std.proofs.Common.{refl, arith}
use Rattle.std.proofs.lemmas.Result.{MatchResult-weaker}
use Rattle.ags_certtype.specs.Cert.{certificate_of}
use Rattle.ags_drive.proofs.GiveLemmas.{none_past, on_ok_both, cycle_feed_idle, cycle_feed_past, cycle_feed_made, cycle_feed_unmade}
use Rattle.ags_drive.proofs.feeding.feed_in_cycle.Goals as goal

pub returns-then-position-len : goal.returns-then-position-len
returns-then-position-len g c = record {
  fitted = c.requires;
  made = cycle_feed_past c.args.machine.now (certificate_of c.args.cert.now) c.args.bench.now _ c.args.position c.steps_fit.ensures
      (none_past _ c.args.devices.now.items c.args.position (omega (arith, c.if-position-len.true, c.len.ensures)));
  unmade = tt;
  no_fault = refl;
}

pub returns-then-not-takes_word : goal.returns-then-not-takes_word
returns-then-not-takes_word g c = record {
  fitted = c.requires;
  made = cycle_feed_idle c.args.machine.now (certificate_of c.args.cert.now) c.args.bench.now _ c.args.position c.steps_fit.ensures c.feeds_at.result c.feeds_at.ensures.feeds c.if-not-takes_word.ensures;
  unmade = tt;
  no_fault = refl;
}

pub returns : goal.returns
returns g c = record {
  fitted = c.give.ensures.fitted;
  made = on_ok_both c.give.result (cycle_feed_made c.args.machine.now (certificate_of c.args.cert.now) c.args.bench.now c.give.new.bench _ _ c.args.position c.steps_fit.ensures c.feeds_at.result c.feeds_at.ensures.feeds c.if-not-takes_word.ensures) c.give.ensures.given c.give.ensures.taken;
  unmade = MatchResult-weaker c.give.result c.give.ensures.ungiven (λ x h. h)
      (λ met h told. cycle_feed_unmade c.args.machine.now (certificate_of c.args.cert.now) c.args.bench.now _ _ c.args.position met told c.feeds_at.result c.feeds_at.ensures.feeds c.if-not-takes_word.ensures h);
  no_fault = c.give.ensures.no_fault;
}
