use Rattle.std.proofs.Common.{rules}
use Rattle.std.proofs.lemmas.Result.{MatchResult-weaker}
use Rattle.ags_certtype.specs.Cert.{certificate_of}
use Rattle.ags_drive.specs.Standing.{bench_of}
use Rattle.ags_drive.proofs.GiveLemmas.{no_device, no_feed, feed_unmade}
use Rattle.ags_drive.proofs.feeding.feed.Goals as goal

pub returns-in_default-clause-unmade : goal.returns-in_default-clause-unmade
returns-in_default-clause-unmade g c = λ told. no_device c.args.machine.now (certificate_of c.args.cert.now) (bench_of c.args.bench.now _) c.args.line c.args.number told (search rules)

pub returns-then-is_none-clause-unmade : goal.returns-then-is_none-clause-unmade
returns-then-is_none-clause-unmade g c = λ told.
    no_feed c.args.machine.now (certificate_of c.args.cert.now) (bench_of c.args.bench.now _) c.args.line c.args.number c.in-Some.position told c.in-Some.ensures.position c.in-Some.ensures.some (search rules)

pub returns-clause-unmade : goal.returns-clause-unmade
returns-clause-unmade g c =
    MatchResult-weaker c.give.result c.give.ensures.ungiven (λ x h. h)
    (λ met h told. feed_unmade c.args.machine.now (certificate_of c.args.cert.now) c.args.bench.now _ _ c.args.line c.args.number c.in-Some.position met told c.in-Some.ensures.position c.in-Some.ensures.some (search rules) h)
