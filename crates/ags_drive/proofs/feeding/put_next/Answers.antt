use Rattle.std.proofs.Common.{refl}
use Rattle.ags_certtype.specs.Cert.{certificate_of}
use Rattle.ags_drive.proofs.GiveLemmas.{none_given}
use Rattle.ags_drive.proofs.feeding.put_next.Goals as goal

pub returns-in-Some-next : goal.returns-in-Some-next
returns-in-Some-next c = record {
  fitted = c.put.ensures.fitted;
  given = rw (c.in-Some.is, c.in-Some-next.is) c.put.ensures.given;
  stopped = rw (c.in-Some.is, c.in-Some-next.is) c.put.ensures.stopped;
  no_fault = c.put.ensures.no_fault;
}

pub returns-in-None-next : goal.returns-in-None-next
returns-in-None-next c = record {
  fitted = c.requires.fitted;
  given = rw (c.in-Some.is, c.in-None-next.is) (none_given c.args.machine.now (certificate_of c.args.cert.now) c.args.bench.now);
  stopped = tt;
  no_fault = refl;
}

pub returns-in-None : goal.returns-in-None
returns-in-None c = record {
  fitted = c.requires.fitted;
  given = rw (c.in-None.is) (none_given c.args.machine.now (certificate_of c.args.cert.now) c.args.bench.now);
  stopped = tt;
  no_fault = refl;
}
