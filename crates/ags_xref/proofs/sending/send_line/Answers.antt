use Rattle.std.proofs.Common.{refl}
use Rattle.ags_outside.specs.Sink.{front_of_wrote, wrote_nothing}
use Rattle.ags_xref.specs.Gathering.{entry_of}
use Rattle.ags_xref.specs.Xref.{xref_line}
use Rattle.ags_xref.proofs.SendingLemmas.{unfailed}
use Rattle.ags_xref.proofs.sending.send_line.Goals as goal

pub returns-then-is_err-clause-sent : goal.returns-then-is_err-clause-sent
returns-then-is_err-clause-sent g c = tt

pub returns-then-is_err-clause-front : goal.returns-then-is_err-clause-front
returns-then-is_err-clause-front g c = front_of_wrote (wrote_nothing (g.K.Sink.told c.args.out.now) (xref_line (entry_of c.args.row.now) c.args.naming.now))

pub returns-then-is_err-clause-faults : goal.returns-then-is_err-clause-faults
returns-then-is_err-clause-faults g c = unfailed (g.K.Sink.faults c.args.out.now) (g.K.Sink.faults c.args.out.now) refl

pub returns-clause-faults : goal.returns-clause-faults
returns-clause-faults g c = c.send.ensures.faults
