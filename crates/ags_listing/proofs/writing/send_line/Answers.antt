use Rattle.std.proofs.Common.{◌++◌, refl, codes}
use Rattle.ags_outside.specs.Sink.{front_of_wrote, wrote_nothing}
use Rattle.ags_listing.proofs.SendingLemmas.{unfailed}
use Rattle.ags_listing.proofs.writing.send_line.Goals as goal

pub returns-then-is_err-clause-sent : goal.returns-then-is_err-clause-sent
returns-then-is_err-clause-sent g c = tt

pub returns-then-is_err-clause-front : goal.returns-then-is_err-clause-front
returns-then-is_err-clause-front g c = front_of_wrote (wrote_nothing (g.K.Sink.told c.args.out.now) (c.args.front.now ++ c.args.text.now ++ codes "\n"))

pub returns-then-is_err-clause-faults : goal.returns-then-is_err-clause-faults
returns-then-is_err-clause-faults g c = unfailed (g.K.Sink.faults c.args.out.now) (g.K.Sink.faults c.args.out.now) refl

pub returns-clause-faults : goal.returns-clause-faults
returns-clause-faults g c = c.send.ensures.faults
