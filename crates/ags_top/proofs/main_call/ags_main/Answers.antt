use Rattle.std.proofs.Common.{map}
use Rattle.std.specs.String.{string_bytes}
use Rattle.ags_top.proofs.PromiseLemmas.{promises}
use Rattle.ags_top.proofs.main_call.ags_main.Goals as goal

pub returns : goal.returns
returns g c =
    promises
    (record {
      told = g.S.Shelf.told c.args.shelf.now;
      arguments = map string_bytes c.args.arguments.now;
      old = g.K.Sink.told c.args.out.now;
      new = g.K.Sink.told c.run.new.out;
      result = c.run.result;
    })
    (record {
      faults = g.S.Shelf.faults c.args.shelf.now;
      faults_now = g.S.Shelf.faults c.run.new.shelf;
      absences = g.S.Shelf.absences c.args.shelf.now;
      absences_now = g.S.Shelf.absences c.run.new.shelf;
      sink_faults = g.K.Sink.faults c.args.out.now;
      sink_faults_now = g.K.Sink.faults c.run.new.out;
    })
    c.run.ensures.content c.run.ensures.shelf c.run.ensures.sink
