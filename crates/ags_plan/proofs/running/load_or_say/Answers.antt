use Rattle.std.proofs.Common.{map, refl}
use Rattle.std.specs.String.{string_bytes}
use Rattle.ags_plan.proofs.RunLemmas.{unloaded_early, unloaded_ends, unloaded_on_shelf, unloaded_on_sink}
use Rattle.ags_plan.proofs.running.load_or_say.Goals as goal

pub returns-in-Err : goal.returns-in-Err
returns-in-Err g c = record {
  ends = tt;
  made_ready = tt;
  untouched = tt;
  no_fault = tt;
  no_absence = tt;
  content = rw c.settle.ensures
      (unloaded_ends g.P.Loader.definition g.P.Loader.plan_of g.met.P.Loader.lawful (g.S.Shelf.told c.args.shelf.now) (map string_bytes c.args.arguments.now)
      g.P.Loader.line_of g.P.Loader.status_of c.in-Err.why
      (g.K.Sink.told c.args.out.now) (g.K.Sink.told c.say_unloaded.new.out) c.say_unloaded.result c.in-Err.ensures.loads c.say_unloaded.ensures.says);
  shelf = rw c.settle.ensures
      (unloaded_on_shelf g.P.Loader.definition g.P.Loader.plan_of g.met.P.Loader.lawful (g.S.Shelf.told c.args.shelf.now) (map string_bytes c.args.arguments.now)
      g.P.Loader.line_of g.P.Loader.status_of g.row.P-Work.Denot c.in-Err.why
      (g.K.Sink.told c.args.out.now) (g.K.Sink.told c.say_unloaded.new.out) c.say_unloaded.result
      (g.S.Shelf.faults c.args.shelf.now) (g.S.Shelf.faults c.load.new.shelf) (g.S.Shelf.absences c.args.shelf.now) (g.S.Shelf.absences c.load.new.shelf)
      c.in-Err.ensures.loads c.say_unloaded.ensures.says c.in-Err.ensures.faults c.in-Err.ensures.absences);
  sink = rw c.settle.ensures
      (unloaded_on_sink g.P.Loader.definition g.P.Loader.plan_of g.met.P.Loader.lawful (g.S.Shelf.told c.args.shelf.now) (map string_bytes c.args.arguments.now)
      g.P.Loader.line_of g.P.Loader.status_of c.in-Err.why
      (g.K.Sink.told c.args.out.now) (g.K.Sink.told c.say_unloaded.new.out) c.say_unloaded.result
      (g.K.Sink.faults c.args.out.now) (g.K.Sink.faults c.say_unloaded.new.out) c.in-Err.ensures.loads c.say_unloaded.ensures.says c.say_unloaded.ensures.faults);
  early = rw c.settle.ensures
      (unloaded_early g.P.Loader.definition g.P.Loader.plan_of g.met.P.Loader.lawful (g.S.Shelf.told c.args.shelf.now) (map string_bytes c.args.arguments.now)
      g.P.Loader.line_of g.P.Loader.status_of c.in-Err.why
      (g.K.Sink.told c.args.out.now) (g.K.Sink.told c.say_unloaded.new.out) c.say_unloaded.result c.in-Err.ensures.loads c.say_unloaded.ensures.says);
}

pub returns-in-Ok : goal.returns-in-Ok
returns-in-Ok g c = record {
  ends = c.in-Ok.ensures.loads;
  made_ready = c.in-Ok.ensures.made_ready;
  untouched = refl;
  no_fault = c.in-Ok.ensures.faults.clean refl;
  no_absence = c.in-Ok.ensures.absences.clean refl;
  content = tt;
  shelf = tt;
  sink = tt;
  early = tt;
}
