use Rattle.std.proofs.Common.{drop, map}
use Rattle.std.specs.String.{string_bytes}
use Rattle.std.specs.Vec.Iter.{into_iter_items}
use Rattle.ags_process.proofs.EndedLemmas.{stopped_at_once}
use Rattle.ags_process.proofs.running.answer.Goals as goal

pub returns-in-Ok-clause-exactly : goal.returns-in-Ok-clause-exactly
returns-in-Ok-clause-exactly g c = rw (c.deref.ensures.value, c.in-Ok.ensures) at c.ags_main.ensures.exactly

pub returns-in-Err-clause-content : goal.returns-in-Err-clause-content
returns-in-Err-clause-content g c =
    let arguments = map string_bytes (drop 1 (into_iter_items c.args.all)) in
    stopped_at_once (g.S.Shelf.told c.args.shelf.now) arguments (g.K.Sink.told c.args.out.now)
    (c.each_command_has_an_answer.ensures (g.S.Shelf.told c.args.shelf.now) arguments)
