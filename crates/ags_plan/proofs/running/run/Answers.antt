use Rattle.std.proofs.Common.{map}
use Rattle.std.specs.String.{string_bytes}
use Rattle.ags_plan.proofs.running.run.Goals as goal

pub returns-in-Ok-clause-content : goal.returns-in-Ok-clause-content
returns-in-Ok-clause-content g c =
    rw (c.in-Ok.ensures.untouched) at (c.do_work.ensures.content (g.S.Shelf.told c.args.shelf.now) (map string_bytes c.args.arguments.now) c.in-Ok.ensures.ends)

pub returns-in-Ok-clause-shelf : goal.returns-in-Ok-clause-shelf
returns-in-Ok-clause-shelf g c =
    rw (c.in-Ok.ensures.untouched) at (c.do_work.ensures.shelf (g.S.Shelf.told c.args.shelf.now) (map string_bytes c.args.arguments.now)
    (g.S.Shelf.faults c.args.shelf.now) (g.S.Shelf.faults c.load_or_say.new.shelf) (g.S.Shelf.absences c.args.shelf.now) (g.S.Shelf.absences c.load_or_say.new.shelf)
    c.in-Ok.ensures.ends c.in-Ok.ensures.no_fault c.in-Ok.ensures.no_absence)

pub returns-in-Ok-clause-sink : goal.returns-in-Ok-clause-sink
returns-in-Ok-clause-sink g c =
    rw (c.in-Ok.ensures.untouched) at (c.do_work.ensures.sink (g.S.Shelf.told c.args.shelf.now) (map string_bytes c.args.arguments.now) c.in-Ok.ensures.ends)
