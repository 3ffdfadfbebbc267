use Rattle.std.proofs.Common.{◌≡◌, ◌+◌, length}
use Rattle.std.specs.Vec.Iter.{into_iter_items, into_iter_len}
use Rattle.ags_top.proofs.TellingLemmas.{Telling}
use Rattle.ags_top.proofs.edits_command.tell_each.Given as goal

-- so many edits were told, and the others are left; and no put failed
abbrev pub invariant-loop-edit : goal.invariant-loop-edit
invariant-loop-edit g l = record {
  telling : Telling l.fn.book l.fn.edits.items l.fn.before (into_iter_items l.edit-iterator) l.number l.book (g.K.Sink.told l.fn.out) (g.K.Sink.told l.out) l.status;
  faults : g.K.Sink.faults l.out ≡ g.K.Sink.faults l.fn.out;
  count : l.number + length (into_iter_items l.edit-iterator) ≡ length l.fn.edits.items;
  left : into_iter_len l.edit-iterator ≡ length (into_iter_items l.edit-iterator);
}
