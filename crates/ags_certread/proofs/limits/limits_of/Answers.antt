use Rattle.ags_certread.specs.Gathering.{gathering_of}
use Rattle.ags_certread.proofs.LimitLemmas.{inputs_full, outputs_full, none_so_far, all_set}
use Rattle.ags_certread.proofs.limits.limits_of.Goals as goal

pub set_all-requires-2-clause-full : goal.set_all-requires-2-clause-full
set_all-requires-2-clause-full c = rw c.as_slice-2.ensures.value
    (inputs_full (gathering_of c.args.gatherer.now) c.in_ok-limits.limits c.set_all.new.limits c.in_ok-limits.ensures c.set_all.ensures.rest)

pub set_all-requires-3-clause-full : goal.set_all-requires-3-clause-full
set_all-requires-3-clause-full c = rw c.as_slice-3.ensures.value
    (outputs_full (gathering_of c.args.gatherer.now) c.in_ok-limits.limits c.set_all.new.limits c.set_all-2.new.limits c.in_ok-limits.ensures c.set_all.ensures.rest c.set_all-2.ensures.rest)

pub name_places-requires-clause-none : goal.name_places-requires-clause-none
name_places-requires-clause-none c = rw c.as_slice-4.ensures.value
    (none_so_far (gathering_of c.args.gatherer.now) c.in_ok-limits.limits c.set_all.new.limits c.set_all-2.new.limits c.set_all-3.new.limits
    c.in_ok-limits.ensures c.set_all.ensures.rest c.set_all-2.ensures.rest c.set_all-3.ensures.rest)

pub returns : goal.returns
returns c = all_set (gathering_of c.args.gatherer.now) c.set_all.new.limits c.set_all-2.new.limits c.set_all-3.new.limits c.name_places.new.limits
    c.set_all-2.ensures.rest c.set_all-3.ensures.rest c.name_places.ensures.rest
    (rw c.as_slice.ensures.value at c.set_all.ensures.set) (rw c.as_slice-2.ensures.value at c.set_all-2.ensures.set)
    (rw c.as_slice-3.ensures.value at c.set_all-3.ensures.set) (rw c.as_slice-4.ensures.value at c.name_places.ensures.named) c.every-every.ensures.whole.tables
