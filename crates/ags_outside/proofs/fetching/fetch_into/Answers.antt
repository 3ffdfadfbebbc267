use Rattle.std.proofs.Common.{arith, refl, drop, ◌∙◌, lt_of_le_of_lt, Ok, Err}
use Rattle.std.proofs.lemmas.List.{take-append-le}
use Rattle.ags_outside.specs.declared.fetching.FetchError.TheVariants.{Absent, ReadFault, TooLong, NoMemory}
use Rattle.ags_outside.proofs.SoFar.{fetched_none, fetched_more, fetched_whole, fetched_at_most, too_long_tells, absent_tells, fault_tells, no_memory_tells, another_error, counted_last, fault_rose, absence_rose, room_within, room_some, room_whole, got_inside, got_within, filled_long, on_within, on_smaller}
use Rattle.ags_outside.proofs.fetching.fetch_into.Goals as goal

pub pulls-init : goal.pulls-init
pulls-init g c = record {
  within = omega arith;
  buffer = refl;
  same = refl;
  so_far = fetched_none g.T.Taker.took (g.S.Shelf.told c.args.shelf.now c.args.name.now) c.args.taker.now;
  stays = g.met.T.Taker.stays_at_once c.args.taker.now;
  faults_stay = refl;
  absences_stay = refl;
}

pub overflow_sub-left : goal.overflow_sub-left
overflow_sub-left g c = c.pulls.invariant.within

pub slice_bounds-piece-end : goal.slice_bounds-piece-end
slice_bounds-piece-end g c = room_within c.room-asked.result _ c.pulls.piece c.room-asked.ensures c.pulls.invariant.buffer

pub slice_bounds-pull-end : goal.slice_bounds-pull-end
slice_bounds-pull-end g c =
    room_whole c.room-asked.result c.pulls.piece (room_within c.room-asked.result _ c.pulls.piece c.room-asked.ensures c.pulls.invariant.buffer)

pub pull-requires : goal.pull-requires
pull-requires g c = room_some c.room-asked.result _ c.pulls.piece c.room-asked.ensures c.pulls.invariant.buffer

pub slice_bounds-piece-end-in-Got : goal.slice_bounds-piece-end-in-Got
slice_bounds-piece-end-in-Got g c = got_within c.in-Got.count c.room-asked.result c.pulls.piece c.pull.new.into c.pull.auto.into c.in-Got.ensures.got.1

pub slice_bounds-take-end : goal.slice_bounds-take-end
slice_bounds-take-end g c =
    room_whole c.in-Got.count _ (got_within c.in-Got.count c.room-asked.result c.pulls.piece c.pull.new.into c.pull.auto.into c.in-Got.ensures.got.1)

pub take-requires : goal.take-requires
take-requires g c κs = λ within. within

pub overflow_add-from : goal.overflow_add-from
overflow_add-from g c =
    record { fits = lt_of_le_of_lt (on_within c.pulls.from c.in-Got.count c.args.limit c.pulls.invariant.within c.if-count-left.false) c.ranges.limit.fits }

pub pulls-smaller : goal.pulls-smaller
pulls-smaller g c = on_smaller c.pulls.from c.in-Got.count c.args.limit c.in-Got.ensures.got.0 c.if-count-left.false

pub pulls-preserved : goal.pulls-preserved
pulls-preserved g c =
    let told = g.S.Shelf.told c.args.shelf.now c.args.name.now in
    let inside = got_inside c.in-Got.count c.room-asked.result c.pulls.piece c.pull.new.into c.pull.auto.into c.in-Got.ensures.got.1 in
    let more = c.in-Ok.ensures.took in
    record {
      within = on_within c.pulls.from c.in-Got.count c.args.limit c.pulls.invariant.within c.if-count-left.false;
      buffer = filled_long c.room-asked.result c.pulls.piece c.pull.new.into
          (room_within c.room-asked.result _ c.pulls.piece c.room-asked.ensures c.pulls.invariant.buffer) c.pull.auto.into c.pulls.invariant.buffer;
      same = c.pull.ensures.same ∙ c.pulls.invariant.same;
      so_far = fetched_more g.T.Taker.took told c.pulls.from c.in-Got.count c.args.taker.now c.pulls.taker c.take.new.self c.pull.new.into inside
          c.pulls.invariant.so_far (rw (← c.pulls.invariant.same) c.in-Got.ensures.tells)
          (rw (take-append-le c.in-Got.count c.pull.new.into (drop c.room-asked.result c.pulls.piece) inside) at more);
      stays = g.met.T.Taker.stays_on c.args.taker.now c.pulls.taker c.take.new.self c.pulls.invariant.stays c.in-Ok.ensures.stays;
      faults_stay = c.in-Got.ensures.faults.clean refl ∙ c.pulls.invariant.faults_stay;
      absences_stay = c.in-Got.ensures.absences.clean refl ∙ c.pulls.invariant.absences_stay;
    }

pub returns-then-count-left : goal.returns-then-count-left
returns-then-count-left g c =
    let told = g.S.Shelf.told c.args.shelf.now c.args.name.now in
    let faults = counted_last _ _ _ _ c.pulls.invariant.faults_stay c.in-Got.ensures.faults in
    let absences = counted_last _ _ _ _ c.pulls.invariant.absences_stay c.in-Got.ensures.absences in
    record {
      same = c.pull.ensures.same ∙ c.pulls.invariant.same;
      took = tt;
      stays = tt;
      handed = λ _. fetched_at_most g.T.Taker.took told c.pulls.from c.args.limit c.args.taker.now c.pulls.taker c.pulls.invariant.within c.pulls.invariant.so_far;
      tells = too_long_tells told c.pull.new.into c.pulls.from c.in-Got.count c.args.limit c.if-count-left.true c.pulls.invariant.within
          (rw (← c.pulls.invariant.same) c.in-Got.ensures.tells);
      absent = absence_rose (Err TooLong) _ _ absences;
      read_fault = fault_rose (Err TooLong) _ _ faults;
      faults = faults;
      absences = absences;
    }

pub returns-in-Err : goal.returns-in-Err
returns-in-Err g c =
    let told = g.S.Shelf.told c.args.shelf.now c.args.name.now in
    let faults = counted_last _ _ _ _ c.pulls.invariant.faults_stay c.in-Got.ensures.faults in
    let absences = counted_last _ _ _ _ c.pulls.invariant.absences_stay c.in-Got.ensures.absences in
    record {
      same = c.pull.ensures.same ∙ c.pulls.invariant.same;
      took = tt;
      stays = tt;
      handed = another_error (Err NoMemory) refl;
      tells = no_memory_tells told c.args.limit;
      absent = absence_rose (Err NoMemory) _ _ absences;
      read_fault = fault_rose (Err NoMemory) _ _ faults;
      faults = faults;
      absences = absences;
    }

pub returns-in-End : goal.returns-in-End
returns-in-End g c =
    let told = g.S.Shelf.told c.args.shelf.now c.args.name.now in
    let faults = counted_last _ _ _ _ c.pulls.invariant.faults_stay c.in-End.ensures.faults in
    let absences = counted_last _ _ _ _ c.pulls.invariant.absences_stay c.in-End.ensures.absences in
    record {
      same = c.pull.ensures.same ∙ c.pulls.invariant.same;
      took = fetched_whole g.T.Taker.took told c.pulls.from c.args.limit c.args.taker.now c.pulls.taker
          c.pull.new.into c.pulls.invariant.within c.pulls.invariant.so_far (rw (← c.pulls.invariant.same) c.in-End.ensures.tells);
      stays = c.pulls.invariant.stays;
      handed = another_error (Ok tt) refl;
      tells = tt;
      absent = absence_rose (Ok tt) _ _ absences;
      read_fault = fault_rose (Ok tt) _ _ faults;
      faults = faults;
      absences = absences;
    }

pub returns-in-Absent : goal.returns-in-Absent
returns-in-Absent g c =
    let told = g.S.Shelf.told c.args.shelf.now c.args.name.now in
    let faults = counted_last _ _ _ _ c.pulls.invariant.faults_stay c.in-Absent.ensures.faults in
    let absences = counted_last _ _ _ _ c.pulls.invariant.absences_stay c.in-Absent.ensures.absences in
    record {
      same = c.pull.ensures.same ∙ c.pulls.invariant.same;
      took = tt;
      stays = tt;
      handed = another_error (Err Absent) refl;
      tells = absent_tells told c.pull.new.into c.pulls.from c.args.limit (rw (← c.pulls.invariant.same) c.in-Absent.ensures.tells);
      absent = absence_rose (Err Absent) _ _ absences;
      read_fault = fault_rose (Err Absent) _ _ faults;
      faults = faults;
      absences = absences;
    }

pub returns-in-Failed : goal.returns-in-Failed
returns-in-Failed g c =
    let told = g.S.Shelf.told c.args.shelf.now c.args.name.now in
    let faults = counted_last _ _ _ _ c.pulls.invariant.faults_stay c.in-Failed.ensures.faults in
    let absences = counted_last _ _ _ _ c.pulls.invariant.absences_stay c.in-Failed.ensures.absences in
    record {
      same = c.pull.ensures.same ∙ c.pulls.invariant.same;
      took = tt;
      stays = tt;
      handed = another_error (Err ReadFault) refl;
      tells = fault_tells told c.args.limit;
      absent = absence_rose (Err ReadFault) _ _ absences;
      read_fault = fault_rose (Err ReadFault) _ _ faults;
      faults = faults;
      absences = absences;
    }

pub returns-in-NoMemory : goal.returns-in-NoMemory
returns-in-NoMemory g c =
    let told = g.S.Shelf.told c.args.shelf.now c.args.name.now in
    let faults = counted_last _ _ _ _ c.pulls.invariant.faults_stay c.in-NoMemory.ensures.faults in
    let absences = counted_last _ _ _ _ c.pulls.invariant.absences_stay c.in-NoMemory.ensures.absences in
    record {
      same = c.pull.ensures.same ∙ c.pulls.invariant.same;
      took = tt;
      stays = tt;
      handed = another_error (Err NoMemory) refl;
      tells = no_memory_tells told c.args.limit;
      absent = absence_rose (Err NoMemory) _ _ absences;
      read_fault = fault_rose (Err NoMemory) _ _ faults;
      faults = faults;
      absences = absences;
    }
