-- What a drive comes to, by how it was begun and by what its acts came to. The proof of `drive` cites:
--     driven_whole    all acts were made
--     driven_less     they weren't
--     not_begun       the run wasn't begun
--     error_fault     an error tells a fault of the sink or not, whatever else there might have been
--     rose_at         with a fault the count of faults rose
use Rattle.std.proofs.Common.{◌≡◌, ℕ, ◌+◌, ◌%◌, ◌^◌, ◌≤◌, List, [], ◌∷◌, length, refl, sym, ap, subst, append-nil, arith}
use Rattle.std.specs.Prelude.{Option, Some, None, Result, Err, IsErrOf, count_by}
use Rattle.ags_drive.specs.Act.{Act, acts_of_script}
use Rattle.ags_drive.specs.Bench as play
use Rattle.ags_drive.specs.Bench.{start_bench}
use Rattle.ags_drive.specs.BenchRun.{RefusedAct}
use Rattle.ags_drive.specs.Doing.{Refusal, NoDevice, NoFeed, OutsidePut}
use Rattle.ags_drive.specs.Driven.{AreBehind, Refused, Stopped, DrivenTo, DrivenWhole, DrivenInPart}
use Rattle.ags_drive.proofs.CountLemmas.{few_steps}
use Rattle.ags_drive.proofs.GrownLemmas.{behind_self}
use Rattle.ags_drive.proofs.OneBenchRunLemmas.{some_outside}
use Rattle.ags_drive.proofs.PointLemmas.{point_here}
use Rattle.ags_benchscript.specs.Script.{steps_of}
use Rattle.ags_benchscript.specs.declared.commands.BenchCommand.{BenchCommand}
use Rattle.ags_device.specs.Record.{DeviceRecord}
use Rattle.ags_domain.specs.declared.values.Value.{Value}
use Rattle.ags_outside.specs.Count.{HasCause, Rose}
use Rattle.ags_outside.specs.Sink.{appended_nothing, WroteFront, wrote_nothing, front_of_wrote}
use Rattle.ags_play.specs.Counted.{is_step}
use Rattle.ags_play.specs.Guard.{IsFirstOutside}
use Rattle.ags_ports.specs.declared.machines.Machine.{Machine}
use Rattle.ags_ports.specs.Machine.{IsMachine}
use Rattle.ags_run.specs.Play.{outside_of}
use Rattle.ags_safe.specs.Certificate.{Certificate}
use Rattle.ags_drive.specs.BenchRun.{acts_unless}
use Rattle.ags_drive.specs.Played.{Plays, IsPoint, next_text}
use Rattle.ags_drive.specs.declared.benches.Bench.{Bench}
use Rattle.ags_drive.specs.declared.drive_error.DriveError.{DriveError}
use Rattle.ags_drive.specs.declared.drive_error.DriveError.TheVariants as error
use Rattle.ags_drive.specs.declared.driving.Driven.{Driven}
use Rattle.ags_drive.specs.Drive.{IsUndriven, is_drive_fault}
use Rattle.ags_drive.specs.Making.{Made, Unmade}
use Rattle.ags_drive.specs.Standing.{bench_of}
use Rattle.ags_drive.specs.Starting.{IsUnbegun}

-- a count that is kept modulo 2 ^ 64, from 0 on, is the number itself where that is less
exact : (before after count : ℕ) → before ≡ 0 → after ≡ (before + count) % 2 ^ 64 → count ≤ 100000000 → after ≡ count
exact before after count none counted few = omega arith

module _ (machine : Machine) (image : List (Option ℕ)) (cert : Certificate Value) (devices : List DeviceRecord) (lines : List (ℕ × BenchCommand)) where
  abbrev start : play.Bench
  start = start_bench machine image cert devices

  abbrev acts : List Act
  acts = acts_of_script (length devices) lines

  abbrev IsInside : Type 0
  IsInside = IsFirstOutside machine image cert start.core None

  -- acts that were all made from the start are the script's run
  pub driven_whole : (before after : Bench) (now : List DeviceRecord) (old new : Option (List ℕ)) → IsMachine machine → IsInside → steps_of lines ≤ 100000000 → bench_of before devices ≡ start
      → before.listener.steps ≡ 0 → before.puts ≡ 0 → Made machine cert acts old new before after devices now → DrivenWhole machine image cert devices lines old new now after.listener.steps after.puts
  driven_whole before after now old new is inside few stands no_steps no_puts p =
      let point : IsPoint machine cert start acts p.events p.text (bench_of after now) acts [] = record {
        acts_are = sym (append-nil acts);
        plays = subst (λ (b : play.Bench). Plays machine cert b acts p.events p.text (bench_of after now)) stands p.plays;
      } in
      let least : count_by is_step p.events ≤ 100000000 = omega (arith, few, few_steps machine cert start (bench_of after now) (length devices) lines acts [] p.events p.text is point) in
      record {
        events = p.events;
        text = p.text;
        runs = record { found = None; tested = inside; runs = record { here = bench_of after now; done = acts; rest = []; point = point; stops = (refl, refl) } };
        words = p.words;
        sent = p.sent;
        steps_are = exact before.listener.steps after.listener.steps (count_by is_step p.events) no_steps p.counted.steps least;
        puts_are = omega (arith, no_puts, p.counted.puts);
      }

  refused_to : (old new : Option (List ℕ)) (now : List DeviceRecord) (why : Refusal) → IsInside → Refused machine cert start acts old new now why → DrivenTo machine image cert devices lines old new now (RefusedAct why)
  refused_to old new now why inside p = record {
    events = p.events;
    text = p.text;
    runs = record { found = None; tested = inside; runs = record { here = p.here; done = p.done; rest = p.act ∷ p.rest; point = p.point; stops = (why, p.refused, p.records, refl) } };
    words = p.words;
    sent = p.sent;
  }

  stopped_at : (old new : Option (List ℕ)) (Stands : (first point : List DeviceRecord) → Type 0) → IsInside → Stopped machine cert start acts old new Stands → DrivenInPart machine image cert devices lines old new Stands
  stopped_at old new Stands inside p = record {
    events = p.events;
    text = p.text;
    here = p.here;
    done = p.done;
    rest = p.rest;
    point = record { found = None; tested = inside; point = p.point };
    words = p.words;
    records = p.records;
    front = p.front;
  }

  less_from : (old new : Option (List ℕ)) (now : List DeviceRecord) (met : DriveError) → IsInside → Unmade machine cert start acts old new now met → IsUndriven machine image cert devices lines old new now met
  less_from old new now error.WriteFault inside p = stopped_at old new (λ first point. now ≡ point) inside p
  less_from old new now error.NoMemory inside p = stopped_at old new (λ first point. AreBehind first now point) inside p
  less_from old new now (error.InputRange address word) inside p = refused_to old new now (OutsidePut (record { address = address; word = word })) inside p
  less_from old new now (error.NoDevice line device) inside p = refused_to old new now (NoDevice line device) inside p
  less_from old new now (error.NoFeed line device) inside p = refused_to old new now (NoFeed line device) inside p
  less_from old new now (error.StartOutside outside) inside p = absurd p

  -- where they weren't, the run was driven as far
  pub driven_less : (b : play.Bench) (old new : Option (List ℕ)) (now : List DeviceRecord) (met : DriveError) → IsInside → b ≡ start → Unmade machine cert b acts old new now met
      → IsUndriven machine image cert devices lines old new now met
  driven_less b old new now met inside stands p = less_from old new now met inside (subst (λ (x : play.Bench). Unmade machine cert x acts old new now met) stands p)

  -- where the run wasn't begun, nothing of it was printed, and the devices are those that were handed in
  pub not_begun : (told : Option (List ℕ)) (met : DriveError) → IsMachine machine → IsUnbegun machine image cert met → IsUndriven machine image cert devices lines told told devices met
  not_begun told (error.StartOutside outside) is found = record {
    events = [];
    text = [];
    runs = record { found = Some (outside_of outside); tested = found; runs = (refl, refl, refl, refl) };
    words = tt;
    sent = sym (appended_nothing told);
  }
  not_begun told error.NoMemory is none =
      let outside = some_outside machine image cert devices lines is in
      let rest = acts_unless outside.0 acts in
      record {
        events = [];
        text = [];
        here = start;
        done = [];
        rest = rest;
        point = record { found = outside.0; tested = outside.1; point = point_here machine cert start rest };
        words = tt;
        records = behind_self devices;
        front = subst (λ (old : Option (List ℕ)). WroteFront old told (next_text machine start rest)) (sym (appended_nothing told)) (front_of_wrote (wrote_nothing told (next_text machine start rest)));
      }
  not_begun told error.WriteFault is none = absurd none
  not_begun told (error.InputRange address word) is none = absurd none
  not_begun told (error.NoDevice line device) is none = absurd none
  not_begun told (error.NoFeed line device) is none = absurd none

-- ---- faults of the sink

pub error_fault : (T U : Type 0) (met : DriveError) → is_drive_fault {T = T} (Err met) ≡ is_drive_fault {T = U} (Err met)
error_fault T U error.WriteFault = refl
error_fault T U (error.StartOutside outside) = refl
error_fault T U (error.InputRange address word) = refl
error_fault T U (error.NoDevice line device) = refl
error_fault T U (error.NoFeed line device) = refl
error_fault T U error.NoMemory = refl

pub rose_at : (before now : ℕ) (r : Result Driven DriveError) → HasCause before now (is_drive_fault r) → IsErrOf r error.WriteFault → Rose before now
rose_at before now r has is = has.cause (ap (λ (x : Result Driven DriveError). is_drive_fault x) is)
