-- What the functions that make acts come to.
use Rattle.std.specs.Prelude.{◌≡◌, ℕ, ◌+◌, ◌%◌, ◌^◌, ◌⊎◌, List, [], ◌∷◌, count_by, slice_get, Option, Some, None}
use Rattle.ags_drive.specs.Act.{Act}
use Rattle.ags_drive.specs.Bench as play
use Rattle.ags_drive.specs.Doing.{Does, NoDevice, NoFeed, OutsidePut, next_put, refusal, bench_after}
use Rattle.ags_drive.specs.Driven.{AreBehind, Refused, Stopped}
use Rattle.ags_drive.specs.Played.{Plays}
use Rattle.ags_device.specs.Devices.{changed_at}
use Rattle.ags_device.specs.Record.{DeviceRecord, given}
use Rattle.ags_domain.specs.declared.values.Value.{Value}
use Rattle.ags_outside.specs.Sink.{appended, WroteFront}
use Rattle.ags_play.specs.Counted.{is_step, is_put}
use Rattle.ags_play.specs.Doing.{PutWord, put_events}
use Rattle.ags_play.specs.Guard.{stopped_by}
use Rattle.ags_ports.specs.declared.events.Event.{Event}
use Rattle.ags_ports.specs.declared.machines.Machine.{Machine}
use Rattle.ags_ports.specs.Run.{Moment, Run, AreEvents, last_state}
use Rattle.ags_safe.specs.Certificate.{Certificate}
use Rattle.ags_drive.specs.declared.benches.Bench.{Bench}
use Rattle.ags_drive.specs.declared.drive_error.DriveError.{DriveError}
use Rattle.ags_drive.specs.declared.drive_error.DriveError.TheVariants as error
use Rattle.ags_drive.specs.Standing.{bench_of}

-- the events are counted, the steps modulo 2 ^ 64
pub record AreCounted (before after : Bench) (events : List Event) : Type 0 where
  pub steps : after.listener.steps ≡ (before.listener.steps + count_by is_step events) % 2 ^ 64
  pub puts : after.puts ≡ before.puts + count_by is_put events

-- ---- acts

-- All the acts were made: the sink took exactly their text.
pub record Made (machine : Machine) (cert : Certificate Value) (acts : List Act) (old new : Option (List ℕ)) (before after : Bench) (devices now : List DeviceRecord) : Type 0 where
  pub events : List Event
  pub text : List ℕ
  pub plays : Plays machine cert (bench_of before devices) acts events text (bench_of after now)
  pub words : AreEvents events
  pub sent : new ≡ appended old text
  pub counted : AreCounted before after events

-- why acts weren't all made
abbrev pub Unmade : Machine → Certificate Value → play.Bench → List Act → (old new : Option (List ℕ)) → (now : List DeviceRecord) → DriveError → Type 0
Unmade machine cert b acts old new now error.WriteFault = Stopped machine cert b acts old new (λ first point. now ≡ point)
Unmade machine cert b acts old new now error.NoMemory = Stopped machine cert b acts old new (λ first point. AreBehind first now point)
Unmade machine cert b acts old new now (error.InputRange address word) = Refused machine cert b acts old new now (OutsidePut (record { address = address; word = word }))
Unmade machine cert b acts old new now (error.NoDevice line device) = Refused machine cert b acts old new now (NoDevice line device)
Unmade machine cert b acts old new now (error.NoFeed line device) = Refused machine cert b acts old new now (NoFeed line device)
Unmade machine cert b acts old new now (error.StartOutside outside) = ⊥

-- the same of acts that print nothing, whatever the sink took before
abbrev pub SilentMade : Machine → Certificate Value → List Act → (before after : Bench) (devices now : List DeviceRecord) → Type 0
SilentMade machine cert acts before after devices now = (told : Option (List ℕ)) → Made machine cert acts told told before after devices now

abbrev pub SilentUnmade : Machine → Certificate Value → play.Bench → List Act → (now : List DeviceRecord) → DriveError → Type 0
SilentUnmade machine cert b acts now met = (told : Option (List ℕ)) → Unmade machine cert b acts told told now met

-- ---- one act

-- the act was made
pub record ActMade (machine : Machine) (cert : Certificate Value) (act : Act) (before after : Bench) (devices now : List DeviceRecord) : Type 0 where
  pub through : refusal machine cert (bench_of before devices) act ≡ None
  pub events : List Event
  pub moments : List Moment
  pub does : Does machine (bench_of before devices) act events moments
  pub words : AreEvents events
  pub after_is : bench_of after now ≡ bench_after machine (bench_of before devices) act moments
  pub counted : AreCounted before after events

-- The next word of the device at a position was put, where it has one and feeds a register: the certificate declares it, and nothing else
-- of the bench changed but the count.
pub record WordGiven (machine : Machine) (cert : Certificate Value) (before after : Bench) (put : Option PutWord) : Type 0 where
  pub through : stopped_by machine (Some cert) put ≡ None
  pub moments : List Moment
  pub run : Run machine before.core (put_events put) moments
  pub idle : moments ≡ [] ⊎ ((moment : Moment) × (moments ≡ moment ∷ []) × (moment.report.gave ≡ None))
  pub core : after.core ≡ last_state before.core moments
  pub words : AreEvents (put_events put)
  pub listener : after.listener ≡ before.listener
  pub carry : after.carry ≡ before.carry
  pub puts : after.puts ≡ before.puts + count_by is_put (put_events put)

-- a word for the register that is fed, where there are both
abbrev pub put_from : (feeds next : Option ℕ) → Option PutWord
put_from None next = None
put_from (Some address) None = None
put_from (Some address) (Some word) = Some (record { address = address; word = word })

-- the certificate doesn't declare the word, and the error tells it
abbrev pub WordStopped : Machine → Certificate Value → Option PutWord → DriveError → Type 0
WordStopped machine cert put (error.InputRange address word) = stopped_by machine (Some cert) put ≡ Some (record { address = address; word = word })
WordStopped machine cert put _ = ⊥

-- It wasn't: the certificate doesn't declare the word, which has left its plan; or the puts can't be counted any more, and nothing is
-- changed.
abbrev pub WordUngiven : Machine → Certificate Value → (devices now : List DeviceRecord) → (position : ℕ) → DriveError → Type 0
WordUngiven machine cert devices now position (error.InputRange address word) =
    (stopped_by machine (Some cert) (next_put (slice_get devices position)) ≡ Some (record { address = address; word = word })) × (now ≡ changed_at given devices position)
WordUngiven machine cert devices now position error.NoMemory = now ≡ devices
WordUngiven machine cert devices now position _ = ⊥

-- of a text the sink took a front, because it failed or memory was wanting
abbrev pub IsFrontSent : (old new : Option (List ℕ)) (text : List ℕ) → DriveError → Type 0
IsFrontSent old new text error.WriteFault = WroteFront old new text
IsFrontSent old new text error.NoMemory = WroteFront old new text
IsFrontSent old new text _ = ⊥
