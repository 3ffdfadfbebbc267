-- What one act does on a bench: the word that it puts, why it is refused, its events and what comes of them, the bench that it
-- leaves, and its text.
use Rattle.std.specs.Prelude.{◌≡◌, ℕ, ◌+◌, Bool, false, not, ◌||◌, ◌==◌, is_some, List, [], ◌∷◌, ◌++◌, length, replicate, codes, slice_get, slice_index, Option, Some, None, if◌then◌else◌}
use Rattle.ags_device.specs.Devices.{all_heard}
use Rattle.ags_device.specs.Record.{DeviceRecord}
use Rattle.ags_domain.specs.declared.values.Value.{Value}
use Rattle.ags_play.specs.Doing.{PutWord, put_events, time_left, carry_in}
use Rattle.ags_play.specs.Guard.{stopped_by}
use Rattle.ags_play.specs.Shown.{reg_text, cell_text, output_text}
use Rattle.ags_ports.specs.declared.events.Event.{Event}
use Rattle.ags_ports.specs.declared.events.Event.TheVariants.{Step, Pulse}
use Rattle.ags_ports.specs.declared.events.Stored.{Stored}
use Rattle.ags_ports.specs.declared.machines.Machine.{Machine}
use Rattle.ags_ports.specs.Port.{position_of, register_at, is_once}
use Rattle.ags_ports.specs.Run.{Moment, Run, last_state}
use Rattle.ags_ports.specs.State.{State, cell}
use Rattle.ags_safe.specs.Certificate.{Certificate}
use Rattle.ags_timed.specs.Timed.{IsTimedRun, time_of_moments}
use Rattle.ags_drive.specs.Act.{Act, MakesStep, Pulses, RunsCycle, Feeds, FeedsInCycle, ShowsReg, ShowsCell, ShowsOut, Detaches, ShowsDevice}
use Rattle.ags_drive.specs.Bench.{Bench, position_of_number, device_at, with_given, with_detached}
use Rattle.ags_drive.specs.Shown.{detached_line, left_line}

-- ---- the word that an act puts

-- the position of the input register that a device feeds, where it feeds one and the machine has it
abbrev pub fed_position : Machine → (feeds : Option ℕ) → Option ℕ
fed_position machine None = None
fed_position machine (Some address) = position_of machine.ports.inputs address

-- the input register at a position is there, and it holds its word until another is set, or its word is 0
abbrev pub takes_word : Machine → State → Option ℕ → Bool
takes_word machine s None = false
takes_word machine s (Some position) = not (is_once (slice_get machine.ports.inputs position)) || (slice_index s.inputs position == 0)

-- a cycle feeds the device in this state: the register that it feeds is there, and it is held or its word is 0
abbrev pub is_fed : Machine → State → Option DeviceRecord → Bool
is_fed machine s None = false
is_fed machine s (Some d) = takes_word machine s (fed_position machine d.feeds)

-- the position of the device whose next word an act takes
abbrev pub giver : Machine → Bench → Act → Option ℕ
giver machine b (Feeds line number) = position_of_number number
giver machine b (FeedsInCycle position) = if is_fed machine b.core (slice_get b.devices position) then Some position else None
giver machine b _ = None

-- a plan's first word with the address that is fed, where both are there
abbrev pub put_at : (feeds : Option ℕ) (plan : List ℕ) → Option PutWord
put_at None plan = None
put_at (Some address) [] = None
put_at (Some address) (word ∷ words) = Some (record { address = address; word = word })

-- a device's next word with the address that it feeds, where it has both
abbrev pub next_put : Option DeviceRecord → Option PutWord
next_put None = None
next_put (Some d) = put_at d.feeds d.plan

-- the word that an act puts, where it puts one
abbrev pub put_by : Machine → Bench → Act → Option PutWord
put_by machine b act = next_put (device_at b.devices (giver machine b act))

-- ---- why it is refused

-- no device present has that number; the device feeds no input register of the machine; or the certificate doesn't declare the word
pub data Refusal : Type 0 where
  NoDevice : (line number : ℕ) → Refusal
  NoFeed : (line number : ℕ) → Refusal
  OutsidePut : PutWord → Refusal

-- of a word that is stopped
abbrev pub refused_put : (stopped : Option PutWord) → Option Refusal
refused_put None = None
refused_put (Some put) = Some (OutsidePut put)

-- of a FEED: that there is no device comes before that it feeds no register, and that before the word
abbrev pub refused_feed : Machine → (line number : ℕ) → Option DeviceRecord → (stopped : Option PutWord) → Option Refusal
refused_feed machine line number None stopped = Some (NoDevice line number)
refused_feed machine line number (Some d) stopped = if is_some (fed_position machine d.feeds) then refused_put stopped else Some (NoFeed line number)

-- of a DETACH: that there is no device
abbrev pub refused_detach : (line number : ℕ) → Option DeviceRecord → Option Refusal
refused_detach line number None = Some (NoDevice line number)
refused_detach line number (Some d) = None

-- why an act is refused on the bench, where it is
abbrev pub refusal : Machine → Certificate Value → Bench → Act → Option Refusal
refusal machine cert b (Feeds line number) =
    refused_feed machine line number (device_at b.devices (position_of_number number)) (stopped_by machine (Some cert) (put_by machine b (Feeds line number)))
refusal machine cert b (Detaches line number) = refused_detach line number (device_at b.devices (position_of_number number))
refusal machine cert b act = refused_put (stopped_by machine (Some cert) (put_by machine b act))

-- the devices where an act is refused: a word that is stopped has left its plan, and else nothing is changed
abbrev pub devices_where_refused : Machine → Bench → Act → Refusal → List DeviceRecord
devices_where_refused machine b act (OutsidePut put) = with_given b.devices (giver machine b act)
devices_where_refused machine b act _ = b.devices

-- ---- its events

-- steps for the time that is left of a cycle
pub record IsCycle (machine : Machine) (b : Bench) (events : List Event) (moments : List Moment) : Type 0 where
  pub spent : ℕ
  pub timed : IsTimedRun machine (time_left b.carry) b.core moments spent
  pub steps : events ≡ replicate (length moments) Step

-- an act makes these events on the bench, of which these moments come
abbrev pub Makes : Machine → Bench → Act → List Event → List Moment → Type 0
Makes machine b MakesStep events moments = events ≡ Step ∷ []
Makes machine b Pulses events moments = events ≡ Pulse ∷ []
Makes machine b RunsCycle events moments = IsCycle machine b events moments
Makes machine b act events moments = events ≡ put_events (put_by machine b act)

-- An act is made on the bench: these are its events, and these the moments of their run.
pub record Does (machine : Machine) (b : Bench) (act : Act) (events : List Event) (moments : List Moment) : Type 0 where
  pub makes : Makes machine b act events moments
  pub run : Run machine b.core events moments

-- ---- the bench that it leaves

-- the devices once an order gave a word to an output register, where the machine has that register: each that hears it, in order
abbrev pub devices_given : Machine → Option Stored → List DeviceRecord → List DeviceRecord
devices_given machine None devices = devices
devices_given machine (Some gave) devices =
    if is_some (position_of machine.ports.outputs gave.address) then all_heard gave.address gave.word devices else devices

-- the devices once these moments came, in order
abbrev pub devices_along : Machine → List DeviceRecord → List Moment → List DeviceRecord
devices_along machine devices [] = devices
devices_along machine devices (moment ∷ moments) = devices_along machine (devices_given machine moment.report.gave devices) moments

-- the devices once an act handled them: one left, or one gave its next word
abbrev pub handled : Machine → Bench → Act → List DeviceRecord
handled machine b (Detaches line number) = with_detached b.devices (position_of_number number)
handled machine b act = with_given b.devices (giver machine b act)

-- the carry after an act: a cycle sets it, and nothing else touches it
abbrev pub carry_after : Machine → Bench → Act → List Moment → ℕ
carry_after machine b RunsCycle moments = carry_in (last_state b.core moments).phase (time_left b.carry) (time_of_moments machine moments)
carry_after machine b _ moments = b.carry

-- the bench after an act, of whose events these moments came
abbrev pub bench_after : Machine → Bench → Act → List Moment → Bench
bench_after machine b act moments = record {
  core = last_state b.core moments;
  devices = devices_along machine (handled machine b act) moments;
  carry = carry_after machine b act moments;
}

-- ---- its text

-- the text that an act prints on the bench: a line where it shows something
abbrev pub shown_text : Machine → Bench → Act → List ℕ
shown_text machine b ShowsReg = reg_text b.core ++ codes "\n"
shown_text machine b (ShowsCell address) = cell_text address (cell b.core address) ++ codes "\n"
shown_text machine b (ShowsOut address) = output_text address (register_at b.core.outputs (position_of machine.ports.outputs address)) ++ codes "\n"
shown_text machine b (Detaches line number) = detached_line number (device_at b.devices (position_of_number number))
shown_text machine b (ShowsDevice position) = left_line (position + 1) (slice_get b.devices position)
shown_text machine b _ = []
