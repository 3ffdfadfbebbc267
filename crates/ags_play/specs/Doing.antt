-- What one act does: the word that it puts, its events and what comes of them, the bench that it leaves, and its text.
use Rattle.std.specs.Prelude.{◌≡◌, ℕ, ◌+◌, ◌-◌, ◌%◌, Bool, false, ◌&&◌, ◌==◌, is_some, List, [], ◌∷◌, ◌++◌, length, replicate, codes, slice_index, Option, Some, None, option_map, if◌then◌else◌}
use Rattle.ags_deda.specs.Happening.{Happening, Pressed, Shown, Sent}
use Rattle.ags_deda.specs.Panel.{text, unsent}
use Rattle.ags_ports.specs.declared.events.Event.{Event}
use Rattle.ags_ports.specs.declared.events.Event.TheVariants.{Step, Pulse, Put}
use Rattle.ags_ports.specs.declared.events.Phase.{Phase}
use Rattle.ags_ports.specs.declared.events.Phase.TheVariants.{Running}
use Rattle.ags_ports.specs.declared.events.Stored.{Stored}
use Rattle.ags_ports.specs.declared.machines.Machine.{Machine}
use Rattle.ags_ports.specs.Port.{position_of, register_at}
use Rattle.ags_ports.specs.Run.{Moment, Run, last_state}
use Rattle.ags_ports.specs.State.{State, cell}
use Rattle.ags_play.specs.Shown.{reg_text, cell_text, output_text}
use Rattle.ags_timed.specs.Limit.{cycle_micros}
use Rattle.ags_timed.specs.Timed.{IsTimedRun, time_of_moments}
use Rattle.ags_play.specs.Act.{Act, MakesSteps, Pulses, Puts, Presses, Feeds, FeedsWhereZero, RunsCycle, ShowsReg, ShowsCell, ShowsOut, ShowsDeda}
use Rattle.ags_play.specs.Bench.{Bench}

-- ---- the word that an act puts

-- a word and the address of the input register that it is put into
pub record PutWord : Type 0 where
  pub address : ℕ
  pub word : ℕ

-- the digit that the panel sends next, where one is left
abbrev pub next_digit : List ℕ → Option ℕ
next_digit [] = None
next_digit (digit ∷ digits) = Some digit

-- the register at a position is there, and its word is 0
abbrev pub has_zero : List ℕ → Option ℕ → Bool
has_zero words None = false
has_zero words (Some position) = slice_index words position == 0

-- a cycle feeds in this state: the panel's digits go to a register of the machine, and its word is 0
abbrev pub wants_digit : Machine → State → Bool
wants_digit machine s = has_zero s.inputs (position_of machine.ports.inputs machine.deda_in)

-- the digit that an act takes of the panel, where it takes one
abbrev pub digit_taken : Machine → Bench → Act → Option ℕ
digit_taken machine b Feeds = next_digit (unsent b.panel)
digit_taken machine b FeedsWhereZero = if wants_digit machine b.core then next_digit (unsent b.panel) else None
digit_taken machine b _ = None

-- a digit of the panel as it is put: 20 octal and the digit, into the register that the panel's digits go to
abbrev pub put_of_digit : Machine → ℕ → PutWord
put_of_digit machine digit = record { address = machine.deda_in; word = 0o20 + digit }

-- the word that an act puts, where it puts one: that of SET, or the digit that it takes of the panel
abbrev pub put_by : Machine → Bench → Act → Option PutWord
put_by machine b (Puts address word) = Some (record { address = address; word = word })
put_by machine b act = option_map (put_of_digit machine) (digit_taken machine b act)

-- ---- its events

-- the event of a word that is put, where one is
abbrev pub put_events : Option PutWord → List Event
put_events None = []
put_events (Some put) = Put put.address put.word ∷ []

-- what is left of a cycle's time once what the last one passed its end by is taken from it
abbrev pub time_left : ℕ → ℕ
time_left carry = cycle_micros - carry

-- steps for the time that is left of a cycle
pub record IsCycle (machine : Machine) (b : Bench) (events : List Event) (moments : List Moment) : Type 0 where
  pub spent : ℕ
  pub timed : IsTimedRun machine (time_left b.carry) b.core moments spent
  pub steps : events ≡ replicate (length moments) Step

-- an act makes these events on the bench, of which these moments come
abbrev pub Makes : Machine → Bench → Act → List Event → List Moment → Type 0
Makes machine b (MakesSteps count) events moments = events ≡ replicate count Step
Makes machine b Pulses events moments = events ≡ Pulse ∷ []
Makes machine b RunsCycle events moments = IsCycle machine b events moments
Makes machine b act events moments = events ≡ put_events (put_by machine b act)

-- ---- the bench that it leaves

-- The digit that a report shows to the panel: where an order gave a word to the output register that the panel listens to,
-- and the machine has that register, the word modulo 16.
abbrev pub digit_given : Machine → Option Stored → Option ℕ
digit_given machine None = None
digit_given machine (Some gave) =
    if gave.address == machine.deda_out && is_some (position_of machine.ports.outputs machine.deda_out) then Some (gave.word % 16) else None

-- what happened to the panel once a digit was shown to it, where one is
abbrev pub with_shown : List Happening → Option ℕ → List Happening
with_shown panel None = panel
with_shown panel (Some digit) = Shown digit ∷ panel

-- what happened to the panel once it sent a digit, where it did
abbrev pub with_sent : List Happening → Option ℕ → List Happening
with_sent panel None = panel
with_sent panel (Some digit) = Sent digit ∷ panel

-- what happened to the panel once these moments came, in order
abbrev pub panel_along : Machine → List Happening → List Moment → List Happening
panel_along machine panel [] = panel
panel_along machine panel (moment ∷ moments) = panel_along machine (with_shown panel (digit_given machine moment.report.gave)) moments

-- what happened to the panel once an act handled it: a key is pressed, or a digit taken
abbrev pub handled : Machine → Bench → Act → List Happening
handled machine b (Presses key) = Pressed key ∷ b.panel
handled machine b act = with_sent b.panel (digit_taken machine b act)

-- the carry that a cycle leaves in a phase, by the time that it had and the time of its orders
abbrev pub carry_in : Phase → (had spent : ℕ) → ℕ
carry_in Running had spent = spent - had
carry_in _ had spent = 0

-- the carry after an act: a cycle sets it, and nothing else touches it
abbrev pub carry_after : Machine → Bench → Act → List Moment → ℕ
carry_after machine b RunsCycle moments =
    carry_in (last_state b.core moments).phase (time_left b.carry) (time_of_moments machine moments)
carry_after machine b _ moments = b.carry

-- the bench after an act, of whose events these moments came
abbrev pub bench_after : Machine → Bench → Act → List Moment → Bench
bench_after machine b act moments = record {
  core = last_state b.core moments;
  panel = panel_along machine (handled machine b act) moments;
  carry = carry_after machine b act moments;
}

-- An act is made on the bench: these are its events, and these the moments of their run.
pub record Does (machine : Machine) (b : Bench) (act : Act) (events : List Event) (moments : List Moment) : Type 0 where
  pub makes : Makes machine b act events moments
  pub run : Run machine b.core events moments

-- ---- its text

-- the panel's line, with the ten bytes of its display
abbrev pub deda_text : List Happening → List ℕ
deda_text panel = codes "DEDA |" ++ text panel ++ codes "|"

-- the text that an act prints on the bench: a line where it shows something
abbrev pub shown_text : Machine → Bench → Act → List ℕ
shown_text machine b ShowsReg = reg_text b.core ++ codes "\n"
shown_text machine b (ShowsCell address) = cell_text address (cell b.core address) ++ codes "\n"
shown_text machine b (ShowsOut address) = output_text address (register_at b.core.outputs (position_of machine.ports.outputs address)) ++ codes "\n"
shown_text machine b ShowsDeda = deda_text b.panel ++ codes "\n"
shown_text machine b _ = []
