-- Tagged runs: runs of the machine in which A and Q have a tag each, raw at the start. Here stand states, events and single steps of
-- the machine alone, and nothing of how scales are judged.
use Rattle.std.specs.Prelude.{◌≡◌, ◌≢◌, ℕ, ◌%◌, ◌^◌, ◌⊎◌, ℤ, pos, ◌+ℤ◌, ◌-ℤ◌, ◌*ℤ◌, ◌≤ℤ◌, ◌<ℤ◌, unsigned_abs, false, List, [], ◌∷◌, Option, Some, ⊤}
use Rattle.ags_word.specs.Word.{val}
use Rattle.ags_isa.specs.declared.orders.Order.{Order}
use Rattle.ags_isa.specs.declared.orders.Order.TheVariants.{Add, Adz, Als, Lrs, Mpy, Sub, Suz}
use Rattle.ags_domain.specs.Domain.{Meaning}
use Rattle.ags_ports.specs.declared.events.Event.{Event}
use Rattle.ags_ports.specs.declared.events.Event.TheVariants.{Step}
use Rattle.ags_ports.specs.declared.machines.Machine.{Machine}
use Rattle.ags_ports.specs.Effect.{effective}
use Rattle.ags_ports.specs.State.{State, cell}
use Rattle.ags_ports.specs.Step.{Reads}
use Rattle.ags_ports.specs.Run.{Moment, Run, AreEvents}
use Rattle.ags_safe.specs.Certificate.{Certificate}
use Rattle.ags_safe.specs.Start.{IsStart, AreDeclared}
use Rattle.ags_tags.specs.declared.tags.Tag.TheVariants.{Scale}
use Rattle.ags_tags.specs.Tag.{Scaling, cell_tag}
use Rattle.ags_scale.specs.Change.{Tags, raw, Met, tags_met, tags_after}

-- the event is a step that reads this order, whose address is y and which acts on the address e
pub record Runs (machine : Machine) (s : State) (event : Event) (order : Order) (e y : ℕ) : Type 0 where
  pub step : event ≡ Step
  pub reads : Reads machine s order
  pub acts_on : e ≡ effective s order reads.indexed reads.address
  pub address : y ≡ reads.address

-- the event is a step at which two tags meet and differ: a fault
abbrev pub IsFaultAt : Machine → Scaling → State → Event → Tags → Type 0
IsFaultAt machine scales s event tags = (order : Order) × (e : ℕ) × (y : ℕ) × Runs machine s event order e y
    × (two : Met) × (tags_met scales order e y tags ≡ Some two) × (two.left ≢ two.right)

-- the tags after an event: what the order that is read makes of those before it; where none is read, they stay
pub record AreTagsNext (machine : Machine) (scales : Scaling) (s : State) (event : Event) (before after : Tags) : Type 0 where
  pub read : (order : Order) (e y : ℕ) → Runs machine s event order e y → after ≡ tags_after scales order e y before
  pub unread : ((order : Order) (e y : ℕ) → ¬ Runs machine s event order e y) → after ≡ before

-- The tags go along with the run, from these at its first state; and at each step the fact holds, of the state and the tags before it,
-- of its event, and of what comes of that with the tags after it.
abbrev pub AtEachTagged : Machine → Scaling → (State → Tags → Event → Moment → Tags → Type 0) → Tags → State → List Event → List Moment
    → Type 0
AtEachTagged machine scales P tags s [] [] = ⊤
AtEachTagged machine scales P tags s (event ∷ events) (moment ∷ moments) = (after : Tags) × AreTagsNext machine scales s event tags after
    × P s tags event moment after × AtEachTagged machine scales P after moment.after events moments
-- each event has its moment
AtEachTagged machine scales P tags s [] (moment ∷ moments) = ⊥
AtEachTagged machine scales P tags s (event ∷ events) [] = ⊥

-- ---- what the tags tell

-- the event is a step that runs this order, without overflow
pub record RunsWithin (machine : Machine) (s : State) (event : Event) (moment : Moment) (order : Order) (e y : ℕ) : Type 0 where
  pub runs : Runs machine s event order e y
  pub fits : moment.report.overflow ≡ false

-- a cell and A after the order are at one scale
pub record AreAt (scales : Scaling) (after : Tags) (e : ℕ) (scale : ℤ) : Type 0 where
  pub of_cell : cell_tag scales e ≡ Scale scale
  pub of_a : after.a ≡ Scale scale

-- a whole number is another one over a divisor, rounded down
abbrev pub IsRoundedDown : (n : ℤ) (divisor : ℕ) (quotient : ℤ) → Type 0
IsRoundedDown n divisor quotient = ((quotient *ℤ pos divisor) ≤ℤ n) × (n <ℤ ((quotient +ℤ pos 1) *ℤ pos divisor))

-- 2 to the scale and 128 more; no scale of a tag is below -128
abbrev pub weight : ℤ → ℤ
weight scale = pos (2 ^ unsigned_abs (scale +ℤ pos 128))

-- One step of a tagged run.
pub record KeepsTags (machine : Machine) (scales : Scaling) (s : State) (before : Tags) (event : Event) (moment : Moment) (after : Tags)
    : Type 0 where
  -- It doesn't fault.
  pub meets : ¬ IsFaultAt machine scales s event before
  -- ADD and ADZ: where A is at a scale, the cell and the new A are, and the new A is the sum of A and the word that the cell had.
  pub sum : (order : Order) (e y : ℕ) (b : ℤ) → (order ≡ Add) ⊎ (order ≡ Adz) → RunsWithin machine s event moment order e y
      → before.a ≡ Scale b → AreAt scales after e b × (val moment.after.a ≡ val s.a +ℤ val (cell s e))
  -- SUB and SUZ: so it is with the difference.
  pub difference : (order : Order) (e y : ℕ) (b : ℤ) → (order ≡ Sub) ⊎ (order ≡ Suz) → RunsWithin machine s event moment order e y
      → before.a ≡ Scale b → AreAt scales after e b × (val moment.after.a ≡ val s.a -ℤ val (cell s e))
  -- ALS from one scale to another: what the words stand for is one number.
  pub als : (e y : ℕ) (b c : ℤ) → RunsWithin machine s event moment Als e y → before.a ≡ Scale b → after.a ≡ Scale c
      → val moment.after.a *ℤ weight c ≡ val s.a *ℤ weight b
  -- LRS by n from a scale to the one that is n more: the new A is A over 2 to the count, rounded down.
  pub lrs : (e y n : ℕ) (b : ℤ) → Runs machine s event Lrs e y → n ≡ y % 64 → before.a ≡ Scale b → after.a ≡ Scale (b +ℤ pos n)
      → IsRoundedDown (val s.a) (2 ^ n) (val moment.after.a)
  -- MPY from two scales to their sum: the new A is the product over 2 ^ 17, rounded down.
  pub mpy : (e y : ℕ) (b c : ℤ) → RunsWithin machine s event moment Mpy e y → before.a ≡ Scale b → cell_tag scales e ≡ Scale c
      → after.a ≡ Scale (b +ℤ c) → IsRoundedDown (val s.a *ℤ val (cell s e)) (2 ^ 17) (val moment.after.a)

-- In every run from a start, over every list of events that may come, with the tags raw at the start, no step faults, and each one
-- keeps what the tags tell.
abbrev pub KeepsScales : {D : Type 0} → Meaning D → Machine → List (Option ℕ) → Certificate D → Scaling → Type 0
KeepsScales meaning machine image cert scales = (s : State) (events : List Event) (moments : List Moment) → IsStart meaning machine image cert s
    → AreEvents events → AreDeclared meaning machine cert events → Run machine s events moments
    → AtEachTagged machine scales (KeepsTags machine scales) raw s events moments
