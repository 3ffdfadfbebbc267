-- What the tags tell of a step of a run in which tags that meet are equal. Behind the law is
--     step_kept
use Rattle.std.proofs.Common.{◌≡◌, ℕ, ◌%◌, ◌^◌, false, refl, sym, ap, subst, ◌∙◌, ◌⊎◌, inl, inr, inl, inr, ℤ, pos, ◌+ℤ◌, ◌-ℤ◌, ◌*ℤ◌}
use Rattle.std.specs.Prelude.{Option, Some, true, neg_ℤ, ◌≤ℤ◌}
use Rattle.ags_word.specs.Word.{val}
use Rattle.ags_word.specs.Long.{long, IsFloor}
use Rattle.ags_isa.specs.declared.orders.Order.{Order}
use Rattle.ags_isa.specs.declared.orders.Order.TheVariants.{Add, Adz, Als, Lrs, Mpy, Sub, Suz}
use Rattle.ags_isa.specs.declared.decoding.Decoded.{Decoded}
use Rattle.ags_ports.specs.declared.events.Event.{Event}
use Rattle.ags_ports.specs.declared.events.Event.TheVariants.{Step, Pulse, Put}
use Rattle.ags_ports.specs.declared.events.Done.{Done as Report}
use Rattle.ags_ports.specs.declared.events.Phase.{Phase}
use Rattle.ags_ports.specs.declared.events.Phase.TheVariants.{Running, Waiting, Halted}
use Rattle.ags_ports.specs.declared.machines.Machine.{Machine}
use Rattle.ags_ports.specs.Machine.{IsMachine}
use Rattle.ags_ports.specs.Effect.{effective}
use Rattle.ags_ports.specs.State.{State, IsState, word_here, cell}
use Rattle.ags_ports.specs.Step.{Steps, StepsIn, Obeys, Reads}
use Rattle.ags_ports.specs.Run.{Moment}
use Rattle.ags_ports.specs.Exact.{computes_number, IsExactResult, number_left}
use Rattle.ags_ports.proofs.NamingLemmas.{decoding_same}
use Rattle.ags_ports.proofs.ExactLemmas.{exact_left}
use Rattle.ags_tags.specs.declared.tags.Tag.{Tag}
use Rattle.ags_tags.specs.declared.tags.Tag.TheVariants.{Scale}
use Rattle.ags_tags.specs.Tag.{Scaling, cell_tag}
use Rattle.ags_scale.specs.Change.{Tags, Met, less, count_of, tags_met, tags_after}
use Rattle.ags_scale.specs.Tagged.{Runs, RunsWithin, AreTagsNext, AreAt, IsRoundedDown, weight, KeepsTags}
use Rattle.ags_scale.proofs.ValueLemmas.{scale_of_tag, shifted_weight, high_of_pair, floor_of_pair}

-- ---- an event runs one order, at one address

abbrev decoded_of : (machine : Machine) (s : State) (order : Order) → Reads machine s order → Decoded
decoded_of machine s order reads = record { order = order; indexed = reads.indexed; address = reads.address }

some_same : (left right : Decoded) → ◌≡◌ {A = Option Decoded} (Some left) (Some right) → left ≡ right
some_same left right same = cc

pub runs_one : (machine : Machine) → IsMachine machine → (s : State) (event : Event) (order other : Order) (e y f z : ℕ)
    → Runs machine s event order e y → Runs machine s event other f z → (order ≡ other) × (e ≡ f) × (y ≡ z)
runs_one machine machine_is s event order other e y f z one two =
    let left = decoded_of machine s order one.reads in
    let right = decoded_of machine s other two.reads in
    let same : left ≡ right = some_same left right
    (decoding_same machine.codes machine_is.codes (word_here s) (Some left) (Some right) one.reads.names two.reads.names) in (
      ap (λ (d : Decoded). d.order) same,
      one.acts_on ∙ ap (λ (d : Decoded). effective s d.order d.indexed d.address) same ∙ sym two.acts_on,
      one.address ∙ ap (λ (d : Decoded). d.address) same ∙ sym two.address,
    )

-- the tags that one order makes of others are those after the event
pub next_by : (machine : Machine) → IsMachine machine → (scales : Scaling) (s : State) (event : Event) (order : Order) (e y : ℕ) (tags : Tags)
    → Runs machine s event order e y → AreTagsNext machine scales s event tags (tags_after scales order e y tags)
next_by machine machine_is scales s event order e y tags runs = record {
  read = λ other f z also.
      let one = runs_one machine machine_is s event order other e y f z runs also in
      ap (λ (o : Order). tags_after scales o e y tags) one.0
      ∙ ap (λ (k : ℕ). tags_after scales other k y tags) one.1
      ∙ ap (λ (k : ℕ). tags_after scales other f k tags) one.2;
  unread = λ none. absurd (none order e y runs);
}

-- ---- where an event runs no order

pub pulse_step : Pulse ≡ Step → ⊥
pulse_step h = cc

pub put_step : (address word : ℕ) → Put address word ≡ Step → ⊥
put_step address word h = cc

pub waiting_running : Waiting ≡ Running → ⊥
waiting_running h = cc

pub halted_running : Halted ≡ Running → ⊥
halted_running h = cc

-- where no order is read, the tags stay, and none meet
pub still : (machine : Machine) (scales : Scaling) (s : State) (event : Event) (tags : Tags) → ((order : Order) (e y : ℕ) → ¬ Runs machine s event order e y)
    → AreTagsNext machine scales s event tags tags
still machine scales s event tags none = record { read = λ order e y runs. absurd (none order e y runs); unread = λ also. refl }

module _ (machine : Machine) (machine_is : IsMachine machine) (scales : Scaling) (s : State) (state : IsState machine s) (event : Event) (moment : Moment)
    (step : Steps machine s event moment.report moment.after) (before after : Tags) (next : AreTagsNext machine scales s event before after)
    (equal : (order : Order) (e y : ℕ) → Runs machine s event order e y → (two : Met) → tags_met scales order e y before ≡ Some two
    → two.left ≡ two.right) where
  -- ---- the number that the order leaves

  exact : (order : Order) (e y : ℕ) → computes_number order ≡ true → (runs : Runs machine s event order e y) → moment.report.overflow ≡ false
      → IsExactResult order s.a s.q (cell s e) (y % 64) (number_left order moment.after)
  exact order e y computes runs fits =
      let here : Steps machine s Step moment.report moment.after = subst (λ (v : Event). Steps machine s v moment.report moment.after) runs.step step in
      let f = effective s order runs.reads.indexed runs.reads.address in
      subst (λ (k : ℕ). IsExactResult order s.a s.q (cell s k) (y % 64) (number_left order moment.after)) (sym runs.acts_on)
      (subst (λ (z : ℕ). IsExactResult order s.a s.q (cell s f) (z % 64) (number_left order moment.after)) (sym runs.address)
      (exact_left machine s order runs.reads moment.report moment.after machine_is state computes here fits))

  -- LRS doesn't overflow
  lrs_fits : (e y : ℕ) → Runs machine s event Lrs e y → moment.report.overflow ≡ false
  lrs_fits e y runs =
      let here : Steps machine s Step moment.report moment.after = subst (λ (v : Event). Steps machine s v moment.report moment.after) runs.step step in
      let there = subst (λ (phase : Phase). StepsIn phase machine s moment.report moment.after) runs.reads.running here in
      let named = decoded_of machine s Lrs runs.reads in
      let same : there.0 ≡ Some named = decoding_same machine.codes machine_is.codes (word_here s) there.0 (Some named) there.1 runs.reads.names in
      let obeys : Obeys machine s (Some named) moment.report moment.after =
      subst (λ (d : Option Decoded). Obeys machine s d moment.report moment.after) same there.2 in
      ap (λ (r : Report). r.overflow) obeys.0

  -- ---- the tags

  a_after : (order : Order) (e y : ℕ) → Runs machine s event order e y → after.a ≡ (tags_after scales order e y before).a
  a_after order e y runs = ap (λ (t : Tags). t.a) (next.read order e y runs)

  -- A stays at its scale, which the cell has
  at_scale : (order : Order) (e y : ℕ) (b : ℤ) → Runs machine s event order e y → before.a ≡ Scale b
      → (tags_after scales order e y before).a ≡ before.a
      → tags_met scales order e y before ≡ Some (record { left = before.a; right = cell_tag scales e }) → AreAt scales after e b
  at_scale order e y b runs is stays meets = record {
    of_cell = sym (equal order e y runs (record { left = before.a; right = cell_tag scales e }) meets) ∙ is;
    of_a = a_after order e y runs ∙ stays ∙ is;
  }

  abbrev IsSum : Order → Type 0
  IsSum order = (e y : ℕ) (b : ℤ) → RunsWithin machine s event moment order e y → before.a ≡ Scale b
      → AreAt scales after e b × (val moment.after.a ≡ val s.a +ℤ val (cell s e))

  abbrev IsDifference : Order → Type 0
  IsDifference order = (e y : ℕ) (b : ℤ) → RunsWithin machine s event moment order e y → before.a ≡ Scale b
      → AreAt scales after e b × (val moment.after.a ≡ val s.a -ℤ val (cell s e))

  add_kept : IsSum Add
  add_kept e y b within is = (at_scale Add e y b within.runs is refl refl, exact Add e y refl within.runs within.fits)

  adz_kept : IsSum Adz
  adz_kept e y b within is = (at_scale Adz e y b within.runs is refl refl, exact Adz e y refl within.runs within.fits)

  sub_kept : IsDifference Sub
  sub_kept e y b within is = (at_scale Sub e y b within.runs is refl refl, exact Sub e y refl within.runs within.fits)

  suz_kept : IsDifference Suz
  suz_kept e y b within is = (at_scale Suz e y b within.runs is refl refl, exact Suz e y refl within.runs within.fits)

  is_sum : (order : Order) → (order ≡ Add) ⊎ (order ≡ Adz) → IsSum order
  is_sum order (inl is) = subst (λ (o : Order). IsSum o) (sym is) add_kept
  is_sum order (inr is) = subst (λ (o : Order). IsSum o) (sym is) adz_kept

  is_difference : (order : Order) → (order ≡ Sub) ⊎ (order ≡ Suz) → IsDifference order
  is_difference order (inl is) = subst (λ (o : Order). IsDifference o) (sym is) sub_kept
  is_difference order (inr is) = subst (λ (o : Order). IsDifference o) (sym is) suz_kept

  als_kept : (e y : ℕ) (b c : ℤ) → RunsWithin machine s event moment Als e y → before.a ≡ Scale b → after.a ≡ Scale c
      → val moment.after.a *ℤ weight c ≡ val s.a *ℤ weight b
  als_kept e y b c within is then =
      let made : less (Scale b) (count_of y) ≡ Scale c = ap (λ (t : Tag). less t (count_of y)) (sym is) ∙ sym (a_after Als e y within.runs) ∙ then in
      let scale = scale_of_tag (b -ℤ pos (y % 64)) c made in
      shifted_weight (val s.a) (val moment.after.a) b c (y % 64) (exact Als e y refl within.runs within.fits) (sym scale.0)
      (subst (λ (k : ℤ). neg_ℤ (pos 128) ≤ℤ k) scale.0 scale.1)

  lrs_kept : (e y n : ℕ) → Runs machine s event Lrs e y → n ≡ y % 64 → IsRoundedDown (val s.a) (2 ^ n) (val moment.after.a)
  lrs_kept e y n runs is = floor_of_pair s.a s.q moment.after.a moment.after.q (2 ^ n)
      (subst (λ (k : ℕ). IsFloor (long s.a s.q) (2 ^ k) (long moment.after.a moment.after.q)) (sym is) (exact Lrs e y refl runs (lrs_fits e y runs)))

  mpy_kept : (e y : ℕ) → RunsWithin machine s event moment Mpy e y
      → IsRoundedDown (val s.a *ℤ val (cell s e)) (2 ^ 17) (val moment.after.a)
  mpy_kept e y within = high_of_pair moment.after.a moment.after.q (val s.a *ℤ val (cell s e)) (exact Mpy e y refl within.runs within.fits)

  pub step_kept : KeepsTags machine scales s before event moment after
  step_kept = record {
    meets = λ (order, e, y, runs, two, met, differ). differ (equal order e y runs two met);
    sum = λ order e y b which. is_sum order which e y b;
    difference = λ order e y b which. is_difference order which e y b;
    als = als_kept;
    lrs = λ e y n b runs is before_is after_is. lrs_kept e y n runs is;
    mpy = λ e y b c within before_is cell_is after_is. mpy_kept e y within;
  }
