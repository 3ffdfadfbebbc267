-- Where each case keeps the tags of its row, tagged runs keep what the tags tell. Behind the law is
--     scales_kept
use Rattle.std.proofs.Common.{◌≡◌, ℕ, ◌+◌, refl, sym, ap, subst, ◌∙◌, ⊎_elim, List, [], ◌∷◌}
use Rattle.std.specs.Prelude.{Option, Some, None, IfSome}
use Rattle.ags_isa.specs.declared.orders.Order.{Order}
use Rattle.ags_isa.specs.Naming.{Names}
use Rattle.ags_domain.specs.Domain.{Meaning, IsMeaning}
use Rattle.ags_ports.specs.declared.events.Phase.{Phase}
use Rattle.ags_ports.specs.declared.events.Phase.TheVariants.{Running, Waiting, Halted}
use Rattle.ags_ports.specs.declared.events.Event.{Event}
use Rattle.ags_ports.specs.declared.events.Event.TheVariants.{Step, Pulse, Put}
use Rattle.ags_ports.specs.declared.machines.Machine.{Machine}
use Rattle.ags_ports.specs.Machine.{IsMachine}
use Rattle.ags_ports.specs.Effect.{effective_at}
use Rattle.ags_ports.specs.State.{State, IsState, word_here}
use Rattle.ags_ports.specs.Step.{Steps, StepsIn, phase_after_pulse}
use Rattle.ags_ports.specs.Run.{Moment, Run, AreEvents, AtEachStep}
use Rattle.ags_ports.proofs.StateLemmas.{step_keeps}
use Rattle.ags_row.specs.declared.posts.Post.{Post}
use Rattle.ags_row.specs.declared.rows.Row.{Row}
use Rattle.ags_safe.specs.Case.{Case, case_of}
use Rattle.ags_safe.specs.InRow.{IsInRow, AreCellsInLimits}
use Rattle.ags_safe.specs.OneStep.{AgreesWith, Follows}
use Rattle.ags_safe.proofs.CodeLemmas.{code_has_word}
use Rattle.ags_safe.proofs.OneStepLemmas.{one_step}
use Rattle.ags_safe.proofs.CoverLemmas.{covered, kept_in_limits}
use Rattle.ags_safe.specs.Certificate.{Certificate}
use Rattle.ags_safe.specs.Failing.{StandsAt}
use Rattle.ags_safe.specs.Safe.{IsSafeState, IsSafeStep, Safe}
use Rattle.ags_safe.specs.Start.{IsStart}
use Rattle.ags_tags.specs.declared.tags.RowTags.{RowTags}
use Rattle.ags_tags.specs.Tag.{Scaling, tags_of_row}
use Rattle.ags_scale.specs.Change.{Tags, raw, Met, tags_met, tags_after}
use Rattle.ags_scale.specs.Tagged.{Runs, AreTagsNext, AtEachTagged, KeepsTags, KeepsScales}
use Rattle.ags_scale.specs.Tagging.{KeepsRowTags, IsTaken, IsStartTagged}
use Rattle.ags_scale.specs.Accepted.{AreScalesAccepted}
use Rattle.ags_scale.proofs.ChangeLemmas.{HoldsTags, after_held, met_equal, tags_taken, raw_held}
use Rattle.ags_safe.proofs.StartRowLemmas.{start_in_row}
use Rattle.ags_scale.proofs.StepLemmas.{runs_one, next_by, still, pulse_step, put_step, waiting_running, halted_running, step_kept}

module _ {D : Type 0} (meaning : Meaning D) (lawful : IsMeaning D meaning) (machine : Machine) (image : List (Option ℕ)) (cert : Certificate D) (scales : Scaling)
    (machine_is : IsMachine machine) where
  abbrev case_at : Row D → State → Case D
  case_at row s = case_of machine image cert.limits row (word_here s) s.index s.indicator

  -- the case of each state of a row keeps its tags
  abbrev pub EachKeeps : Type 0
  EachKeeps = (position : ℕ) (row : Row D) (s : State) → StandsAt cert position row → IsState machine s → IsInRow meaning image cert.limits row s
      → KeepsRowTags meaning cert scales (position + 1) (case_at row s)

  -- some row holds the state, and its tags hold these
  abbrev IsTagged : State → Tags → Type 0
  IsTagged s tags = (position : ℕ) × (row : Row D) × StandsAt cert position row × IsInRow meaning image cert.limits row s
      × HoldsTags (tags_of_row scales (position + 1)) tags

  -- ---- one event

  -- there are tags after it that hold of the state after it, and it keeps what the tags tell
  record Goes (s : State) (tags : Tags) (event : Event) (moment : Moment) : Type 0 where
    after : Tags
    next : AreTagsNext machine scales s event tags after
    equal : (order : Order) (e y : ℕ) → Runs machine s event order e y → (two : Met) → tags_met scales order e y tags ≡ Some two → two.left ≡ two.right
    tagged : IsTagged moment.after after

  -- ---- a step where orders run

  module _ (keeps : EachKeeps) (s : State) (state : IsState machine s) (safe : IsSafeState meaning machine image cert s) (running : s.phase ≡ Running)
      (moment : Moment) (step : Steps machine s Step moment.report moment.after) (tags : Tags) (position : ℕ) (row : Row D)
      (stands : StandsAt cert position row)
      (in_row : IsInRow meaning image cert.limits row s) (held : HoldsTags (tags_of_row scales (position + 1)) tags) where
    abbrev here : Case D
    here = case_at row s

    abbrev kept : KeepsRowTags meaning cert scales (position + 1) here
    kept = keeps position row s stands state in_row

    abbrev order : Order
    order = kept.are_tags.0

    abbrev e : ℕ
    e = kept.are_tags.1

    abbrev y : ℕ
    y = kept.are_tags.2

    runs : Runs machine s Step order e y
    runs =
        let its = kept.are_tags.3 in
        record {
          step = refl;
          reads = record {
            running = running;
            indexed = its.read.indexed;
            address = its.read.address;
            names = subst (λ (o : Order). Names machine.codes (word_here s) o its.read.indexed its.read.address) (sym its.order_is) its.is_read;
          };
          acts_on = subst (λ (o : Order). e ≡ effective_at s.index o its.read.indexed its.read.address) (sym its.order_is) its.acts_on;
          address = its.address;
        }

    after_tags : HoldsTags kept.tags (tags_after scales order e y tags)
    after_tags = subst (λ (t : RowTags). HoldsTags t (tags_after scales order e y tags)) (sym kept.are_tags.4.1)
        (after_held scales order e y (tags_of_row scales (position + 1)) tags held)

    equal_here : (other : Order) (f z : ℕ) → Runs machine s Step other f z → (two : Met) → tags_met scales other f z tags ≡ Some two → two.left ≡ two.right
    equal_here other f z also two met =
        let one = runs_one machine machine_is s Step order other e y f z runs also in
        met_equal scales order e y (tags_of_row scales (position + 1)) tags held kept.are_tags.4.0 two
        (ap (λ (o : Order). tags_met scales o e y tags) one.0 ∙ ap (λ (k : ℕ). tags_met scales other k y tags) one.1
        ∙ ap (λ (k : ℕ). tags_met scales other f k tags) one.2 ∙ met)

    follows : Follows meaning here kept.pair moment.report moment.after
    follows = one_step meaning lawful here s moment.report moment.after kept.pair machine_is state
        (record { running = running; in_row = in_row; word = refl; index = refl; indicator = refl; inputs = safe.inputs }) kept.posts step

    cells_after : AreCellsInLimits meaning cert.limits moment.after
    cells_after = kept_in_limits meaning here s moment.report moment.after kept.pair state step follows safe.cells

    state_after : IsState machine moment.after
    state_after = step_keeps machine s Step moment.report moment.after machine_is state tt step

    -- the row that takes the tags holds the state after
    in_taking : (post : Option (Post D)) → IfSome post (IsTaken meaning cert scales kept.tags row) → AgreesWith meaning cert.limits row post moment.after
        → IsTagged moment.after (tags_after scales order e y tags)
    in_taking None taken agrees = absurd agrees
    in_taking (Some post) taken agrees = (
      taken.0,
      taken.1,
      (taken.2, taken.3),
      covered meaning machine image cert.limits taken.1 row post moment.after state_after taken.4.0 agrees follows.fixed cells_after,
      tags_taken (tags_of_row scales (taken.0 + 1)) kept.tags (tags_after scales order e y tags) taken.4.1 after_tags,
    )

    step_goes : Goes s tags Step moment
    step_goes = record {
      after = tags_after scales order e y tags;
      next = next_by machine machine_is scales s Step order e y tags runs;
      equal = equal_here;
      tagged = ⊎_elim
          (λ first. in_taking kept.pair.first kept.taken.0 first)
          (λ second. in_taking kept.pair.second kept.taken.1 second)
          follows.agrees;
    }

  -- ---- the other events

  row_moved : (s : State) (phase : Phase) (inputs : List ℕ) (row : Row D) → IsInRow meaning image cert.limits row s
      → IsInRow meaning image cert.limits row (record s { phase = phase; inputs = inputs })
  row_moved s phase inputs row is = record {
    location = is.location;
    a = is.a;
    q = is.q;
    index = is.index;
    indicator = is.indicator;
    fixed = is.fixed;
    cells = is.cells;
    link = is.link;
  }

  idle_goes : (s : State) (tags : Tags) (event : Event) (moment : Moment) (phase : Phase) (inputs : List ℕ)
      → ((order : Order) (e y : ℕ) → ¬ Runs machine s event order e y) → moment.after ≡ record s { phase = phase; inputs = inputs } → IsTagged s tags
      → Goes s tags event moment
  idle_goes s tags event moment phase inputs none is tagged = record {
    after = tags;
    next = still machine scales s event tags none;
    equal = λ order e y runs. absurd (none order e y runs);
    tagged = (
      tagged.0,
      tagged.1,
      tagged.2,
      subst (λ (t : State). IsInRow meaning image cert.limits tagged.1 t) (sym is) (row_moved s phase inputs tagged.1 tagged.3),
      tagged.4,
    );
  }

  not_running : (s : State) (event : Event) → (s.phase ≡ Running → ⊥) → (order : Order) (e y : ℕ) → ¬ Runs machine s event order e y
  not_running s event never other f z runs = never runs.reads.running

  module _ (keeps : EachKeeps) (s : State) (state : IsState machine s) (safe : IsSafeState meaning machine image cert s) (moment : Moment) (tags : Tags)
      (tagged : IsTagged s tags) where
    goes_in : (phase : Phase) (event : Event) → s.phase ≡ phase → Steps machine s event moment.report moment.after → Goes s tags event moment
    goes_in Running Step is step = step_goes keeps s state safe is moment step tags tagged.0 tagged.1 tagged.2 tagged.3 tagged.4
    goes_in Waiting Step is step =
        let stays = subst (λ (phase : Phase). StepsIn phase machine s moment.report moment.after) is step in
        idle_goes s tags Step moment s.phase s.inputs (not_running s Step (λ other. waiting_running (sym is ∙ other))) stays.1 tagged
    goes_in Halted Step is step =
        let stays = subst (λ (phase : Phase). StepsIn phase machine s moment.report moment.after) is step in
        idle_goes s tags Step moment s.phase s.inputs (not_running s Step (λ other. halted_running (sym is ∙ other))) stays.1 tagged
    goes_in phase Pulse is step = idle_goes s tags Pulse moment (phase_after_pulse s.phase) s.inputs (λ order e y runs. pulse_step runs.step) step.1 tagged
    goes_in phase (Put address word) is step =
        idle_goes s tags (Put address word) moment s.phase _ (λ order e y runs. put_step address word runs.step) step.1 tagged

  -- ---- each run

  run_tagged : EachKeeps → (s : State) (events : List Event) (moments : List Moment) (tags : Tags) → IsState machine s
      → IsSafeState meaning machine image cert s → IsTagged s tags → AreEvents events → Run machine s events moments
      → AtEachStep (IsSafeStep meaning machine image cert) s events moments
      → AtEachTagged machine scales (KeepsTags machine scales) tags s events moments
  run_tagged keeps s [] [] tags state safe tagged are run steps = tt
  run_tagged keeps s [] (m ∷ ms) tags state safe tagged are run steps = absurd run
  run_tagged keeps s (event ∷ events) [] tags state safe tagged are run steps = absurd run
  run_tagged keeps s (event ∷ events) (m ∷ ms) tags state safe tagged are run steps =
      let goes = goes_in keeps s state safe m tags tagged s.phase event refl run.0 in (
        goes.after,
        goes.next,
        step_kept machine machine_is scales s state event m run.0 tags goes.after goes.next goes.equal,
        run_tagged keeps m.after events ms goes.after (step_keeps machine s event m.report m.after machine_is state are.0 run.0)
            steps.0.after goes.tagged are.1 run.1 steps.1,
      )

  -- a row that holds all that may stand at the start holds each start
  start_tagged : (s : State) → IsStart meaning machine image cert s → IsSafeState meaning machine image cert s → IsStartTagged meaning cert scales image
      → IsTagged s raw
  start_tagged s start safe is = (
    is.0,
    is.1,
    (is.2, is.3),
    start_in_row meaning machine image cert s start safe.cells is.1 is.4.0,
    raw_held (tags_of_row scales (is.0 + 1)) is.4.1,
  )

  pub scales_kept : EachKeeps → IsStartTagged meaning cert scales image → Safe meaning machine image cert → KeepsScales meaning machine image cert scales
  scales_kept keeps start_is safe s events moments start are declared run = run_tagged keeps s events moments raw start.state (safe.start s start)
      (start_tagged s start (safe.start s start) start_is) are run (safe.steps s events moments start are declared run)

  -- ---- the rows of accepted scales

  pub rows_keep : AreScalesAccepted meaning machine image cert scales → EachKeeps
  rows_keep are position row s stands state in_row =
      let tagged = are.rows position row stands in
      tagged.cases (word_here s) s.index s.indicator (code_has_word meaning image cert.limits row tagged.code machine s state in_row tagged.is_code)
      in_row.index in_row.indicator
