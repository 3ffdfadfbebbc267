-- One step is safe from a state on the way, and leaves another one.
use Rattle.std.proofs.Common.{◌≡◌, ◌≢◌, ℕ, ◌<◌, ◌⊎◌, true, false, refl, sym, ap, subst, ◌∙◌, List, ⊎_elim, inr}
use Rattle.std.specs.Prelude.{Option, Some, None, IfSome, IsSome, Any}
use Rattle.ags_domain.specs.Domain.{Meaning, IsMeaning}
use Rattle.ags_ports.specs.declared.events.Phase.{Phase}
use Rattle.ags_ports.specs.declared.events.Phase.TheVariants.{Running, Waiting, Halted}
use Rattle.ags_ports.specs.declared.events.Event.{Event}
use Rattle.ags_ports.specs.declared.events.Event.TheVariants.{Step, Pulse, Put}
use Rattle.ags_ports.specs.declared.events.Done.{Done}
use Rattle.ags_ports.specs.declared.events.Stored.{Stored}
use Rattle.ags_ports.specs.declared.machines.Machine.{Machine}
use Rattle.ags_ports.specs.Machine.{IsMachine}
use Rattle.ags_ports.specs.Port.{position_of, set_at}
use Rattle.ags_ports.specs.State.{State, IsState, word_here}
use Rattle.ags_ports.specs.Change.{inputs_after_take, outputs_after_give}
use Rattle.ags_ports.specs.Step.{IsEvent, Steps, StepsIn, NamesNone, idle_report, phase_after_pulse}
use Rattle.ags_ports.specs.Run.{Moment}
use Rattle.ags_ports.proofs.StateLemmas.{step_keeps}
use Rattle.ags_ports.proofs.HaltLemmas.{no_order_halts, halted_at_no_order}
use Rattle.ags_ports.proofs.ChangeLemmas.{inputs_told, outputs_told, here_told}
use Rattle.ags_row.specs.Limit.{input_limit, output_limit}
use Rattle.ags_row.specs.declared.posts.Post.{Post}
use Rattle.ags_row.specs.declared.rows.Row.{Row}
use Rattle.ags_safe.specs.Case.{Case, case_of}
use Rattle.ags_safe.specs.InRow.{IsInRow, HasFixedWords, AreCellsInLimits}
use Rattle.ags_safe.specs.OneStep.{AgreesWith, Follows, IsStoreInLimit, IsGivenInLimit}
use Rattle.ags_safe.proofs.OneStepLemmas.{one_step}
use Rattle.ags_safe.proofs.CoverLemmas.{covered, kept_in_limits}
use Rattle.ags_safe.proofs.CodeLemmas.{code_has_word}
use Rattle.ags_safe.specs.Certificate.{Certificate, Suits}
use Rattle.ags_safe.specs.Start.{IsDeclared}
use Rattle.ags_safe.specs.Safe.{HasRowAt, IsSafeState, IsSafeStep}
use Rattle.ags_safe.specs.Accepted.{IsCovered, IsRowAccepted, IsCaseAccepted, Accepted}
use Rattle.ags_safe.proofs.RegisterLemmas.{HoldsOfEach, set_each, read_each, once_address}

differ : false ≡ true → ⊥
differ h = cc

pulse_step : Pulse ≡ Step → ⊥
pulse_step h = cc

put_step : (address word : ℕ) → Put address word ≡ Step → ⊥
put_step address word h = cc

waiting_running : Waiting ≡ Running → ⊥
waiting_running h = cc

-- What each step keeps: the state is one of the machine, on the way, and not halted.
pub record IsKept {D : Type 0} (meaning : Meaning D) (machine : Machine) (image : List (Option ℕ)) (cert : Certificate D) (s : State) : Type 0 where
  pub state : IsState machine s
  pub safe : IsSafeState meaning machine image cert s
  pub awake : s.phase ≢ Halted

module _ {D : Type 0} (meaning : Meaning D) (machine : Machine) (image : List (Option ℕ)) (cert : Certificate D) where
  abbrev IsInput : ℕ → ℕ → Type 0
  IsInput address word = meaning.held (input_limit cert.limits address) word ≡ true

  abbrev IsOutput : ℕ → ℕ → Type 0
  IsOutput address word = (word ≡ 0) ⊎ (meaning.held (output_limit cert.limits address) word ≡ true)

  abbrev IsInSome : State → Type 0
  IsInSome s = Any (λ row. IsInRow meaning image cert.limits row s) cert.rows

  -- ---- events that run no order

  row_moved : (s : State) (phase : Phase) (inputs : List ℕ) (row : Row D) → IsInRow meaning image cert.limits row s
      → IsInRow meaning image cert.limits row (record s { phase = phase; inputs = inputs })
  row_moved s phase inputs row is = record {
    location = is.location;
    a = is.a;
    q = is.q;
    index = is.index;
    indicator = is.indicator;
    fixed = is.fixed;
    cells = is.cells;
    link = is.link;
  }

  -- another phase, and inputs in their limits
  moved : (s : State) (phase : Phase) (inputs : List ℕ) → IsSafeState meaning machine image cert s → HoldsOfEach machine.ports.inputs inputs IsInput
      → IsSafeState meaning machine image cert (record s { phase = phase; inputs = inputs })
  moved s phase inputs safe held = record {
    cells = safe.cells;
    fixed = safe.fixed;
    inputs = held;
    outputs = safe.outputs;
    row = (safe.row.0, safe.row.1, safe.row.2, safe.row.3, row_moved s phase inputs safe.row.1 safe.row.4);
  }

  -- where no order runs, and none was to run, the step is safe
  idle_step : (s : State) (event : Event) (moment : Moment) → moment.report ≡ idle_report s → (event ≡ Step → s.phase ≡ Running → ⊥)
      → IsSafeState meaning machine image cert moment.after → IsSafeStep meaning machine image cert s event moment
  idle_step s event moment told never after = record {
    overflow = λ over. absurd (differ (sym (ap (λ (r : Done). r.overflow) told) ∙ over));
    ran = λ ran. absurd (differ (sym (ap (λ (r : Done). r.ran) told) ∙ ran));
    order = λ is running none. never is running;
    stored = subst (λ (r : Done). IfSome r.stored (λ stored. stored.address < 2048)) (sym told) tt;
    took = subst (λ (r : Done). IfSome r.took (λ address. IsSome (position_of machine.ports.inputs address))) (sym told) tt;
    gave = subst (λ (r : Done). IfSome r.gave (λ gave. IsSome (position_of machine.ports.outputs gave.address)
        × (meaning.held (output_limit cert.limits gave.address) gave.word ≡ true))) (sym told) tt;
    after = after;
  }

  stays_awake : (s : State) (event : Event) (report : Done) (after : State) → (event ≡ Step → ⊥) → Steps machine s event report after
      → s.phase ≢ Halted → after.phase ≢ Halted
  stays_awake s event report after other step awake halts = other (no_order_halts machine s event report after step awake halts).0

  -- ---- an order that runs

  module _ (lawful : IsMeaning D meaning) (machine_is : IsMachine machine) (suits : Suits meaning machine cert)
      (accepted : Accepted meaning machine image cert) (s : State) (kept : IsKept meaning machine image cert s) (report : Done) (after : State)
      (running : s.phase ≡ Running) (step : Steps machine s Step report after) where
    -- what is taken leaves the inputs in their limits, and what is given the outputs
    taken : (took : Option ℕ) → HoldsOfEach machine.ports.inputs (inputs_after_take machine.ports.inputs s.inputs took) IsInput
    taken None = kept.safe.inputs
    taken (Some address) = read_each machine.ports.inputs s.inputs IsInput kept.state.inputs_count kept.safe.inputs address
        (position_of machine.ports.inputs address) refl
        (λ position found once. once_address machine.ports.inputs (λ (n : ℕ). IsInput n 0) suits.once address position found once)

    given : (c : Case D) → c.limits ≡ cert.limits → (gave : Option Stored) → IfSome gave (IsGivenInLimit meaning c)
        → HoldsOfEach machine.ports.outputs (outputs_after_give machine.ports.outputs s.outputs gave) IsOutput
    given c same None is = kept.safe.outputs
    given c same (Some gave) is = set_each machine.ports.outputs s.outputs IsOutput kept.state.outputs_count kept.safe.outputs gave.address gave.word
        (position_of machine.ports.outputs gave.address) refl
        (λ found. inr (ap (λ limits. meaning.held (output_limit limits gave.address) gave.word) (sym same) ∙ is.1))

    stored_erasable : (c : Case D) (stored : Option Stored) → IfSome stored (IsStoreInLimit meaning c.limits) → IfSome stored (λ (d : Stored). d.address < 2048)
    stored_erasable c None is = tt
    stored_erasable c (Some stored) is = is.0

    -- the row that covers a post has the state that agrees with it
    in_covering : (row : Row D) (post : Option (Post D)) → IfSome post (IsCovered meaning cert row) → AgreesWith meaning cert.limits row post after
        → IsState machine after → HasFixedWords image after → AreCellsInLimits meaning cert.limits after → IsInSome after
    in_covering row None covers agrees state fixed in_limits = absurd agrees
    in_covering row (Some post) covers agrees state fixed in_limits =
        (covers.0, covers.1, covers.2, covers.3, covered meaning machine image cert.limits covers.1 row post after state covers.4 agrees fixed in_limits)

    module _ (row : Row D) (in_row : IsInRow meaning image cert.limits row s) (row_is : IsRowAccepted meaning machine image cert row) where
      abbrev here : Case D
      here = case_of machine image cert.limits row (word_here s) s.index s.indicator

      judged : IsCaseAccepted meaning cert here
      judged = row_is.cases (word_here s) s.index s.indicator
          (code_has_word meaning image cert.limits row row_is.code machine s kept.state in_row row_is.is_code) in_row.index in_row.indicator

      follows : Follows meaning here judged.0 report after
      follows = one_step meaning lawful here s report after judged.0 machine_is kept.state
          (record { running = running; in_row = in_row; word = refl; index = refl; indicator = refl; inputs = kept.safe.inputs }) judged.1 step

      state_after : IsState machine after
      state_after = step_keeps machine s Step report after machine_is kept.state tt step

      cells_after : AreCellsInLimits meaning cert.limits after
      cells_after = kept_in_limits meaning here s report after judged.0 kept.state step follows kept.safe.cells

      safe_after : IsSafeState meaning machine image cert after
      safe_after = record {
        cells = cells_after;
        fixed = follows.fixed;
        inputs = subst (λ (words : List ℕ). HoldsOfEach machine.ports.inputs words IsInput) (sym (inputs_told machine s report after step)) (taken report.took);
        outputs = subst (λ (words : List ℕ). HoldsOfEach machine.ports.outputs words IsOutput) (sym (outputs_told machine s Step report after step))
            (given here refl report.gave follows.gave);
        row = ⊎_elim
            (λ first. in_covering row judged.0.first judged.2 first state_after follows.fixed cells_after)
            (λ second. in_covering row judged.0.second judged.3 second state_after follows.fixed cells_after)
            follows.agrees;
      }

      names_some : ¬ NamesNone machine s
      names_some none =
          let idle = halted_at_no_order machine s report after running none step in
          differ (sym (ap (λ (r : Done). r.ran) idle.0) ∙ follows.ran)

      row_ran : HasRowAt cert report.location → IsSafeStep meaning machine image cert s Step (record { report = report; after = after })
      row_ran at = record {
        overflow = follows.overflow;
        ran = λ ran. at;
        order = λ is runs none. names_some none;
        stored = stored_erasable here report.stored follows.stored;
        took = follows.took;
        gave = follows.gave;
        after = safe_after;
      }

      row_kept : IsKept meaning machine image cert after
      row_kept = record {
        state = state_after;
        safe = safe_after;
        awake = λ halts. names_some (no_order_halts machine s Step report after step kept.awake halts).2;
      }

    -- a step where orders run
    running_step : IsSafeStep meaning machine image cert s Step (record { report = report; after = after }) × IsKept meaning machine image cert after
    running_step =
        let row = kept.safe.row in
        let row_is : IsRowAccepted meaning machine image cert row.1 =
        subst (λ (r : Row D). IsRowAccepted meaning machine image cert r) row.3 (accepted.rows row.0 row.1 row.2) in
        let at : row.1.location ≡ report.location = sym row.4.location ∙ sym (here_told machine s Step report after step).0 in
        (row_ran row.1 row.4 row_is (row.0, row.1, row.2, row.3, at), row_kept row.1 row.4 row_is)

  -- ---- each event

  module _ (lawful : IsMeaning D meaning) (machine_is : IsMachine machine) (suits : Suits meaning machine cert)
      (accepted : Accepted meaning machine image cert) (s : State) (kept : IsKept meaning machine image cert s) where
    -- the step is safe, and what is kept is kept
    abbrev IsGood : Event → Done → State → Type 0
    IsGood event report after = IsSafeStep meaning machine image cert s event (record { report = report; after = after }) × IsKept meaning machine image cert after

    -- an event that runs no order leaves the phase, or another one, and inputs in their limits
    idle_event : (event : Event) (report : Done) (after : State) (phase : Phase) (inputs : List ℕ) → IsEvent event → (event ≡ Step → ⊥)
        → Steps machine s event report after → report ≡ idle_report s → after ≡ record s { phase = phase; inputs = inputs }
        → HoldsOfEach machine.ports.inputs inputs IsInput → IsGood event report after
    idle_event event report after phase inputs is_event other step told left held =
        let safe : IsSafeState meaning machine image cert after =
        subst (λ (t : State). IsSafeState meaning machine image cert t) (sym left) (moved s phase inputs kept.safe held) in (
          idle_step s event (record { report = report; after = after }) told (λ is running. other is) safe,
          record {
            state = step_keeps machine s event report after machine_is kept.state is_event step;
            safe = safe;
            awake = stays_awake s event report after other step kept.awake;
          },
        )

    step_good : (phase : Phase) (report : Done) (after : State) → s.phase ≡ phase → Steps machine s Step report after → IsGood Step report after
    step_good Running report after is step = running_step lawful machine_is suits accepted s kept report after is step
    step_good Waiting report after is step =
        let stays = subst (λ (phase : Phase). StepsIn phase machine s report after) is step in
        let kept_after : IsKept meaning machine image cert after = subst (λ (t : State). IsKept meaning machine image cert t) (sym stays.1) kept in
        (idle_step s Step (record { report = report; after = after }) stays.0 (λ same running. waiting_running (sym is ∙ running)) kept_after.safe, kept_after)
    step_good Halted report after is step = absurd (kept.awake is)

    pub event_good : (event : Event) (report : Done) (after : State) → IsEvent event → IsDeclared meaning machine cert event
        → Steps machine s event report after → IsGood event report after
    event_good Step report after is_event declared step = step_good s.phase report after refl step
    event_good Pulse report after is_event declared step =
        idle_event Pulse report after (phase_after_pulse s.phase) s.inputs is_event pulse_step step step.0 step.1 kept.safe.inputs
    event_good (Put address word) report after is_event declared step =
        idle_event (Put address word) report after s.phase (set_at s.inputs (position_of machine.ports.inputs address) word) is_event (put_step address word) step step.0 step.1
        (set_each machine.ports.inputs s.inputs IsInput kept.state.inputs_count kept.safe.inputs address word (position_of machine.ports.inputs address) refl declared)
