-- What a run spends stays within the bounds of an accepted budget. Behind the law is
--     bounds_kept
use Rattle.std.proofs.Common.{◌≡◌, ℕ, zero, suc, length, get_or, ◌+◌, ◌<◌, ◌≤◌, ◌⊎◌, Bool, true, false, refl, sym, ap, subst, ◌∙◌, ⊎_elim, arith, List, [], ◌∷◌, inl, inr}
use Rattle.std.specs.Prelude.{Option, Some, None, Result, Ok, IfSome, MatchBool, if◌then◌else◌}
use Rattle.std.specs.List.{AllByRecursion}
use Rattle.ags_isa.specs.declared.orders.Order.{Order}
use Rattle.ags_isa.specs.declared.orders.Order.TheVariants.{Abs, Add, Adz, Als, Axt, Cla, Clz, Com, Dly, Dvp, Inp, Ldq, Lls, Lrs, Mpr, Mpy, Mpz, Out, Sto, Stq, Sub, Suz, Tix, Tmi, Tov, Tra, Tsq}
use Rattle.ags_isa.specs.declared.decoding.Decoded.{Decoded}
use Rattle.ags_isa.specs.Naming.{Names}
use Rattle.ags_domain.specs.Domain.{Meaning, IsMeaning}
use Rattle.ags_ports.specs.declared.events.Phase.{Phase}
use Rattle.ags_ports.specs.declared.events.Phase.TheVariants.{Running, Waiting, Halted}
use Rattle.ags_ports.specs.declared.events.Event.{Event}
use Rattle.ags_ports.specs.declared.events.Event.TheVariants.{Step, Pulse, Put}
use Rattle.ags_ports.specs.declared.events.Done.{Done as Report}
use Rattle.ags_ports.specs.declared.machines.Machine.{Machine}
use Rattle.ags_ports.specs.Machine.{IsMachine}
use Rattle.ags_ports.specs.OrderTime.{order_time}
use Rattle.ags_ports.specs.Time.{time_of}
use Rattle.ags_ports.specs.State.{State, IsState, word_here}
use Rattle.ags_ports.specs.Effect.{effect, effective}
use Rattle.ags_ports.specs.Step.{Steps, StepsIn, Obeys, Reads, phase_after_pulse}
use Rattle.ags_ports.specs.Run.{Moment, Run, AreEvents, AtEachStep}
use Rattle.ags_ports.proofs.StateLemmas.{step_keeps}
use Rattle.ags_ports.proofs.NamingLemmas.{decoding_same}
use Rattle.ags_ports.proofs.OrderTimeLemmas.{time-read, time-other, time-idle}
use Rattle.ags_row.specs.declared.posts.Post.{Post}
use Rattle.ags_row.specs.declared.rows.Row.{Row}
use Rattle.ags_safe.specs.Case.{Case, case_of}
use Rattle.ags_safe.specs.InRow.{IsInRow, AreCellsInLimits}
use Rattle.ags_safe.specs.OneStep.{AgreesWith, Follows}
use Rattle.ags_safe.specs.Posts.{IsPostsOfCase}
use Rattle.ags_safe.specs.declared.answers.PostPair.{PostPair}
use Rattle.ags_safe.proofs.OneStepLemmas.{one_step}
use Rattle.ags_safe.proofs.CoverLemmas.{covered, kept_in_limits}
use Rattle.ags_safe.specs.Certificate.{Certificate}
use Rattle.ags_safe.specs.Failing.{StandsAt}
use Rattle.ags_safe.specs.Safe.{IsSafeState, IsSafeStep, Safe}
use Rattle.ags_times.specs.Budget.{bound_of}
use Rattle.ags_domain.specs.WordSet.{lists}
use Rattle.ags_domain.specs.declared.word_sets.WordSet.{WordSet}
use Rattle.ags_row.specs.Flag.{has_flag, indicator_number}
use Rattle.ags_safe.proofs.CodeLemmas.{code_one, code_has_word}
use Rattle.ags_safe.specs.Accepted.{IsRowAccepted, Accepted}
use Rattle.ags_verdict.specs.InOrder.{InOrder}
use Rattle.ags_verdict.specs.RowCase.{RowCase, cases_in, case_in}
use Rattle.ags_verdict.proofs.CaseLemmas.{each_cases}
use Rattle.ags_verdict.specs.Walk.{IsWalkedWith, IsWalkedAt}
use Rattle.ags_budget.specs.Timed.{AreRowsTimed}
use Rattle.ags_budget.specs.Timing.{IsCaseTimed, is_dly, IsPostInTime, IsCaseInTime}
use Rattle.ags_budget.specs.Spent.{resumes, resumed_after, spent_after, AtEachSpent, IsInBounds, IsInTime, KeepsBounds}

-- DLY leaves the machine waiting
dly_waits : (machine : Machine) (s : State) (order : Order) (e y : ℕ) → is_dly order ≡ true → (effect machine s order e y).after.phase ≡ Waiting
dly_waits machine s Abs e y is = absurd cc
dly_waits machine s Add e y is = absurd cc
dly_waits machine s Adz e y is = absurd cc
dly_waits machine s Als e y is = absurd cc
dly_waits machine s Axt e y is = absurd cc
dly_waits machine s Cla e y is = absurd cc
dly_waits machine s Clz e y is = absurd cc
dly_waits machine s Com e y is = absurd cc
dly_waits machine s Dly e y is = refl
dly_waits machine s Dvp e y is = absurd cc
dly_waits machine s Inp e y is = absurd cc
dly_waits machine s Ldq e y is = absurd cc
dly_waits machine s Lls e y is = absurd cc
dly_waits machine s Lrs e y is = absurd cc
dly_waits machine s Mpr e y is = absurd cc
dly_waits machine s Mpy e y is = absurd cc
dly_waits machine s Mpz e y is = absurd cc
dly_waits machine s Out e y is = absurd cc
dly_waits machine s Sto e y is = absurd cc
dly_waits machine s Stq e y is = absurd cc
dly_waits machine s Sub e y is = absurd cc
dly_waits machine s Suz e y is = absurd cc
dly_waits machine s Tix e y is = absurd cc
dly_waits machine s Tmi e y is = absurd cc
dly_waits machine s Tov e y is = absurd cc
dly_waits machine s Tra e y is = absurd cc
dly_waits machine s Tsq e y is = absurd cc

match_cases : (P Q : Type 0) (b : Bool) → MatchBool b P Q → ((b ≡ true) × P) ⊎ ((b ≡ false) × Q)
match_cases P Q true is = inl (refl, is)
match_cases P Q false is = inr (refl, is)

pulse_step : Pulse ≡ Step → ⊥
pulse_step h = cc

put_step : (address word : ℕ) → Put address word ≡ Step → ⊥
put_step address word h = cc

module _ {D : Type 0} (meaning : Meaning D) (lawful : IsMeaning D meaning) (machine : Machine) (image : List (Option ℕ)) (cert : Certificate D) (bounds : List ℕ)
    (machine_is : IsMachine machine) (times : (number : ℕ) → bound_of bounds number ≤ 20000) where
  abbrev case_at : Row D → State → Case D
  case_at row s = case_of machine image cert.limits row (word_here s) s.index s.indicator

  -- the case of each state of a row is in time
  abbrev pub AreInTime : Type 0
  AreInTime = (position : ℕ) (row : Row D) (s : State) → StandsAt cert position row → IsState machine s → IsInRow meaning image cert.limits row s
      → IsCaseInTime meaning cert bounds (position + 1) (case_at row s)

  -- some row holds the state, and its bound is left of another one after the time that was spent
  abbrev IsLeft : (bound spent : ℕ) → State → Type 0
  IsLeft bound spent s = (position : ℕ) × (row : Row D) × StandsAt cert position row × IsInRow meaning image cert.limits row s
      × (spent + bound_of bounds (position + 1) ≤ bound)

  -- where orders run, so it is; else the time is within the bound
  abbrev LeftIn : Phase → (bound spent : ℕ) → State → Type 0
  LeftIn Running bound spent s = IsLeft bound spent s
  LeftIn Waiting bound spent s = spent ≤ bound
  LeftIn Halted bound spent s = spent ≤ bound

  left_within : (phase : Phase) (bound spent : ℕ) (s : State) → LeftIn phase bound spent s → spent ≤ bound
  left_within Running bound spent s left = omega (arith, left.4)
  left_within Waiting bound spent s left = left
  left_within Halted bound spent s left = left

  left_in : (phase : Phase) (bound spent : ℕ) (s : State) → IsLeft bound spent s → LeftIn phase bound spent s
  left_in Running bound spent s left = left
  left_in Waiting bound spent s left = omega (arith, left.4)
  left_in Halted bound spent s left = omega (arith, left.4)

  -- ---- a step where orders run

  module _ (in_time : AreInTime) (s : State) (state : IsState machine s) (safe : IsSafeState meaning machine image cert s) (running : s.phase ≡ Running)
      (report : Report) (after : State) (step : Steps machine s Step report after) (bound spent : ℕ) where
    module _ (position : ℕ) (row : Row D) (stands : StandsAt cert position row) (in_row : IsInRow meaning image cert.limits row s)
        (left : spent + bound_of bounds (position + 1) ≤ bound) where
      abbrev here : Case D
      here = case_at row s

      abbrev timed : IsCaseInTime meaning cert bounds (position + 1) here
      timed = in_time position row s stands state in_row

      reads : Reads machine s timed.0
      reads = record {
        running = running;
        indexed = timed.1.0.indexed;
        address = timed.1.0.address;
        names = subst (λ (order : Order). Names machine.codes (word_here s) order timed.1.0.indexed timed.1.0.address) timed.1.2 timed.1.1;
      }

      time_is : order_time machine report ≡ time_of machine.times timed.0
      time_is = time-read machine s timed.0 report after machine_is reads step

      waits : is_dly timed.0 ≡ true → after.phase ≡ Waiting
      waits dly =
          let stepped = subst (λ (phase : Phase). StepsIn phase machine s report after) running step in
          let same : stepped.0 ≡ Some timed.1.0 = decoding_same machine.codes machine_is.codes (word_here s) stepped.0 (Some timed.1.0) stepped.1 timed.1.1 in
          let obeys : Obeys machine s (Some timed.1.0) report after = subst (λ (named : Option Decoded). Obeys machine s named report after) same stepped.2 in
          ap (λ (t : State). t.phase) obeys.1
          ∙ dly_waits machine s timed.1.0.order (effective s timed.1.0.order timed.1.0.indexed timed.1.0.address) timed.1.0.address
          (ap (λ (order : Order). is_dly order) timed.1.2 ∙ dly)

      module _ (pair : PostPair D) (posts : IsPostsOfCase meaning here (Ok pair)) where
        follows : Follows meaning here pair report after
        follows = one_step meaning lawful here s report after pair machine_is state
            (record { running = running; in_row = in_row; word = refl; index = refl; indicator = refl; inputs = safe.inputs }) posts step

        cells_after : AreCellsInLimits meaning cert.limits after
        cells_after = kept_in_limits meaning here s report after pair state step follows safe.cells

        state_after : IsState machine after
        state_after = step_keeps machine s Step report after machine_is state tt step

        -- the row that the time allows holds the state after
        in_covering : (time : ℕ) (post : Option (Post D)) → IfSome post (IsPostInTime meaning cert bounds (bound_of bounds (position + 1)) time row)
            → AgreesWith meaning cert.limits row post after → IsLeft bound (spent + time) after
        in_covering time None covers agrees = absurd agrees
        in_covering time (Some post) covers agrees = (
          covers.0,
          covers.1,
          (covers.2, covers.3),
          covered meaning machine image cert.limits covers.1 row post after state_after covers.4.0 agrees follows.fixed cells_after,
          omega (arith, left, covers.4.1),
        )

      step_left : LeftIn after.phase bound (spent + order_time machine report) after
      step_left = subst (λ (time : ℕ). LeftIn after.phase bound (spent + time) after) (sym time_is) (⊎_elim
          (λ dly. subst (λ (phase : Phase). LeftIn phase bound (spent + time_of machine.times timed.0) after) (sym (waits dly.0)) (omega (arith, left, dly.1)))
          (λ posts. left_in after.phase bound (spent + time_of machine.times timed.0) after (⊎_elim
          (λ first. in_covering posts.1.0 posts.1.1 (time_of machine.times timed.0) posts.1.0.first posts.1.2.0 first)
          (λ second. in_covering posts.1.0 posts.1.1 (time_of machine.times timed.0) posts.1.0.second posts.1.2.1 second)
          (follows posts.1.0 posts.1.1).agrees))
          (match_cases _ _ (is_dly timed.0) timed.2))

    running_left : IsLeft bound spent s → LeftIn after.phase bound (spent + order_time machine report) after
    running_left left = step_left left.0 left.1 left.2 left.3 left.4

  -- ---- each event

  -- each row that held the state at the last resume leaves of its bound what is spent since
  abbrev IsKeptLeft : State → ℕ → State → Type 0
  IsKeptLeft resumed spent s = (position : ℕ) (row : Row D) → StandsAt cert position row → IsInRow meaning image cert.limits row resumed
      → LeftIn s.phase (bound_of bounds (position + 1)) spent s

  row_moved : (s : State) (phase : Phase) (inputs : List ℕ) (row : Row D) → IsInRow meaning image cert.limits row s
      → IsInRow meaning image cert.limits row (record s { phase = phase; inputs = inputs })
  row_moved s phase inputs row is = record {
    location = is.location;
    a = is.a;
    q = is.q;
    index = is.index;
    indicator = is.indicator;
    fixed = is.fixed;
    cells = is.cells;
    link = is.link;
  }

  idle_left : (phase : Phase) (bound spent : ℕ) (s after : State) (other : Phase) (inputs : List ℕ) → after ≡ record s { phase = other; inputs = inputs }
      → LeftIn phase bound spent s → LeftIn phase bound spent after
  idle_left Running bound spent s after other inputs is left = (
    left.0,
    left.1,
    left.2,
    subst (λ (t : State). IsInRow meaning image cert.limits left.1 t) (sym is) (row_moved s other inputs left.1 left.3),
    left.4,
  )
  idle_left Waiting bound spent s after other inputs is left = left
  idle_left Halted bound spent s after other inputs is left = left

  module _ (s after : State) (report : Report) (resumed : State) (spent : ℕ) (kept : IsKeptLeft resumed spent s) where
    idle_kept : (other : Phase) (inputs : List ℕ) → after ≡ record s { phase = other; inputs = inputs } → other ≡ s.phase → order_time machine report ≡ 0
        → IsKeptLeft resumed (spent + order_time machine report) after
    idle_kept other inputs is same none position row stands held =
        let phase : s.phase ≡ after.phase = sym same ∙ sym (ap (λ (t : State). t.phase) is) in
        let time : spent ≡ spent + order_time machine report = omega (arith, none) in
        subst (λ (n : ℕ). LeftIn after.phase (bound_of bounds (position + 1)) n after) time
        (subst (λ (p : Phase). LeftIn p (bound_of bounds (position + 1)) spent after) phase
        (idle_left s.phase (bound_of bounds (position + 1)) spent s after other inputs is (kept position row stands held)))

    resumed_kept : after.phase ≡ Running → IsKeptLeft after 0 after
    resumed_kept running position row stands held = subst (λ (p : Phase). LeftIn p (bound_of bounds (position + 1)) 0 after) (sym running)
        (position, row, stands, held, omega arith)

    module _ (in_time : AreInTime) (state : IsState machine s) (safe : IsSafeState meaning machine image cert s) where
      abbrev KeptAfter : Phase → Event → Type 0
      KeptAfter phase event = IsKeptLeft (resumed_after phase event (record { report = report; after = after }) resumed)
          (spent_after machine phase event (record { report = report; after = after }) spent) after

      kept_in : (phase : Phase) (event : Event) → s.phase ≡ phase → Steps machine s event report after → KeptAfter phase event
      kept_in Running Step is step = λ position row stands held.
          running_left in_time s state safe is report after step (bound_of bounds (position + 1)) spent
          (subst (λ (p : Phase). LeftIn p (bound_of bounds (position + 1)) spent s) is (kept position row stands held))
      kept_in Running Pulse is step = idle_kept (phase_after_pulse s.phase) s.inputs step.1 (ap phase_after_pulse is ∙ sym is) (time-other machine s Pulse report after step pulse_step)
      kept_in Running (Put address word) is step = idle_kept s.phase _ step.1 refl (time-other machine s (Put address word) report after step (put_step address word))
      kept_in Waiting Step is step =
          let stays = subst (λ (phase : Phase). StepsIn phase machine s report after) is step in
          idle_kept s.phase s.inputs stays.1 refl (time-idle machine report (ap (λ (r : Report). r.ran) stays.0))
      kept_in Waiting Pulse is step = resumed_kept (ap (λ (t : State). t.phase) step.1 ∙ ap phase_after_pulse is)
      kept_in Waiting (Put address word) is step = idle_kept s.phase _ step.1 refl (time-other machine s (Put address word) report after step (put_step address word))
      kept_in Halted Step is step =
          let stays = subst (λ (phase : Phase). StepsIn phase machine s report after) is step in
          idle_kept s.phase s.inputs stays.1 refl (time-idle machine report (ap (λ (r : Report). r.ran) stays.0))
      kept_in Halted Pulse is step = idle_kept (phase_after_pulse s.phase) s.inputs step.1 (ap phase_after_pulse is ∙ sym is) (time-other machine s Pulse report after step pulse_step)
      kept_in Halted (Put address word) is step = idle_kept s.phase _ step.1 refl (time-other machine s (Put address word) report after step (put_step address word))

  -- ---- each run

  -- some row holds the state
  abbrev IsHeld : State → Type 0
  IsHeld s = (position : ℕ) × (row : Row D) × StandsAt cert position row × IsInRow meaning image cert.limits row s

  held_safe : (s : State) → IsSafeState meaning machine image cert s → IsHeld s
  held_safe s safe = (safe.row.0, safe.row.1, (safe.row.2, safe.row.3), safe.row.4)

  held_if : (b : Bool) (one other : State) → IsHeld one → IsHeld other → IsHeld (if b then one else other)
  held_if true one other first second = first
  held_if false one other first second = second

  in_time_at : (s resumed : State) (spent : ℕ) → IsHeld resumed → IsKeptLeft resumed spent s → IsInTime meaning machine image cert bounds resumed spent
  in_time_at s resumed spent held kept =
      let rows : IsInBounds meaning machine image cert bounds resumed spent =
      λ position row stands is. left_within s.phase _ spent s (kept position row stands is) in
      let within = rows held.0 held.1 held.2 held.3 in
      let most = times (held.0 + 1) in
      record { rows = rows; cycle = omega (arith, within, most) }

  run_spent : AreInTime → (s : State) (events : List Event) (moments : List Moment) (resumed : State) (spent : ℕ) → IsState machine s
      → IsSafeState meaning machine image cert s → IsHeld resumed → IsKeptLeft resumed spent s → AreEvents events → Run machine s events moments
      → AtEachStep (IsSafeStep meaning machine image cert) s events moments
      → AtEachSpent (IsInTime meaning machine image cert bounds) machine resumed spent s events moments
  run_spent in_time s [] [] resumed spent state safe held kept are run steps = in_time_at s resumed spent held kept
  run_spent in_time s [] (m ∷ ms) resumed spent state safe held kept are run steps = absurd run
  run_spent in_time s (event ∷ events) [] resumed spent state safe held kept are run steps = absurd run
  run_spent in_time s (event ∷ events) (m ∷ ms) resumed spent state safe held kept are run steps = (
    in_time_at s resumed spent held kept,
    run_spent in_time m.after events ms (resumed_after s.phase event m resumed) (spent_after machine s.phase event m spent)
        (step_keeps machine s event m.report m.after machine_is state are.0 run.0) steps.0.after
        (held_if (resumes s.phase event) m.after resumed (held_safe m.after steps.0.after) held)
        (kept_in s m.after m.report resumed spent kept in_time state safe s.phase event refl run.0) are.1 run.1 steps.1,
  )

  pub bounds_kept : AreInTime → Safe meaning machine image cert → KeepsBounds meaning machine image cert bounds
  bounds_kept in_time safe s events moments start are declared run = run_spent in_time s events moments s 0 start.state (safe.start s start)
      (held_safe s (safe.start s start))
      (λ position row stands held. subst (λ (p : Phase). LeftIn p (bound_of bounds (position + 1)) 0 s) (sym start.running)
      (position, row, stands, held, omega arith))
      are run (safe.steps s events moments start are declared run)

  -- ---- the rows of an accepted budget

  each_at : {X F : Type 0} (judged : ℕ → X → Result ℕ F → Type 0) (first : ℕ) (xs : List X) (count i : ℕ) (x : X) → i < length xs → get_or xs i x ≡ x
      → InOrder judged first xs (Ok count) → (one : ℕ) × judged (i + first) x (Ok one)
  each_at judged first [] count i x inside is order = absurd (omega (arith, inside))
  each_at judged first (y ∷ ys) count zero x inside is order =
      let position : first ≡ 0 + first = omega arith in
      (order.0, subst (λ (n : ℕ). judged n x (Ok order.0)) position (subst (λ (z : _). judged first z (Ok order.0)) is order.2))
  each_at judged first (y ∷ ys) count (suc i) x inside is order =
      let position : i + (first + 1) ≡ suc i + first = omega arith in
      let rest = each_at judged (first + 1) ys order.1 i x (omega (arith, inside)) is order.3 in
      (rest.0, subst (λ (n : ℕ). judged n x (Ok rest.0)) position rest.1)

  each_passes : {X F : Type 0} (judged : ℕ → X → Result ℕ F → Type 0) (P : X → Type 0)
      → ((position : ℕ) (x : X) (count : ℕ) → judged position x (Ok count) → P x)
      → (first : ℕ) (xs : List X) (count : ℕ) → InOrder judged first xs (Ok count) → AllByRecursion P xs
  each_passes judged P passes first [] count order = tt
  each_passes judged P passes first (x ∷ xs) count order = (passes first x order.0 order.2, each_passes judged P passes (first + 1) xs order.1 order.3)

  abbrev CaseTimed : ℕ → Row D → RowCase → Type 0
  CaseTimed number row c = IsCaseInTime meaning cert bounds number (case_in machine image cert.limits row c)

  with_code : (number : ℕ) (row : Row D) (code : WordSet) (count : ℕ)
      → IsWalkedWith meaning image cert.limits (Ok 0) (λ n r c o. IsCaseTimed meaning cert bounds n (case_in machine image cert.limits r c) o) number row (Some code) (Ok count)
      → (word index : ℕ) (indicator : Bool) → lists code.list word ≡ true → has_flag row.x index ≡ true → has_flag row.v (indicator_number indicator) ≡ true
      → IsCaseInTime meaning cert bounds number (case_of machine image cert.limits row word index indicator)
  with_code number row code count walked = each_cases row (CaseTimed number row) code.list
      (each_passes (λ position c o. IsCaseTimed meaning cert bounds number (case_in machine image cert.limits row c) o) (CaseTimed number row)
      (λ position c count timed. timed.0) 0 (cases_in row code.list) count walked)

  pub rows_in_time : (count : ℕ) → Accepted meaning machine image cert → AreRowsTimed meaning machine image cert bounds (Ok count) → AreInTime
  rows_in_time count accepted timed position row s stands state in_row =
      let walked = each_at (λ n r o. IsWalkedAt meaning image cert.limits (Ok 0) (λ n r c o. IsCaseTimed meaning cert bounds n (case_in machine image cert.limits r c) o) n r o)
      1 cert.rows count position row stands.0 stands.1 timed in
      let row_is : IsRowAccepted meaning machine image cert row =
      subst (λ (r : Row D). IsRowAccepted meaning machine image cert r) stands.1 (accepted.rows position row stands.0) in
      let same = code_one meaning image cert.limits row walked.1.0 (Some row_is.code) walked.1.1 row_is.is_code in
      with_code (position + 1) row row_is.code walked.0
      (subst (λ (o : Option WordSet). IsWalkedWith meaning image cert.limits (Ok 0) (λ n r c o. IsCaseTimed meaning cert bounds n (case_in machine image cert.limits r c) o) (position + 1) row o (Ok walked.0)) same walked.1.2)
      (word_here s) s.index s.indicator (code_has_word meaning image cert.limits row row_is.code machine s state in_row row_is.is_code) in_row.index in_row.indicator
