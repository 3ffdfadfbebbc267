-- Words that devices give, as acts. The proofs of `feeding` cite:
--     word_given, none_given         a word was put, or there was none
--     next_read, word_ungiven        a device's next word as it was read, and one that wasn't put
--     on_ok_both                     what follows from two things that are so where a call succeeded
--     feed_made, feed_unmade         FEED of a device that feeds a register
--     no_device, no_feed             FEED of none, and of one that feeds no register
--     cycle_feed_made, cycle_feed_unmade, cycle_feed_idle    the feed of a cycle that ends there, and one that gives nothing
use Rattle.std.proofs.Common.{◌≡◌, ℕ, zero, suc, ◌+◌, ◌≤◌, ◌^◌, ◌<◌, Bool, true, false, List, [], ◌∷◌, length, map, refl, sym, ap, subst, ◌∙◌, inl, inr, IsSome, arith}
use Rattle.std.specs.Prelude.{◌⊎◌, Option, Some, None, Result, Ok, Err, OnOk, is_some, slice_get, count_by, if◌then◌else◌}
use Rattle.ags_drive.specs.Act.{Act, Feeds, FeedsInCycle}
use Rattle.ags_drive.specs.Bench as play
use Rattle.ags_drive.specs.Bench.{position_of_number, device_at, with_given}
use Rattle.ags_drive.specs.Doing.{Makes, NoDevice, NoFeed, OutsidePut, fed_position, takes_word, is_fed, giver, put_at, next_put, put_by, refused_put, refused_feed, refusal, handled, carry_after, devices_along, bench_after}
use Rattle.ags_device.specs.Devices.{changed_at, feeds_of, plan_of}
use Rattle.ags_device.specs.Record.{DeviceRecord, first_of, given}
use Rattle.ags_domain.specs.declared.values.Value.{Value}
use Rattle.ags_play.specs.Counted.{is_step, is_put}
use Rattle.ags_play.specs.Doing.{PutWord, put_events}
use Rattle.ags_play.specs.Guard.{stopped_by}
use Rattle.ags_ports.specs.declared.events.Done.{Done}
use Rattle.ags_ports.specs.declared.events.Event.TheVariants.{Put}
use Rattle.ags_ports.specs.declared.machines.Machine.{Machine}
use Rattle.ags_ports.specs.Run.{Moment, Run, AreEvents, last_state}
use Rattle.ags_ports.specs.State.{State}
use Rattle.ags_ports.specs.Step.{Steps}
use Rattle.ags_safe.specs.Certificate.{Certificate}
use Rattle.ags_drive.specs.declared.benches.Bench.{Bench}
use Rattle.ags_drive.specs.declared.drive_error.DriveError.{DriveError}
use Rattle.ags_drive.specs.declared.drive_error.DriveError.TheVariants as error
use Rattle.ags_drive.specs.declared.listeners.Listener.{Listener}
use Rattle.ags_drive.specs.Making.{ActMade, Unmade, WordGiven, WordStopped, WordUngiven, put_from}
use Rattle.ags_drive.specs.Standing.{bench_of}
use Rattle.ags_drive.proofs.JoinLemmas.{act_refused, act_unmade}
use Rattle.ags_drive.proofs.StepLemmas.{same_bench}

-- no member stands past the end
pub none_past : {A B : Type 0} (f : A → B) (xs : List A) (position : ℕ) → length xs ≤ position → slice_get (map f xs) position ≡ None
none_past f [] position over = refl
none_past f (x ∷ xs) zero over = grind arith
none_past f (x ∷ xs) (suc position) over = none_past f xs position (grind arith)

no_steps : (put : Option PutWord) → count_by is_step (put_events put) ≡ 0
no_steps None = refl
no_steps (Some put) = refl

-- a device's next word, from what it feeds and its plan's first word
pub next_from : (o : Option DeviceRecord) → next_put o ≡ put_from (feeds_of o) (first_of (plan_of o))
next_from None = refl
next_from (Some d) = from_plan d.feeds d.plan
  where
    from_plan : (feeds : Option ℕ) (plan : List ℕ) → put_at feeds plan ≡ put_from feeds (first_of plan)
    from_plan None plan = refl
    from_plan (Some address) [] = refl
    from_plan (Some address) (word ∷ words) = refl

pub next_read : (o : Option DeviceRecord) (feeds next : Option ℕ) → feeds ≡ feeds_of o → next ≡ first_of (plan_of o) → put_from feeds next ≡ next_put o
next_read o feeds next fed read = ap (λ (f : Option ℕ). put_from f next) fed ∙ ap (λ (n : Option ℕ). put_from (feeds_of o) n) read ∙ sym (next_from o)

pub on_ok_both : {T E P Q R : Type 0} (r : Result T E) → (P → Q → R) → OnOk r P → OnOk r Q → OnOk r R
on_ok_both (Ok value) both p q = both p q
on_ok_both (Err error) both p q = tt

module _ (machine : Machine) (cert : Certificate Value) where
  -- ---- a word that is put

  pub none_given : (bench : Bench) → WordGiven machine cert bench bench None
  none_given bench = record {
    through = refl;
    moments = [];
    run = tt;
    idle = inl refl;
    core = refl;
    words = tt;
    listener = refl;
    carry = refl;
    puts = omega arith;
  }

  pub word_ungiven : (devices now : List DeviceRecord) (position : ℕ) (put : Option PutWord) (met : DriveError) → put ≡ next_put (slice_get devices position) → now ≡ changed_at given devices position
      → WordStopped machine cert put met → WordUngiven machine cert devices now position met
  word_ungiven devices now position put (error.InputRange address word) is taken stopped = (ap (λ (q : Option PutWord). stopped_by machine (Some cert) q) (sym is) ∙ stopped, taken)
  word_ungiven devices now position put error.NoMemory is taken stopped = absurd stopped
  word_ungiven devices now position put error.WriteFault is taken stopped = absurd stopped
  word_ungiven devices now position put (error.StartOutside outside) is taken stopped = absurd stopped
  word_ungiven devices now position put (error.NoDevice line device) is taken stopped = absurd stopped
  word_ungiven devices now position put (error.NoFeed line device) is taken stopped = absurd stopped

  pub word_given : (before after : Bench) (address word : ℕ) (o : Option PutWord) (report : Done) → o ≡ Some (record { address = address; word = word }) → stopped_by machine (Some cert) (Some (record { address = address; word = word })) ≡ None → word < 2 ^ 18
      → Steps machine before.core (Put address word) report after.core → after.listener ≡ before.listener → after.carry ≡ before.carry → after.puts ≡ before.puts + 1 → WordGiven machine cert before after o
  word_given before after address word o report is through below step listener carry puts =
      let put : PutWord = record { address = address; word = word } in
      subst (λ (q : Option PutWord). WordGiven machine cert before after q) (sym is) (record {
        through = through;
        moments = record { report = report; after = after.core } ∷ [];
        run = (step, tt);
        idle = inr (record { report = report; after = after.core }, refl, ap (λ (r : Done). r.gave) step.0);
        core = refl;
        words = (below, tt);
        listener = listener;
        carry = carry;
        puts = omega (arith, puts);
      })

  -- no device hears of a word that is put
  along_gave : (devices : List DeviceRecord) (moment : Moment) → moment.report.gave ≡ None → devices_along machine devices (moment ∷ []) ≡ devices
  along_gave devices moment none = rw none refl

  along_put : (devices : List DeviceRecord) (moments : List Moment) → (moments ≡ []) ⊎ ((moment : Moment) × (moments ≡ moment ∷ []) × (moment.report.gave ≡ None)) → devices_along machine devices moments ≡ devices
  along_put devices moments (inl none) = ap (λ (ms : List Moment). devices_along machine devices ms) none
  along_put devices moments (inr one) = ap (λ (ms : List Moment). devices_along machine devices ms) one.1 ∙ along_gave devices one.0 one.2

  -- an act that takes the next word of the device at a position
  given_made : (act : Act) (before after : Bench) (devices now : List DeviceRecord) (position : ℕ) → before.listener.steps < 2 ^ 64
      → refusal machine cert (bench_of before devices) act ≡ None
      → put_by machine (bench_of before devices) act ≡ next_put (slice_get devices position)
      → handled machine (bench_of before devices) act ≡ changed_at given devices position
      → ((moments : List Moment) → Makes machine (bench_of before devices) act (put_events (put_by machine (bench_of before devices) act)) moments)
      → ((moments : List Moment) → carry_after machine (bench_of before devices) act moments ≡ before.carry)
      → WordGiven machine cert before after (next_put (slice_get devices position)) → now ≡ changed_at given devices position → ActMade machine cert act before after devices now
  given_made act before after devices now position fits through put_is handled_is makes carry_is p taken =
      let put = put_by machine (bench_of before devices) act in
      let kept : now ≡ devices_along machine (handled machine (bench_of before devices) act) p.moments =
      taken ∙ sym handled_is ∙ sym (along_put (handled machine (bench_of before devices) act) p.moments p.idle) in
      record {
        through = through;
        events = put_events put;
        moments = p.moments;
        does = record { makes = makes p.moments; run = subst (λ (q : Option PutWord). Run machine before.core (put_events q) p.moments) (sym put_is) p.run };
        words = subst (λ (q : Option PutWord). AreEvents (put_events q)) (sym put_is) p.words;
        after_is = same_bench after.core (last_state before.core p.moments) now (devices_along machine (handled machine (bench_of before devices) act) p.moments) after.carry
            (carry_after machine (bench_of before devices) act p.moments) p.core kept (p.carry ∙ sym (carry_is p.moments));
        counted = record {
          steps = let same = ap (λ (l : Listener). l.steps) p.listener in omega (arith, same, fits, no_steps put);
          puts = p.puts ∙ ap (λ (q : Option PutWord). before.puts + count_by is_put (put_events q)) (sym put_is);
        };
      }

  -- an act that takes none, and does nothing else
  idle_made : (act : Act) (bench : Bench) (devices : List DeviceRecord) → bench.listener.steps < 2 ^ 64 → refusal machine cert (bench_of bench devices) act ≡ None
      → Makes machine (bench_of bench devices) act [] [] → bench_after machine (bench_of bench devices) act [] ≡ bench_of bench devices → ActMade machine cert act bench bench devices devices
  idle_made act bench devices fits through makes same = record {
    through = through;
    events = [];
    moments = [];
    does = record { makes = makes; run = tt };
    words = tt;
    after_is = sym same;
    counted = record { steps = omega (arith, fits); puts = omega arith };
  }

  -- ---- FEED

  let_feed : (line number : ℕ) (o : Option DeviceRecord) (stopped : Option PutWord) → IsSome o → is_some (fed_position machine (feeds_of o)) ≡ true → refused_feed machine line number o stopped ≡ refused_put stopped
  let_feed line number None stopped some fed = cc
  let_feed line number (Some d) stopped some fed = ap (λ t. if t then refused_put stopped else Some (NoFeed line number)) fed

  not_fed : (line number : ℕ) (o : Option DeviceRecord) (stopped : Option PutWord) → IsSome o → is_some (fed_position machine (feeds_of o)) ≡ false → refused_feed machine line number o stopped ≡ Some (NoFeed line number)
  not_fed line number None stopped some fed = cc
  not_fed line number (Some d) stopped some fed = ap (λ t. if t then refused_put stopped else Some (NoFeed line number)) fed

  -- FEED of the device at a position is refused as its word is
  feed_at : (b : play.Bench) (line number position : ℕ) → position_of_number number ≡ Some position → IsSome (slice_get b.devices position) → is_some (fed_position machine (feeds_of (slice_get b.devices position))) ≡ true
      → refusal machine cert b (Feeds line number) ≡ refused_put (stopped_by machine (Some cert) (next_put (slice_get b.devices position)))
  feed_at b line number position at some fed =
      ap (λ q. refused_feed machine line number (device_at b.devices q) (stopped_by machine (Some cert) (next_put (device_at b.devices q)))) at
      ∙ let_feed line number (slice_get b.devices position) (stopped_by machine (Some cert) (next_put (slice_get b.devices position))) some fed

  pub feed_made : (before after : Bench) (devices now : List DeviceRecord) (line number position : ℕ) → before.listener.steps < 2 ^ 64 → position_of_number number ≡ Some position → IsSome (slice_get devices position)
      → is_some (fed_position machine (feeds_of (slice_get devices position))) ≡ true → WordGiven machine cert before after (next_put (slice_get devices position)) → now ≡ changed_at given devices position
      → ActMade machine cert (Feeds line number) before after devices now
  feed_made before after devices now line number position fits at some fed p taken =
      given_made (Feeds line number) before after devices now position fits
      (feed_at (bench_of before devices) line number position at some fed ∙ ap (λ q. refused_put q) p.through)
      (ap (λ q. next_put (device_at devices q)) at) (ap (λ q. with_given devices q) at) (λ moments. refl) (λ moments. refl) p taken

  pub no_device : (b : play.Bench) (line number : ℕ) (told : Option (List ℕ)) → device_at b.devices (position_of_number number) ≡ None → Unmade machine cert b (Feeds line number ∷ []) told told b.devices (error.NoDevice line number)
  no_device b line number told none =
      act_refused machine cert b (Feeds line number) told b.devices (NoDevice line number)
      (ap (λ o. refused_feed machine line number o (stopped_by machine (Some cert) (next_put o))) none) refl

  pub no_feed : (b : play.Bench) (line number position : ℕ) (told : Option (List ℕ)) → position_of_number number ≡ Some position → IsSome (slice_get b.devices position)
      → is_some (fed_position machine (feeds_of (slice_get b.devices position))) ≡ false → Unmade machine cert b (Feeds line number ∷ []) told told b.devices (error.NoFeed line number)
  no_feed b line number position told at some fed =
      act_refused machine cert b (Feeds line number) told b.devices (NoFeed line number)
      (ap (λ q. refused_feed machine line number (device_at b.devices q) (stopped_by machine (Some cert) (next_put (device_at b.devices q)))) at
      ∙ not_fed line number (slice_get b.devices position) (stopped_by machine (Some cert) (next_put (slice_get b.devices position))) some fed) refl

  -- a word that wasn't put, of an act that is refused as the word is
  ungiven_unmade : (b : play.Bench) (act : Act) (position : ℕ) (now : List DeviceRecord) (met : DriveError) (told : Option (List ℕ))
      → refusal machine cert b act ≡ refused_put (stopped_by machine (Some cert) (next_put (slice_get b.devices position)))
      → with_given b.devices (giver machine b act) ≡ changed_at given b.devices position
      → WordUngiven machine cert b.devices now position met → Unmade machine cert b (act ∷ []) told told now met
  ungiven_unmade b act position now (error.InputRange address word) told refused_is given_is p =
      act_refused machine cert b act told now (OutsidePut (record { address = address; word = word })) (refused_is ∙ ap (λ q. refused_put q) p.0) (p.1 ∙ sym given_is)
  ungiven_unmade b act position now error.NoMemory told refused_is given_is p = act_unmade machine cert b act told now p
  ungiven_unmade b act position now error.WriteFault told refused_is given_is p = absurd p
  ungiven_unmade b act position now (error.StartOutside outside) told refused_is given_is p = absurd p
  ungiven_unmade b act position now (error.NoDevice line device) told refused_is given_is p = absurd p
  ungiven_unmade b act position now (error.NoFeed line device) told refused_is given_is p = absurd p

  pub feed_unmade : (before : Bench) (devices now : List DeviceRecord) (line number position : ℕ) (met : DriveError) (told : Option (List ℕ)) → position_of_number number ≡ Some position → IsSome (slice_get devices position)
      → is_some (fed_position machine (feeds_of (slice_get devices position))) ≡ true → WordUngiven machine cert devices now position met → Unmade machine cert (bench_of before devices) (Feeds line number ∷ []) told told now met
  feed_unmade before devices now line number position met told at some fed p =
      ungiven_unmade (bench_of before devices) (Feeds line number) position now met told (feed_at (bench_of before devices) line number position at some fed) (ap (λ q. with_given devices q) at) p

  -- ---- the feed of a cycle

  fed_by_position : (s : State) (o : Option DeviceRecord) → is_fed machine s o ≡ takes_word machine s (fed_position machine (feeds_of o))
  fed_by_position s None = refl
  fed_by_position s (Some d) = refl

  takes_read : (s : State) (o : Option DeviceRecord) (feeds : Option ℕ) (fed : Bool) → feeds ≡ feeds_of o → fed ≡ takes_word machine s (fed_position machine feeds) → takes_word machine s (fed_position machine (feeds_of o)) ≡ fed
  takes_read s o feeds fed read is = ap (λ (f : Option ℕ). takes_word machine s (fed_position machine f)) (sym read) ∙ sym is

  gives_at : (b : play.Bench) (position : ℕ) (fed : Bool) → takes_word machine b.core (fed_position machine (feeds_of (slice_get b.devices position))) ≡ fed
      → giver machine b (FeedsInCycle position) ≡ (if fed then Some position else None)
  gives_at b position fed is = ap (λ t. if t then Some position else None) (fed_by_position b.core (slice_get b.devices position) ∙ is)

  pub cycle_feed_unmade : (before : Bench) (devices now : List DeviceRecord) (position : ℕ) (met : DriveError) (told : Option (List ℕ)) (feeds : Option ℕ) → feeds ≡ feeds_of (slice_get devices position) → true ≡ takes_word machine before.core (fed_position machine feeds)
      → WordUngiven machine cert devices now position met → Unmade machine cert (bench_of before devices) (FeedsInCycle position ∷ []) told told now met
  cycle_feed_unmade before devices now position met told feeds read fed p =
      let at = gives_at (bench_of before devices) position true (takes_read before.core (slice_get devices position) feeds true read fed) in
      ungiven_unmade (bench_of before devices) (FeedsInCycle position) position now met told
      (ap (λ q. refused_put (stopped_by machine (Some cert) (next_put (device_at devices q)))) at) (ap (λ q. with_given devices q) at) p

  pub cycle_feed_made : (before after : Bench) (devices now : List DeviceRecord) (position : ℕ) → before.listener.steps < 2 ^ 64 → (feeds : Option ℕ) → feeds ≡ feeds_of (slice_get devices position) → true ≡ takes_word machine before.core (fed_position machine feeds)
      → WordGiven machine cert before after (next_put (slice_get devices position)) → now ≡ changed_at given devices position → ActMade machine cert (FeedsInCycle position) before after devices now
  cycle_feed_made before after devices now position fits feeds read fed p taken =
      let at = gives_at (bench_of before devices) position true (takes_read before.core (slice_get devices position) feeds true read fed) in
      given_made (FeedsInCycle position) before after devices now position fits
      (ap (λ q. refused_put (stopped_by machine (Some cert) (next_put (device_at devices q)))) at ∙ ap (λ q. refused_put q) p.through)
      (ap (λ q. next_put (device_at devices q)) at) (ap (λ q. with_given devices q) at) (λ moments. refl) (λ moments. refl) p taken

  idle_at : (bench : Bench) (devices : List DeviceRecord) (position : ℕ) → bench.listener.steps < 2 ^ 64
      → takes_word machine bench.core (fed_position machine (feeds_of (slice_get devices position))) ≡ false → ActMade machine cert (FeedsInCycle position) bench bench devices devices
  idle_at bench devices position fits fed =
      let at = gives_at (bench_of bench devices) position false fed in
      idle_made (FeedsInCycle position) bench devices fits
      (ap (λ q. refused_put (stopped_by machine (Some cert) (next_put (device_at devices q)))) at)
      (sym (ap (λ q. put_events (next_put (device_at devices q))) at))
      (ap (λ q. bench_of bench (with_given devices q)) at)

  -- at a position past the end there is nothing to feed
  pub cycle_feed_past : (bench : Bench) (devices : List DeviceRecord) (position : ℕ) → bench.listener.steps < 2 ^ 64 → slice_get devices position ≡ None → ActMade machine cert (FeedsInCycle position) bench bench devices devices
  cycle_feed_past bench devices position fits none = idle_at bench devices position fits (ap (λ o. takes_word machine bench.core (fed_position machine (feeds_of o))) none)

  pub cycle_feed_idle : (bench : Bench) (devices : List DeviceRecord) (position : ℕ) → bench.listener.steps < 2 ^ 64 → (feeds : Option ℕ) → feeds ≡ feeds_of (slice_get devices position) → false ≡ takes_word machine bench.core (fed_position machine feeds)
      → ActMade machine cert (FeedsInCycle position) bench bench devices devices
  cycle_feed_idle bench devices position fits feeds read fed = idle_at bench devices position fits (takes_read bench.core (slice_get devices position) feeds false read fed)
