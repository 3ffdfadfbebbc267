-- The events of a bench run are one run of the machine, and the certificate declares each word that is put.
use Rattle.std.proofs.Common.{◌≡◌, ℕ, Bool, true, false, List, [], ◌∷◌, ◌++◌, length, replicate, refl, sym, ap, subst, ◌∙◌, arith}
use Rattle.std.specs.Prelude.{zero, suc, Option, Some, None, IsSome, is_some, is_none, ◌||◌, if◌then◌else◌}
use Rattle.ags_domain.specs.Value.{value_meaning}
use Rattle.ags_domain.specs.declared.values.Value.{Value}
use Rattle.ags_device.specs.Record.{DeviceRecord}
use Rattle.ags_play.specs.Doing.{PutWord, put_events}
use Rattle.ags_play.specs.Guard.{lets_through, stopped_by}
use Rattle.ags_ports.specs.declared.events.Event.{Event}
use Rattle.ags_ports.specs.declared.events.Event.TheVariants as event
use Rattle.ags_ports.specs.declared.machines.Machine.{Machine}
use Rattle.ags_ports.specs.Port.{position_of}
use Rattle.ags_ports.specs.Run.{Moment, Run, RunsTo}
use Rattle.ags_ports.proofs.RunLemmas.{run-append, last-append}
use Rattle.ags_row.specs.Limit.{input_limit}
use Rattle.ags_safe.specs.Certificate.{Certificate}
use Rattle.ags_safe.specs.Start.{AreDeclared}
use Rattle.ags_drive.specs.Act.{Act, MakesStep, Pulses, RunsCycle, Feeds, FeedsInCycle, ShowsReg, ShowsCell, ShowsOut, Detaches, ShowsDevice}
use Rattle.ags_drive.specs.Doing.{Makes, NoFeed, fed_position, put_by, refused_put, refused_feed, refusal, bench_after}
use Rattle.ags_drive.specs.Played.{Plays}
use Rattle.ags_drive.specs.Bench.{Bench, position_of_number, device_at}

-- ---- one run

pub play_runs : (machine : Machine) (cert : Certificate Value) (b here : Bench) (acts : List Act) (events : List Event) (text : List ℕ) → Plays machine cert b acts events text here → RunsTo machine b.core events here.core
play_runs machine cert b here [] events text p = record {
  moments = [];
  run = subst (λ (es : List Event). Run machine b.core es []) (sym p.0) tt;
  ends = ap (λ (c : Bench). c.core) p.2;
}
play_runs machine cert b here (act ∷ acts) events text p =
    let behind = play_runs machine cert (bench_after machine b act p.moments) here acts p.later p.rest p.goes_on in
    record {
      moments = p.moments ++ behind.moments;
      run = subst (λ (es : List Event). Run machine b.core es (p.moments ++ behind.moments)) (sym p.events_are)
          (run-append machine b.core p.made p.later p.moments behind.moments p.does.run behind.run);
      ends = behind.ends ∙ sym (last-append b.core p.moments behind.moments);
    }

-- ---- declared words

module _ (machine : Machine) (cert : Certificate Value) where
  abbrev Declared : List Event → Type 0
  Declared events = AreDeclared value_meaning machine cert events

  declared-append : (first second : List Event) → Declared first → Declared second → Declared (first ++ second)
  declared-append [] second p r = r
  declared-append (event ∷ first) second p r = (p.0, declared-append first second p.1 r)

  declared_steps : (count : ℕ) → Declared (replicate count event.Step)
  declared_steps zero = tt
  declared_steps (suc count) = (tt, declared_steps count)

  either_held : (position : Option ℕ) (held : Bool) → (is_none position || held) ≡ true → IsSome position → held ≡ true
  either_held None held let_through some = grind arith
  either_held (Some position) held let_through some = let_through

  let_put : (put : PutWord) (let_through : Bool) → lets_through machine cert put ≡ let_through → (if let_through then None else Some put) ≡ None → Declared (put_events (Some put))
  let_put put true same none = (either_held (position_of machine.ports.inputs put.address) (value_meaning.held (input_limit cert.limits put.address) put.word) same, tt)
  let_put put false same none = absurd (cc)

  put_declared : (put : Option PutWord) → stopped_by machine (Some cert) put ≡ None → Declared (put_events put)
  put_declared None none = tt
  put_declared (Some put) none = let_put put (lets_through machine cert put) refl none

  -- what isn't refused isn't stopped
  none_outside : (stopped : Option PutWord) → refused_put stopped ≡ None → stopped ≡ None
  none_outside None e = refl
  none_outside (Some put) e = absurd cc

  fed_through : (line number : ℕ) (o : Option DeviceRecord) (stopped : Option PutWord) → refused_feed machine line number o stopped ≡ None → stopped ≡ None
  fed_through line number None stopped e = absurd cc
  fed_through line number (Some d) stopped e = by_position (is_some (fed_position machine d.feeds)) e
    where
      by_position : (there : Bool) → (if there then refused_put stopped else Some (NoFeed line number)) ≡ None → stopped ≡ None
      by_position true e = none_outside stopped e
      by_position false e = absurd cc

  made_declared : (b : Bench) (act : Act) (events : List Event) (moments : List Moment) → Makes machine b act events moments → refusal machine cert b act ≡ None → Declared events
  made_declared b MakesStep events moments p none = subst Declared (sym p) (tt, tt)
  made_declared b Pulses events moments p none = subst Declared (sym p) (tt, tt)
  made_declared b RunsCycle events moments p none = subst Declared (sym p.steps) (declared_steps (length moments))
  made_declared b (Feeds line number) events moments p none =
      subst Declared (sym p) (put_declared (put_by machine b (Feeds line number))
      (fed_through line number (device_at b.devices (position_of_number number)) (stopped_by machine (Some cert) (put_by machine b (Feeds line number))) none))
  made_declared b (FeedsInCycle position) events moments p none =
      subst Declared (sym p) (put_declared (put_by machine b (FeedsInCycle position)) (none_outside (stopped_by machine (Some cert) (put_by machine b (FeedsInCycle position))) none))
  made_declared b ShowsReg events moments p none = subst Declared (sym p) tt
  made_declared b (ShowsCell address) events moments p none = subst Declared (sym p) tt
  made_declared b (ShowsOut address) events moments p none = subst Declared (sym p) tt
  made_declared b (Detaches line number) events moments p none = subst Declared (sym p) tt
  made_declared b (ShowsDevice position) events moments p none = subst Declared (sym p) tt

  pub play_declared : (b here : Bench) (acts : List Act) (events : List Event) (text : List ℕ) → Plays machine cert b acts events text here → Declared events
  play_declared b here [] events text p = subst Declared (sym p.0) tt
  play_declared b here (act ∷ acts) events text p =
      subst Declared (sym p.events_are)
      (declared-append p.made p.later (made_declared b act p.made p.moments p.does.makes p.through) (play_declared (bench_after machine b act p.moments) here acts p.later p.rest p.goes_on))
