-- The events of a play are one run, and a guard has declared each word that is put. The crates above cite:
--     play_runs        the events lead from the state of the first bench to that of the bench that is left
--     play_declared    under a certificate each word that is put is declared
use Rattle.std.proofs.Common.{◌≡◌, ℕ, Bool, true, false, List, [], ◌∷◌, ◌++◌, length, replicate, refl, sym, ap, subst, ◌∙◌, arith}
use Rattle.std.specs.Prelude.{zero, suc, Option, Some, None, IsSome, is_none, ◌||◌, if◌then◌else◌}
use Rattle.ags_domain.specs.Value.{value_meaning}
use Rattle.ags_domain.specs.declared.values.Value.{Value}
use Rattle.ags_ports.specs.declared.events.Event.{Event}
use Rattle.ags_ports.specs.declared.events.Event.TheVariants as event
use Rattle.ags_ports.specs.declared.machines.Machine.{Machine}
use Rattle.ags_ports.specs.Port.{position_of}
use Rattle.ags_ports.specs.Run.{Moment, Run, RunsTo}
use Rattle.ags_ports.proofs.RunLemmas.{run-append, last-append}
use Rattle.ags_row.specs.Limit.{input_limit}
use Rattle.ags_safe.specs.Certificate.{Certificate}
use Rattle.ags_safe.specs.Start.{AreDeclared}
use Rattle.ags_play.specs.Act.{Act, MakesSteps, Pulses, Puts, Presses, Feeds, FeedsWhereZero, RunsCycle, ShowsReg, ShowsCell, ShowsOut, ShowsDeda}
use Rattle.ags_play.specs.Bench.{Bench}
use Rattle.ags_play.specs.Doing.{PutWord, Makes, put_by, put_events, bench_after}
use Rattle.ags_play.specs.Guard.{lets_through, stopped_by}
use Rattle.ags_play.specs.Played.{Plays, PlaysOne, PlaysFirst}

-- ---- one run

-- what goes on from a bench is one run from its state
abbrev GoesOnRunning : Machine → (Bench → List Event → List ℕ → Type 0) → Bench → Type 0
GoesOnRunning machine GoesOn after = (between : Bench) (later : List Event) (rest : List ℕ) → GoesOn between later rest
    → RunsTo machine between.core later after.core

no_run : (machine : Machine) (b after : Bench) (events : List Event) → events ≡ [] → after ≡ b → RunsTo machine b.core events after.core
no_run machine b after events none same = record {
  moments = [];
  run = subst (λ (es : List Event). Run machine b.core es []) (sym none) tt;
  ends = ap (λ (c : Bench). c.core) same;
}

first_runs : (machine : Machine) (b after : Bench) (act : Act) (GoesOn : Bench → List Event → List ℕ → Type 0) (events : List Event) (text : List ℕ)
    → GoesOnRunning machine GoesOn after → PlaysFirst machine b act GoesOn events text → RunsTo machine b.core events after.core
first_runs machine b after act GoesOn events text on p =
    let behind = on (bench_after machine b act p.moments) p.later p.rest p.goes_on in
    record {
      moments = p.moments ++ behind.moments;
      run = subst (λ (es : List Event). Run machine b.core es (p.moments ++ behind.moments)) (sym p.events_are)
          (run-append machine b.core p.made p.later p.moments behind.moments p.does.run behind.run);
      ends = behind.ends ∙ sym (last-append b.core p.moments behind.moments);
    }

one_runs : (machine : Machine) (b after : Bench) (act : Act) (stopped : Option PutWord) (GoesOn : Bench → List Event → List ℕ → Type 0) (events : List Event) (text : List ℕ) (met : Option PutWord)
    → GoesOnRunning machine GoesOn after → PlaysOne machine b act stopped GoesOn events text after met → RunsTo machine b.core events after.core
one_runs machine b after act (Some put) GoesOn events text met on p = no_run machine b after events p.0 p.2
one_runs machine b after act None GoesOn events text met on p = first_runs machine b after act GoesOn events text on p

pub play_runs : (machine : Machine) (guard : Option (Certificate Value)) (b : Bench) (acts : List Act) (events : List Event) (text : List ℕ) (after : Bench) (met : Option PutWord)
    → Plays machine guard b acts events text after met → RunsTo machine b.core events after.core
play_runs machine guard b [] events text after met p = no_run machine b after events p.0 p.2
play_runs machine guard b (act ∷ acts) events text after met p =
    one_runs machine b after act (stopped_by machine guard (put_by machine b act)) (λ between later rest. Plays machine guard between acts later rest after met) events text met
    (λ between later rest q. play_runs machine guard between acts later rest after met q) p

-- ---- declared words

module _ (machine : Machine) (cert : Certificate Value) where
  abbrev Declared : List Event → Type 0
  Declared events = AreDeclared value_meaning machine cert events

  declared-append : (first second : List Event) → Declared first → Declared second → Declared (first ++ second)
  declared-append [] second p r = r
  declared-append (event ∷ first) second p r = (p.0, declared-append first second p.1 r)

  declared_steps : (count : ℕ) → Declared (replicate count event.Step)
  declared_steps zero = tt
  declared_steps (suc count) = (tt, declared_steps count)

  either_held : (position : Option ℕ) (held : Bool) → (is_none position || held) ≡ true → IsSome position → held ≡ true
  either_held None held let_through some = grind arith
  either_held (Some position) held let_through some = let_through

  let_put : (put : PutWord) (let_through : Bool) → lets_through machine cert put ≡ let_through → (if let_through then None else Some put) ≡ None → Declared (put_events (Some put))
  let_put put true same none = (either_held (position_of machine.ports.inputs put.address) (value_meaning.held (input_limit cert.limits put.address) put.word) same, tt)
  let_put put false same none = absurd (cc)

  put_declared : (put : Option PutWord) → stopped_by machine (Some cert) put ≡ None → Declared (put_events put)
  put_declared None none = tt
  put_declared (Some put) none = let_put put (lets_through machine cert put) refl none

  put_made : (put : Option PutWord) (events : List Event) → events ≡ put_events put → stopped_by machine (Some cert) put ≡ None → Declared events
  put_made put events same none = subst Declared (sym same) (put_declared put none)

  steps_made : (count : ℕ) (events : List Event) → events ≡ replicate count event.Step → Declared events
  steps_made count events same = subst Declared (sym same) (declared_steps count)

  made_declared : (b : Bench) (act : Act) (events : List Event) (moments : List Moment) → Makes machine b act events moments → stopped_by machine (Some cert) (put_by machine b act) ≡ None
      → Declared events
  made_declared b (MakesSteps count) events moments p none = steps_made count events p
  made_declared b Pulses events moments p none = subst Declared (sym p) (tt, tt)
  made_declared b RunsCycle events moments p none = steps_made (length moments) events p.steps
  made_declared b (Puts address word) events moments p none = put_made (put_by machine b (Puts address word)) events p none
  made_declared b (Presses key) events moments p none = put_made (put_by machine b (Presses key)) events p none
  made_declared b Feeds events moments p none = put_made (put_by machine b Feeds) events p none
  made_declared b FeedsWhereZero events moments p none = put_made (put_by machine b FeedsWhereZero) events p none
  made_declared b ShowsReg events moments p none = put_made (put_by machine b ShowsReg) events p none
  made_declared b (ShowsCell address) events moments p none = put_made (put_by machine b (ShowsCell address)) events p none
  made_declared b (ShowsOut address) events moments p none = put_made (put_by machine b (ShowsOut address)) events p none
  made_declared b ShowsDeda events moments p none = put_made (put_by machine b ShowsDeda) events p none

  abbrev GoesOnDeclared : (Bench → List Event → List ℕ → Type 0) → Type 0
  GoesOnDeclared GoesOn = (between : Bench) (later : List Event) (rest : List ℕ) → GoesOn between later rest → Declared later

  one_declared : (b after : Bench) (act : Act) (stopped : Option PutWord) (GoesOn : Bench → List Event → List ℕ → Type 0) (events : List Event) (text : List ℕ) (met : Option PutWord)
      → stopped_by machine (Some cert) (put_by machine b act) ≡ stopped → GoesOnDeclared GoesOn → PlaysOne machine b act stopped GoesOn events text after met → Declared events
  one_declared b after act (Some put) GoesOn events text met same on p = subst Declared (sym p.0) tt
  one_declared b after act None GoesOn events text met same on p =
      subst Declared (sym p.events_are) (declared-append p.made p.later (made_declared b act p.made p.moments p.does.makes same) (on (bench_after machine b act p.moments) p.later p.rest p.goes_on))

  pub play_declared : (b : Bench) (acts : List Act) (events : List Event) (text : List ℕ) (after : Bench) (met : Option PutWord)
      → Plays machine (Some cert) b acts events text after met → Declared events
  play_declared b [] events text after met p = subst Declared (sym p.0) tt
  play_declared b (act ∷ acts) events text after met p =
      one_declared b after act (stopped_by machine (Some cert) (put_by machine b act)) (λ between later rest. Plays machine (Some cert) between acts later rest after met) events text met refl
      (λ between later rest q. play_declared between acts later rest after met q) p
