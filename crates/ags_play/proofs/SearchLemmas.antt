-- A script has a play. The crates above cite:
--     some_found      of each state one thing is outside first, or nothing is
--     some_play_of    each script has a play
use Rattle.std.proofs.Common.{◌≡◌, ℕ, zero, suc, ◌<◌, ◌^◌, Bool, true, false, List, [], length, get_or, refl, subst, ⊎_elim, inl, inr, arith}
use Rattle.std.specs.Prelude.{◌⊎◌, Option, Some, None}
use Rattle.std.proofs.lemmas.Bool.{cases_lt}
use Rattle.ags_domain.specs.Value.{value_meaning}
use Rattle.ags_domain.specs.declared.values.Value.{Value}
use Rattle.ags_image.specs.Image.{entry_at}
use Rattle.ags_ports.specs.declared.events.Event.{Event}
use Rattle.ags_ports.specs.declared.machines.Machine.{Machine}
use Rattle.ags_ports.specs.Machine.{IsMachine}
use Rattle.ags_ports.specs.Port.{position_of, held_port, register_at}
use Rattle.ags_ports.specs.State.{State, cell}
use Rattle.ags_ports.proofs.PortLemmas.{position_of-some, position_of-register}
use Rattle.ags_row.specs.Limit.{input_limit}
use Rattle.ags_safe.specs.Certificate.{Certificate}
use Rattle.ags_safe.specs.Start.{IsFirstWord, IsStartWord}
use Rattle.ags_script.specs.declared.commands.Command.{Command}
use Rattle.ags_play.specs.Act.{acts_of}
use Rattle.ags_play.specs.Bench.{begun_state, start_bench}
use Rattle.ags_play.specs.Guard.{Outside, Place, Cell, Port, IsFirstOutside, IsFound, IsInputInside}
use Rattle.ags_play.specs.Played.{Met, OutsideStart, IsPlayOf, met_of}
use Rattle.ags_play.proofs.OnePlayLemmas.{some_play}

abbrev OrNot : Type 0 → Type 0
OrNot P = P ⊎ ¬ P

same_or_not : (m n : ℕ) → OrNot (m ≡ n)
same_or_not m n = ⊎_elim (λ below. inr (λ same. absurd (omega (arith, below, same))))
    (λ from. ⊎_elim (λ above. inr (λ same. absurd (omega (arith, above, same)))) (λ to. inl (omega (arith, from, to))) (cases_lt n m)) (cases_lt m n)

true_or_not : (b : Bool) → OrNot (b ≡ true)
true_or_not true = inl refl
true_or_not false = inr (λ same. absurd (cc))

-- the fact holds for each number below a limit, or there is a first for which it fails
abbrev Searched : (ℕ → Type 0) → ℕ → Type 0
Searched P limit = ((n : ℕ) → n < limit → P n) ⊎ ((n : ℕ) × (n < limit) × ((m : ℕ) → m < n → P m) × ¬ P n)

more : (P : ℕ → Type 0) (limit : ℕ) → OrNot (P limit) → Searched P limit → Searched P (suc limit)
more P limit here (inr found) = inr (found.0, omega (arith, found.1), found.2, found.3)
more P limit (inl holds) (inl all) = inl (λ n below. ⊎_elim (λ less. all n less) (λ from. let same : limit ≡ n = omega (arith, below, from) in subst P same holds) (cases_lt n limit))
more P limit (inr fails) (inl all) = inr (limit, omega arith, all, fails)

search : (P : ℕ → Type 0) → ((n : ℕ) → OrNot (P n)) → (limit : ℕ) → Searched P limit
search P decide zero = inl (λ n below. absurd (omega (arith, below)))
search P decide (suc limit) = more P limit (decide limit) (search P decide limit)

first_word_or_not : (assembled : Option ℕ) (stated : Option Value) (word : ℕ) → OrNot (IsFirstWord value_meaning assembled stated word)
first_word_or_not (Some assembled) stated word = same_or_not word assembled
first_word_or_not None None word = same_or_not word 0
first_word_or_not None (Some value) word = ⊎_elim
    (λ below. ⊎_elim (λ held. inl (below, held)) (λ not_held. inr (λ both. not_held both.1)) (true_or_not (value_meaning.held value word)))
    (λ from. inr (λ both. absurd (omega (arith, from, both.0)))) (cases_lt word (2 ^ 18))

module _ (machine : Machine) (image : List (Option ℕ)) (cert : Certificate Value) (s : State) (h : IsMachine machine) where
  abbrev SomeFound : Type 0
  SomeFound = (found : Option Outside) × IsFirstOutside machine image cert s found

  abbrev address_at : ℕ → ℕ
  address_at position = (get_or machine.ports.inputs position (held_port 0)).address

  abbrev HoldsAt : ℕ → Type 0
  HoldsAt position = IsInputInside cert s (address_at position) position

  moved : (address position : ℕ) → position_of machine.ports.inputs address ≡ Some position → HoldsAt position → IsInputInside cert s address position
  moved address position found holds = subst (λ (n : ℕ). IsInputInside cert s n position) (position_of-some machine.ports.inputs address position (held_port 0) found).1 holds

  found_inputs : s.location ≡ cert.start → ((address : ℕ) → address < 2048 → IsStartWord value_meaning image cert address (cell s address)) → Searched HoldsAt (length machine.ports.inputs) → SomeFound
  found_inputs here cells (inl all) = (
    None,
    record {
      location = here;
      cells = cells;
      inputs = λ address position found. moved address position found
          (all position (position_of-some machine.ports.inputs address position (held_port 0) found).0);
    },
  )
  found_inputs here cells (inr first) = (
    Some (Port (address_at first.0) (register_at s.inputs (Some first.0))),
    record {
      location = here;
      cells = cells;
      position = first.0;
      found = position_of-register machine.ports.inputs first.0 (held_port 0) h.inputs first.1;
      earlier = λ address position found below. moved address position found (first.2 position below);
      outside = first.3;
      word_is = refl;
    },
  )

  found_cells : s.location ≡ cert.start → Searched (λ address. IsStartWord value_meaning image cert address (cell s address)) 2048 → SomeFound
  found_cells here (inl all) = found_inputs here all (search HoldsAt (λ position. true_or_not (value_meaning.held (input_limit cert.limits (address_at position)) (register_at s.inputs (Some position)))) (length machine.ports.inputs))
  found_cells here (inr first) = (
    Some (Cell first.0 (cell s first.0)),
    record {
      location = here;
      erasable = first.1;
      earlier = first.2;
      outside = first.3;
      word_is = refl;
    },
  )

  found_place : OrNot (s.location ≡ cert.start) → SomeFound
  found_place (inl here) = found_cells here (search (λ address. IsStartWord value_meaning image cert address (cell s address))
      (λ address. first_word_or_not (entry_at image address) (cert.init address) (cell s address)) 2048)
  found_place (inr elsewhere) = (Some (Place s.location cert.start), (refl, refl, elsewhere))

  pub some_found : (found : Option Outside) × IsFirstOutside machine image cert s found
  some_found = found_place (same_or_not s.location cert.start)

guarded_search : (machine : Machine) (image : List (Option ℕ)) (guard : Option (Certificate Value)) (s : State) → IsMachine machine → (found : Option Outside) × IsFound machine image guard s found
guarded_search machine image None s h = (None, refl)
guarded_search machine image (Some cert) s h = some_found machine image cert s h

module _ (machine : Machine) (image : List (Option ℕ)) (guard : Option (Certificate Value)) (commands : List Command) (h : IsMachine machine) where
  abbrev SomePlayOf : Type 0
  SomePlayOf = (events : List Event) × (text : List ℕ) × (met : Met) × IsPlayOf machine image guard commands events text met

  played_from : (found : Option Outside) → IsFound machine image guard (begun_state machine image guard commands) found → SomePlayOf
  played_from (Some outside) tested = ([], [], OutsideStart outside, record { found = Some outside; tested = tested; played = (refl, refl, refl) })
  played_from None tested =
      let p = some_play machine guard (start_bench machine image guard commands) (acts_of commands) h in
      (p.0, p.1, met_of p.3, record { found = None; tested = tested; played = record { after = p.2; stopped = p.3; plays = p.4; met_is = refl } })

  pub some_play_of : (events : List Event) × (text : List ℕ) × (met : Met) × IsPlayOf machine image guard commands events text met
  some_play_of =
      let found = guarded_search machine image guard (begun_state machine image guard commands) h in
      played_from found.0 found.1
