-- A script has one play. The crates above cite:
--     one_found      of a state one thing is outside first, or nothing is
--     one_play_of    two plays of a script are the same
use Rattle.std.proofs.Common.{◌≡◌, ℕ, ◌<◌, List, refl, sym, ap, subst, ◌∙◌, ⊎_elim, arith}
use Rattle.std.specs.Prelude.{Option, Some, None}
use Rattle.std.proofs.lemmas.Bool.{cases_lt}
use Rattle.ags_domain.specs.declared.values.Value.{Value}
use Rattle.ags_ports.specs.declared.events.Event.{Event}
use Rattle.ags_ports.specs.declared.machines.Machine.{Machine}
use Rattle.ags_ports.specs.Machine.{IsMachine}
use Rattle.ags_ports.specs.Port.{held_port, register_at}
use Rattle.ags_ports.specs.State.{State, cell}
use Rattle.ags_ports.proofs.PortLemmas.{position_of-some}
use Rattle.ags_safe.specs.Certificate.{Certificate}
use Rattle.ags_script.specs.declared.commands.Command.{Command}
use Rattle.ags_play.specs.Act.{acts_of}
use Rattle.ags_play.specs.Bench.{begun_state, start_bench}
use Rattle.ags_play.specs.Guard.{Outside, Place, Cell, Port, IsFirstOutside, IsFound, IsFirstCell, IsFirstPort}
use Rattle.ags_play.specs.Played.{Met, PlaysUnless, IsPlayOf, met_of}
use Rattle.ags_play.proofs.OnePlayLemmas.{one_play}

same_number : (m n : ℕ) → (m < n → ⊥) → (n < m → ⊥) → m ≡ n
same_number m n low high = ⊎_elim (λ below. absurd (low below)) (λ from. ⊎_elim (λ above. absurd (high above)) (λ to. omega (arith, from, to)) (cases_lt n m)) (cases_lt m n)

module _ (machine : Machine) (image : List (Option ℕ)) (cert : Certificate Value) (s : State) where
  misplaced : {A : Type 0} (script stated : ℕ) → IsFirstOutside machine image cert s (Some (Place script stated)) → s.location ≡ cert.start → A
  misplaced {A} script stated p same = absurd (p.2 (p.0 ∙ same ∙ sym p.1))

  one_cell : (address word another other : ℕ) → IsFirstCell machine image cert s address word → IsFirstCell machine image cert s another other → (address ≡ another) × (word ≡ other)
  one_cell address word another other p r =
      let same = same_number address another (λ below. p.outside (r.earlier address below)) (λ above. r.outside (p.earlier another above)) in
      (same, p.word_is ∙ ap (λ (n : ℕ). cell s n) same ∙ sym r.word_is)

  one_port : (address word another other : ℕ) → IsFirstPort machine image cert s address word → IsFirstPort machine image cert s another other → (address ≡ another) × (word ≡ other)
  one_port address word another other p r =
      let position = same_number p.position r.position (λ below. p.outside (r.earlier address p.position p.found below)) (λ above. r.outside (p.earlier another r.position r.found above)) in
      let here = position_of-some machine.ports.inputs address p.position (held_port 0) p.found in
      let there = position_of-some machine.ports.inputs another p.position (held_port 0) (r.found ∙ ap (λ (n : ℕ). Some n) (sym position)) in
      (sym here.1 ∙ there.1, p.word_is ∙ ap (λ (n : ℕ). register_at s.inputs (Some n)) position ∙ sym r.word_is)

  same_pair : (make : ℕ → ℕ → Outside) (a b c d : ℕ) → a ≡ c → b ≡ d → ◌≡◌ {A = Option Outside} (Some (make a b)) (Some (make c d))
  same_pair make a b c d p r = rw (p, r) refl

  pub one_found : (found other : Option Outside) → IsFirstOutside machine image cert s found → IsFirstOutside machine image cert s other → found ≡ other
  one_found None None p r = refl
  one_found None (Some (Place script stated)) p r = misplaced script stated r p.location
  one_found None (Some (Cell address word)) p r = absurd (r.outside (p.cells address r.erasable))
  one_found None (Some (Port address word)) p r = absurd (r.outside (p.inputs address r.position r.found))
  one_found (Some (Place script stated)) None p r = misplaced script stated p r.location
  one_found (Some (Place script stated)) (Some (Place another other)) p r = same_pair Place script stated another other (p.0 ∙ sym r.0) (p.1 ∙ sym r.1)
  one_found (Some (Place script stated)) (Some (Cell address word)) p r = misplaced script stated p r.location
  one_found (Some (Place script stated)) (Some (Port address word)) p r = misplaced script stated p r.location
  one_found (Some (Cell address word)) None p r = absurd (p.outside (r.cells address p.erasable))
  one_found (Some (Cell address word)) (Some (Place script stated)) p r = misplaced script stated r p.location
  one_found (Some (Cell address word)) (Some (Cell another other)) p r =
      let same = one_cell address word another other p r in same_pair Cell address word another other same.0 same.1
  one_found (Some (Cell address word)) (Some (Port another other)) p r = absurd (p.outside (r.cells address p.erasable))
  one_found (Some (Port address word)) None p r = absurd (p.outside (r.inputs address p.position p.found))
  one_found (Some (Port address word)) (Some (Place script stated)) p r = misplaced script stated r p.location
  one_found (Some (Port address word)) (Some (Cell another other)) p r = absurd (r.outside (p.cells another r.erasable))
  one_found (Some (Port address word)) (Some (Port another other)) p r =
      let same = one_port address word another other p r in same_pair Port address word another other same.0 same.1

guarded_found : (machine : Machine) (image : List (Option ℕ)) (guard : Option (Certificate Value)) (s : State) (found other : Option Outside) → IsFound machine image guard s found
    → IsFound machine image guard s other → found ≡ other
guarded_found machine image None s found other p r = p ∙ sym r
guarded_found machine image (Some cert) s found other p r = one_found machine image cert s found other p r

module _ (machine : Machine) (image : List (Option ℕ)) (guard : Option (Certificate Value)) (commands : List Command) (events others : List Event) (text other : List ℕ) (met unmet : Met) (h : IsMachine machine) where
  one_unless : (found : Option Outside) → PlaysUnless machine guard (start_bench machine image guard commands) (acts_of commands) found events text met
      → PlaysUnless machine guard (start_bench machine image guard commands) (acts_of commands) found others other unmet → (events ≡ others) × (text ≡ other) × (met ≡ unmet)
  one_unless (Some outside) p r = (p.0 ∙ sym r.0, p.1 ∙ sym r.1, p.2 ∙ sym r.2)
  one_unless None p r =
      let same = one_play machine h p.after r.after p.stopped r.stopped guard (start_bench machine image guard commands) (acts_of commands) events others text other p.plays r.plays in
      (same.0, same.1, p.met_is ∙ ap met_of same.3 ∙ sym r.met_is)

  pub one_play_of : IsPlayOf machine image guard commands events text met → IsPlayOf machine image guard commands others other unmet → (events ≡ others) × (text ≡ other) × (met ≡ unmet)
  one_play_of p r =
      let same = guarded_found machine image guard (begun_state machine image guard commands) p.found r.found p.tested r.tested in
      one_unless p.found p.played
      (subst (λ (f : Option Outside). PlaysUnless machine guard (start_bench machine image guard commands) (acts_of commands) f others other unmet) (sym same) r.played)
