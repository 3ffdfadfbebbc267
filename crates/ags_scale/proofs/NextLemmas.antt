-- An event runs one order or none, and so there are tags after it, and they are one pair.
use Rattle.std.proofs.Common.{◌≡◌, ℕ, refl, sym, ◌∙◌, ◌⊎◌, inl, inr}
use Rattle.std.specs.Prelude.{Option, Some, None}
use Rattle.ags_isa.specs.declared.orders.Order.{Order}
use Rattle.ags_isa.specs.declared.decoding.Decoded.{Decoded}
use Rattle.ags_isa.specs.Naming.{IsDecoding}
use Rattle.ags_ports.specs.declared.events.Phase.{Phase}
use Rattle.ags_ports.specs.declared.events.Phase.TheVariants.{Running, Waiting, Halted}
use Rattle.ags_ports.specs.declared.events.Event.{Event}
use Rattle.ags_ports.specs.declared.events.Event.TheVariants.{Step, Pulse, Put}
use Rattle.ags_ports.specs.declared.machines.Machine.{Machine}
use Rattle.ags_ports.specs.Machine.{IsMachine}
use Rattle.ags_ports.specs.Effect.{effective}
use Rattle.ags_ports.specs.State.{State, word_here}
use Rattle.ags_ports.proofs.NamingLemmas.{decoding}
use Rattle.ags_tags.specs.Tag.{Scaling}
use Rattle.ags_scale.specs.Change.{Tags, tags_after}
use Rattle.ags_scale.specs.Tagged.{Runs, AreTagsNext}
use Rattle.ags_scale.proofs.StepLemmas.{next_by, still, pulse_step, put_step, waiting_running, halted_running}

module _ (machine : Machine) (s : State) where
  abbrev RunsSome : Event → Type 0
  RunsSome event = (order : Order) × (e : ℕ) × (y : ℕ) × Runs machine s event order e y

  abbrev RunsNone : Event → Type 0
  RunsNone event = (order : Order) (e y : ℕ) → ¬ Runs machine s event order e y

  by_word : s.phase ≡ Running → (named : Option Decoded) → IsDecoding machine.codes (word_here s) named → RunsSome Step ⊎ RunsNone Step
  by_word running (Some d) named = inl (
    d.order,
    effective s d.order d.indexed d.address,
    d.address,
    record {
      step = refl;
      reads = record { running = running; indexed = d.indexed; address = d.address; names = named };
      acts_on = refl;
      address = refl;
    },
  )
  by_word running None named = inr (λ order e y runs. named order runs.reads.indexed runs.reads.address runs.reads.names)

  by_phase : (phase : Phase) → s.phase ≡ phase → RunsSome Step ⊎ RunsNone Step
  by_phase Running is = let named = decoding machine.codes (word_here s) in by_word is named.0 named.1
  by_phase Waiting is = inr (λ order e y runs. waiting_running (sym is ∙ runs.reads.running))
  by_phase Halted is = inr (λ order e y runs. halted_running (sym is ∙ runs.reads.running))

  some_or_none : (event : Event) → RunsSome event ⊎ RunsNone event
  some_or_none Step = by_phase s.phase refl
  some_or_none Pulse = inr (λ order e y runs. pulse_step runs.step)
  some_or_none (Put address word) = inr (λ order e y runs. put_step address word runs.step)

  module _ (scales : Scaling) (event : Event) (before : Tags) where
    next_if : IsMachine machine → RunsSome event ⊎ RunsNone event → (after : Tags) × AreTagsNext machine scales s event before after
    next_if machine_is (inl (order, e, y, runs)) = (tags_after scales order e y before, next_by machine machine_is scales s event order e y before runs)
    next_if machine_is (inr none) = (before, still machine scales s event before none)

    pub some_next : IsMachine machine → (after : Tags) × AreTagsNext machine scales s event before after
    some_next machine_is = next_if machine_is (some_or_none event)

    one_if : (one other : Tags) → RunsSome event ⊎ RunsNone event → AreTagsNext machine scales s event before one
        → AreTagsNext machine scales s event before other → one ≡ other
    one_if one other (inl (order, e, y, runs)) p r = p.read order e y runs ∙ sym (r.read order e y runs)
    one_if one other (inr none) p r = p.unread none ∙ sym (r.unread none)

    pub one_next : (one other : Tags) → AreTagsNext machine scales s event before one → AreTagsNext machine scales s event before other → one ≡ other
    one_next one other p r = one_if one other (some_or_none event) p r
