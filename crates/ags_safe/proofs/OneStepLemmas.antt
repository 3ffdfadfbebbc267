-- One step from a state of a case follows the case's posts. Behind the law of the same name is
--     one_step    the step runs an order, and follows the posts
use Rattle.std.proofs.Common.{◌≡◌, ℕ, refl, sym, ap, subst, ◌∙◌}
use Rattle.std.specs.Prelude.{Option, Some, None, Ok, IsSome, IfSome}
use Rattle.ags_isa.specs.declared.decoding.Decoded.{Decoded}
use Rattle.ags_isa.specs.Naming.{IsDecoding}
use Rattle.ags_domain.specs.Domain.{Meaning, IsMeaning}
use Rattle.ags_ports.specs.declared.events.Phase.{Phase}
use Rattle.ags_ports.specs.declared.events.Event.TheVariants.{Step}
use Rattle.ags_ports.specs.declared.events.Done.{Done}
use Rattle.ags_ports.specs.Port.{position_of}
use Rattle.ags_ports.specs.Machine.{IsMachine}
use Rattle.ags_ports.specs.State.{State, IsState, word_here}
use Rattle.ags_ports.specs.Effect.{effect, effective, effective_at}
use Rattle.ags_ports.specs.Step.{Steps, StepsIn, order_report}
use Rattle.ags_ports.proofs.StepLemmas.{one_step as step_is_one}
use Rattle.ags_ports.proofs.StateLemmas.{step_keeps, effective_below}
use Rattle.ags_ports.proofs.CellLemmas.{step_fixed}
use Rattle.ags_row.specs.Limit.{is_named}
use Rattle.ags_safe.specs.Case.{Case}
use Rattle.ags_safe.specs.Posts.{IsPosts, IsPostsOfWord, IsPostsOfCase}
use Rattle.ags_safe.specs.InRow.{IsInCase}
use Rattle.ags_safe.specs.OneStep.{Follows, IsStoreInLimit, IsGivenInLimit, AgreesWithOne}
use Rattle.ags_safe.specs.declared.answers.PostPair.{PostPair}
use Rattle.ags_safe.proofs.SoundLemmas.{IsSound}
use Rattle.ags_safe.proofs.OrderLemmas.{order_sound}

module _ {D : Type 0} (meaning : Meaning D) (lawful : IsMeaning D meaning) (c : Case D) (s : State) (machine_is : IsMachine c.machine)
    (is : IsState c.machine s) (in_case : IsInCase meaning c s) where
  -- the word at the location is read as the case's word is, and so the step obeys it
  obeys : (d : Decoded) → IsDecoding c.machine.codes c.word (Some d)
      → let does = effect c.machine s d.order (effective s d.order d.indexed d.address) d.address in
      Steps c.machine s Step (order_report s does) does.after
  obeys d names =
      let does = effect c.machine s d.order (effective s d.order d.indexed d.address) d.address in
      let names_here : IsDecoding c.machine.codes (word_here s) (Some d) =
      subst (λ (w : ℕ). IsDecoding c.machine.codes w (Some d)) (sym in_case.word) names in
      subst (λ (phase : Phase). StepsIn phase c.machine s (order_report s does) does.after) (sym in_case.running) (Some d, names_here, (refl, refl))

  -- what is told and left is what the order does
  sound_follows : (d : Decoded) (pair : PostPair D) (report : Done) (after : State) → Steps c.machine s Step report after
      → (does : _) → report ≡ order_report s does → after ≡ does.after → IsSound meaning c pair does → Follows meaning c pair report after
  sound_follows d pair report after step does told left sound = record {
    ran = ap (λ (r : Done). r.ran) told;
    agrees = subst (λ (t : State). AgreesWithOne meaning c.limits c.row pair t) (sym left) sound.agrees;
    fixed = λ address from below. step_fixed c.machine s Step report after address from step ∙ in_case.in_row.fixed address from below;
    overflow = λ over. ap (λ (r : Done). is_named c.limits r.location) told
        ∙ ap (λ (n : ℕ). is_named c.limits n) in_case.in_row.location
        ∙ sound.overflow (sym (ap (λ (r : Done). r.overflow) told) ∙ over);
    stored = subst (λ (r : Done). IfSome r.stored (IsStoreInLimit meaning c.limits)) (sym told) sound.stored;
    took = subst (λ (r : Done). IfSome r.took (λ address. IsSome (position_of c.machine.ports.inputs address))) (sym told) sound.took;
    gave = subst (λ (r : Done). IfSome r.gave (IsGivenInLimit meaning c)) (sym told) sound.gave;
  }

  word_follows : (named : Option Decoded) (pair : PostPair D) (report : Done) (after : State) → IsDecoding c.machine.codes c.word named
      → IsPostsOfWord meaning c named (Ok pair) → Steps c.machine s Step report after → Follows meaning c pair report after
  word_follows None pair report after names posts step = absurd cc
  word_follows (Some d) pair report after names posts step =
      let e = effective s d.order d.indexed d.address in
      let does = effect c.machine s d.order e d.address in
      let taken : Steps c.machine s Step (order_report s does) does.after = obeys d names in
      let same = step_is_one c.machine s Step report (order_report s does) after does.after machine_is step taken in
      let posts_here : IsPosts meaning c d.order e d.address (Ok pair) =
      subst (λ (n : ℕ). IsPosts meaning c d.order (effective_at n d.order d.indexed d.address) d.address (Ok pair)) (sym in_case.index) posts in
      sound_follows d pair report after step does same.0 same.1
      (order_sound meaning lawful c s is in_case d.order e d.address pair (effective_below c.machine s d.order d.indexed d.address is names.below)
      posts_here (step_keeps c.machine s Step (order_report s does) does.after machine_is is tt taken))

pub one_step : {D : Type 0} (meaning : Meaning D) (lawful : IsMeaning D meaning) (c : Case D) (s : State) (report : Done) (after : State) (pair : PostPair D)
    → IsMachine c.machine → IsState c.machine s → IsInCase meaning c s → IsPostsOfCase meaning c (Ok pair) → Steps c.machine s Step report after
    → Follows meaning c pair report after
one_step meaning lawful c s report after pair machine_is is in_case posts step =
    word_follows meaning lawful c s machine_is is in_case posts.0 pair report after posts.1 posts.2 step
