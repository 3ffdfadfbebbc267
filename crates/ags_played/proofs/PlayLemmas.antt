-- What is said of a script that was played without a guard.
use Rattle.std.proofs.Common.{ℕ, List, Option, None, refl, subst}
use Rattle.ags_asm.specs.Source.{card_words}
use Rattle.ags_asm.specs.declared.assembling.Assembled.{Assembled}
use Rattle.ags_plan.specs.Plan.{WorkAt}
use Rattle.ags_plan.specs.Saying.{SaidWhole, SaidInPart}
use Rattle.ags_play.specs.Doing.{PutWord}
use Rattle.ags_play.specs.Guard.{Outside}
use Rattle.ags_play.specs.Played.{Met, Nothing, OutsideStart, OutsidePut, IsPlayOf}
use Rattle.ags_ports.specs.declared.events.Event.{Event}
use Rattle.ags_ports.specs.declared.machines.Machine.{Machine}
use Rattle.ags_run.specs.declared.playing.Played.{Played}
use Rattle.ags_run.specs.Play.{PlayedTo, PlayedWhole, PlayedInPart}
use Rattle.ags_script.specs.declared.commands.Command.{Command}
use Rattle.ags_program.specs.declared.status.Status.TheVariants.{Done}
use Rattle.ags_program.specs.PlayLaws.{run_of_play}
use Rattle.ags_program.specs.Program.{program}
use Rattle.ags_program.specs.Views.{HasImage}
use Rattle.ags_program.specs.Work.{PlayScript, IsShownBy}
use Rattle.ags_play.proofs.UnguardedLemmas.{unguarded}

module _ (machine : Machine) (made : Assembled) (commands : List Command) (old new : Option (List ℕ)) (image : HasImage made) where
  shown_by : (events : List Event) (text : List ℕ) → IsPlayOf machine made.image None commands events text Nothing → IsShownBy machine (card_words made) commands text
  shown_by events text plays =
      let (moments, run) = run_of_play machine made.image commands events text plays in
      record { image = made.image; image_is = image; events = events; moments = moments; run = run; plays = plays }

  -- all of it was sent
  pub play_said : (played : Played) → PlayedWhole machine made.image None commands old new played
      → SaidWhole program (WorkAt (PlayScript machine (card_words made) commands)) old new Done
  play_said played whole = record { text = whole.text; comes = (shown_by whole.events whole.text whole.plays, refl); sent = whole.sent }

  -- a prefix of it was
  pub play_said_in_part : PlayedInPart machine made.image None commands old new
      → SaidInPart program (WorkAt (PlayScript machine (card_words made) commands)) old new
  play_said_in_part part =
      let free : IsPlayOf machine made.image None commands part.events part.text Nothing =
      subst (λ (m : Met). IsPlayOf machine made.image None commands part.events part.text m) (unguarded machine made.image commands part.events part.text part.met part.plays) part.plays in
      record { text = part.text; status = Done; comes = (shown_by part.events part.text free, refl); prefix = part.front }

-- without a guard no start is outside, and no word
module _ (machine : Machine) (image : List (Option ℕ)) (commands : List Command) (old new : Option (List ℕ)) where
  pub no_start_outside : (outside : Outside) → PlayedTo machine image None commands old new (OutsideStart outside) → ⊥
  no_start_outside outside played =
      let none = unguarded machine image commands played.events played.text (OutsideStart outside) played.plays in absurd cc

  pub no_word_outside : (put : PutWord) → PlayedTo machine image None commands old new (OutsidePut put) → ⊥
  no_word_outside put played =
      let none = unguarded machine image commands played.events played.text (OutsidePut put) played.plays in absurd cc
