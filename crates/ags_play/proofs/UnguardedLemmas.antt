-- Without a guard a play meets nothing. The crates above cite:
--     unguarded    so it is of each script
use Rattle.std.proofs.Common.{◌≡◌, ℕ, List, [], ◌∷◌, ◌∙◌, ap}
use Rattle.std.specs.Prelude.{Option, Some, None}
use Rattle.ags_ports.specs.declared.events.Event.{Event}
use Rattle.ags_ports.specs.declared.machines.Machine.{Machine}
use Rattle.ags_script.specs.declared.commands.Command.{Command}
use Rattle.ags_play.specs.Act.{Act, acts_of}
use Rattle.ags_play.specs.Bench.{Bench, start_bench}
use Rattle.ags_play.specs.Doing.{PutWord, bench_after}
use Rattle.ags_play.specs.Guard.{Outside}
use Rattle.ags_play.specs.Played.{Met, Nothing, Plays, PlaysUnless, IsPlayOf, met_of}

none_stopped : (machine : Machine) (b after : Bench) (acts : List Act) (events : List Event) (text : List ℕ) (met : Option PutWord) → Plays machine None b acts events text after met → met ≡ None
none_stopped machine b after [] events text met p = p.3
none_stopped machine b after (act ∷ acts) events text met p = none_stopped machine (bench_after machine b act p.moments) after acts p.later p.rest met p.goes_on

unguarded_unless : (machine : Machine) (image : List (Option ℕ)) (commands : List Command) (events : List Event) (text : List ℕ) (met : Met) (found : Option Outside)
    → found ≡ None → PlaysUnless machine None (start_bench machine image None commands) (acts_of commands) found events text met → met ≡ Nothing
unguarded_unless machine image commands events text met (Some outside) none p = absurd (cc)
unguarded_unless machine image commands events text met None none p =
    p.met_is ∙ ap met_of (none_stopped machine (start_bench machine image None commands) p.after (acts_of commands) events text p.stopped p.plays)

pub unguarded : (machine : Machine) (image : List (Option ℕ)) (commands : List Command) (events : List Event) (text : List ℕ) (met : Met)
    → IsPlayOf machine image None commands events text met → met ≡ Nothing
unguarded machine image commands events text met p = unguarded_unless machine image commands events text met p.found p.tested p.played
