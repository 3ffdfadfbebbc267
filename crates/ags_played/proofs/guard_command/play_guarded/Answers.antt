use Rattle.std.proofs.Common.{refl}
use Rattle.std.proofs.lemmas.List.{append-nil}
use Rattle.ags_play.specs.Played.{Nothing, OutsideStart, OutsidePut}
use Rattle.ags_played.proofs.GuardLemmas.{met_guards, shown_in_part}
use Rattle.ags_played.proofs.guard_command.play_guarded.Goals as goal

pub returns-in-WriteFault-clause-guards : goal.returns-in-WriteFault-clause-guards
returns-in-WriteFault-clause-guards g c =
    shown_in_part c.args.machine.now c.args.image.now c.args.cert.now c.args.script.now (g.K.Sink.told c.args.out.now) (g.K.Sink.told c.play.new.out) (g.K.Sink.told c.play.new.out)
    (rw c.in-WriteFault.is at c.in-Err.ensures.unplayed)

pub returns-in-NoMemory-clause-guards : goal.returns-in-NoMemory-clause-guards
returns-in-NoMemory-clause-guards g c =
    shown_in_part c.args.machine.now c.args.image.now c.args.cert.now c.args.script.now (g.K.Sink.told c.args.out.now) (g.K.Sink.told c.play.new.out) (g.K.Sink.told c.play.new.out)
    (rw c.in-NoMemory.is at c.in-Err.ensures.unplayed)

pub returns-in-StartOutside-clause-guards : goal.returns-in-StartOutside-clause-guards
returns-in-StartOutside-clause-guards g c =
    met_guards c.args.machine.now c.args.image.now c.args.cert.now c.args.script.now (g.K.Sink.told c.args.out.now) (g.K.Sink.told c.play.new.out) (g.K.Sink.told c.say_met.new.out)
    (OutsideStart _) c.say_met.result refl (rw c.in-StartOutside.is at c.in-Err.ensures.unplayed)
    c.say_met.ensures.ended (rw c.in-StartOutside.is at c.say_met.ensures.sent) (rw c.in-StartOutside.is at c.say_met.ensures.front)

pub returns-in-InputRange-clause-guards : goal.returns-in-InputRange-clause-guards
returns-in-InputRange-clause-guards g c =
    met_guards c.args.machine.now c.args.image.now c.args.cert.now c.args.script.now (g.K.Sink.told c.args.out.now) (g.K.Sink.told c.play.new.out) (g.K.Sink.told c.say_met-in-InputRange.new.out)
    (OutsidePut (record { address = c.in-InputRange.address; word = c.in-InputRange.word })) c.say_met-in-InputRange.result refl (rw c.in-InputRange.is at c.in-Err.ensures.unplayed)
    c.say_met-in-InputRange.ensures.ended (rw c.in-InputRange.is at c.say_met-in-InputRange.ensures.sent) (rw c.in-InputRange.is at c.say_met-in-InputRange.ensures.front)

pub returns-in-Ok-clause-guards : goal.returns-in-Ok-clause-guards
returns-in-Ok-clause-guards g c =
    let played = c.in-Ok.ensures.played in
    record {
      events = played.events;
      shown = played.text;
      met = Nothing;
      plays = played.plays;
      sent = rw (append-nil played.text) played.sent;
      status_is = refl;
    }
