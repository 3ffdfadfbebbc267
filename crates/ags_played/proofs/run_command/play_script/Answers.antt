use Rattle.std.proofs.Common.{inl}
use Rattle.ags_played.proofs.PlayLemmas.{no_start_outside, no_word_outside, play_said, play_said_in_part}
use Rattle.ags_played.proofs.run_command.play_script.Goals as goal

pub returns-in-Ok-clause-says : goal.returns-in-Ok-clause-says
returns-in-Ok-clause-says g c =
    play_said c.args.machine.now c.args.made.now c.args.script.now (g.K.Sink.told c.args.out.now) (g.K.Sink.told c.play.new.out) c.requires.made.2.image c.in-Ok.field-0 c.in-Ok.ensures.played

pub returns-in-Err-WriteFault-clause-says : goal.returns-in-Err-WriteFault-clause-says
returns-in-Err-WriteFault-clause-says g c =
    inl (play_said_in_part c.args.machine.now c.args.made.now c.args.script.now (g.K.Sink.told c.args.out.now) (g.K.Sink.told c.play.new.out) c.requires.made.2.image
    (rw c.in-Err-WriteFault.field-0-is at c.in-Err-WriteFault.ensures.unplayed))

pub returns-in-Err-NoMemory-clause-says : goal.returns-in-Err-NoMemory-clause-says
returns-in-Err-NoMemory-clause-says g c =
    inl (play_said_in_part c.args.machine.now c.args.made.now c.args.script.now (g.K.Sink.told c.args.out.now) (g.K.Sink.told c.play.new.out) c.requires.made.2.image
    (rw c.in-Err-NoMemory.field-0-is at c.in-Err-NoMemory.ensures.unplayed))

pub unreachable-requires : goal.unreachable-requires
unreachable-requires g c =
    no_start_outside c.args.machine.now c.args.made.now.image c.args.script.now (g.K.Sink.told c.args.out.now) (g.K.Sink.told c.play.new.out) _
    (rw c.in-Err-StartOutside.field-0-is at c.in-Err-StartOutside.ensures.unplayed)

pub unreachable-requires-in-Err-InputRange : goal.unreachable-requires-in-Err-InputRange
unreachable-requires-in-Err-InputRange g c =
    no_word_outside c.args.machine.now c.args.made.now.image c.args.script.now (g.K.Sink.told c.args.out.now) (g.K.Sink.told c.play.new.out)
    (record { address = c.in-Err-InputRange.field-0-0; word = c.in-Err-InputRange.field-0-1 })
    (rw c.in-Err-InputRange.field-0-is at c.in-Err-InputRange.ensures.unplayed)
