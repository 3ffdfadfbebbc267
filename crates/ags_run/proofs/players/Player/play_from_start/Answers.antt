use Rattle.ags_run.proofs.PlayedLemmas.{found_outside, ended_whole, ended_unplayed, ended_with_fault}
use Rattle.ags_run.proofs.players.Player.play_from_start.Goals as goal

pub play_commands-met-requires : goal.play_commands-met-requires
play_commands-met-requires g c = c.requires

pub returns-in-Some-clause-played : goal.returns-in-Some-clause-played
returns-in-Some-clause-played g c = λ machine guard begins is suits few. tt

pub returns-in-Some-clause-unplayed : goal.returns-in-Some-clause-unplayed
returns-in-Some-clause-unplayed g c = λ machine guard begins. found_outside machine c.args.image.now guard c.args.script.now c.args.self.now begins c.in-Some.outside (g.K.Sink.told c.args.out.now) c.in-Some.ensures

pub returns-in-None-clause-played : goal.returns-in-None-clause-played
returns-in-None-clause-played g c = λ machine guard begins is suits few. rw c.end_of.ensures
    (ended_whole machine c.args.image.now guard c.args.script.now c.args.self.now begins (g.K.Sink.told c.args.out.now) (g.K.Sink.told c.play_commands-met.new.out) c.play_commands-met.new.self c.in-None.ensures
    is suits.steps few c.play_commands-met.result c.play_commands-met.ensures.played)

pub returns-in-None-clause-unplayed : goal.returns-in-None-clause-unplayed
returns-in-None-clause-unplayed g c = λ machine guard begins. rw c.end_of.ensures
    (ended_unplayed machine c.args.image.now guard c.args.script.now c.args.self.now begins (g.K.Sink.told c.args.out.now) (g.K.Sink.told c.play_commands-met.new.out) c.play_commands-met.new.self c.in-None.ensures
    c.play_commands-met.result c.play_commands-met.ensures.played c.play_commands-met.ensures.part)

pub returns-in-None-clause-faults : goal.returns-in-None-clause-faults
returns-in-None-clause-faults g c = rw (c.end_of.ensures, ended_with_fault c.play_commands-met.new.self.bench c.play_commands-met.result) c.play_commands-met.ensures.faults
