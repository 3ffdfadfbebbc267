use Rattle.std.proofs.Common.{List, subst}
use Rattle.ags_play.specs.Act.{Act}
use Rattle.ags_run.specs.Playing.{PlayedActs, shown_acts, made_acts}
use Rattle.ags_run.proofs.CommandLemmas.{acts_apart}
use Rattle.ags_run.proofs.JoinLemmas.{played_on}
use Rattle.ags_run.proofs.players.Player.play_command.Goals as goal

pub returns : goal.returns
returns g c =
    let command = c.args.command.now in
    let old = g.K.Sink.told c.args.out.now in
    let new = g.K.Sink.told c.show.new.out in
    record {
      played = subst (λ (acts : List Act). PlayedActs acts old new c.args.self.now c.make.new.self c.make.result) (acts_apart command)
          (played_on (shown_acts command) (made_acts command) old new new c.args.self.now c.args.self.now c.make.new.self c.make.result c.in_ok-show.ensures.shown (c.make.ensures new));
      part = tt;
      faults = c.in_ok-show.ensures.faults;
    }
