use Rattle.std.proofs.Common.{refl, subst, ◌∙◌, arith}
use Rattle.std.specs.Prelude.{Option}
use Rattle.ags_play.specs.Act.{acts_of_command}
use Rattle.ags_script.specs.Suiting.{NamesLocation}
use Rattle.ags_run.specs.declared.players.StoppedWord.{StoppedWord}
use Rattle.ags_run.specs.Playing.{PlayedActs}
use Rattle.ags_run.proofs.JoinLemmas.{none_played}
use Rattle.ags_run.proofs.ScriptLemmas.{command_located, commands_more, commands_stopped, commands_in_part, commands_all, said_of_err}
use Rattle.ags_run.proofs.players.Player.play_commands.Goals as goal

pub loop-position-init : goal.loop-position-init
loop-position-init g c = record { played = none_played (g.K.Sink.told c.args.out.now) c.args.self.now; faults = refl }

pub play_command-requires : goal.play_command-requires
play_command-requires g c = command_located NamesLocation c.args.script.now c.loop-position.position c.nth-command.result c.requires c.nth-command.ensures

pub returns-in_err-stopped-clause-part : goal.returns-in_err-stopped-clause-part
returns-in_err-stopped-clause-part g c =
    said_of_err _ (commands_in_part c.args.script.now c.loop-position.position c.nth-command.result (g.K.Sink.told c.args.out.now) (g.K.Sink.told c.loop-position.out) (g.K.Sink.told c.play_command.new.out) c.args.self.now c.loop-position.self c.nth-command.ensures c.loop-position.invariant.played
    c.machine_is_made_of_tables.ensures c.in_err-stopped.ensures.part)

pub returns-in-Some-clause-played : goal.returns-in-Some-clause-played
returns-in-Some-clause-played g c =
    commands_stopped c.args.script.now c.loop-position.position c.nth-command.result (g.K.Sink.told c.args.out.now) (g.K.Sink.told c.loop-position.out) (g.K.Sink.told c.play_command.new.out) c.args.self.now c.loop-position.self c.nth-command.ensures c.loop-position.invariant.played
    c.play_command.new.self c.in-Some.stopped (subst (λ (met : Option StoppedWord). PlayedActs (acts_of_command c.nth-command.result) (g.K.Sink.told c.loop-position.out) (g.K.Sink.told c.play_command.new.out) c.loop-position.self c.play_command.new.self met) c.in-Some.is c.in_ok-stopped.ensures.played)

pub loop-position-preserved : goal.loop-position-preserved
loop-position-preserved g c = record {
  played = commands_more c.args.script.now c.loop-position.position c.nth-command.result (g.K.Sink.told c.args.out.now) (g.K.Sink.told c.loop-position.out) (g.K.Sink.told c.play_command.new.out) c.args.self.now c.loop-position.self c.nth-command.ensures c.loop-position.invariant.played
      c.play_command.new.self (subst (λ (met : Option StoppedWord). PlayedActs (acts_of_command c.nth-command.result) (g.K.Sink.told c.loop-position.out) (g.K.Sink.told c.play_command.new.out) c.loop-position.self c.play_command.new.self met) c.in_default.is c.in_ok-stopped.ensures.played);
  faults = c.in_ok-stopped.ensures.faults.clean refl ∙ c.loop-position.invariant.faults;
}

pub returns-clause-played : goal.returns-clause-played
returns-clause-played g c =
    commands_all c.args.script.now c.loop-position.position (g.K.Sink.told c.args.out.now) (g.K.Sink.told c.loop-position.out) c.args.self.now c.loop-position.self
    (omega (arith, c.loop-position-test.false, c.len-position-end.ensures)) c.loop-position.invariant.played
