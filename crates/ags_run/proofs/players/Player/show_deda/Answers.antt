use Rattle.std.proofs.Common.{◌∙◌}
use Rattle.std.proofs.lemmas.Result.{on_ok_weaker, on_err_weaker}
use Rattle.ags_play.specs.Act as act
use Rattle.ags_run.proofs.ShowLemmas.{deda_shown, shown_whole, shown_in_part}
use Rattle.ags_run.proofs.players.Player.show_deda.Goals as goal

pub returns-clause-shown : goal.returns-clause-shown
returns-clause-shown g c =
    on_ok_weaker c.send_line.result
    (λ sent. shown_whole c.args.self.now act.ShowsDeda _ (g.K.Sink.told c.args.out.now) (g.K.Sink.told c.send_line.new.out)
    (deda_shown c.args.self.now c.as_slice.result.now (λ happenings stands. c.as_slice.ensures.value ∙ c.deda_line.ensures.text happenings stands)) sent) c.send_line.ensures.sent

pub returns-clause-part : goal.returns-clause-part
returns-clause-part g c =
    on_err_weaker c.send_line.result
    (λ front. shown_in_part c.args.self.now act.ShowsDeda _ (g.K.Sink.told c.args.out.now) (g.K.Sink.told c.send_line.new.out)
    (deda_shown c.args.self.now c.as_slice.result.now (λ happenings stands. c.as_slice.ensures.value ∙ c.deda_line.ensures.text happenings stands)) front) c.send_line.ensures.front
