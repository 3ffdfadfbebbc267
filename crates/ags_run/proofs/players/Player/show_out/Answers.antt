use Rattle.std.proofs.Common.{ap, ◌∙◌}
use Rattle.std.proofs.lemmas.Result.{on_ok_weaker, on_err_weaker}
use Rattle.ags_play.specs.Act as act
use Rattle.ags_play.specs.Shown.{output_text}
use Rattle.ags_run.proofs.ShowLemmas.{out_shown, shown_whole, shown_in_part}
use Rattle.ags_run.proofs.players.Player.show_out.Goals as goal

pub returns-clause-shown : goal.returns-clause-shown
returns-clause-shown g c =
    on_ok_weaker c.send_line.result
    (λ sent. shown_whole c.args.self.now (act.ShowsOut c.args.address) _ (g.K.Sink.told c.args.out.now) (g.K.Sink.told c.send_line.new.out)
    (out_shown c.args.self.now c.args.address c.output_line.result (c.output_line.ensures ∙ ap (output_text c.args.address) c.output_at.ensures)) sent) c.send_line.ensures.sent

pub returns-clause-part : goal.returns-clause-part
returns-clause-part g c =
    on_err_weaker c.send_line.result
    (λ front. shown_in_part c.args.self.now (act.ShowsOut c.args.address) _ (g.K.Sink.told c.args.out.now) (g.K.Sink.told c.send_line.new.out)
    (out_shown c.args.self.now c.args.address c.output_line.result (c.output_line.ensures ∙ ap (output_text c.args.address) c.output_at.ensures)) front) c.send_line.ensures.front
