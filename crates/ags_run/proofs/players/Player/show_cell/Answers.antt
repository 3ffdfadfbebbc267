use Rattle.std.proofs.Common.{ap, ◌∙◌}
use Rattle.std.proofs.lemmas.Result.{on_ok_weaker, on_err_weaker}
use Rattle.ags_play.specs.Act as act
use Rattle.ags_play.specs.Shown.{cell_text}
use Rattle.ags_run.proofs.ShowLemmas.{cell_shown, shown_whole, shown_in_part}
use Rattle.ags_run.proofs.players.Player.show_cell.Goals as goal

pub returns-clause-shown : goal.returns-clause-shown
returns-clause-shown g c =
    on_ok_weaker c.send_line.result
    (λ sent. shown_whole c.args.self.now (act.ShowsCell c.args.address) _ (g.K.Sink.told c.args.out.now) (g.K.Sink.told c.send_line.new.out)
    (cell_shown c.args.self.now c.args.address c.cell_line.result (c.cell_line.ensures ∙ ap (cell_text c.args.address) c.cell.ensures.word)) sent) c.send_line.ensures.sent

pub returns-clause-part : goal.returns-clause-part
returns-clause-part g c =
    on_err_weaker c.send_line.result
    (λ front. shown_in_part c.args.self.now (act.ShowsCell c.args.address) _ (g.K.Sink.told c.args.out.now) (g.K.Sink.told c.send_line.new.out)
    (cell_shown c.args.self.now c.args.address c.cell_line.result (c.cell_line.ensures ∙ ap (cell_text c.args.address) c.cell.ensures.word)) front) c.send_line.ensures.front
