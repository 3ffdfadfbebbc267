use Rattle.std.proofs.Common.{ap, ◌++◌, ◌∙◌}
use Rattle.std.specs.Prelude.{codes}
use Rattle.std.proofs.lemmas.Result.{on_ok_weaker, MatchResult-weaker}
use Rattle.ags_play.specs.Shown.{output_text}
use Rattle.ags_drive.proofs.ShowLemmas.{out_made, out_unmade}
use Rattle.ags_drive.proofs.showing.show_out.Goals as goal

pub returns-clause-made : goal.returns-clause-made
returns-clause-made g c =
    on_ok_weaker c.send_line.result
    (λ sent cert devices. out_made c.args.machine.now cert c.args.bench.now c.steps_fit.ensures c.args.address devices (g.K.Sink.told c.args.out.now) (g.K.Sink.told c.send_line.new.out) c.as_slice.result.now
    (c.as_slice.ensures ∙ c.whole_line-line.ensures ∙ ap (λ text. text ++ codes "\n") (c.output_line.ensures ∙ ap (output_text c.args.address) c.output_at.ensures)) sent) c.send_line.ensures.sent

pub returns-clause-unmade : goal.returns-clause-unmade
returns-clause-unmade g c =
    MatchResult-weaker c.send_line.result c.send_line.ensures.front (λ x h. h)
    (λ met front cert devices. out_unmade c.args.machine.now cert c.args.bench.now c.steps_fit.ensures c.args.address devices (g.K.Sink.told c.args.out.now) (g.K.Sink.told c.send_line.new.out) c.as_slice.result.now met
    (c.as_slice.ensures ∙ c.whole_line-line.ensures ∙ ap (λ text. text ++ codes "\n") (c.output_line.ensures ∙ ap (output_text c.args.address) c.output_at.ensures)) front)
