use Rattle.std.proofs.Common.{ap, ◌++◌, ◌∙◌}
use Rattle.std.specs.Prelude.{codes}
use Rattle.std.proofs.lemmas.Result.{on_ok_weaker, MatchResult-weaker}
use Rattle.ags_drive.proofs.ShowLemmas.{reg_made, reg_unmade}
use Rattle.ags_drive.proofs.showing.show_reg.Goals as goal

pub returns-clause-made : goal.returns-clause-made
returns-clause-made g c =
    on_ok_weaker c.send_line.result
    (λ sent machine cert devices. reg_made machine cert c.args.bench.now c.steps_fit.ensures devices (g.K.Sink.told c.args.out.now) (g.K.Sink.told c.send_line.new.out) c.as_slice.result.now
    (c.as_slice.ensures ∙ c.whole_line-line.ensures ∙ ap (λ text. text ++ codes "\n") c.reg_line.ensures) sent) c.send_line.ensures.sent

pub returns-clause-unmade : goal.returns-clause-unmade
returns-clause-unmade g c =
    MatchResult-weaker c.send_line.result c.send_line.ensures.front (λ x h. h)
    (λ met front machine cert devices. reg_unmade machine cert c.args.bench.now c.steps_fit.ensures devices (g.K.Sink.told c.args.out.now) (g.K.Sink.told c.send_line.new.out) c.as_slice.result.now met
    (c.as_slice.ensures ∙ c.whole_line-line.ensures ∙ ap (λ text. text ++ codes "\n") c.reg_line.ensures) front)
