use Rattle.ags_asm.specs.Source.{card_words}
use Rattle.ags_plan.specs.Plan.{WorkAt}
use Rattle.ags_program.specs.Text.{compared_line}
use Rattle.ags_program.specs.Work.{CompareImages, compared_status}
use Rattle.ags_top.proofs.CompareLemmas.{comparison_said, comparison_said_in_part}
use Rattle.ags_played.proofs.SendingLemmas.{fault_with, said_with}
use Rattle.ags_top.proofs.compare_command.compare_images.Goals as goal

pub returns-clause-says : goal.returns-clause-says
returns-clause-says g c =
    let made = c.args.made.now in
    let listed = c.args.listed.now in
    let compared = c.compare-compared.result in
    let old = g.K.Sink.told c.args.out.now in
    let new = g.K.Sink.told c.send_line.new.out in
    rw (c.and.ensures, c.compared_status.ensures) (said_with c.send_line.result (WorkAt (CompareImages (card_words made) listed)) old new (compared_status compared)
    (comparison_said made listed old new c.requires.2.image compared c.compare-compared.ensures)
    (comparison_said_in_part made listed old new c.requires.2.image compared c.compare-compared.ensures)
    (c.send_line.ensures.sent (compared_line compared) c.compared_line.ensures) (c.send_line.ensures.front (compared_line compared) c.compared_line.ensures))

pub returns-clause-faults : goal.returns-clause-faults
returns-clause-faults g c = rw (c.and.ensures, fault_with c.send_line.result c.compared_status.result) c.send_line.ensures.faults
