use Rattle.ags_command.specs.declared.source_texts.SourceText.TheVariants.{Tape}
use Rattle.ags_image.specs.Tape.{tape_text}
use Rattle.ags_plan.specs.Plan.{WorkAt}
use Rattle.ags_program.specs.declared.status.Status.TheVariants.{Done}
use Rattle.ags_program.specs.Views.{assembly_of}
use Rattle.ags_program.specs.Work.{WriteText}
use Rattle.ags_played.proofs.SendingLemmas.{fault_with, said_with}
use Rattle.ags_top.proofs.WriteLemmas.{is_tape, text_said, text_said_in_part}
use Rattle.ags_top.proofs.write_command.write_tape.Goals as goal

pub returns-clause-says : goal.returns-clause-says
returns-clause-says g c =
    let source = c.args.source.now in
    let text = tape_text source.made.image in
    let old = g.K.Sink.told c.args.out.now in
    let new = g.K.Sink.told c.send_tape.new.out in
    rw c.and.ensures (said_with c.send_tape.result (WorkAt (WriteText Tape (assembly_of source))) old new Done
    (text_said Tape source text old new (is_tape source c.requires)) (text_said_in_part Tape source text old new (is_tape source c.requires))
    c.send_tape.ensures.sent c.send_tape.ensures.front)

pub returns-clause-faults : goal.returns-clause-faults
returns-clause-faults g c = rw (c.and.ensures, fault_with c.send_tape.result Done) c.send_tape.ensures.faults
