use Rattle.ags_drive.proofs.driving.types_are_kept.Goals as goal

pub returns-clause-suits : goal.returns-clause-suits
returns-clause-suits c = c.scripts_suit_their_machine.ensures c.args.machine.now c.args.script.now c.requires
