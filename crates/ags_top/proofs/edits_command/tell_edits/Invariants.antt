use Rattle.ags_top.proofs.edits_command.tell_edits.Given as goal

-- the ledger is the blank's
abbrev pub ghosts-tell_from : goal.ghosts-tell_from
ghosts-tell_from g a = record { name = a.blank.name; parts = a.blank.parts }
