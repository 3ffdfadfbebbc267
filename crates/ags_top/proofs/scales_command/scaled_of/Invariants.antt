use Rattle.ags_top.proofs.scales_command.scaled_of.Given as goal

-- the ledger is the blank's
abbrev pub ghosts-scaled_from : goal.ghosts-scaled_from
ghosts-scaled_from a = record { name = a.blank.name; parts = a.blank.parts }
