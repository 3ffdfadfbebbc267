use Rattle.ags_top.proofs.budget_command.timed_of.Given as goal

-- the ledger is the blank's
abbrev pub ghosts-timed_from : goal.ghosts-timed_from
ghosts-timed_from a = record { name = a.blank.name; parts = a.blank.parts }
