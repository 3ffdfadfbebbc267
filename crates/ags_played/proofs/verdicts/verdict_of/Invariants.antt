use Rattle.ags_played.proofs.verdicts.verdict_of.Given as goal

-- the ledger is the blank's
abbrev pub ghosts-verdict_from : goal.ghosts-verdict_from
ghosts-verdict_from a = record { name = a.blank.name; parts = a.blank.parts }
