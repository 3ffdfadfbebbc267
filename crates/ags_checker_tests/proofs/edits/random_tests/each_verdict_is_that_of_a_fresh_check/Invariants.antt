use Rattle.ags_checker_tests.proofs.edits.random_tests.each_verdict_is_that_of_a_fresh_check.Given as goal

-- the ledger is the blank's
abbrev pub ghosts-lists_of_edits : goal.ghosts-lists_of_edits
ghosts-lists_of_edits g a = record { name = a.blank.name; parts = a.blank.parts }
