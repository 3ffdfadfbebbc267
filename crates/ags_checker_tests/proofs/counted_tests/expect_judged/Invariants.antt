use Rattle.ags_checker_tests.proofs.counted_tests.expect_judged.Given as goal

-- the ledger is the blank's
abbrev pub ghosts-judged_from : goal.ghosts-judged_from
ghosts-judged_from g a = record { name = a.blank.name; parts = a.blank.parts }
