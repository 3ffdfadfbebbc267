use Rattle.ags_checker_tests.proofs.counted_tests.posts_of.Given as goal

-- the ledger is the blank's
abbrev pub ghosts-posts_from : goal.ghosts-posts_from
ghosts-posts_from g a = record { name = a.blank.name; parts = a.blank.parts }
