use Rattle.ags_advice.proofs.advice.AdviceDisplay.fmt.Goals as goal

pub returns-in-Told-clause-writes : goal.returns-in-Told-clause-writes
returns-in-Told-clause-writes g c =
    rw c.in-Told.is (rw c.name_of-in-Told.ensures at (rw c.name_of.ensures at (rw c.first_line.ensures at c.write.ensures.writes)))
