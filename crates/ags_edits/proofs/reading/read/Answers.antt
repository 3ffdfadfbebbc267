use Rattle.std.specs.Prelude.{reverse}
use Rattle.ags_edits.proofs.EditLemmas.{all_gathered, gathered_lawful}
use Rattle.ags_edits.proofs.reading.read.Goals as goal

pub returns-in-Ok-clause-read : goal.returns-in-Ok-clause-read
returns-in-Ok-clause-read c =
    let all = c.in-Ok.all in
    let read = c.in-Ok.ensures.read in
    record { lines = read.0; is_text = read.1; are_edits = all_gathered all.edits.items all.ended read.0 read.2 }

pub returns-in-Ok-clause-lawful : goal.returns-in-Ok-clause-lawful
returns-in-Ok-clause-lawful c =
    let all = c.in-Ok.all in
    let read = c.in-Ok.ensures.read in
    gathered_lawful all.edits.items all.ended (reverse read.0) read.2
