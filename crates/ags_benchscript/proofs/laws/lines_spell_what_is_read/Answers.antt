use Rattle.ags_benchscript.proofs.SpellingLaws.{read_spelled, spelled_read, malformed_spells_nothing}
use Rattle.ags_benchscript.proofs.laws.lines_spell_what_is_read.Goals as goal

pub returns-clause-found : goal.returns-clause-found
returns-clause-found c = read_spelled

pub returns-clause-only : goal.returns-clause-only
returns-clause-only c = spelled_read

pub returns-clause-malformed : goal.returns-clause-malformed
returns-clause-malformed c = malformed_spells_nothing
