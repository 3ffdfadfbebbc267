use Rattle.ags_verdict.proofs.CaseLemmas.{case_stands, case_is}
use Rattle.ags_verdict.proofs.TurnLemmas.{in_turn, each_once}
use Rattle.ags_verdict.proofs.laws.cases_are_each_word_with_each_index_and_indicator.Goals as goal

pub returns-clause-each : goal.returns-clause-each
returns-clause-each g c = λ row code. case_stands row code.list

pub returns-clause-alone : goal.returns-clause-alone
returns-clause-alone g c = λ row code. case_is row code.list

pub returns-clause-once : goal.returns-clause-once
returns-clause-once g c = λ row code. each_once row code.list code.ascending

pub returns-clause-ascending : goal.returns-clause-ascending
returns-clause-ascending g c = λ row code. in_turn row code.list code.ascending
