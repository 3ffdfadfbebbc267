use Rattle.ags_play.proofs.FoundLemmas.{one_play_of}
use Rattle.ags_play.proofs.SearchLemmas.{some_play_of}
use Rattle.ags_play.proofs.laws.each_script_has_one_play.Goals as goal

pub returns-clause-some : goal.returns-clause-some
returns-clause-some c = λ machine image guard commands h. some_play_of machine image guard commands h

pub returns-clause-one : goal.returns-clause-one
returns-clause-one c = λ machine image guard commands events others text other met unmet h p r.
    one_play_of machine image guard commands events others text other met unmet h p r
