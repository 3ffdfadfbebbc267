use Rattle.ags_certtext.proofs.StatementLemmas.{stated_is}
use Rattle.ags_certtext.proofs.laws.spelled_statements_are_lawful.Goals as goal

pub returns : goal.returns
returns c = λ line statement spells. stated_is line statement spells.states
