-- What comes of a case whose posts are put into a pair at hand.
use Rattle.std.specs.Prelude.{Result, Ok, Err}
use Rattle.ags_safe.specs.Posts.{Outcome}
use Rattle.ags_safe.specs.declared.answers.PostPair.{PostPair}
use Rattle.ags_safe.specs.declared.answers.Stop.{Stop}

-- the pair that the posts were put into, or the stop
abbrev pub outcome_of : {D : Type 0} → Result Unit (Stop D) → PostPair D → Outcome D
outcome_of (Ok done) pair = Ok pair
outcome_of (Err stop) pair = Err stop
