-- Where posts go.
use Rattle.std.specs.Prelude.{◌<◌, IfSome}
use Rattle.ags_safe.specs.declared.answers.PostPair.{PostPair}

-- each post of two goes to a location of the memory
abbrev pub GoWithin : {D : Type 0} → PostPair D → Type 0
GoWithin pair = IfSome pair.first (λ post. post.next < 4096) × IfSome pair.second (λ post. post.next < 4096)
