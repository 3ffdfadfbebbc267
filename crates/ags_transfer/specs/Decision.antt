-- The steps by which the call comes to its answer.
use Rattle.std.specs.Prelude.{◌≡◌, true, false, Some, None, Result, Ok, Err}
use Rattle.ags_domain.specs.Domain.{Meaning, IsFull}
use Rattle.ags_domain.specs.declared.operands.Operands.{Operands}
use Rattle.ags_row.specs.Limit.{is_named}
use Rattle.ags_row.specs.declared.posts.Post.{Post}
use Rattle.ags_safe.specs.Case.{Case}
use Rattle.ags_transfer.specs.declared.deciding.NewA.{NewA}
use Rattle.ags_safe.specs.declared.answers.PostPair.{PostPair}
use Rattle.ags_safe.specs.declared.answers.Stop.{Stop}
use Rattle.ags_safe.specs.declared.answers.Stop.TheVariants.{MayOverflow}

-- one post alone
abbrev pub single_pair : {D : Type 0} → Post D → PostPair D
single_pair post = record { first = Some post; second = None }

-- any A goes on, and the indicator may be set: the place is named
pub record IsFree {D : Type 0} (meaning : Meaning D) (c : Case D) (free : NewA D) : Type 0 where
  pub named : is_named c.limits c.row.location ≡ true
  pub full : IsFull meaning free.a
  pub may_set : free.may_set ≡ true

-- what goes on from the domain's answer for A, or the stop where some operands overflow at a place that isn't named
abbrev pub IsDecided : {D : Type 0} → Meaning D → Case D → Result D Operands → Result (NewA D) (Stop D) → Type 0
IsDecided meaning c (Ok a) (Ok new) = new ≡ record { a = a; may_set = false }
IsDecided meaning c (Ok a) (Err stop) = ⊥
IsDecided meaning c (Err operands) (Ok new) = IsFree meaning c new
IsDecided meaning c (Err operands) (Err stop) = (is_named c.limits c.row.location ≡ false) × (stop ≡ MayOverflow operands)
