-- What an operation makes of two intervals, and where it overflows. A lies between two ends, the cell between two others, and Q
-- is any word, so that its low part is any.
use Rattle.std.specs.Prelude.{◌≡◌, ℕ, ◌<◌, ◌^◌, Bool, false, ◌⊎◌, List, Some, Result, Ok, Err, if◌then◌else◌}
use Rattle.std.specs.List.{find}
use Rattle.ags_word.specs.Operation.{Operation, size}
use Rattle.ags_domain.specs.LowBits.{all_ones}
use Rattle.ags_domain.specs.Domain.{Ends, IsBetween, Meaning, Ranged}
use Rattle.ags_domain.specs.declared.operands.Operands.{Operands}

-- the cell of an operation that takes none: the word 0 alone
abbrev pub no_cell : Ends
no_cell = record { least = 0; greatest = 0 }

-- words that the operation may meet
pub record IsOperands (a_ends m_ends : Ends) (o : Operands) : Type 0 where
  pub a_between : IsBetween a_ends o.a
  pub q_word : o.q < 2 ^ 18
  pub m_between : IsBetween m_ends o.m

-- what the operation leaves in A
abbrev pub new_a_at : Operation → Operands → ℕ
new_a_at operation o = operation.new_a o.a o.q o.m

-- the operation overflows
abbrev pub overflows_at : Operation → Operands → Bool
overflows_at operation o = operation.overflows o.a o.q o.m

-- no operands overflow
abbrev pub NoneOverflows : Operation → (a_ends m_ends : Ends) → Type 0
NoneOverflows operation a_ends m_ends = (o : Operands) → IsOperands a_ends m_ends o → overflows_at operation o ≡ false

-- operands at a corner: A at an end of its interval, the cell at an end of its own, and the low part of Q with no bit set, or with all
pub record IsCorner (a_ends m_ends : Ends) (o : Operands) : Type 0 where
  pub a_corner : (o.a ≡ a_ends.least) ⊎ (o.a ≡ a_ends.greatest)
  pub q_corner : (o.q ≡ 0) ⊎ (o.q ≡ all_ones)
  pub m_corner : (o.m ≡ m_ends.least) ⊎ (o.m ≡ m_ends.greatest)

-- where the size of A turns: A is 0, for the absolute value alone
abbrev pub IsTurn : Operation → Operands → Type 0
IsTurn operation o = (operation ≡ size) × (o.a ≡ 0)

-- some operands, at a corner or where the size of A turns, give the word
pub record IsReached (operation : Operation) (a_ends m_ends : Ends) (word : ℕ) : Type 0 where
  pub at : Operands
  pub operands : IsOperands a_ends m_ends at
  pub corner : IsCorner a_ends m_ends at ⊎ IsTurn operation at
  pub given : new_a_at operation at ≡ word

-- the least interval of all new A: each lies between its ends, and both ends are reached
pub record IsHull (operation : Operation) (a_ends m_ends ends : Ends) : Type 0 where
  pub each : (o : Operands) → IsOperands a_ends m_ends o → IsBetween ends (new_a_at operation o)
  pub least : IsReached operation a_ends m_ends ends.least
  pub greatest : IsReached operation a_ends m_ends ends.greatest

-- some operands overflow, and these are kept: the first of the candidates that do
pub record IsFirstOverflow (operation : Operation) (a_ends m_ends : Ends) (candidates : List Operands) (o : Operands) : Type 0 where
  pub operands : IsOperands a_ends m_ends o
  pub first : find (overflows_at operation) candidates ≡ Some o

-- an interval as an operation's answer: no operands overflow, and it is kept by its ends, which are those of the least interval
pub record IsInterval {D : Type 0} (meaning : Meaning D) (operation : Operation) (a_ends m_ends : Ends) (d : D) : Type 0 where
  pub none : NoneOverflows operation a_ends m_ends
  pub hull : IsHull operation a_ends m_ends (meaning.ends d)
  pub kept : meaning.form d ≡ Ranged

-- an operation's answer on two intervals: the least interval of all new A, or else operands that overflow
abbrev pub Answers : {D : Type 0} → Meaning D → Operation → (Ends → Ends → List Operands) → (a_ends m_ends : Ends) → Result D Operands → Type 0
Answers meaning operation candidates a_ends m_ends (Ok d) = IsInterval meaning operation a_ends m_ends d
Answers meaning operation candidates a_ends m_ends (Err o) = IsFirstOverflow operation a_ends m_ends (candidates a_ends m_ends) o

-- one try of an operation: what it leaves in A, or the operands, where they overflow
abbrev pub tried : Operation → Operands → Result ℕ Operands
tried operation o = if overflows_at operation o then Err o else Ok (operation.new_a o.a o.q o.m)
