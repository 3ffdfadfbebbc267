-- What a reader of pieces keeps.
use Rattle.std.specs.Prelude.{ℕ, List}
use Rattle.ags_ports.specs.Port.{Registers}
use Rattle.ags_certread.specs.Gathering.{Gathering}
use Rattle.ags_certread.specs.declared.states.State.{State}

-- the registers that lines were read for, how many lines have ended, what is gathered of them, and how far the reader is
pub record KeptLines : Type 0 where
  pub ports : Registers
  pub number : ℕ
  pub gathered : Gathering
  pub state : State

-- the registers that it reads for, the bytes of the line that has begun, how many lines have ended, what is gathered of them, and how
-- far it is
pub record Kept : Type 0 where
  pub ports : Registers
  pub rest : List ℕ
  pub number : ℕ
  pub gathered : Gathering
  pub state : State
