-- What the cases of a certificate are judged against.
use Rattle.std.specs.Prelude.{ℕ, List, Option}
use Rattle.ags_ports.specs.declared.machines.Machine.{Machine}
use Rattle.ags_certtype.specs.Cert.{Stated}

-- a machine, an image and what a certificate states
pub record Judging : Type 0 where
  pub machine : Machine
  pub image : List (Option ℕ)
  pub cert : Stated
