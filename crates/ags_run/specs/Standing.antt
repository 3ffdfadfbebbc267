-- When the bench of the code stands for that of the definition.
use Rattle.std.specs.Prelude.{◌≡◌}
use Rattle.ags_deda.specs.Standing.{StandsFor}
use Rattle.ags_play.specs.Bench as play
use Rattle.ags_run.specs.declared.benches.Bench.{Bench}

-- the bench stands for that of the definition
pub record StandsAs (bench : Bench) (b : play.Bench) : Type 0 where
  pub core : bench.core ≡ b.core
  pub panel : StandsFor bench.listener.panel b.panel
  pub carry : bench.carry ≡ b.carry
