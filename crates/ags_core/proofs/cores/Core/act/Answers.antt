use Rattle.ags_ports.specs.declared.events.Event.TheVariants.{Step}
use Rattle.ags_ports.proofs.StateLemmas.{step_keeps}
use Rattle.ags_core.proofs.cores.Core.act.Goals as goal

pub returns-in-Step-clause-state : goal.returns-in-Step-clause-state
returns-in-Step-clause-state c =
    λ is. step_keeps _ _ Step _ _ c.machine_is_made_of_tables.ensures is tt c.step.ensures
