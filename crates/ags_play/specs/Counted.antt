-- Which events of a play are counted.
use Rattle.std.specs.Prelude.{Bool, true, false}
use Rattle.ags_ports.specs.declared.events.Event.{Event}
use Rattle.ags_ports.specs.declared.events.Event.TheVariants.{Step, Put}

-- whether an event is a step
abbrev pub is_step : Event → Bool
is_step Step = true
is_step _ = false

-- whether an event is a word that is put
abbrev pub is_put : Event → Bool
is_put (Put address word) = true
is_put _ = false
