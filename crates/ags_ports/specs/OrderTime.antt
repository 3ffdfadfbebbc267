-- The time of a step, by its report.
use Rattle.std.specs.Prelude.{ℕ, ◌/◌, ◌^◌, if◌then◌else◌}
use Rattle.std.specs.Option.{option_map_or}
use Rattle.ags_isa.specs.Code.{order_of}
use Rattle.ags_ports.specs.declared.events.Done.{Done}
use Rattle.ags_ports.specs.declared.machines.Machine.{Machine}
use Rattle.ags_ports.specs.Time.{time_of}

-- The order time of a report, in microseconds: that of the order that its word names, and 0 where no order ran. A word that
-- names an order has its code over 2 ^ 13; a report of a step at which none ran has 0, whatever its word is.
unfoldable pub order_time : Machine → Done → ℕ
order_time machine report =
    if report.ran then option_map_or (time_of machine.times) (order_of machine.codes (report.word / 2 ^ 13)) 0 else 0
