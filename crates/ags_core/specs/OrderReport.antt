-- What an order reports beside the state that it leaves.
use Rattle.std.specs.Prelude.{◌≡◌}
use Rattle.ags_ports.specs.State.{State}
use Rattle.ags_ports.specs.Effect.{Effect}
use Rattle.ags_core.specs.declared.order_reports.OrderReport.{OrderReport}

-- what an effect reports
abbrev pub order_report_of : Effect → OrderReport
order_report_of made = record { overflow = made.overflow; stored = made.stored; took = made.took; gave = made.gave }

-- an effect was made: its state is left, and what it reports is reported
abbrev pub Does : Effect → State → OrderReport → Type 0
Does made after reported = (after ≡ made.after) × (reported ≡ order_report_of made)
