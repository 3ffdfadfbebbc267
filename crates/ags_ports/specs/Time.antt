-- How long each order takes, in microseconds.
use Rattle.std.specs.Prelude.{◌≡◌, ℕ, ◌≤◌, List, length, All, map, slice_index}
use Rattle.ags_isa.specs.declared.orders.Order.{Order}
use Rattle.ags_isa.specs.declared.orders.Order.TheVariants.{Adz, Als, Clz, Dvp, Inp, Lls, Lrs, Mpr, Mpy, Mpz, Out, Suz, Tsq}
use Rattle.ags_isa.specs.Order.{order_number, all_orders}

-- a list is a table of times, in the orders' alphabetical order: one time for each, from 1 to 1000
pub record AreTimes (times : List ℕ) : Type 0 where
  pub each : length times ≡ 27
  pub least : All (λ time. 1 ≤ time) times
  pub most : All (λ time. time ≤ 1000) times

-- the time that a table gives an order
abbrev pub time_of : List ℕ → Order → ℕ
time_of times order = slice_index times (order_number order)

-- how long an order takes on the standard machine
abbrev pub standard_time : Order → ℕ
standard_time Adz = 16
standard_time Clz = 16
standard_time Suz = 16
standard_time Tsq = 16
standard_time Inp = 20
standard_time Out = 20
standard_time Als = 40
standard_time Lls = 40
standard_time Lrs = 40
standard_time Mpr = 70
standard_time Mpy = 70
standard_time Mpz = 70
standard_time Dvp = 73
standard_time _ = 10

-- the standard machine's table of times
abbrev pub standard_times : List ℕ
standard_times = map standard_time all_orders
