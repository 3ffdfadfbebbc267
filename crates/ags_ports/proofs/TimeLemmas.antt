-- The standard times are a table of times, and give each order its time.
use Rattle.std.proofs.Common.{◌≡◌, ℕ, ◌≤◌, List, Bool, true, refl, ap, ◌∙◌, All, arith, get_or}
use Rattle.std.specs.Prelude.{nat_le}
use Rattle.std.specs.List.{list_all}
use Rattle.std.proofs.lemmas.Bool.Decides.{nat_tests}
use Rattle.std.proofs.lemmas.List.Recursion.{and_at}
use Rattle.std.proofs.lemmas.List.{get_or-map}
use Rattle.ags_isa.specs.declared.orders.Order.{Order}
use Rattle.ags_isa.specs.Order.{order_number, all_orders}
use Rattle.ags_isa.proofs.OrderLemmas.{order_at_number, order_number-below}
use Rattle.ags_ports.specs.Time.{AreTimes, time_of, standard_time, standard_times}

-- the two bounds of a time, as tests
abbrev pub at_least_one : ℕ → Bool
at_least_one time = nat_le 1 time

abbrev at_most_thousand : ℕ → Bool
at_most_thousand time = nat_le time 1000

pub least_from : (xs : List ℕ) → list_all at_least_one xs ≡ true → All (λ time. 1 ≤ time) xs
least_from xs h k d below = let t : nat_le 1 (get_or xs k d) ≡ true = and_at (list_all at_least_one) at_least_one refl (λ _ _. refl) xs k d below h in grind (arith, nat_tests)

most_from : (xs : List ℕ) → list_all at_most_thousand xs ≡ true → All (λ time. time ≤ 1000) xs
most_from xs h k d below = let t : nat_le (get_or xs k d) 1000 ≡ true = and_at (list_all at_most_thousand) at_most_thousand refl (λ _ _. refl) xs k d below h in grind (arith, nat_tests)

pub AreTimes-standard : AreTimes standard_times
AreTimes-standard = record { each = refl; least = least_from standard_times refl; most = most_from standard_times refl }

pub time_of-standard : (order : Order) → time_of standard_times order ≡ standard_time order
time_of-standard order =
    get_or-map standard_time all_orders (order_number order) order 0 (order_number-below order) ∙ ap standard_time (order_at_number order order)
