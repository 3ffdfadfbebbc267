-- The tables of a machine file that have a number for each order: its codes and its times.
use Rattle.std.specs.Prelude.{ℕ, ◌%◌, ◌/◌, ◌==◌, List, [], ◌∷◌, map, Option, Some, None, option_map, option_and_then, Result, Ok, Err, if◌then◌else◌}
use Rattle.std.specs.List.{find}
use Rattle.std.specs.Option.{ok_or, option_or}
use Rattle.toml.specs.Data.{Data, Members, get_member, as_table}
use Rattle.ags_isa.specs.declared.orders.Order.{Order}
use Rattle.ags_isa.specs.Order.{all_orders, order_name}
use Rattle.ags_isa.specs.Code.{code_of, standard_codes}
use Rattle.ags_ports.specs.Time.{standard_times}
use Rattle.ags_machfile.specs.declared.keys.Key.{Key}
use Rattle.ags_machfile.specs.declared.keys.Key.TheVariants.{Codes, Times, Code, Time}
use Rattle.ags_machfile.specs.declared.mach_error.MachError.{MachError}
use Rattle.ags_machfile.specs.declared.mach_error.MachError.TheVariants.{MissingKey, BadValue, SameCode}
use Rattle.ags_machfile.specs.Value.{◌>>=◌, collected, whole_number}

-- the half of an even number, and nothing for an odd one
abbrev pub half_of : ℕ → Option ℕ
half_of n = if n % 2 == 0 then Some (n / 2) else None

-- the code that a value gives: it is written as its two octal digits, an even number from 0 to 62, and is half of that
abbrev pub code_given : Data → Option ℕ
code_given value = option_and_then half_of (whole_number 0 62 value)

-- the time that a value gives, in microseconds: from 1 to 1000
abbrev pub time_given : Data → Option ℕ
time_given value = whole_number 1 1000 value

-- the number that stands at a key: the key is missing, or its value is wrong, where it gives none
abbrev pub number_at : (given : Data → Option ℕ) → Key → Option Data → Result ℕ MachError
number_at given which None = Err (MissingKey which)
number_at given which (Some value) = ok_or (given value) (BadValue which)

-- the code that a table gives an order, whose name is its key; and the time
abbrev pub code_entry : Members → Order → Result ℕ MachError
code_entry members order = number_at code_given (Code order) (get_member (order_name order) members)

abbrev pub time_entry : Members → Order → Result ℕ MachError
time_entry members order = number_at time_given (Time order) (get_member (order_name order) members)

-- the numbers of all orders, in their alphabetical order, or the fault of the first that has one
unfoldable pub all_numbers : (entry : Order → Result ℕ MachError) → Result (List ℕ) MachError
all_numbers entry = collected [] (map entry all_orders)

-- what a table gives all orders; a value that is no table is a fault
abbrev pub order_numbers : Key → (entry : Members → Order → Result ℕ MachError) → Option Members → Result (List ℕ) MachError
order_numbers which entry None = Err (BadValue which)
order_numbers which entry (Some members) = all_numbers (entry members)

-- the first of these orders that has an order's code
abbrev pub order_with_code_of : List ℕ → Order → List Order → Option Order
order_with_code_of table order others = find (λ other. code_of table other == code_of table order) others

-- the first pair of orders with one code: the first order that shares its code with a later one, and the first of these
abbrev pub first_pair : List ℕ → List Order → Option (Order × Order)
first_pair table [] = None
first_pair table (order ∷ others) = option_or (option_map (λ other. (order, other)) (order_with_code_of table order others)) (first_pair table others)

-- the first pair of all orders
unfoldable pub shared_pair : List ℕ → Option (Order × Order)
shared_pair table = first_pair table all_orders

-- codes that no two orders share, or the first pair that does
abbrev pub unshared : List ℕ → Option (Order × Order) → Result (List ℕ) MachError
unshared table None = Ok table
unshared table (Some pair) = Err (SameCode pair.0 pair.1)

-- the codes of a file, by the value at their key: the standard ones where there is none
abbrev pub codes_in : Option Data → Result (List ℕ) MachError
codes_in None = Ok standard_codes
codes_in (Some value) = order_numbers Codes code_entry (as_table value) >>= (λ table. unshared table (shared_pair table))

-- the times of a file, in the same way, but that two may be equal
abbrev pub times_in : Option Data → Result (List ℕ) MachError
times_in None = Ok standard_times
times_in (Some value) = order_numbers Times time_entry (as_table value)
