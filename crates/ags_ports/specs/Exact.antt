-- What the orders that compute a number compute: its exact result, and where it has room. Nothing here speaks of what is left
-- of a number that has none.
use Rattle.std.specs.Prelude.{◌≡◌, ℕ, ◌%◌, ◌^◌, ◌<◌, Bool, true, false, ℤ, pos, ◌+ℤ◌, ◌-ℤ◌, ◌*ℤ◌, ◌≤ℤ◌, ◌<ℤ◌, neg_ℤ, unsigned_abs, if◌then◌else◌}
use Rattle.ags_word.specs.Word.{val}
use Rattle.ags_word.specs.Long.{long, IsFloor, IsNearest}
use Rattle.ags_isa.specs.declared.orders.Order.{Order}
use Rattle.ags_isa.specs.declared.orders.Order.TheVariants.{Abs, Add, Adz, Als, Com, Dvp, Lls, Lrs, Mpr, Mpy, Mpz, Sub, Suz}
use Rattle.ags_ports.specs.declared.machines.Machine.{Machine}
use Rattle.ags_ports.specs.State.{State, cell}
use Rattle.ags_ports.specs.Effect.{effective}
use Rattle.ags_ports.specs.Step.{Reads}

-- the orders that compute a number; the others move words, or go somewhere
abbrev pub computes_number : Order → Bool
computes_number Add = true
computes_number Adz = true
computes_number Sub = true
computes_number Suz = true
computes_number Com = true
computes_number Abs = true
computes_number Als = true
computes_number Mpy = true
computes_number Mpr = true
computes_number Mpz = true
computes_number Dvp = true
computes_number Lrs = true
computes_number Lls = true
computes_number _ = false

-- A number over a divisor is this quotient, cut off toward zero: what is left is smaller than the divisor, and where it isn't
-- 0, it has the sign of the dividend.
pub record IsQuotient (dividend divisor quotient : ℤ) : Type 0 where
  pub rest : ℤ
  pub whole : quotient *ℤ divisor +ℤ rest ≡ dividend
  pub smaller : unsigned_abs rest < unsigned_abs divisor
  pub not_negative : pos 0 ≤ℤ dividend → pos 0 ≤ℤ rest
  pub not_positive : dividend ≤ℤ pos 0 → rest ≤ℤ pos 0

-- The number is the exact result of an order, where A and Q hold these words, m is the word of the cell, and a shift has this
-- count. A division by 0 has none, and an order that computes no number has none.
abbrev pub IsExactResult : Order → (a q m count : ℕ) → ℤ → Type 0
-- The sum, and the difference.
IsExactResult Add a q m count n = n ≡ val a +ℤ val m
IsExactResult Adz a q m count n = n ≡ val a +ℤ val m
IsExactResult Sub a q m count n = n ≡ val a -ℤ val m
IsExactResult Suz a q m count n = n ≡ val a -ℤ val m
-- The negative, and the absolute value.
IsExactResult Com a q m count n = n ≡ neg_ℤ (val a)
IsExactResult Abs a q m count n = n ≡ pos (unsigned_abs (val a))
-- The number in A, or in the pair, times 2 to the count.
IsExactResult Als a q m count n = n ≡ val a *ℤ pos (2 ^ count)
IsExactResult Lls a q m count n = n ≡ long a q *ℤ pos (2 ^ count)
-- The number in the pair over 2 to the count, rounded down.
IsExactResult Lrs a q m count n = IsFloor (long a q) (2 ^ count) n
-- The product; and the product over 2 ^ 17, to the nearest whole number and a half upward.
IsExactResult Mpy a q m count n = n ≡ val a *ℤ val m
IsExactResult Mpr a q m count n = IsNearest (val a *ℤ val m) (2 ^ 16) n
IsExactResult Mpz a q m count n = IsNearest (val a *ℤ val m) (2 ^ 16) n
-- The number in the pair over m, cut off toward zero.
IsExactResult Dvp a q m count n = IsQuotient (long a q) (val m) n
IsExactResult _ a q m count n = ⊥

-- whether an order's result goes to the pair of A and Q; else it goes to A alone
abbrev pub goes_to_pair : Order → Bool
goes_to_pair Mpy = true
goes_to_pair Lls = true
goes_to_pair Lrs = true
goes_to_pair _ = false

-- the number that stands where an order's result goes
abbrev pub number_left : Order → State → ℤ
number_left order s = if goes_to_pair order then long s.a s.q else val s.a

-- there is room for the number where an order's result goes: 18 bits in A, or 35 in the pair
abbrev pub HasRoom : Order → ℤ → Type 0
HasRoom order n =
    let half = if goes_to_pair order then 2 ^ 34 else 2 ^ 17 in (neg_ℤ (pos half) ≤ℤ n) × (n <ℤ pos half)

-- the number is the exact result of the order that is read in a state
abbrev pub IsResultHere : (machine : Machine) (s : State) (order : Order) → Reads machine s order → ℤ → Type 0
IsResultHere machine s order reads n =
    let m = cell s (effective s order reads.indexed reads.address) in
    IsExactResult order s.a s.q m (reads.address % 64) n
