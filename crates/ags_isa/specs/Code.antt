-- A table of codes: which number stands in a word for each of the 27 orders.
use Rattle.std.specs.Prelude.{◌≡◌, ◌≢◌, ℕ, ◌+◌, ◌*◌, ◌<◌, ◌==◌, List, [], ◌∷◌, length, All, AllPairs, Option, map, slice_index}
use Rattle.std.specs.List.{find, range_with_len}
use Rattle.ags_isa.specs.declared.orders.Order.{Order}
use Rattle.ags_isa.specs.declared.orders.Order.TheVariants.{Abs, Add, Adz, Als, Axt, Cla, Clz, Com, Dly, Dvp, Inp, Ldq, Lls, Lrs, Mpr, Mpy, Mpz, Out, Sto, Stq, Sub, Suz, Tix, Tmi, Tov, Tra, Tsq}
use Rattle.ags_isa.specs.Order.{order_number, all_orders}

-- a list is a table of codes, in the orders' alphabetical order: one code for each, each below 32, no two of them equal
pub record AreCodes (table : List ℕ) : Type 0 where
  pub each : length table ≡ 27
  pub below : All (λ code. code < 32) table
  pub distinct : AllPairs (λ one another. one ≢ another) table

-- the code that a table gives an order
abbrev pub code_of : List ℕ → Order → ℕ
code_of table order = slice_index table (order_number order)

-- the order that has a code, and nothing where no order has it
unfoldable pub order_of : List ℕ → ℕ → Option Order
order_of table code = find (λ order. code_of table order == code) all_orders

-- the orders by their codes: what each code from 0 to 31 stands for
unfoldable pub orders_of : List ℕ → List (Option Order)
orders_of table = map (order_of table) (range_with_len 0 32)

-- the number that two octal digits write
abbrev pub octal : ℕ → ℕ → ℕ
octal high low = 8 * high + low

-- the two octal digits that an order's word begins with on the standard machine, where the index bit is 0
abbrev pub standard_digits : Order → ℕ
standard_digits Dvp = octal 0 2
standard_digits Sto = octal 1 0
standard_digits Stq = octal 1 2
standard_digits Ldq = octal 1 4
standard_digits Mpr = octal 1 6
standard_digits Cla = octal 2 0
standard_digits Add = octal 2 2
standard_digits Sub = octal 2 4
standard_digits Mpy = octal 2 6
standard_digits Clz = octal 3 0
standard_digits Adz = octal 3 2
standard_digits Suz = octal 3 4
standard_digits Mpz = octal 3 6
standard_digits Tra = octal 4 0
standard_digits Tix = octal 4 2
standard_digits Tov = octal 4 4
standard_digits Tmi = octal 4 6
standard_digits Axt = octal 5 0
standard_digits Lls = octal 5 2
standard_digits Lrs = octal 5 4
standard_digits Als = octal 5 6
standard_digits Com = octal 6 0
standard_digits Abs = octal 6 2
standard_digits Inp = octal 6 4
standard_digits Out = octal 6 6
standard_digits Dly = octal 7 0
standard_digits Tsq = octal 7 2

-- the pairs of digits, the second one even, that begin no order's word on the standard machine
abbrev pub unused_digits : List ℕ
unused_digits = octal 0 0 ∷ octal 0 4 ∷ octal 0 6 ∷ octal 7 4 ∷ octal 7 6 ∷ []

-- The codes of the standard machine, each half the number of its two digits, in the orders' alphabetical order:
-- ABS, ADD, ADZ, ALS, AXT, CLA, CLZ, COM, DLY, DVP, INP, LDQ, LLS, LRS, MPR, MPY, MPZ, OUT, STO, STQ, SUB, SUZ, TIX, TMI,
-- TOV, TRA, TSQ.
abbrev pub standard_codes : List ℕ
standard_codes = 25 ∷ 9 ∷ 13 ∷ 23 ∷ 20 ∷ 8 ∷ 12 ∷ 24 ∷ 28 ∷ 1 ∷ 26 ∷ 6 ∷ 21 ∷ 22 ∷ 7 ∷ 11 ∷ 15 ∷ 27 ∷ 4 ∷ 5 ∷ 10 ∷ 14 ∷ 17 ∷ 19 ∷ 18 ∷ 16 ∷ 29 ∷ []
