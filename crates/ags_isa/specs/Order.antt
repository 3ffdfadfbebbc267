-- The machine's 27 orders: the number of each in the alphabet's order, all of them, and the name that a source writes.
use Rattle.std.specs.Prelude.{◌≡◌, ℕ, List, [], ◌∷◌, codes}
use Rattle.std.specs.Ordering.{nat_cmp}
use Rattle.std.specs.declared.cmp.Ordering.TheVariants.{Less}
use Rattle.std.specs.Cmp.Lexicographic.{slice_cmp}
use Rattle.ags_isa.specs.declared.orders.Order.{Order}
use Rattle.ags_isa.specs.declared.orders.Order.TheVariants.{Abs, Add, Adz, Als, Axt, Cla, Clz, Com, Dly, Dvp, Inp, Ldq, Lls, Lrs, Mpr, Mpy, Mpz, Out, Sto, Stq, Sub, Suz, Tix, Tmi, Tov, Tra, Tsq}

-- an order's number: its position among the 27 in the order of the alphabet, from 0
abbrev pub order_number : Order → ℕ
order_number Abs = 0
order_number Add = 1
order_number Adz = 2
order_number Als = 3
order_number Axt = 4
order_number Cla = 5
order_number Clz = 6
order_number Com = 7
order_number Dly = 8
order_number Dvp = 9
order_number Inp = 10
order_number Ldq = 11
order_number Lls = 12
order_number Lrs = 13
order_number Mpr = 14
order_number Mpy = 15
order_number Mpz = 16
order_number Out = 17
order_number Sto = 18
order_number Stq = 19
order_number Sub = 20
order_number Suz = 21
order_number Tix = 22
order_number Tmi = 23
order_number Tov = 24
order_number Tra = 25
order_number Tsq = 26

-- the 27 orders, each at its number
abbrev pub all_orders : List Order
all_orders = Abs ∷ Add ∷ Adz ∷ Als ∷ Axt ∷ Cla ∷ Clz ∷ Com ∷ Dly ∷ Dvp ∷ Inp ∷ Ldq ∷ Lls ∷ Lrs ∷ Mpr ∷ Mpy ∷ Mpz ∷ Out ∷ Sto ∷ Stq ∷ Sub ∷ Suz ∷ Tix ∷ Tmi ∷ Tov ∷ Tra ∷ Tsq ∷ []

-- an order's name: three capitals
abbrev pub order_name : Order → List ℕ
order_name Abs = codes "ABS"
order_name Add = codes "ADD"
order_name Adz = codes "ADZ"
order_name Als = codes "ALS"
order_name Axt = codes "AXT"
order_name Cla = codes "CLA"
order_name Clz = codes "CLZ"
order_name Com = codes "COM"
order_name Dly = codes "DLY"
order_name Dvp = codes "DVP"
order_name Inp = codes "INP"
order_name Ldq = codes "LDQ"
order_name Lls = codes "LLS"
order_name Lrs = codes "LRS"
order_name Mpr = codes "MPR"
order_name Mpy = codes "MPY"
order_name Mpz = codes "MPZ"
order_name Out = codes "OUT"
order_name Sto = codes "STO"
order_name Stq = codes "STQ"
order_name Sub = codes "SUB"
order_name Suz = codes "SUZ"
order_name Tix = codes "TIX"
order_name Tmi = codes "TMI"
order_name Tov = codes "TOV"
order_name Tra = codes "TRA"
order_name Tsq = codes "TSQ"

-- a text comes before another one, byte for byte: the first bytes that differ decide, or that the text ends first
abbrev pub ComesBefore : List ℕ → List ℕ → Type 0
ComesBefore text other = slice_cmp nat_cmp text other ≡ Less
