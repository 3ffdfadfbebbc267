-- What each order does: one equation for each of the 27.
use Rattle.std.specs.Prelude.{ℕ, ◌-◌, ◌%◌, Bool, true, false, ◌&&◌, ◌||◌, ℤ, pos, int_lt, nat_eq, bit_or, Option, Some, None, if◌then◌else◌}
use Rattle.ags_word.specs.Word.{val}
use Rattle.ags_word.specs.Long.{long, pair, shifted_right, wrap_long}
use Rattle.ags_word.specs.Operation.{Operation, sum, difference, negative, size, left_shift, product, product_high, product_rounded, quotient, shifted_left, long_left_high, long_right_high}
use Rattle.ags_isa.specs.declared.orders.Order.{Order}
use Rattle.ags_isa.specs.declared.orders.Order.TheVariants.{Abs, Add, Adz, Als, Axt, Cla, Clz, Com, Dly, Dvp, Inp, Ldq, Lls, Lrs, Mpr, Mpy, Mpz, Out, Sto, Stq, Sub, Suz, Tix, Tmi, Tov, Tra, Tsq}
use Rattle.ags_isa.specs.Naming.{order_word}
use Rattle.ags_ports.specs.declared.events.Phase.TheVariants.{Waiting}
use Rattle.ags_ports.specs.declared.events.Stored.{Stored}
use Rattle.ags_ports.specs.declared.machines.Machine.{Machine}
use Rattle.ags_ports.specs.Port.{position_of, register_at, set_at, read_at}
use Rattle.ags_ports.specs.State.{State, cell, next_location, cells_with_word}

-- What an order does: the state after it, whether it overflows, the store that it makes and the word of it, the address
-- that it takes an input from, and the address that it gives a word to.
pub record Effect : Type 0 where
  pub after : State
  pub overflow : Bool
  pub stored : Option Stored
  pub took : Option ℕ
  pub gave : Option Stored

-- ---- the parts that the orders have in common

-- nothing but this state is left
abbrev pub leaves : State → Effect
leaves after = record { after = after; overflow = false; stored = None; took = None; gave = None }

-- the state with the location moved on to the next one
abbrev pub moved_on : State → State
moved_on s = record s { location = next_location s }

-- the state with the location set
abbrev pub gone_to : State → ℕ → State
gone_to s location = record s { location = location }

-- the state is left, and where the order overflows, the indicator is set in it; an order that doesn't overflow lets it be
abbrev pub overflowing : Bool → State → Effect
overflowing over after = record {
  after = record after { indicator = after.indicator || over };
  overflow = over;
  stored = None;
  took = None;
  gave = None;
}

-- an operation is made on A with a word m, and Q stays; an operation that takes no cell is handed the word 0
abbrev pub computes : Operation → State → ℕ → Effect
computes operation s m = overflowing (operation.overflows s.a s.q m) (record s {
  a = operation.new_a s.a s.q m;
  location = next_location s;
})

-- so it is, and Q becomes that of the pair that a number sets
abbrev pub sets_pair : Operation → State → ℕ → ℤ → Effect
sets_pair operation s m number = overflowing (operation.overflows s.a s.q m) (record s {
  a = operation.new_a s.a s.q m;
  q = (pair number).1;
  location = next_location s;
})

-- then a word is stored in the cell at an address: a fixed cell stays, and the store is told all the same
abbrev pub then_stores : Effect → ℕ → ℕ → Effect
then_stores done address word = record {
  after = record (done.after) { cells = cells_with_word done.after.cells address word };
  overflow = done.overflow;
  stored = Some (record { address = address; word = word });
  took = done.took;
  gave = done.gave;
}

-- then the cell at an address is cleared
abbrev pub then_clears : Effect → ℕ → Effect
then_clears done address = then_stores done address 0

-- ---- what the clearing orders share with the plain ones; m is the word of the cell

-- A becomes m
abbrev pub loads : State → ℕ → Effect
loads s m = leaves (record s { a = m; location = next_location s })

-- A becomes the rounded product with m, and Q is that of the pair that the product sets
abbrev pub rounds_product : State → ℕ → Effect
rounds_product s m = sets_pair product_rounded s m (product s.a m)

-- ---- the table

-- whether the index bit counts in an order: it doesn't in TIX AXT ALS LLS LRS COM ABS INP OUT DLY
abbrev pub counts_index : Order → Bool
counts_index Tix = false
counts_index Axt = false
counts_index Als = false
counts_index Lls = false
counts_index Lrs = false
counts_index Com = false
counts_index Abs = false
counts_index Inp = false
counts_index Out = false
counts_index Dly = false
counts_index _ = true

-- The address that an order acts on: its own one, and where the index bit is set and counts, the bits of that address
-- and of the index register together.
abbrev pub effective_at : (index : ℕ) → Order → Bool → ℕ → ℕ
effective_at index order indexed y = if indexed && counts_index order then bit_or y index else y

-- the address that an order acts on in a state
abbrev pub effective : State → Order → Bool → ℕ → ℕ
effective s order indexed y = effective_at s.index order indexed y

-- What an order does at an address y, where e is the address that it acts on and m the word of the cell there.
-- Where a row names an operation, the new A and whether it overflows are the operation's.
abbrev pub effect : Machine → State → Order → ℕ → ℕ → Effect
-- A = m.
effect machine s Cla e y = loads s (cell s e)
-- Q = m.
effect machine s Ldq e y = leaves (record s { q = cell s e; location = next_location s })
-- The cell becomes A, or Q.
effect machine s Sto e y = then_stores (leaves (moved_on s)) e s.a
effect machine s Stq e y = then_stores (leaves (moved_on s)) e s.q
-- A = the sum of A and m, or A less m.
effect machine s Add e y = computes sum s (cell s e)
effect machine s Sub e y = computes difference s (cell s e)
-- As CLA, ADD and SUB with the old m; then the cell becomes 0.
effect machine s Clz e y = then_clears (loads s (cell s e)) e
effect machine s Adz e y = then_clears (computes sum s (cell s e)) e
effect machine s Suz e y = then_clears (computes difference s (cell s e)) e
-- A = the negative of A, or its size.
effect machine s Com e y = computes negative s 0
effect machine s Abs e y = computes size s 0
-- A = A shifted to the left by the count, which is y modulo 64.
effect machine s Als e y = computes (left_shift (y % 64)) s 0
-- The pair is set to the product of A and m.
effect machine s Mpy e y = sets_pair product_high s (cell s e) (product s.a (cell s e))
-- A = the rounded product, Q as MPY leaves it; it overflows as MPY.
effect machine s Mpr e y = rounds_product s (cell s e)
-- As MPR with the old m; then the cell becomes 0.
effect machine s Mpz e y = then_clears (rounds_product s (cell s e)) e
-- A = the quotient of the pair by m, cut off toward zero; where there is none, A stays.
effect machine s Dvp e y = computes quotient s (cell s e)
-- The pair is set to its number over 2 to the count, rounded down.
effect machine s Lrs e y = sets_pair (long_right_high (y % 64)) s 0 (shifted_right (long s.a s.q) (y % 64))
-- The pair is set to what is left of its number times 2 to the count.
effect machine s Lls e y = sets_pair (long_left_high (y % 64)) s 0 (wrap_long (shifted_left (y % 64) s.a s.q))
-- Goes to e.
effect machine s Tra e y = leaves (gone_to s e)
-- Goes to e where val A is negative.
effect machine s Tmi e y = leaves (if int_lt (val s.a) (pos 0) then gone_to s e else moved_on s)
-- Where the indicator is set, clears it and goes to e.
effect machine s Tov e y = leaves
    (if s.indicator then (record s { indicator = false; location = e }) else moved_on s)
-- Where the index isn't 0, lowers it by one and goes to y.
effect machine s Tix e y = leaves
    (if nat_eq s.index 0 then moved_on s else (record s { index = s.index - 1; location = y }))
-- The index becomes y modulo 8.
effect machine s Axt e y = leaves (record s { index = y % 8; location = next_location s })
-- Q = the word of TRA, its index bit 0, to the next location; then it goes to e.
effect machine s Tsq e y = leaves (record s { q = order_word machine.codes Tra false (next_location s); location = e })
-- A = the word of the input register at y, or 0 where there is none; a register that holds its word once then holds 0.
effect machine s Inp e y = let position = position_of machine.ports.inputs y in record {
  after = record s {
    a = register_at s.inputs position;
    inputs = read_at machine.ports.inputs s.inputs position;
    location = next_location s;
  };
  overflow = false;
  stored = None;
  took = Some y;
  gave = None;
}
-- The output register at y, if there is one, becomes A.
effect machine s Out e y = let position = position_of machine.ports.outputs y in record {
  after = record s { outputs = set_at s.outputs position s.a; location = next_location s };
  overflow = false;
  stored = None;
  took = None;
  gave = Some (record { address = y; word = s.a });
}
-- The location becomes y, and the machine waits.
effect machine s Dly e y = leaves (record s { location = y; phase = Waiting })
