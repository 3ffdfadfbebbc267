-- Worked orders. Each is the effect of one order on a state whose words were worked out outside: by hand, from the sums
-- that stand beside it. The words are octal. A short list of cells stands for the first cells of the memory.
use Rattle.std.proofs.Common.{◌≡◌, ℕ, true, false, refl, arith, List, [], ◌∷◌}
use Rattle.std.specs.Prelude.{Bool, Some, None}
use Rattle.ags_word.specs.Word.{val, fits, wrap, word_of_value}
use Rattle.ags_word.specs.Long.{long, pair, fits_long, wrap_long, divided}
use Rattle.ags_isa.specs.declared.orders.Order.TheVariants.{Abs, Add, Adz, Als, Axt, Cla, Clz, Com, Dly, Dvp, Inp, Ldq, Lls, Lrs, Mpr, Mpy, Mpz, Out, Sto, Stq, Sub, Suz, Tix, Tmi, Tov, Tra, Tsq}
use Rattle.ags_isa.specs.declared.orders.Order.{Order}
use Rattle.ags_isa.specs.Order.{order_number}
use Rattle.ags_isa.specs.Code.{standard_codes}
use Rattle.ags_isa.specs.Naming.{order_word, Names}
use Rattle.ags_isa.proofs.OrderLemmas.{order_number-below}
use Rattle.ags_ports.specs.declared.events.Phase.TheVariants.{Running, Waiting, Halted}
use Rattle.ags_ports.specs.declared.events.Event.TheVariants.{Step, Pulse, Put}
use Rattle.ags_ports.specs.declared.events.Done.{Done}
use Rattle.ags_ports.specs.declared.machines.Machine.{Machine}
use Rattle.ags_ports.specs.Machine.{standard_machine}
use Rattle.ags_ports.specs.State.{State}
use Rattle.ags_ports.specs.Effect.{Effect, effect, effective}
use Rattle.ags_ports.specs.Step.{Steps, idle_report}
use Rattle.ags_ports.specs.Run.{Run}
use Rattle.ags_ports.proofs.TimeLemmas.{least_from}

-- a running machine at a location, with A, Q, the index, the indicator and the first cells
at : ℕ → ℕ → ℕ → ℕ → Bool → List ℕ → State
at location a q index indicator cells = record { a = a; q = q; index = index; indicator = indicator; location = location; phase = Running; cells = cells; inputs = []; outputs = [] }

-- the state is left, with nothing told; and told to have overflowed, or not, and to have stored a word at an address
left : State → Effect
left after = record { after = after; overflow = false; stored = None; took = None; gave = None }

over : State → Effect
over after = record { after = after; overflow = true; stored = None; took = None; gave = None }

stored : State → Bool → ℕ → ℕ → Effect
stored after overflow address word = record { after = after; overflow = overflow; stored = Some (record { address = address; word = word }); took = None; gave = None }

-- ---- words of the memory

-- A is the word of cell 1, Q stays, and 4000 is followed by 4001.
cla : (m : Machine) → effect m (at 0o4000 5 6 0 false (7 ∷ 0o377777 ∷ [])) Cla 1 1 ≡ left (at 0o4001 0o377777 6 0 false (7 ∷ 0o377777 ∷ []))
unfolding at left
cla m = refl

ldq : (m : Machine) → effect m (at 0o4000 5 6 0 false (7 ∷ 0o400000 ∷ [])) Ldq 1 1 ≡ left (at 0o4001 5 0o400000 0 false (7 ∷ 0o400000 ∷ []))
unfolding at left
ldq m = refl

sto : (m : Machine) → effect m (at 0o4000 5 6 0 false (7 ∷ 8 ∷ [])) Sto 1 1 ≡ stored (at 0o4001 5 6 0 false (7 ∷ 5 ∷ [])) false 1 5
unfolding at stored
sto m = refl

-- A store to the first fixed cell, 4000, changes nothing and is told.
sto_fixed : (m : Machine) (cells : List ℕ) → effect m (at 0o4000 5 6 0 false cells) Sto 0o4000 0o4000 ≡ stored (at 0o4001 5 6 0 false cells) false 0o4000 5
unfolding at stored
sto_fixed m cells = refl

-- The index register 5 and the address 10 are 15 together: the store goes to cell 15, and 10 stays.
axt : (m : Machine) (cells : List ℕ) → effect m (at 0o4000 0 0 0 false cells) Axt 5 5 ≡ left (at 0o4001 0 0 5 false cells)
unfolding at left
axt m cells = refl

-- The index is the address modulo 8: 7772 leaves 2.
axt_modulo : (m : Machine) (cells : List ℕ) → effect m (at 0o4000 0 0 7 false cells) Axt 0o7772 0o7772 ≡ left (at 0o4001 0 0 2 false cells)
unfolding at left
axt_modulo m cells = refl

sto_indexed : (cells : List ℕ) → effective (at 0o4001 0 0 5 false cells) Sto true 0o10 ≡ 0o15
unfolding at
sto_indexed cells = refl

-- The bits of 3 and 5 together are 7, and no sum.
add_indexed : (cells : List ℕ) → effective (at 0o4001 0 0 5 false cells) Add true 3 ≡ 7
unfolding at
add_indexed cells = refl

-- The index bit doesn't count in TIX.
tix_indexed : (cells : List ℕ) → effective (at 0o4001 0 0 5 false cells) Tix true 0o10 ≡ 0o10
unfolding at
tix_indexed cells = refl

stq : (m : Machine) → effect m (at 0o4000 5 6 0 false (7 ∷ 8 ∷ [])) Stq 0 0 ≡ stored (at 0o4001 5 6 0 false (6 ∷ 8 ∷ [])) false 0 6
unfolding at stored
stq m = refl

-- ---- sums

-- 131071 + 1 is 131072, which doesn't fit; less 2 ^ 18 it is the least value.
add : (m : Machine) → effect m (at 0o4001 0o377777 0 0 false (1 ∷ [])) Add 0 0 ≡ over (at 0o4002 0o400000 0 0 true (1 ∷ []))
unfolding at over val fits wrap
add m = refl

-- -1 + 1 is 0; an indicator that is set stays set.
add_kept : (m : Machine) → effect m (at 0o4001 0o777777 0 0 true (1 ∷ [])) Add 0 0 ≡ left (at 0o4002 0 0 0 true (1 ∷ []))
unfolding at left val fits wrap
add_kept m = refl

-- 5 - 7 is -2.
sub : (m : Machine) → effect m (at 0o4001 5 0 0 false (7 ∷ [])) Sub 0 0 ≡ left (at 0o4002 0o777776 0 0 false (7 ∷ []))
unfolding at left val fits wrap
sub m = refl

clz : (m : Machine) → effect m (at 0o4001 5 0 0 false (7 ∷ 8 ∷ [])) Clz 1 1 ≡ stored (at 0o4002 8 0 0 false (7 ∷ 0 ∷ [])) false 1 0
unfolding at stored
clz m = refl

-- The sum overflows, and the cell is cleared all the same.
adz : (m : Machine) → effect m (at 0o4001 0o377777 0 0 false (1 ∷ [])) Adz 0 0 ≡ stored (at 0o4002 0o400000 0 0 true (0 ∷ [])) true 0 0
unfolding at stored val fits wrap
adz m = refl

-- 0 - (-131072) is 131072, which doesn't fit.
suz : (m : Machine) → effect m (at 0o4001 0 0 0 false (0o400000 ∷ [])) Suz 0 0 ≡ stored (at 0o4002 0o400000 0 0 true (0 ∷ [])) true 0 0
unfolding at stored val fits wrap
suz m = refl

com_one : (m : Machine) (cells : List ℕ) → effect m (at 0o7777 1 0 0 false cells) Com 0 0 ≡ left (at 0 0o777777 0 0 false cells)
unfolding at left val fits wrap
com_one m cells = refl

-- The negative of the least value is 131072, which doesn't fit.
com_over : (m : Machine) (cells : List ℕ) → effect m (at 0o4000 0o400000 0 0 false cells) Com 0 0 ≡ over (at 0o4001 0o400000 0 0 true cells)
unfolding at over val fits wrap
com_over m cells = refl

-- The size of -2 is 2.
abs : (m : Machine) (cells : List ℕ) → effect m (at 0o4000 0o777776 0 0 false cells) Abs 0 0 ≡ left (at 0o4001 2 0 0 false cells)
unfolding at left val fits wrap
abs m cells = refl

-- ---- shifts

-- 81920 times 4 is 327680, which doesn't fit; less 2 ^ 18 it is 65536. The count is 102 modulo 100, octal.
als : (m : Machine) (cells : List ℕ) → effect m (at 0o4000 0o240000 0 0 false cells) Als 0o102 0o102 ≡ over (at 0o4001 0o200000 0 0 true cells)
unfolding at over val fits wrap
als m cells = refl

-- -131072 halved is -65536: A is -1, and the rest is 65536 with A's top bit.
lrs : (m : Machine) (cells : List ℕ) → effect m (at 0o4000 0o777777 0 0 false cells) Lrs 1 1 ≡ left (at 0o4001 0o777777 0o600000 0 false cells)
unfolding at left val wrap long pair
lrs m cells = refl

-- 1 times 2 ^ 17 is A 1 and Q 0.
lls : (m : Machine) (cells : List ℕ) → effect m (at 0o4000 0 1 0 false cells) Lls 17 17 ≡ left (at 0o4001 1 0 0 false cells)
unfolding at left val wrap long pair fits_long wrap_long
lls m cells = refl

-- 1 times 2 ^ 34 is out of range; less 2 ^ 35 it is -(2 ^ 34).
lls_over : (m : Machine) (cells : List ℕ) → effect m (at 0o4000 0 1 0 false cells) Lls 34 34 ≡ over (at 0o4001 0o400000 0o400000 0 true cells)
unfolding at over val wrap long pair fits_long wrap_long
lls_over m cells = refl

-- ---- products and quotients

-- -131072 times -131072 is 2 ^ 34, the one product that is out of range: over 2 ^ 17 it is 2 ^ 17, whose word is 400000.
mpy : (m : Machine) → effect m (at 0o4000 0o400000 0 0 false (0o400000 ∷ [])) Mpy 0 0 ≡ over (at 0o4001 0o400000 0o400000 0 true (0o400000 ∷ []))
unfolding at over val wrap pair fits_long
mpy m = refl

-- 65536 times 1 over 2 ^ 17 is a half, which is rounded upward; Q is that of the whole product.
mpr : (m : Machine) → effect m (at 0o4000 0o200000 0 0 false (1 ∷ [])) Mpr 0 0 ≡ left (at 0o4001 1 0o200000 0 false (1 ∷ []))
unfolding at left val wrap pair fits_long
mpr m = refl

mpz : (m : Machine) → effect m (at 0o4000 0o200000 0 0 false (1 ∷ [])) Mpz 0 0 ≡ stored (at 0o4001 1 0o200000 0 false (0 ∷ [])) false 0 0
unfolding at stored val wrap pair fits_long
mpz m = refl

-- 131072 over 2 is 65536.
dvp : (m : Machine) → effect m (at 0o4000 1 0 0 false (2 ∷ [])) Dvp 0 0 ≡ left (at 0o4001 0o200000 0 0 false (2 ∷ []))
unfolding at left val fits wrap word_of_value long divided
dvp m = refl

-- Nothing is divided by 0: A stays.
dvp_zero : (m : Machine) → effect m (at 0o4000 5 0 0 false (0 ∷ [])) Dvp 0 0 ≡ over (at 0o4001 5 0 0 true (0 ∷ []))
unfolding at over val fits wrap word_of_value long divided
dvp_zero m = refl

-- ---- transfers

tra : (m : Machine) (cells : List ℕ) → effect m (at 0o4000 5 6 0 false cells) Tra 0o17 0o17 ≡ left (at 0o17 5 6 0 false cells)
unfolding at left
tra m cells = refl

tmi : (m : Machine) (cells : List ℕ) → effect m (at 0o4000 0o400000 6 0 false cells) Tmi 0o17 0o17 ≡ left (at 0o17 0o400000 6 0 false cells)
unfolding at left val
tmi m cells = refl

tmi_not : (m : Machine) (cells : List ℕ) → effect m (at 0o4000 0o377777 6 0 false cells) Tmi 0o17 0o17 ≡ left (at 0o4001 0o377777 6 0 false cells)
unfolding at left val
tmi_not m cells = refl

tov : (m : Machine) (cells : List ℕ) → effect m (at 0o4002 0o400000 0 0 true cells) Tov 0o4004 0o4004 ≡ left (at 0o4004 0o400000 0 0 false cells)
unfolding at left
tov m cells = refl

tov_not : (m : Machine) (cells : List ℕ) → effect m (at 0o4002 0o400000 0 0 false cells) Tov 0o4004 0o4004 ≡ left (at 0o4003 0o400000 0 0 false cells)
unfolding at left
tov_not m cells = refl

tix : (m : Machine) (cells : List ℕ) → effect m (at 0o4003 0 0 3 false cells) Tix 0o4001 0o4001 ≡ left (at 0o4001 0 0 2 false cells)
unfolding at left
tix m cells = refl

tix_not : (m : Machine) (cells : List ℕ) → effect m (at 0o4003 0 0 0 false cells) Tix 0o4001 0o4001 ≡ left (at 0o4004 0 0 0 false cells)
unfolding at left
tix_not m cells = refl

-- TRA's code is 20 of its two digits 40, and so TRA to 4001 is 404001.
tsq : (cells : List ℕ) → effect standard_machine (at 0o4000 5 6 0 false cells) Tsq 0o4002 0o4002 ≡ left (at 0o4002 5 0o404001 0 false cells)
unfolding at left order_word
tsq cells = refl

-- ---- registers and the phase

-- a machine with standard registers that hold these words
with_registers : ℕ → ℕ → List ℕ → List ℕ → List ℕ → State
with_registers location a cells inputs outputs = record { a = a; q = 0; index = 0; indicator = false; location = location; phase = Running; cells = cells; inputs = inputs; outputs = outputs }

-- The last input register, at 2200, holds its word once.
inp_once : (cells outputs : List ℕ) → effect standard_machine (with_registers 0o4000 9 cells (1 ∷ 2 ∷ 3 ∷ 4 ∷ 5 ∷ 6 ∷ 7 ∷ []) outputs) Inp 0o2200 0o2200
    ≡ record { after = with_registers 0o4001 7 cells (1 ∷ 2 ∷ 3 ∷ 4 ∷ 5 ∷ 6 ∷ 0 ∷ []) outputs; overflow = false; stored = None; took = Some 0o2200; gave = None }
unfolding with_registers
inp_once cells outputs = refl

inp_held : (cells outputs : List ℕ) → effect standard_machine (with_registers 0o4000 9 cells (1 ∷ 2 ∷ 3 ∷ 4 ∷ 5 ∷ 6 ∷ 7 ∷ []) outputs) Inp 0o2002 0o2002
    ≡ record { after = with_registers 0o4001 2 cells (1 ∷ 2 ∷ 3 ∷ 4 ∷ 5 ∷ 6 ∷ 7 ∷ []) outputs; overflow = false; stored = None; took = Some 0o2002; gave = None }
unfolding with_registers
inp_held cells outputs = refl

-- There is no register at 2003: A is 0.
inp_absent : (cells inputs outputs : List ℕ) → effect standard_machine (with_registers 0o4000 9 cells inputs outputs) Inp 0o2003 0o2003
    ≡ record { after = with_registers 0o4001 0 cells inputs outputs; overflow = false; stored = None; took = Some 0o2003; gave = None }
unfolding with_registers
inp_absent cells inputs outputs = refl

out : (cells inputs : List ℕ) → effect standard_machine (with_registers 0o4000 9 cells inputs (1 ∷ 2 ∷ 3 ∷ 4 ∷ 5 ∷ 6 ∷ 7 ∷ [])) Out 0o6004 0o6004
    ≡ record { after = with_registers 0o4001 9 cells inputs (1 ∷ 2 ∷ 9 ∷ 4 ∷ 5 ∷ 6 ∷ 7 ∷ []); overflow = false; stored = None; took = None; gave = Some (record { address = 0o6004; word = 9 }) }
unfolding with_registers
out cells inputs = refl

dly : (m : Machine) (cells : List ℕ) → effect m (at 0o4003 0 0 0 false cells) Dly 0o4000 0o4000
    ≡ left (record { a = 0; q = 0; index = 0; indicator = false; location = 0o4000; phase = Waiting; cells = cells; inputs = []; outputs = [] })
unfolding at left
dly m cells = refl

-- ---- words from outside

-- A word is set into the second input register, at 2002, also where the machine is halted.
put : (cells outputs : List ℕ) →
    let s = record (with_registers 0o4000 9 cells (1 ∷ 2 ∷ 3 ∷ 4 ∷ 5 ∷ 6 ∷ 7 ∷ []) outputs) { phase = Halted } in
    Steps standard_machine s (Put 0o2002 0o1750) (idle_report s) (record s { inputs = 1 ∷ 0o1750 ∷ 3 ∷ 4 ∷ 5 ∷ 6 ∷ 7 ∷ [] })
unfolding with_registers
put cells outputs = (refl, refl)

-- There is no input register at 6001: nothing changes.
put_absent : (cells inputs outputs : List ℕ) →
    let s = with_registers 0o4000 9 cells inputs outputs in
    Steps standard_machine s (Put 0o6001 0o1750) (idle_report s) s
unfolding with_registers
put_absent cells inputs outputs = (refl, refl)

-- ---- runs

-- An order ran at a location, was read from a word, and overflowed or not; or no order ran.
ran_at : ℕ → ℕ → Bool → Done
ran_at location word overflow = record { ran = true; location = location; word = word; overflow = overflow; stored = None; took = None; gave = None }

idle_at : ℕ → ℕ → Done
idle_at location word = record { ran = false; location = location; word = word; overflow = false; stored = None; took = None; gave = None }

-- The word 000000 is no order of the standard machine, since no order has the code 0.
no_order : (order : Order) (indexed : Bool) (address : ℕ) → Names standard_codes 0 order indexed address → ⊥
unfolding order_word
no_order order true address names = omega (arith, names.equals)
no_order order false address names =
    let some = least_from standard_codes refl (order_number order) 0 (order_number-below order) in
    omega (arith, names.equals, some)

-- CLA 0003, ADD 0004, TOV 0005, then 377777 and 000001, and 0005 has the word 000000
sum_and_test : List ℕ
sum_and_test = 0o200003 ∷ 0o220004 ∷ 0o440005 ∷ 0o377777 ∷ 1 ∷ 0 ∷ []

-- The sum overflows, TOV goes to 0005 and clears the indicator, and there the machine halts and stays.
overflow_and_its_test : Run standard_machine (at 0 0 0 0 false sum_and_test) (Step ∷ Step ∷ Step ∷ Step ∷ Step ∷ [])
    (record { report = ran_at 0 0o200003 false; after = at 1 0o377777 0 0 false sum_and_test }
    ∷ record { report = ran_at 1 0o220004 true; after = at 2 0o400000 0 0 true sum_and_test }
    ∷ record { report = ran_at 2 0o440005 false; after = at 5 0o400000 0 0 false sum_and_test }
    ∷ record { report = idle_at 5 0; after = record (at 5 0o400000 0 0 false sum_and_test) { phase = Halted } }
    ∷ record { report = idle_at 5 0; after = record (at 5 0o400000 0 0 false sum_and_test) { phase = Halted } }
    ∷ [])
unfolding at sum_and_test ran_at idle_at val fits wrap order_word
overflow_and_its_test = (
  (Some (record { order = Cla; indexed = false; address = 3 }), record { below = omega arith; equals = refl }, (refl, refl)),
  (
    (Some (record { order = Add; indexed = false; address = 4 }), record { below = omega arith; equals = refl }, (refl, refl)),
    (
      (Some (record { order = Tov; indexed = false; address = 5 }), record { below = omega arith; equals = refl }, (refl, refl)),
      (
        (None, no_order, (refl, refl)),
        ((refl, refl), tt),
      ),
    ),
  ),
)

-- DLY 0000
wait : List ℕ
wait = 0o700000 ∷ []

-- A pulse that comes while orders run is lost; while the machine waits a step does nothing; a pulse ends it.
delay_and_pulse : Run standard_machine (at 0 0 0 0 false wait) (Pulse ∷ Step ∷ Step ∷ Pulse ∷ [])
    (record { report = idle_at 0 0o700000; after = at 0 0 0 0 false wait }
    ∷ record { report = ran_at 0 0o700000 false; after = record (at 0 0 0 0 false wait) { phase = Waiting } }
    ∷ record { report = idle_at 0 0o700000; after = record (at 0 0 0 0 false wait) { phase = Waiting } }
    ∷ record { report = idle_at 0 0o700000; after = at 0 0 0 0 false wait }
    ∷ [])
unfolding at wait ran_at idle_at order_word
delay_and_pulse = (
  (refl, refl),
  (
    (Some (record { order = Dly; indexed = false; address = 0 }), record { below = omega arith; equals = refl }, (refl, refl)),
    (
      (refl, refl),
      ((refl, refl), tt),
    ),
  ),
)
