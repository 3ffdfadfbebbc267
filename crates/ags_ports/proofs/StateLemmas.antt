-- A step keeps a state in its ranges. The crates above cite:
--     step_keeps    a step keeps each part of a state in its range
use Rattle.std.proofs.Common.{◌≡◌, ℕ, ◌-◌, ◌%◌, ◌<◌, ◌^◌, true, false, refl, sym, subst, ◌∙◌, ⊎_elim, arith, List, length, get_or, set, All}
use Rattle.std.specs.Prelude.{Bool, Option, Some, None, IfSome, unwrap_or, nat_lt, bit_or, int_div, ℤ, pos, ◌&&◌, slice_get, if◌then◌else◌}
use Rattle.std.specs.Ordering.{int_eq}
use Rattle.std.proofs.lemmas.Bool.{cases_lt}
use Rattle.std.proofs.lemmas.Nat.{or_lt}
use Rattle.std.proofs.lemmas.List.{length-set}
use Rattle.std.proofs.Math.ListN.{get_or-eq_default}
use Rattle.std.proofs.lemmas.List.Elements.{All-set}
use Rattle.ags_word.specs.Word.{val, fits, wrap, word_of_value}
use Rattle.ags_word.specs.Long.{divided, long}
use Rattle.ags_word.specs.Operation.{sum, difference}
use Rattle.ags_word.proofs.WordLaws.{wrap_below}
use Rattle.ags_word.proofs.LongLaws.{pair_a_below, pair_q_below}
use Rattle.ags_isa.specs.declared.orders.Order.{Order}
use Rattle.ags_isa.specs.declared.orders.Order.TheVariants.{Abs, Add, Adz, Als, Axt, Cla, Clz, Com, Dly, Dvp, Inp, Ldq, Lls, Lrs, Mpr, Mpy, Mpz, Out, Sto, Stq, Sub, Suz, Tix, Tmi, Tov, Tra, Tsq}
use Rattle.ags_isa.specs.declared.decoding.Decoded.{Decoded}
use Rattle.ags_isa.specs.Naming.{IsDecoding}
use Rattle.ags_isa.proofs.WordLemmas.{order_word-below}
use Rattle.ags_ports.specs.declared.registers.Port.{Port}
use Rattle.ags_ports.specs.declared.events.Phase.{Phase}
use Rattle.ags_ports.specs.declared.events.Phase.TheVariants.{Running, Waiting, Halted}
use Rattle.ags_ports.specs.declared.events.Event.{Event}
use Rattle.ags_ports.specs.declared.events.Event.TheVariants.{Step, Pulse, Put}
use Rattle.ags_ports.specs.declared.events.Done.{Done}
use Rattle.ags_ports.specs.declared.machines.Machine.{Machine}
use Rattle.ags_ports.specs.Machine.{IsMachine}
use Rattle.ags_ports.specs.Port.{position_of, register_at, set_at, read_at, is_once}
use Rattle.ags_ports.specs.State.{State, IsState, cell, word_here, next_location, cells_with_word}
use Rattle.ags_ports.specs.Effect.{Effect, effect, effective, counts_index, then_stores, leaves, moved_on, loads, computes, rounds_product}
use Rattle.ags_ports.specs.Step.{IsEvent, Obeys, StepsIn, Steps, phase_after_pulse}

-- ---- lists of words

abbrev AreWords : List ℕ → Type 0
AreWords words = All (λ word. word < 2 ^ 18) words

-- a word of the list, or 0 past its end
get_below : (words : List ℕ) → AreWords words → (position : ℕ) → get_or words position 0 < 2 ^ 18
get_below words are position = ⊎_elim
    (λ inside. are position 0 inside)
    (λ outside. let e : get_or words position 0 ≡ 0 = get_or-eq_default words 0 outside in omega arith)
    (cases_lt position (length words))

choose_words : (b : Bool) (xs ys : List ℕ) → AreWords xs → AreWords ys → AreWords (if b then xs else ys)
choose_words true xs ys p r = p
choose_words false xs ys p r = r

choose_length : (b : Bool) (xs ys : List ℕ) (n : ℕ) → length xs ≡ n → length ys ≡ n → length (if b then xs else ys) ≡ n
choose_length true xs ys n p r = p
choose_length false xs ys n p r = r

set_words : (words : List ℕ) (position word : ℕ) → AreWords words → word < 2 ^ 18 → AreWords (set words position word)
set_words words position word are below = All-set (λ w. w < 2 ^ 18) words position word below are

written_words : (cells : List ℕ) (address word : ℕ) → AreWords cells → word < 2 ^ 18 → AreWords (cells_with_word cells address word)
written_words cells address word are below = choose_words (nat_lt address 2048) (set cells address word) cells (set_words cells address word are below) are

written_length : (cells : List ℕ) (address word : ℕ) → length (cells_with_word cells address word) ≡ length cells
written_length cells address word = choose_length (nat_lt address 2048) (set cells address word) cells (length cells) (length-set cells address word) refl

set_at_words : (words : List ℕ) (position : Option ℕ) (word : ℕ) → AreWords words → word < 2 ^ 18 → AreWords (set_at words position word)
set_at_words words None word are below = are
set_at_words words (Some position) word are below = set_words words position word are below

set_at_length : (words : List ℕ) (position : Option ℕ) (word : ℕ) → length (set_at words position word) ≡ length words
set_at_length words None word = refl
set_at_length words (Some position) word = length-set words position word

read_at_words : (ports : List Port) (words : List ℕ) (position : Option ℕ) → AreWords words → AreWords (read_at ports words position)
read_at_words ports words None are = are
read_at_words ports words (Some position) are = choose_words (is_once (slice_get ports position)) (set words position 0) words (set_words words position 0 are (omega arith)) are

read_at_length : (ports : List Port) (words : List ℕ) (position : Option ℕ) → length (read_at ports words position) ≡ length words
read_at_length ports words None = refl
read_at_length ports words (Some position) = choose_length (is_once (slice_get ports position)) (set words position 0) words (length words) (length-set words position 0) refl

register_at_below : (words : List ℕ) (position : Option ℕ) → AreWords words → register_at words position < 2 ^ 18
register_at_below words None are = omega arith
register_at_below words (Some position) are = get_below words are position

-- ---- the parts of a state

-- the cells and the registers stay, and what else there is, is in its range
module _ (machine : Machine) (s : State) (is : IsState machine s) where
  holds : (a q index : ℕ) (indicator : Bool) (location : ℕ) (phase : Phase) → a < 2 ^ 18 → q < 2 ^ 18 → index < 8 → location < 4096
      → IsState machine (record { a = a; q = q; index = index; indicator = indicator; location = location; phase = phase; cells = s.cells; inputs = s.inputs; outputs = s.outputs })
  holds a q index indicator location phase a_below q_below index_below location_below = record { a = a_below; q = q_below; index = index_below; location = location_below; cells_count = is.cells_count; cells = is.cells; inputs_count = is.inputs_count; inputs = is.inputs; outputs_count = is.outputs_count; outputs = is.outputs }

  -- A and Q are set, and the location moves on
  goes_on : (a q : ℕ) (indicator : Bool) → a < 2 ^ 18 → q < 2 ^ 18
      → IsState machine (record { a = a; q = q; index = s.index; indicator = indicator; location = next_location s; phase = s.phase; cells = s.cells; inputs = s.inputs; outputs = s.outputs })
  goes_on a q indicator a_below q_below = holds a q s.index indicator (next_location s) s.phase a_below q_below is.index (omega arith)

  -- A is set, and the location moves on
  sets_a : (a : ℕ) (indicator : Bool) → a < 2 ^ 18
      → IsState machine (record { a = a; q = s.q; index = s.index; indicator = indicator; location = next_location s; phase = s.phase; cells = s.cells; inputs = s.inputs; outputs = s.outputs })
  sets_a a indicator below = goes_on a s.q indicator below is.q

  -- the location is set
  goes_to : (indicator : Bool) (location : ℕ) → location < 4096
      → IsState machine (record { a = s.a; q = s.q; index = s.index; indicator = indicator; location = location; phase = s.phase; cells = s.cells; inputs = s.inputs; outputs = s.outputs })
  goes_to indicator location below = holds s.a s.q s.index indicator location s.phase is.a is.q is.index below

  cell_below : (address : ℕ) → cell s address < 2 ^ 18
  cell_below address = get_below s.cells is.cells address

  chosen : (b : Bool) (t u : State) → IsState machine t → IsState machine u → IsState machine (if b then t else u)
  chosen true t u p r = p
  chosen false t u p r = r

-- a store after an order
stores_keeps : (machine : Machine) (report : Effect) (address word : ℕ) → IsState machine report.after → word < 2 ^ 18 → IsState machine ((then_stores report address word).after)
stores_keeps machine report address word is below = record { a = is.a; q = is.q; index = is.index; location = is.location; cells_count = written_length report.after.cells address word ∙ is.cells_count; cells = written_words report.after.cells address word is.cells below; inputs_count = is.inputs_count; inputs = is.inputs; outputs_count = is.outputs_count; outputs = is.outputs }

-- a quotient's word is one
chosen_word : (zero fits : Bool) (w : ℕ) → w < 2 ^ 18 → IfSome (if zero then None else (if fits then Some w else None)) (λ v. v < 2 ^ 18)
chosen_word true fits w below = tt
chosen_word false true w below = below
chosen_word false false w below = tt

divided_below : (n : ℤ) (m : ℕ) → IfSome (divided n m) (λ w. w < 2 ^ 18)
unfolding divided word_of_value
divided_below n m = chosen_word (int_eq (val m) (pos 0)) (fits (int_div n (val m))) (wrap (int_div n (val m))) (wrap_below (int_div n (val m)))

quotient_below : (found : Option ℕ) (a : ℕ) → IfSome found (λ w. w < 2 ^ 18) → a < 2 ^ 18 → unwrap_or found a < 2 ^ 18
quotient_below None a h below = below
quotient_below (Some w) a h below = h

-- ---- each order keeps a state

effect_keeps : (machine : Machine) (s : State) (order : Order) (e y : ℕ) → IsMachine machine → IsState machine s → e < 4096 → y < 4096 → IsState machine ((effect machine s order e y).after)
effect_keeps machine s Cla e y h is e_below y_below = sets_a machine s is (cell s e) s.indicator (cell_below machine s is e)
effect_keeps machine s Ldq e y h is e_below y_below = goes_on machine s is s.a (cell s e) s.indicator is.a (cell_below machine s is e)
effect_keeps machine s Sto e y h is e_below y_below = stores_keeps machine (leaves (moved_on s)) e s.a (sets_a machine s is s.a s.indicator is.a) is.a
effect_keeps machine s Stq e y h is e_below y_below = stores_keeps machine (leaves (moved_on s)) e s.q (sets_a machine s is s.a s.indicator is.a) is.q
effect_keeps machine s Add e y h is e_below y_below = sets_a machine s is _ _ (wrap_below _)
effect_keeps machine s Sub e y h is e_below y_below = sets_a machine s is _ _ (wrap_below _)
effect_keeps machine s Clz e y h is e_below y_below = stores_keeps machine (loads s (cell s e)) e 0 (sets_a machine s is (cell s e) s.indicator (cell_below machine s is e)) (omega arith)
effect_keeps machine s Adz e y h is e_below y_below = stores_keeps machine (computes sum s (cell s e)) e 0 (sets_a machine s is _ _ (wrap_below _)) (omega arith)
effect_keeps machine s Suz e y h is e_below y_below = stores_keeps machine (computes difference s (cell s e)) e 0 (sets_a machine s is _ _ (wrap_below _)) (omega arith)
effect_keeps machine s Com e y h is e_below y_below = sets_a machine s is _ _ (wrap_below _)
effect_keeps machine s Abs e y h is e_below y_below = sets_a machine s is _ _ (wrap_below _)
effect_keeps machine s Als e y h is e_below y_below = sets_a machine s is _ _ (wrap_below _)
effect_keeps machine s Mpy e y h is e_below y_below = goes_on machine s is _ _ _ (pair_a_below _) (pair_q_below _)
effect_keeps machine s Mpr e y h is e_below y_below = goes_on machine s is _ _ _ (wrap_below _) (pair_q_below _)
effect_keeps machine s Mpz e y h is e_below y_below = stores_keeps machine (rounds_product s (cell s e)) e 0 (goes_on machine s is _ _ _ (wrap_below _) (pair_q_below _)) (omega arith)
effect_keeps machine s Dvp e y h is e_below y_below = sets_a machine s is _ _ (quotient_below (divided (long s.a s.q) (cell s e)) s.a (divided_below (long s.a s.q) (cell s e)) is.a)
effect_keeps machine s Lrs e y h is e_below y_below = goes_on machine s is _ _ _ (pair_a_below _) (pair_q_below _)
effect_keeps machine s Lls e y h is e_below y_below = goes_on machine s is _ _ _ (pair_a_below _) (pair_q_below _)
effect_keeps machine s Tra e y h is e_below y_below = goes_to machine s is s.indicator e e_below
effect_keeps machine s Tmi e y h is e_below y_below = chosen machine s is _ _ _ (goes_to machine s is s.indicator e e_below) (goes_to machine s is s.indicator (next_location s) (omega arith))
effect_keeps machine s Tov e y h is e_below y_below = chosen machine s is _ _ _ (goes_to machine s is false e e_below) (goes_to machine s is s.indicator (next_location s) (omega arith))
effect_keeps machine s Tix e y h is e_below y_below = chosen machine s is _ _ _ (goes_to machine s is s.indicator (next_location s) (omega arith))
    (holds machine s is s.a s.q (s.index - 1) s.indicator y s.phase is.a is.q (omega (arith, is.index)) y_below)
effect_keeps machine s Axt e y h is e_below y_below = holds machine s is s.a s.q (y % 8) s.indicator (next_location s) s.phase is.a is.q (omega arith) (omega arith)
effect_keeps machine s Tsq e y h is e_below y_below = holds machine s is s.a _ s.index s.indicator e s.phase is.a (order_word-below machine.codes h.codes Tra false (next_location s) (omega arith)) is.index e_below
effect_keeps machine s Inp e y h is e_below y_below =
    let position = position_of machine.ports.inputs y in
    record { a = register_at_below s.inputs position is.inputs; q = is.q; index = is.index; location = omega arith; cells_count = is.cells_count; cells = is.cells; inputs_count = read_at_length machine.ports.inputs s.inputs position ∙ is.inputs_count; inputs = read_at_words machine.ports.inputs s.inputs position is.inputs; outputs_count = is.outputs_count; outputs = is.outputs }
effect_keeps machine s Out e y h is e_below y_below =
    let position = position_of machine.ports.outputs y in
    record { a = is.a; q = is.q; index = is.index; location = omega arith; cells_count = is.cells_count; cells = is.cells; inputs_count = is.inputs_count; inputs = is.inputs; outputs_count = set_at_length s.outputs position s.a ∙ is.outputs_count; outputs = set_at_words s.outputs position s.a is.outputs is.a }
effect_keeps machine s Dly e y h is e_below y_below = holds machine s is s.a s.q s.index s.indicator y Waiting is.a is.q is.index y_below

-- ---- and so does each step

choose_below : (b : Bool) (m n : ℕ) → m < 4096 → n < 4096 → (if b then m else n) < 4096
choose_below true m n p r = p
choose_below false m n p r = r

pub effective_below : (machine : Machine) (s : State) (order : Order) (indexed : Bool) (y : ℕ) → IsState machine s → y < 4096 → effective s order indexed y < 4096
effective_below machine s order indexed y is below =
    choose_below (indexed && counts_index order) (bit_or y s.index) y (or_lt 12 y s.index below (omega (arith, is.index))) below

along : (machine : Machine) (t u : State) → t ≡ u → IsState machine u → IsState machine t
along machine t u e is = subst (λ (v : State). IsState machine v) (sym e) is

obeys_keeps : (machine : Machine) (s : State) (named : Option Decoded) (report : Done) (after : State) → IsMachine machine → IsState machine s
    → IsDecoding machine.codes (word_here s) named → Obeys machine s named report after → IsState machine after
obeys_keeps machine s (Some d) report after h is names does = along machine after _ does.1
    (effect_keeps machine s d.order (effective s d.order d.indexed d.address) d.address h is (effective_below machine s d.order d.indexed d.address is names.below) names.below)
obeys_keeps machine s None report after h is names does = along machine after _ does.1 (holds machine s is s.a s.q s.index s.indicator s.location Halted is.a is.q is.index is.location)

step_in_keeps : (phase : Phase) (machine : Machine) (s : State) (report : Done) (after : State) → IsMachine machine → IsState machine s → StepsIn phase machine s report after → IsState machine after
step_in_keeps Running machine s report after h is p = obeys_keeps machine s p.0 report after h is p.1 p.2
step_in_keeps Waiting machine s report after h is p = along machine after s p.1 is
step_in_keeps Halted machine s report after h is p = along machine after s p.1 is

pub step_keeps : (machine : Machine) (s : State) (event : Event) (report : Done) (after : State) → IsMachine machine → IsState machine s → IsEvent event → Steps machine s event report after → IsState machine after
step_keeps machine s Step report after h is right p = step_in_keeps s.phase machine s report after h is p
step_keeps machine s Pulse report after h is right p = along machine after _ p.1 (holds machine s is s.a s.q s.index s.indicator s.location (phase_after_pulse s.phase) is.a is.q is.index is.location)
step_keeps machine s (Put address word) report after h is right p =
    let position = position_of machine.ports.inputs address in
    along machine after _ p.1 (record { a = is.a; q = is.q; index = is.index; location = is.location; cells_count = is.cells_count; cells = is.cells; inputs_count = set_at_length s.inputs position word ∙ is.inputs_count; inputs = set_at_words s.inputs position word is.inputs right; outputs_count = is.outputs_count; outputs = is.outputs })
