-- What the orders that compute a number leave, and where they overflow. The crates above cite:
--     exact_left                        where no overflow is told, the exact result stands where it goes
--     room_fits, no_room_over           where it has room no overflow is told, and where it has none one is
--     no_result_over, others_fit        without an exact result one is told, and the orders that compute nothing tell none
--     result_one, result_some           an order that computes has one exact result
--     quotient_some, quotient_zero      and so has DVP but by 0
use Rattle.std.proofs.Common.{◌≡◌, ◌≢◌, ℕ, ◌*◌, ◌%◌, ◌<◌, ◌≤◌, ◌^◌, Bool, true, false, refl, sym, ap, subst, ◌∙◌, ⊎_elim, ◌⊎◌, inl, inr, arith, List, length, get_or, All, ℤ, pos, negsuc, ◌+ℤ◌, ◌*ℤ◌, ◌≤ℤ◌, ◌<ℤ◌}
use Rattle.std.specs.Prelude.{neg_ℤ, unsigned_abs, int_div, not, is_none, unwrap_or, if◌then◌else◌, Option, Some, None}
use Rattle.std.proofs.lemmas.Int.{ints, unsigned_abs-mul}
use Rattle.std.proofs.lemmas.Nat.{mul-le}
use Rattle.std.proofs.lemmas.Bool.{cases_lt}
use Rattle.std.proofs.Math.ListN.{get_or-eq_default}
use Rattle.ags_word.specs.Word.{val, fits, wrap}
use Rattle.ags_word.specs.Long.{long, pair, fits_long, wrap_long, shifted_right, divided, IsFloor, IsNearest, IsCutOff}
use Rattle.ags_word.specs.Operation.{product, nearest_product}
use Rattle.ags_word.proofs.WordLaws.{val_least, val_most, val-wrap, fits_in}
use Rattle.ags_word.proofs.LongLaws.{fits_long-long, long-pair, shifted_right-floor, floor_one, fits_long-shifted_right, fits_long-wrap_long, wrap_long-fits, fits_long_in, fits_long_least, fits_long_most, IsCutOff-divided, divided-exact, int_div-cut, cut_one}
use Rattle.ags_word.proofs.RoundingLaws.{IsNearest-product, nearest_one, fits-nearest, over-nearest}
use Rattle.ags_isa.specs.declared.orders.Order.{Order}
use Rattle.ags_isa.specs.declared.orders.Order.TheVariants.{Abs, Add, Adz, Als, Com, Dvp, Lls, Lrs, Mpr, Mpy, Mpz, Sub, Suz}
use Rattle.ags_isa.specs.declared.decoding.Decoded.{Decoded}
use Rattle.ags_ports.specs.declared.events.Phase.{Phase}
use Rattle.ags_ports.specs.declared.events.Event.TheVariants.{Step}
use Rattle.ags_ports.specs.declared.events.Done.{Done}
use Rattle.ags_ports.specs.declared.machines.Machine.{Machine}
use Rattle.ags_ports.specs.Machine.{IsMachine}
use Rattle.ags_ports.specs.State.{State, IsState, cell}
use Rattle.ags_ports.specs.Effect.{effect, effective}
use Rattle.ags_ports.specs.Step.{Obeys, StepsIn, Steps, Reads}
use Rattle.ags_ports.specs.Exact.{computes_number, IsQuotient, IsExactResult, IsResultHere, goes_to_pair, number_left, HasRoom}
use Rattle.ags_ports.proofs.NamingLemmas.{decoding_same}
use Rattle.ags_ports.proofs.StateLemmas.{step_keeps}

true_false : true ≡ false → ⊥
true_false same = cc

fits_of_no_over : (b : Bool) → not b ≡ false → b ≡ true
fits_of_no_over true h = refl
fits_of_no_over false h = absurd (true_false h)

-- ---- quotients that are cut off: by what is left, and by the size of what they make

-- a product by a number is 0, or no smaller than the number
product_cases : (quotient d : ℤ) → (quotient *ℤ d ≡ pos 0) ⊎ (unsigned_abs d ≤ unsigned_abs (quotient *ℤ d))
product_cases quotient d = ⊎_elim
    (λ none.
    let size = unsigned_abs-mul quotient d in
    let zero : unsigned_abs quotient ≡ 0 = omega arith in
    let product_zero : 0 * unsigned_abs d ≡ 0 = omega arith in
    let nothing : unsigned_abs (quotient *ℤ d) ≡ 0 = size ∙ ap (λ (k : ℕ). k * unsigned_abs d) zero ∙ product_zero in
    inl (omega (arith, ints)))
    (λ some. inr (omega (arith, unsigned_abs-mul quotient d, mul-le 1 (unsigned_abs d) (unsigned_abs quotient) (unsigned_abs d) some (omega arith))))
    (cases_lt (unsigned_abs quotient) 1)

module _ (n made d rest : ℤ) (cases : (made ≡ pos 0) ⊎ (unsigned_abs d ≤ unsigned_abs made)) (smaller : unsigned_abs rest < unsigned_abs d) (whole : made +ℤ rest ≡ n) where
  rest_not_negative : unsigned_abs made ≤ unsigned_abs n → pos 0 ≤ℤ n → pos 0 ≤ℤ rest
  rest_not_negative toward sign = ⊎_elim (λ none. omega (arith, ints)) (λ some. omega (arith, ints)) cases

  rest_not_positive : unsigned_abs made ≤ unsigned_abs n → n ≤ℤ pos 0 → rest ≤ℤ pos 0
  rest_not_positive toward sign = ⊎_elim (λ none. omega (arith, ints)) (λ some. omega (arith, ints)) cases

  made_toward_high : pos 0 ≤ℤ n → pos 0 ≤ℤ rest → unsigned_abs made ≤ unsigned_abs n
  made_toward_high sign kept = ⊎_elim (λ none. omega (arith, ints)) (λ some. omega (arith, ints)) cases

  made_toward_low : n ≤ℤ pos 0 → rest ≤ℤ pos 0 → unsigned_abs made ≤ unsigned_abs n
  made_toward_low sign kept = ⊎_elim (λ none. omega (arith, ints)) (λ some. omega (arith, ints)) cases

quotient_of_cut : (n d quotient : ℤ) → IsCutOff n d quotient → IsQuotient n d quotient
quotient_of_cut n d quotient cut = record {
  rest = cut.rest;
  whole = cut.whole;
  smaller = cut.below;
  not_negative = rest_not_negative n _ d cut.rest (product_cases quotient d) cut.below cut.whole cut.toward;
  not_positive = rest_not_positive n _ d cut.rest (product_cases quotient d) cut.below cut.whole cut.toward;
}

signs : (n : ℤ) → (pos 0 ≤ℤ n) ⊎ (n ≤ℤ pos 0)
signs (pos n) = inl (omega (arith, ints))
signs (negsuc n) = inr (omega (arith, ints))

cut_of_quotient : (n d quotient : ℤ) → IsQuotient n d quotient → IsCutOff n d quotient
cut_of_quotient n d quotient is = record {
  rest = is.rest;
  below = is.smaller;
  whole = is.whole;
  toward = ⊎_elim
      (λ high. made_toward_high n _ d is.rest (product_cases quotient d) is.smaller is.whole high (is.not_negative high))
      (λ low. made_toward_low n _ d is.rest (product_cases quotient d) is.smaller is.whole low (is.not_positive low))
      (signs n);
}

-- ---- an order has one exact result

pub result_one : (order : Order) (a q m count : ℕ) (n other : ℤ) → IsExactResult order a q m count n → IsExactResult order a q m count other → n ≡ other
result_one Add a q m count n other p r = p ∙ sym r
result_one Adz a q m count n other p r = p ∙ sym r
result_one Sub a q m count n other p r = p ∙ sym r
result_one Suz a q m count n other p r = p ∙ sym r
result_one Com a q m count n other p r = p ∙ sym r
result_one Abs a q m count n other p r = p ∙ sym r
result_one Als a q m count n other p r = p ∙ sym r
result_one Lls a q m count n other p r = p ∙ sym r
result_one Mpy a q m count n other p r = p ∙ sym r
result_one Lrs a q m count n other p r = floor_one (long a q) n other (2 ^ count) p r
result_one Mpr a q m count n other p r = nearest_one (product a m) n other (2 ^ 16) p r
result_one Mpz a q m count n other p r = nearest_one (product a m) n other (2 ^ 16) p r
result_one Dvp a q m count n other p r = cut_one (long a q) (val m) n other (cut_of_quotient _ _ n p) (cut_of_quotient _ _ other r)
result_one _ a q m count n other p r = absurd p

false_true : false ≡ true → ⊥
false_true same = cc

pub result_some : (order : Order) (a q m count : ℕ) → computes_number order ≡ true → order ≢ Dvp → (n : ℤ) × IsExactResult order a q m count n
result_some Add a q m count computing other = (_, refl)
result_some Adz a q m count computing other = (_, refl)
result_some Sub a q m count computing other = (_, refl)
result_some Suz a q m count computing other = (_, refl)
result_some Com a q m count computing other = (_, refl)
result_some Abs a q m count computing other = (_, refl)
result_some Als a q m count computing other = (_, refl)
result_some Lls a q m count computing other = (_, refl)
result_some Mpy a q m count computing other = (_, refl)
result_some Lrs a q m count computing other = (shifted_right (long a q) count, shifted_right-floor (long a q) count)
result_some Mpr a q m count computing other = (nearest_product a m, IsNearest-product a m)
result_some Mpz a q m count computing other = (nearest_product a m, IsNearest-product a m)
result_some Dvp a q m count computing other = absurd (other refl)
result_some _ a q m count computing other = absurd (false_true computing)

pub quotient_some : (a q m count : ℕ) → val m ≢ pos 0 → (n : ℤ) × IsExactResult Dvp a q m count n
quotient_some a q m count some = (int_div (long a q) (val m), quotient_of_cut _ _ _ (int_div-cut (long a q) (val m) some))

pub quotient_zero : (a q m count : ℕ) (n : ℤ) → val m ≡ pos 0 → ¬ IsExactResult Dvp a q m count n
quotient_zero a q m count n zero is = let smaller = is.smaller in omega (arith, ints)

-- ---- what each order leaves where it doesn't overflow

get_below : (words : List ℕ) → All (λ word. word < 2 ^ 18) words → (position : ℕ) → get_or words position 0 < 2 ^ 18
get_below words are position = ⊎_elim
    (λ inside. are position 0 inside)
    (λ outside. let e : get_or words position 0 ≡ 0 = get_or-eq_default words 0 outside in omega arith)
    (cases_lt position (length words))

-- A holds a number that fits, and the pair one that a pair stands for
fit_left : (n : ℤ) → not (fits n) ≡ false → val (wrap n) ≡ n
fit_left n h = val-wrap n (fits_of_no_over (fits n) h)

pair_left : (n : ℤ) → not (fits_long n) ≡ false → long (pair n).0 (pair n).1 ≡ n
pair_left n h = long-pair n (fits_of_no_over (fits_long n) h)

wrapped_pair_left : (n : ℤ) → not (fits_long n) ≡ false → long (pair (wrap_long n)).0 (pair (wrap_long n)).1 ≡ n
wrapped_pair_left n h = long-pair (wrap_long n) (fits_long-wrap_long n) ∙ wrap_long-fits n (fits_of_no_over (fits_long n) h)

nearest_left : (a m : ℕ) → a < 2 ^ 18 → m < 2 ^ 18 → not (fits_long (product a m)) ≡ false → IsNearest (product a m) (2 ^ 16) (val (wrap (nearest_product a m)))
nearest_left a m a_below m_below h =
    let kept = val-wrap (nearest_product a m) (fits-nearest a m a_below m_below (fits_of_no_over (fits_long (product a m)) h)) in
    subst (λ (n : ℤ). IsNearest (product a m) (2 ^ 16) n) (sym kept) (IsNearest-product a m)

floor_left : (a q count : ℕ) → a < 2 ^ 18
    → IsFloor (long a q) (2 ^ count) (long (pair (shifted_right (long a q) count)).0 (pair (shifted_right (long a q) count)).1)
floor_left a q count below =
    let kept = long-pair (shifted_right (long a q) count) (fits_long-shifted_right (long a q) count (fits_long-long a q below)) in
    subst (λ (n : ℤ). IsFloor (long a q) (2 ^ count) n) (sym kept) (shifted_right-floor (long a q) count)

quotient_left : (n : ℤ) (m a : ℕ) (found : Option ℕ) → divided n m ≡ found → is_none found ≡ false → IsQuotient n (val m) (val (unwrap_or found a))
quotient_left n m a None is over = absurd (true_false over)
quotient_left n m a (Some w) is over = quotient_of_cut _ _ _ (IsCutOff-divided n m w is)

module _ (machine : Machine) (s : State) (is : IsState machine s) where
  effect_exact : (order : Order) (e y : ℕ) → computes_number order ≡ true → (effect machine s order e y).overflow ≡ false
      → IsExactResult order s.a s.q (cell s e) (y % 64) (number_left order ((effect machine s order e y).after))
  effect_exact Add e y computing h = fit_left _ h
  effect_exact Adz e y computing h = fit_left _ h
  effect_exact Sub e y computing h = fit_left _ h
  effect_exact Suz e y computing h = fit_left _ h
  effect_exact Com e y computing h = fit_left _ h
  effect_exact Abs e y computing h = fit_left _ h
  effect_exact Als e y computing h = fit_left _ h
  effect_exact Lls e y computing h = wrapped_pair_left _ h
  effect_exact Mpy e y computing h = pair_left _ h
  effect_exact Lrs e y computing h = floor_left s.a s.q (y % 64) is.a
  effect_exact Mpr e y computing h = nearest_left s.a (cell s e) is.a (get_below s.cells is.cells e) h
  effect_exact Mpz e y computing h = nearest_left s.a (cell s e) is.a (get_below s.cells is.cells e) h
  effect_exact Dvp e y computing h = quotient_left (long s.a s.q) (cell s e) s.a (divided (long s.a s.q) (cell s e)) refl h
  effect_exact _ e y computing h = absurd (false_true computing)

-- ---- where the exact result has room, there is no overflow

room_in_a : (n exact : ℤ) → n ≡ exact → (neg_ℤ (pos (2 ^ 17)) ≤ℤ n) × (n <ℤ pos (2 ^ 17)) → not (fits exact) ≡ false
room_in_a n exact same room = ap (λ (k : ℤ). not (fits k)) (sym same) ∙ ap not (fits_in n room.0 room.1)

room_in_pair : (n exact : ℤ) → n ≡ exact → (neg_ℤ (pos (2 ^ 34)) ≤ℤ n) × (n <ℤ pos (2 ^ 34)) → not (fits_long exact) ≡ false
room_in_pair n exact same room = ap (λ (k : ℤ). not (fits_long k)) (sym same) ∙ ap not (fits_long_in n room.0 room.1)

room_of_nearest : (a m : ℕ) (n : ℤ) → a < 2 ^ 18 → m < 2 ^ 18 → IsNearest (product a m) (2 ^ 16) n
    → (neg_ℤ (pos (2 ^ 17)) ≤ℤ n) × (n <ℤ pos (2 ^ 17)) → not (fits_long (product a m)) ≡ false
room_of_nearest a m n a_below m_below nearest room = by (fits_long (product a m)) refl
  where
    by : (b : Bool) → fits_long (product a m) ≡ b → not b ≡ false
    by true fit = refl
    by false over =
        let same = nearest_one (product a m) n (nearest_product a m) (2 ^ 16) nearest (IsNearest-product a m) in
        absurd (true_false (sym (fits_in n room.0 room.1) ∙ ap fits same ∙ over-nearest a m a_below m_below over))

room_of_quotient : (n quotient : ℤ) (m : ℕ) → IsQuotient n (val m) quotient
    → (neg_ℤ (pos (2 ^ 17)) ≤ℤ quotient) × (quotient <ℤ pos (2 ^ 17)) → is_none (divided n m) ≡ false
room_of_quotient n quotient m is room =
    ap (λ (found : Option ℕ). is_none found) (divided-exact n quotient m (cut_of_quotient _ _ quotient is) (fits_in quotient room.0 room.1))

module _ (machine : Machine) (s : State) (is : IsState machine s) where
  effect_room : (order : Order) (e y : ℕ) (n : ℤ) → IsExactResult order s.a s.q (cell s e) (y % 64) n → HasRoom order n → (effect machine s order e y).overflow ≡ false
  effect_room Add e y n exact room = room_in_a n _ exact room
  effect_room Adz e y n exact room = room_in_a n _ exact room
  effect_room Sub e y n exact room = room_in_a n _ exact room
  effect_room Suz e y n exact room = room_in_a n _ exact room
  effect_room Com e y n exact room = room_in_a n _ exact room
  effect_room Abs e y n exact room = room_in_a n _ exact room
  effect_room Als e y n exact room = room_in_a n _ exact room
  effect_room Lls e y n exact room = room_in_pair n _ exact room
  effect_room Mpy e y n exact room = room_in_pair n _ exact room
  effect_room Lrs e y n exact room = refl
  effect_room Mpr e y n exact room = room_of_nearest s.a (cell s e) n is.a (get_below s.cells is.cells e) exact room
  effect_room Mpz e y n exact room = room_of_nearest s.a (cell s e) n is.a (get_below s.cells is.cells e) exact room
  effect_room Dvp e y n exact room = room_of_quotient (long s.a s.q) n (cell s e) exact room
  effect_room _ e y n exact room = absurd exact

-- ---- the other orders don't overflow

effect_others : (machine : Machine) (s : State) (order : Order) (e y : ℕ) → computes_number order ≡ false → (effect machine s order e y).overflow ≡ false
effect_others machine s Add e y computing = absurd (true_false computing)
effect_others machine s Adz e y computing = absurd (true_false computing)
effect_others machine s Sub e y computing = absurd (true_false computing)
effect_others machine s Suz e y computing = absurd (true_false computing)
effect_others machine s Com e y computing = absurd (true_false computing)
effect_others machine s Abs e y computing = absurd (true_false computing)
effect_others machine s Als e y computing = absurd (true_false computing)
effect_others machine s Lls e y computing = absurd (true_false computing)
effect_others machine s Mpy e y computing = absurd (true_false computing)
effect_others machine s Lrs e y computing = refl
effect_others machine s Mpr e y computing = absurd (true_false computing)
effect_others machine s Mpz e y computing = absurd (true_false computing)
effect_others machine s Dvp e y computing = absurd (true_false computing)
effect_others machine s _ e y computing = refl

-- ---- and so it is of a step that reads the order

-- a step that reads an order obeys it
obeyed : (machine : Machine) (s : State) (order : Order) (reads : Reads machine s order) (report : Done) (after : State) → IsMachine machine → Steps machine s Step report after
    → Obeys machine s (Some (record { order = order; indexed = reads.indexed; address = reads.address })) report after
obeyed machine s order reads report after h p =
    let there = subst (λ (phase : Phase). StepsIn phase machine s report after) reads.running p in
    let same = decoding_same machine.codes h.codes _ there.0 (Some (record { order = order; indexed = reads.indexed; address = reads.address })) there.1 reads.names in
    subst (λ (named : Option Decoded). Obeys machine s named report after) same there.2

pub exact_left : (machine : Machine) (s : State) (order : Order) (reads : Reads machine s order) (report : Done) (after : State) → IsMachine machine → IsState machine s
    → computes_number order ≡ true → Steps machine s Step report after → report.overflow ≡ false → IsResultHere machine s order reads (number_left order after)
exact_left machine s order reads report after h is computing p none =
    let does = obeyed machine s order reads report after h p in
    let e = effective s order reads.indexed reads.address in
    let left = effect_exact machine s is order e reads.address computing (sym (ap (λ (v : Done). v.overflow) does.0) ∙ none) in
    subst (λ (v : State). IsExactResult order s.a s.q (cell s e) (reads.address % 64) (number_left order v)) (sym does.1) left

pub room_fits : (machine : Machine) (s : State) (order : Order) (reads : Reads machine s order) (report : Done) (after : State) → IsMachine machine → IsState machine s
    → Steps machine s Step report after → (n : ℤ) → IsResultHere machine s order reads n → HasRoom order n → report.overflow ≡ false
room_fits machine s order reads report after h is p n exact room =
    let does = obeyed machine s order reads report after h p in
    ap (λ (v : Done). v.overflow) does.0 ∙ effect_room machine s is order (effective s order reads.indexed reads.address) reads.address n exact room

pub others_fit : (machine : Machine) (s : State) (order : Order) (report : Done) (after : State) → IsMachine machine → Reads machine s order
    → computes_number order ≡ false → Steps machine s Step report after → report.overflow ≡ false
others_fit machine s order report after h reads other p =
    let does = obeyed machine s order reads report after h p in
    ap (λ (v : Done). v.overflow) does.0 ∙ effect_others machine s order (effective s order reads.indexed reads.address) reads.address other

-- what stands where a result goes has room there
left_has_room : (order : Order) (s : State) → s.a < 2 ^ 18 → HasRoom order (number_left order s)
left_has_room order s below = by (goes_to_pair order)
  where
    by : (b : Bool) → let half = if b then 2 ^ 34 else 2 ^ 17 in let n = if b then long s.a s.q else val s.a in (neg_ℤ (pos half) ≤ℤ n) × (n <ℤ pos half)
    by true = let fit = fits_long-long s.a s.q below in (fits_long_least _ fit, fits_long_most _ fit)
    by false = (val_least s.a below, val_most s.a below)

-- an order with an exact result computes one
result_computes : (order : Order) (a q m count : ℕ) (n : ℤ) → IsExactResult order a q m count n → computes_number order ≡ true
result_computes order a q m count n exact = by order exact
  where
    by : (o : Order) → IsExactResult o a q m count n → computes_number o ≡ true
    by Add p = refl
    by Adz p = refl
    by Sub p = refl
    by Suz p = refl
    by Com p = refl
    by Abs p = refl
    by Als p = refl
    by Lls p = refl
    by Mpy p = refl
    by Lrs p = refl
    by Mpr p = refl
    by Mpz p = refl
    by Dvp p = refl
    by _ p = absurd p

pub no_room_over : (machine : Machine) (s : State) (order : Order) (reads : Reads machine s order) (report : Done) (after : State) → IsMachine machine → IsState machine s
    → Steps machine s Step report after → (n : ℤ) → IsResultHere machine s order reads n → ¬ HasRoom order n → report.overflow ≡ true
no_room_over machine s order reads report after h is p n exact none = by report.overflow refl
  where
    by : (b : Bool) → report.overflow ≡ b → b ≡ true
    by true over = refl
    by false fit =
        let left = exact_left machine s order reads report after h is (result_computes order _ _ _ _ n exact) p fit in
        let same = result_one order _ _ _ _ (number_left order after) n left exact in
        let kept = step_keeps machine s Step report after h is tt p in
        absurd (none (subst (λ (k : ℤ). HasRoom order k) same (left_has_room order after kept.a)))

pub no_result_over : (machine : Machine) (s : State) (order : Order) (reads : Reads machine s order) (report : Done) (after : State) → IsMachine machine → IsState machine s
    → computes_number order ≡ true → Steps machine s Step report after → ((n : ℤ) → ¬ IsResultHere machine s order reads n) → report.overflow ≡ true
no_result_over machine s order reads report after h is computing p none = by report.overflow refl
  where
    by : (b : Bool) → report.overflow ≡ b → b ≡ true
    by true over = refl
    by false fit = absurd (none _ (exact_left machine s order reads report after h is computing p fit))
