use Rattle.std.proofs.Common.{◌≡◌, ◌+◌, ◌*◌, ◌^◌, ◌<◌, ℕ, List, ◌∷◌, length, get_or, drop, refl, add-one, drop-cons, arith, rules}
use Rattle.std.specs.Char.{digit_value}
use Rattle.std.specs.Str.Parse.{AllDigits, digits_value, digits_value_after}
use Rattle.std.proofs.Math.Nat.{mul_comm}
use Rattle.std.proofs.lemmas.Grind.{pow_more, common_steps}
use Rattle.std.proofs.lemmas.Nat.{mul-add-lt}
use Rattle.ags_text.proofs.NumeralLemmas.{room, below_most}
use Rattle.ags_text.proofs.numerals.read_digits.Goals as goal

-- the rest of a text begins with the byte that is read next
cut : (text : List ℕ) (i : ℕ) → i < length text → drop i text ≡ get_or text i 0 ∷ drop (i + 1) text
cut text i within = rw (add-one, drop-cons text i 0 within) refl

value_more : (base number digit i : ℕ) (text : List ℕ) → i < length text → digit ≡ digit_value (get_or text i 0) → digits_value_after base number (drop i text) ≡ digits_value base text
    → digits_value_after base (number * base + digit) (drop (i + 1) text) ≡ digits_value base text
value_more base number digit i text within is value = rw is (rw (cut text i within) at value)

small_more : (base number digit i : ℕ) → number < base ^ i → digit < base → number * base + digit < base ^ (i + 1)
small_more base number digit i small below = omega (arith, mul-add-lt number base digit (base ^ i) small below, pow_more base i, mul_comm base (base ^ i))

forward_more : (base i : ℕ) (text : List ℕ) → i < length text → digit_value (get_or text i 0) < base → (AllDigits base (drop i text) → AllDigits base text) → AllDigits base (drop (i + 1) text) → AllDigits base text
forward_more base i text within below forward rest = forward (rw (cut text i within) (below, rest))

back_more : (base i : ℕ) (text : List ℕ) → i < length text → (AllDigits base text → AllDigits base (drop i text)) → AllDigits base text → AllDigits base (drop (i + 1) text)
back_more base i text within back all = (rw (cut text i within) at (back all)).1

pub loop-byte-preserved : goal.loop-byte-preserved
loop-byte-preserved c =
    let text = c.args.text.now in
    let i = c.loop-byte.byte-index in
    let within = c.loop-byte-test.true in
    let told = rw c.from.ensures at c.in_ok-digit.ensures.value in
    record {
      value = value_more c.args.base c.loop-byte.number c.in_ok-digit.digit i text within told.1 c.loop-byte.invariant.value;
      small = small_more c.args.base c.loop-byte.number c.in_ok-digit.digit i c.loop-byte.invariant.small (rw told.1 told.0);
      forward = forward_more c.args.base i text within told.0 c.loop-byte.invariant.forward;
      back = back_more c.args.base i text within c.loop-byte.invariant.back;
    }

pub overflow_mul-number : goal.overflow_mul-number
overflow_mul-number c =
    omega (arith, room c.args.base c.args.most c.loop-byte.byte-index c.loop-byte.number 0 c.requires.low c.requires.room (omega arith) c.loop-byte.invariant.small (omega arith))

pub overflow_add-number : goal.overflow_add-number
overflow_add-number c =
    omega (arith, room c.args.base c.args.most c.loop-byte.byte-index c.loop-byte.number c.in_ok-digit.digit c.requires.low c.requires.room (omega arith) c.loop-byte.invariant.small (search rules))

pub returns-clause-below : goal.returns-clause-below
returns-clause-below c = below_most c.args.base c.args.most c.loop-byte.byte-index c.loop-byte.number c.requires.low (omega arith) c.loop-byte.invariant.small

pub returns-clause-found : goal.returns-clause-found
returns-clause-found c = grind (arith, common_steps)
