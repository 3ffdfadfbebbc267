-- The operations that orders make on A: the new A, and whether they overflow, as functions of the operands. `a` and `q` are
-- the words of A and Q, and `m` is the word of the cell; an operation that takes no cell leaves `m` out.
use Rattle.std.specs.Prelude.{ℕ, ◌^◌, Bool, not, false, ℤ, pos, ◌+ℤ◌, ◌-ℤ◌, ◌*ℤ◌, neg_ℤ, unsigned_abs, is_none, unwrap_or}
use Rattle.ags_word.specs.Word.{val, fits, wrap}
use Rattle.ags_word.specs.Long.{long, pair, shifted_right, fits_long, wrap_long, divided}

-- what an operation leaves in A, and whether it overflows
pub record Operation : Type 0 where
  pub new_a : (a q m : ℕ) → ℕ
  pub overflows : (a q m : ℕ) → Bool

-- an operation whose exact result is this number: A is the word that is left of it, and it overflows where it doesn't fit
abbrev pub settled : ((a q m : ℕ) → ℤ) → Operation
settled number = record { new_a = λ a q m. wrap (number a q m); overflows = λ a q m. not (fits (number a q m)) }

-- the sum of A and the cell
abbrev pub sum : Operation
sum = settled (λ a q m. val a +ℤ val m)

-- A less the cell
abbrev pub difference : Operation
difference = settled (λ a q m. val a -ℤ val m)

-- the negative of A
abbrev pub negative : Operation
negative = settled (λ a q m. neg_ℤ (val a))

-- the size of A, which is its absolute value
abbrev pub size : Operation
size = settled (λ a q m. pos (unsigned_abs (val a)))

-- A shifted to the left: its product with a power of two
abbrev pub left_shift : (count : ℕ) → Operation
left_shift count = settled (λ a q m. val a *ℤ pos (2 ^ count))

-- the exact product of A and the cell
abbrev pub product : (a m : ℕ) → ℤ
product a m = val a *ℤ val m

-- the A of the pair that the product sets: it overflows where the product is no number of a pair
abbrev pub product_high : Operation
product_high = record { new_a = λ a q m. (pair (product a m)).0; overflows = λ a q m. not (fits_long (product a m)) }

-- the product over 2 ^ 17, rounded to the nearest whole number and a half upward
abbrev pub nearest_product : (a m : ℕ) → ℤ
nearest_product a m = shifted_right (product a m +ℤ pos (2 ^ 16)) 17

-- the rounded product: it overflows as the product does
abbrev pub product_rounded : Operation
product_rounded = record { new_a = λ a q m. wrap (nearest_product a m); overflows = λ a q m. not (fits_long (product a m)) }

-- the quotient of the pair's number by the cell, cut off toward zero: by 0, and where the quotient doesn't fit, A stays and it
-- overflows
abbrev pub quotient : Operation
quotient = record { new_a = λ a q m. unwrap_or (divided (long a q) m) a; overflows = λ a q m. is_none (divided (long a q) m) }

-- the pair's number shifted to the left: its product with a power of two
abbrev pub shifted_left : (count a q : ℕ) → ℤ
shifted_left count a q = long a q *ℤ pos (2 ^ count)

-- the A of the pair that the left shift leaves: it overflows where the product is no number of a pair
abbrev pub long_left_high : (count : ℕ) → Operation
long_left_high count = record {
  new_a = λ a q m. (pair (wrap_long (shifted_left count a q))).0;
  overflows = λ a q m. not (fits_long (shifted_left count a q));
}

-- the A of the pair that the right shift sets: it never overflows
abbrev pub long_right_high : (count : ℕ) → Operation
long_right_high count = record { new_a = λ a q m. (pair (shifted_right (long a q) count)).0; overflows = λ a q m. false }
