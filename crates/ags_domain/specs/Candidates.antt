-- For each operation the operands that are tried, in order, where some overflow: the first that does is told. `a` and `m` are
-- the ends of A's interval and of the cell's. What an operation doesn't take is the word 0.
use Rattle.std.specs.Prelude.{ℕ, ◌^◌, Bool, ◌&&◌, List, [], ◌∷◌, pos, if◌then◌else◌}
use Rattle.std.specs.Int.RustNames.{int_le}
use Rattle.ags_word.specs.Word.{val}
use Rattle.ags_domain.specs.Domain.{Ends}
use Rattle.ags_domain.specs.LowBits.{all_ones}
use Rattle.ags_domain.specs.declared.operands.Operands.{Operands}

abbrev pub operands : (a q m : ℕ) → Operands
operands a q m = record { a = a; q = q; m = m }

abbrev pub sum_candidates : (a m : Ends) → List Operands
sum_candidates a m = operands a.greatest 0 m.greatest ∷ operands a.least 0 m.least ∷ []

abbrev pub difference_candidates : (a m : Ends) → List Operands
difference_candidates a m = operands a.greatest 0 m.least ∷ operands a.least 0 m.greatest ∷ []

-- the negative and the size: the word of value -(2 ^ 17)
abbrev pub sign_candidates : (a m : Ends) → List Operands
sign_candidates a m = operands (2 ^ 17) 0 0 ∷ []

abbrev pub left_shift_candidates : (a m : Ends) → List Operands
left_shift_candidates a m = operands a.greatest 0 0 ∷ operands a.least 0 0 ∷ []

-- both products: twice the word of value -(2 ^ 17)
abbrev pub product_candidates : (a m : Ends) → List Operands
product_candidates a m = operands (2 ^ 17) 0 (2 ^ 17) ∷ []

abbrev pub long_left_candidates : (a m : Ends) → List Operands
long_left_candidates a m = operands a.greatest all_ones 0 ∷ operands a.least 0 0 ∷ []

-- 0 lies in the interval
abbrev pub has_zero : Ends → Bool
has_zero ends = int_le (val ends.least) (pos 0) && int_le (pos 0) (val ends.greatest)

abbrev pub quotient_candidates : (a m : Ends) → List Operands
quotient_candidates a m = if has_zero m
    then operands a.least 0 0 ∷ []
    else (operands a.least 0 m.least ∷ operands a.least 0 m.greatest
    ∷ operands a.greatest all_ones m.least ∷ operands a.greatest all_ones m.greatest ∷ [])
