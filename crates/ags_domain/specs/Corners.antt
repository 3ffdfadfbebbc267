-- Words that were tried at corners, and the range that is made of them, or the first operands that overflow.
use Rattle.std.specs.Prelude.{◌≡◌, ℕ, Result, Ok, Err}
use Rattle.ags_domain.specs.Domain.{Ends}
use Rattle.ags_domain.specs.Range.{range_ends, lesser, greater, hull_of, ends_of}
use Rattle.ags_domain.specs.declared.operands.Operands.{Operands}
use Rattle.ags_domain.specs.declared.ranges.Range.{Range}

-- a range with these ends
abbrev pub IsRangeFrom : (least greatest : ℕ) → Result Range Operands → Type 0
IsRangeFrom least greatest (Ok range) = range_ends range ≡ ends_of least greatest
IsRangeFrom least greatest (Err o) = ⊥

-- of two tries: the range between them, or the first operands that overflow
abbrev pub IsSpanned : (greatest least : Result ℕ Operands) → Result Range Operands → Type 0
IsSpanned (Err o) least answer = answer ≡ Err o
IsSpanned (Ok greatest) (Err o) answer = answer ≡ Err o
IsSpanned (Ok greatest) (Ok least) answer = IsRangeFrom least greatest answer

-- of two tries of sizes: the range from 0 to the greater one, or the first operands that overflow
abbrev pub IsFromZero : (first second : Result ℕ Operands) → Result Range Operands → Type 0
IsFromZero (Err o) second answer = answer ≡ Err o
IsFromZero (Ok first) (Err o) answer = answer ≡ Err o
IsFromZero (Ok first) (Ok second) answer = IsRangeFrom 0 (greater first second) answer

-- the range of these ends
abbrev pub IsRangeWith : Ends → Result Range Operands → Type 0
IsRangeWith ends (Ok range) = range_ends range ≡ ends
IsRangeWith ends (Err o) = ⊥

-- the ends of four words
abbrev pub ends_of_four : (first second third fourth : ℕ) → Ends
ends_of_four first second third fourth =
    hull_of (ends_of (lesser first second) (greater first second)) (ends_of (lesser third fourth) (greater third fourth))

-- of four tries: the range of the words, or the first operands that overflow
abbrev pub IsAround : (first second third fourth : Result ℕ Operands) → Result Range Operands → Type 0
IsAround (Err o) second third fourth answer = answer ≡ Err o
IsAround (Ok first) (Err o) third fourth answer = answer ≡ Err o
IsAround (Ok first) (Ok second) (Err o) fourth answer = answer ≡ Err o
IsAround (Ok first) (Ok second) (Ok third) (Err o) answer = answer ≡ Err o
IsAround (Ok first) (Ok second) (Ok third) (Ok fourth) answer = IsRangeWith (ends_of_four first second third fourth) answer
