-- How large a symbol's value may be.
use Rattle.std.specs.Prelude.{ℤ, pos}

-- the greatest value; the least is its negative
abbrev pub value_limit : ℤ
value_limit = pos 262143
