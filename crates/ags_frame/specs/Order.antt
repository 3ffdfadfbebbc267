-- The order of the kinds of statements, where a text has one.
use Rattle.std.specs.Prelude.{ℕ, Bool, true, not, ◌&&◌, nat_le, List, Option, Some, None}
use Rattle.std.specs.List.{position_or_len}

-- how many kinds stand before one in an order
abbrev pub position_in : {K : Type 0} → (is_kind : K → K → Bool) (order : List K) → K → ℕ
position_in is_kind order its = position_or_len (is_kind its) order

-- a kind may stand after the last: it doesn't come before that in the order, and nothing stands after the end
abbrev pub follows_in : {K : Type 0} → (is_kind : K → K → Bool) (order : List K) (end : K) → (last : Option K) → K → Bool
follows_in is_kind order end None its = true
follows_in is_kind order end (Some last) its = nat_le (position_in is_kind order last) (position_in is_kind order its) && not (is_kind end last)
