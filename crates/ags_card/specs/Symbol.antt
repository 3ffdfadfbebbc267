-- What a source may name a value by: a symbol.
use Rattle.std.specs.Prelude.{ℕ, ◌≡◌, ◌<◌, ◌≤◌, Bool, ◌&&◌, ◌||◌, nat_lt, List, length, not, IsTrue, false}
use Rattle.std.specs.List.{list_all}
use Rattle.ags_decimal.specs.Spelling.{is_digit}

-- a capital letter
abbrev pub is_capital : ℕ → Bool
is_capital b = nat_lt 64 b && nat_lt b 91

-- one to six capitals and digits, which are not all digits
unfoldable pub is_symbol : List ℕ → Bool
is_symbol text = list_all (λ b. is_capital b || is_digit b) text && (not (list_all is_digit text) && (nat_lt 0 (length text) && nat_lt (length text) 7))

-- the text is a symbol: one to six bytes, each a capital or a digit, and one of them a capital
pub record IsSymbol (text : List ℕ) : Type 0 where
  pub some : 0 < length text
  pub most : length text ≤ 6
  pub bytes : IsTrue (list_all (λ b. is_capital b || is_digit b) text)
  pub capital : list_all is_digit text ≡ false
