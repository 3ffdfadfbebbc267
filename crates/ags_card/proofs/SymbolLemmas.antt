-- A symbol, and the six bytes that hold it.
use Rattle.std.proofs.Common.{◌≡◌, ℕ, ◌<◌, ◌≤◌, ◌&&◌, ◌||◌, Bool, true, false, not, List, [], ◌∷◌, length, take, refl, arith}
use Rattle.std.specs.Prelude.{nat_lt}
use Rattle.std.specs.List.{list_all}
use Rattle.std.proofs.lemmas.Bool.{and_parts}
use Rattle.std.proofs.lemmas.Bool.Decides.{nat_tests}
use Rattle.ags_decimal.specs.Spelling.{is_digit}
use Rattle.ags_card.specs.Symbol.{is_capital, is_symbol, IsSymbol}
use Rattle.ags_card.specs.Padding.{padded}

-- a text of six bytes at most is the front of its six bytes
pub take-padded : (text : List ℕ) → length text ≤ 6 → take (length text) (padded text) ≡ text
unfolding padded
take-padded [] few = refl
take-padded (a ∷ []) few = refl
take-padded (a ∷ b ∷ []) few = refl
take-padded (a ∷ b ∷ c ∷ []) few = refl
take-padded (a ∷ b ∷ c ∷ d ∷ []) few = refl
take-padded (a ∷ b ∷ c ∷ d ∷ e ∷ []) few = refl
take-padded (a ∷ b ∷ c ∷ d ∷ e ∷ f ∷ []) few = refl
take-padded (a ∷ b ∷ c ∷ d ∷ e ∷ f ∷ g ∷ text) few = absurd (omega arith)

not_true : (b : Bool) → not b ≡ true → b ≡ false
not_true true is = (cc)
not_true false is = refl

pub is_symbol-IsSymbol : (text : List ℕ) → is_symbol text ≡ true → IsSymbol text
unfolding is_symbol
is_symbol-IsSymbol text is =
    let bytes = and_parts (list_all (λ b. is_capital b || is_digit b) text) (not (list_all is_digit text) && (nat_lt 0 (length text) && nat_lt (length text) 7)) is in
    let capital = and_parts (not (list_all is_digit text)) (nat_lt 0 (length text) && nat_lt (length text) 7) bytes.1 in
    let counts = and_parts (nat_lt 0 (length text)) (nat_lt (length text) 7) capital.1 in
    record { some = grind (arith, nat_tests, counts.0); most = grind (arith, nat_tests, counts.1); bytes = bytes.0; capital = not_true _ capital.0 }

pub IsSymbol-is_symbol : (text : List ℕ) → IsSymbol text → is_symbol text ≡ true
unfolding is_symbol
IsSymbol-is_symbol text symbol = rw (symbol.bytes, symbol.capital) (counts (length text) symbol.some symbol.most)
  where
    counts : (n : ℕ) → 0 < n → n ≤ 6 → (nat_lt 0 n && nat_lt n 7) ≡ true
    counts n some most = grind (arith, nat_tests)
