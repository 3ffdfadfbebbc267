-- How a case is printed: a word is six octal digits, other numbers are plain decimals, and an indicator is 0 or 1.
use Rattle.std.specs.Prelude.{ℕ, Bool, List, ◌++◌, codes, if◌then◌else◌}
use Rattle.std.specs.Fmt.{decimal}
use Rattle.ags_text.specs.Numeral.{octal6_text}

-- a case, by its row, its word, its index and its indicator
abbrev pub case_text : (row word x : ℕ) → Bool → List ℕ
case_text row word x v =
    codes "ROW " ++ decimal row ++ codes " WORD " ++ octal6_text word ++ codes " X " ++ decimal x ++ codes " V " ++ (if v then codes "1" else codes "0")
