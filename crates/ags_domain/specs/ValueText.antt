-- How a value is printed, which is its form in a certificate.
use Rattle.std.specs.Prelude.{ℕ, ◌^◌, Bool, ◌&&◌, eqb, List, [], ◌∷◌, ◌++◌, codes, if◌then◌else◌}
use Rattle.std.specs.Fmt.{signed_decimal}
use Rattle.ags_text.specs.Numeral.{octal6_text}
use Rattle.ags_word.specs.Word.{val}
use Rattle.ags_domain.specs.LowBits.{all_ones}
use Rattle.ags_domain.specs.Domain.{Ends}
use Rattle.ags_domain.specs.Range.{range_ends}
use Rattle.ags_domain.specs.declared.values.Value.{Value}
use Rattle.ags_domain.specs.declared.values.Value.TheVariants.{Range, Words}

-- the ends of the range of all words
abbrev pub are_full : Ends → Bool
are_full ends = eqb ends.least (2 ^ 17) && eqb ends.greatest all_ones

-- a range: its two values as plain decimals, or that it is full
abbrev pub ends_text : Ends → List ℕ
ends_text ends = if are_full ends
    then codes "ANY"
    else (codes "RANGE " ++ signed_decimal (val ends.least) ++ codes " " ++ signed_decimal (val ends.greatest))

-- words of six octal digits, a blank before each
abbrev pub words_text : List ℕ → List ℕ
words_text [] = []
words_text (word ∷ words) = codes " " ++ octal6_text word ++ words_text words

abbrev pub value_text : Value → List ℕ
value_text (Range range) = ends_text (range_ends range)
value_text (Words set) = codes "WORDS" ++ words_text set.list
