-- The line that what comes of a budget is printed as. A location is four octal digits, other numbers are plain decimals.
use Rattle.std.specs.Prelude.{ℕ, List, [], ◌++◌, codes, Option, Some, None}
use Rattle.std.specs.Fmt.{decimal}
use Rattle.ags_verdict.specs.CaseText.{case_text}
use Rattle.ags_text.specs.Numeral.{octal4_text}
use Rattle.ags_budget.specs.declared.answers.Timed.{Timed}
use Rattle.ags_budget.specs.declared.answers.Timed.TheVariants.{Within, Unsafe, Over}

-- the location of a post, where there is one
abbrev pub next_text : Option ℕ → List ℕ
next_text None = codes "----"
next_text (Some location) = octal4_text location

-- The greatest bound, or the first late case with what it needs; and nothing where the certificate isn't accepted, which its verdict
-- tells. Without a line feed.
abbrev pub timed_text : Timed → List ℕ
timed_text (Within rows cases greatest) = codes "WITHIN " ++ decimal greatest
timed_text (Unsafe told) = []
timed_text (Over row word x v next needs bound) =
    codes "OVER " ++ case_text row word x v ++ codes " NEXT " ++ next_text next ++ codes " NEEDS " ++ decimal needs ++ codes " BOUND " ++ decimal bound
