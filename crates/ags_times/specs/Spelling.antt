-- How the lines of a text of times are spelled: forwards from what a line states to the lines that state it.
use Rattle.std.specs.Prelude.{ℕ, List, [], ◌∷◌, codes}
use Rattle.ags_text.specs.Field.{HasFields}
use Rattle.ags_text.specs.Numeral.{IsDecimal}
use Rattle.ags_times.specs.declared.lines.RowBound.{RowBound}
use Rattle.ags_times.specs.declared.lines.TimesLine.{TimesLine}
use Rattle.ags_times.specs.declared.lines.TimesLine.TheVariants.{Bound, End}

-- the line has the keyword TIME and two counts of one to five digits, the row's number and its bound
pub record StatesBound (line : List ℕ) (its : RowBound) : Type 0 where
  pub row : List ℕ
  pub bound : List ℕ
  pub row_is : IsDecimal 5 row its.row
  pub bound_is : IsDecimal 5 bound its.bound
  pub fields : HasFields line (codes "TIME" ∷ row ∷ bound ∷ [])

-- the line states this
abbrev pub States : List ℕ → TimesLine → Type 0
States line (Bound its) = StatesBound line its
States line End = HasFields line (codes "END" ∷ [])
