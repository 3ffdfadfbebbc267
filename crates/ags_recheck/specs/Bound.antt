-- How many steps an edit may take.
use Rattle.std.specs.Prelude.{◌≡◌, ℕ, ◌+◌, ◌-◌, ◌⊎◌, List, [], ◌∷◌, Option, Result, Ok, Err, slice_index_or}
use Rattle.ags_domain.specs.Value.{value_meaning}
use Rattle.ags_domain.specs.declared.values.Value.{Value}
use Rattle.ags_ports.specs.declared.machines.Machine.{Machine}
use Rattle.ags_row.specs.Limit.{Limiting}
use Rattle.ags_row.specs.declared.rows.Row.{Row}
use Rattle.ags_verdict.specs.Locality.{HasPostAt}
use Rattle.ags_verdict.specs.Counting.{HasCases, HaveCases}
use Rattle.ags_certtype.specs.declared.edit_errors.EditError.{EditError}
use Rattle.ags_check.specs.Judging.{Judging}
use Rattle.ags_edits.specs.declared.edits.Edit.{Edit}
use Rattle.ags_edits.specs.declared.edits.Edit.TheVariants as edit

module _ (machine : Machine) (image : List (Option ℕ)) (limits : Limiting Value) where
  -- those of the rows that have a post at one of two locations have so many cases together
  abbrev pub HaveCasesAt : (one other : ℕ) → List (Row Value) → ℕ → Type 0
  HaveCasesAt one other [] number = number ≡ 0
  HaveCasesAt one other (row ∷ rows) number = (rest : ℕ) × HaveCasesAt one other rows rest
      × (((HasPostAt value_meaning machine image limits row one ⊎ HasPostAt value_meaning machine image limits row other)
      × (own : ℕ) × HasCases value_meaning image limits row own × (number ≡ own + rest))
      ⊎ ((¬ HasPostAt value_meaning machine image limits row one) × (¬ HasPostAt value_meaning machine image limits row other) × (number ≡ rest)))

-- A new row may take as many steps as it has cases, and as many as those rows have that had a post at the old or the new location
-- before the edit.
pub record IsMostOfRow (old new : Judging) (number : ℕ) (row : Row Value) (most : ℕ) : Type 0 where
  pub own : ℕ
  pub has_own : HasCases value_meaning new.image new.cert.limits row own
  pub others : ℕ
  pub have_others : HaveCasesAt old.machine old.image old.cert.limits (slice_index_or old.cert.rows (number - 1) row).location row.location old.cert.rows others
  pub most_is : most ≡ own + others

-- The most steps that an edit may take: none where it is refused, as many as the edited certificate has cases where another word or
-- another limit stands, and where another row stands, as that says.
abbrev pub IsMost : (old : Judging) → Edit → Result Unit EditError → (new : Judging) → (most : ℕ) → Type 0
IsMost old (edit.Row number row) (Ok done) new most = IsMostOfRow old new number row most
IsMost old edit (Ok done) new most = HaveCases value_meaning new.image new.cert.limits new.cert.rows most
IsMost old edit (Err told) new most = most ≡ 0
