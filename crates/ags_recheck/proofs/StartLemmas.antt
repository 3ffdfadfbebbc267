-- Whether a row holds the start, by the number that is found.
use Rattle.std.proofs.Common.{◌≡◌, ℕ, true, false, List}
use Rattle.std.specs.Prelude.{Option, Some, None, is_some, Any, ⊤}
use Rattle.ags_domain.specs.declared.values.Value.{Value}
use Rattle.ags_row.specs.declared.rows.Row.{Row}
use Rattle.ags_check.specs.Finding.{IsFound}

module _ (P : Row Value → Type 0) (rows : List (Row Value)) where
  pub has_where_some : (found : Option ℕ) → IsFound (λ n row. P row × ⊤) rows found → is_some found ≡ true → Any P rows
  has_where_some (Some number) is some = (is.0, is.1, is.2, is.3, is.4.0)
  has_where_some None is some = absurd cc

  pub has_not_where_none : (found : Option ℕ) → IsFound (λ n row. P row × ⊤) rows found → is_some found ≡ false → ¬ Any P rows
  has_not_where_none (Some number) is none = absurd cc
  has_not_where_none None is none = λ any. is (any.0, any.1, any.2, any.3, (any.4, tt))
