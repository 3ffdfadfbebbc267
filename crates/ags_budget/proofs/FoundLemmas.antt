-- The rows that are found, by their numbers.
use Rattle.std.proofs.Common.{◌≡◌, ℕ, ◌+◌, ◌<◌, ◌≤◌, Bool, true, false, sym, subst, ◌∙◌, ⊎_elim, List, Some}
use Rattle.std.specs.Prelude.{IsTrue}
use Rattle.std.proofs.lemmas.Bool.{cases_lt}
use Rattle.ags_domain.specs.Value.{value_meaning}
use Rattle.ags_domain.specs.declared.values.Value.{Value}
use Rattle.ags_row.specs.declared.posts.Post.{Post}
use Rattle.ags_row.specs.declared.rows.Row.{Row}
use Rattle.ags_safe.specs.Certificate.{Certificate}
use Rattle.ags_check.specs.Finding.{IsFound, IsCover, IsCoveredBy}
use Rattle.ags_budget.specs.Timing.{IsLeastBound, IsPostInTime}

-- a test that fails
pub fails : {P : Type 0} (b : Bool) → (P → IsTrue b) → b ≡ false → P → ⊥
fails b says is p = let both : true ≡ false = sym (says p) ∙ is in cc

module _ (cert : Certificate Value) (base : Row Value) (post : Post Value) where
  -- a row that is found, by its number
  pub by_number : (serves : ℕ → Type 0) (number : ℕ) → IsFound (IsCover value_meaning cert serves base post) cert.rows (Some number)
      → IsCoveredBy value_meaning cert (λ n. n ≡ number) base post × serves number
  by_number serves number is = ((is.0, is.1, is.2, is.3, (is.4.0, sym is.5)), is.4.1)

  -- what is so of the number of a covering row
  pub serving : (serves : ℕ → Type 0) (number : ℕ) → IsCoveredBy value_meaning cert (λ n. n ≡ number) base post → serves number
      → IsCoveredBy value_meaning cert serves base post
  serving serves number is so = (is.0, is.1, is.2, is.3, (is.4.0, subst serves (sym is.4.1) so))

  module _ (bounds : List ℕ) (bound time least : ℕ) (is : IsLeastBound value_meaning cert bounds base post least) where
    -- where the bound leaves none of a covering row, it doesn't leave the least
    pub least_is_late : (IsPostInTime value_meaning cert bounds bound time base post → ⊥) → bound < time + least
    least_is_late late = ⊎_elim
        (λ less. less)
        (λ left. absurd (late (is.some.0, is.some.1, is.some.2, is.some.3, (is.some.4.0, subst (λ (n : ℕ). time + n ≤ bound) (sym is.some.4.1) left))))
        (cases_lt bound (time + least))
