-- What is asked of a row that is sought, with what it takes.
use Rattle.std.specs.Prelude.{ℕ, List, Option}
use Rattle.ags_domain.specs.declared.values.Value.{Value}
use Rattle.ags_row.specs.Limit.{Limiting}
use Rattle.ags_row.specs.declared.posts.Post.{Post}
use Rattle.ags_row.specs.declared.rows.Row.{Row}
use Rattle.ags_certtype.specs.Cert.{Stated}

-- a post of a base row, with the limits; and what the further condition on the covering row takes
pub record Covering (S : Type 0) : Type 0 where
  pub base : Row Value
  pub post : Post Value
  pub limits : Limiting Value
  pub serving : S

-- an image and what a certificate states; and what the further condition on the row at the start takes
pub record Starting (S : Type 0) : Type 0 where
  pub image : List (Option ℕ)
  pub cert : Stated
  pub serving : S
