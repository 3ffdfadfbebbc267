-- What is checked of a certificate in which no row has a link, by the table of orders without links. Nothing is asked of a link, and
-- no post narrows a cell.
use Rattle.std.specs.Prelude.{◌≡◌, ℕ, ◌<◌, Bool, true, List, All, Any, Option, Some, Ok, IfSome, unwrap_or}
use Rattle.ags_domain.specs.Domain.{Meaning, IsWithin}
use Rattle.ags_domain.specs.WordSet.{lists}
use Rattle.ags_domain.specs.declared.word_sets.WordSet.{WordSet}
use Rattle.ags_image.specs.Image.{entry_at}
use Rattle.ags_ports.specs.declared.machines.Machine.{Machine}
use Rattle.ags_row.specs.Flag.{has_flag, indicator_number}
use Rattle.ags_row.specs.Limit.{Limiting, cell_limit}
use Rattle.ags_row.specs.Cover.{cell_value, value_if}
use Rattle.ags_row.specs.declared.posts.Post.{Post}
use Rattle.ags_row.specs.declared.rows.Row.{Row}
use Rattle.ags_safe.specs.Case.{Case, case_of, IsCode}
use Rattle.ags_safe.specs.PlainCase.{IsPlainOfCase}
use Rattle.ags_safe.specs.declared.answers.PostPair.{PostPair}
use Rattle.ags_safe.specs.Certificate.{Certificate}
use Rattle.ags_safe.specs.Start.{IsStartWord}
use Rattle.ags_safe.specs.Accepted.{IsFirstHeld}

-- what an erasable cell may hold after a post: what was stored there, else the order's own word, else what the row says
abbrev pub plain_value : {D : Type 0} → Row D → Limiting D → Post D → ℕ → D
plain_value base limits post address = unwrap_or (value_if post.stored address) (unwrap_or (value_if post.code address) (cell_value base limits address))

-- the target is a row at the post's location, and it holds A, Q, the index, each indicator and each cell that it names
pub record PlainlyCovers {D : Type 0} (meaning : Meaning D) (target base : Row D) (post : Post D) (limits : Limiting D) : Type 0 where
  pub location : target.location ≡ post.next
  pub a : IsWithin meaning post.a target.a
  pub q : IsWithin meaning post.q target.q
  pub index : has_flag target.x post.x ≡ true
  pub clear : post.v0 ≡ true → has_flag target.v 0 ≡ true
  pub set : post.v1 ≡ true → has_flag target.v 1 ≡ true
  pub cells : All (λ at. IsWithin meaning (plain_value base limits post at.address) at.value) target.at

-- a row at the start that holds A, Q, the index and the indicator at 0, and each word that may stand at the start in its cells
pub record PlainlyHoldsStart {D : Type 0} (meaning : Meaning D) (image : List (Option ℕ)) (cert : Certificate D) (row : Row D) : Type 0 where
  pub location : row.location ≡ cert.start
  pub a : meaning.held row.a 0 ≡ true
  pub q : meaning.held row.q 0 ≡ true
  pub index : has_flag row.x 0 ≡ true
  pub indicator : has_flag row.v 0 ≡ true
  pub cells : All (λ at. (word : ℕ) → IsStartWord meaning image cert at.address word → meaning.held at.value word ≡ true) row.at

-- some one row of the certificate covers a post of a case
abbrev pub IsPlainlyCovered : {D : Type 0} → Meaning D → Certificate D → Row D → Post D → Type 0
IsPlainlyCovered meaning cert row post = Any (λ target. PlainlyCovers meaning target row post cert.limits) cert.rows

-- the case has posts, and each of them is covered
abbrev pub IsCasePlainlyAccepted : {D : Type 0} → Meaning D → Certificate D → Case D → Type 0
IsCasePlainlyAccepted {D} meaning cert c = (pair : PostPair D) × IsPlainOfCase meaning c (Ok pair)
    × IfSome pair.first (IsPlainlyCovered meaning cert c.row) × IfSome pair.second (IsPlainlyCovered meaning cert c.row)

-- a row has a code, and each case of it is accepted
pub record IsRowPlainlyAccepted {D : Type 0} (meaning : Meaning D) (machine : Machine) (image : List (Option ℕ)) (cert : Certificate D) (row : Row D) : Type 0 where
  pub code : WordSet
  pub is_code : IsCode meaning image cert.limits row (Some code)
  pub cases : (word index : ℕ) (indicator : Bool) → lists code.list word ≡ true → has_flag row.x index ≡ true
      → has_flag row.v (indicator_number indicator) ≡ true
      → IsCasePlainlyAccepted meaning cert (case_of machine image cert.limits row word index indicator)

-- The certificate is accepted for the image on the machine, by the table without links.
pub record PlainlyAccepted {D : Type 0} (meaning : Meaning D) (machine : Machine) (image : List (Option ℕ)) (cert : Certificate D) : Type 0 where
  pub first_words : (address : ℕ) → address < 2048 → IsFirstHeld meaning (cell_limit cert.limits address) (entry_at image address) (cert.init address)
  pub start : Any (PlainlyHoldsStart meaning image cert) cert.rows
  pub rows : All (IsRowPlainlyAccepted meaning machine image cert) cert.rows
