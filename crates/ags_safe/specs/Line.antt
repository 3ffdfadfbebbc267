-- Lines: what an order leaves of a case, as a table of the orders says it.
use Rattle.std.specs.Prelude.{◌≡◌, ◌==◌, ℕ, Bool, not, Option, Some, None, if◌then◌else◌}
use Rattle.ags_domain.specs.Domain.{Meaning}
use Rattle.ags_image.specs.Image.{word_at}
use Rattle.ags_row.specs.Cover.{cell_value}
use Rattle.ags_row.specs.declared.links.Link.{Link}
use Rattle.ags_row.specs.declared.posts.Post.{Post}
use Rattle.ags_safe.specs.Case.{Case, next_of_row, is_erasable}
use Rattle.ags_safe.specs.Told.{Told, OneWord, These, IsTold, Store, AreCellsTold}

-- where the order goes, what A and Q may then hold, the index, whether the indicator may be clear and whether it may be set, the
-- store that it makes, the cell that a test of A tells of, and the link that then holds
pub record Line (D : Type 0) : Type 0 where
  pub next : ℕ
  pub a : Told D
  pub q : Told D
  pub x : ℕ
  pub v0 : Bool
  pub v1 : Bool
  pub stored : Option (Store D)
  pub narrowed : Option (Store D)
  pub link : Option Link

-- all stays as it is in the case, and the order at the next location follows
abbrev pub moves_on : {D : Type 0} → Case D → Line D
moves_on c = record {
  next = next_of_row c.row;
  a = These c.row.a;
  q = These c.row.q;
  x = c.index;
  v0 = not c.indicator;
  v1 = c.indicator;
  stored = None;
  narrowed = None;
  link = c.row.link;
}

-- What the cell at an address may hold in a case: the case's word where it is that which is run from, an erasable one; what the
-- row says of any other erasable one; and of a fixed one the image's word.
abbrev pub cell_in_case : {D : Type 0} → Case D → ℕ → Told D
cell_in_case c address = if is_erasable address
    then (if address == c.row.location then OneWord c.word else These (cell_value c.row c.limits address))
    else OneWord (word_at c.image address)

-- the cell that is run from, where it is an erasable one: it holds the case's word
abbrev pub code_cell : {D : Type 0} → Case D → Option (Store D)
code_cell c = if is_erasable c.row.location then Some (record { address = c.row.location; value = OneWord c.word }) else None

-- the post is what the line says of the case
pub record IsPostOf {D : Type 0} (meaning : Meaning D) (c : Case D) (line : Line D) (post : Post D) : Type 0 where
  pub next : post.next ≡ line.next
  pub a : IsTold meaning line.a post.a
  pub q : IsTold meaning line.q post.q
  pub x : post.x ≡ line.x
  pub v0 : post.v0 ≡ line.v0
  pub v1 : post.v1 ≡ line.v1
  pub stored : AreCellsTold meaning line.stored post.stored
  pub code : AreCellsTold meaning (code_cell c) post.code
  pub narrowed : AreCellsTold meaning line.narrowed post.narrowed
  pub link : post.link ≡ line.link
