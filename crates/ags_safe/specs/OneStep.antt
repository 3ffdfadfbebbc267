-- What one step from a state of a case tells and leaves, by the case's posts.
use Rattle.std.specs.Prelude.{◌≡◌, ℕ, ◌<◌, true, false, Option, Some, None, ◌⊎◌, IsSome, IfSome}
use Rattle.ags_domain.specs.Domain.{Meaning}
use Rattle.ags_ports.specs.declared.events.Done.{Done}
use Rattle.ags_ports.specs.declared.events.Stored.{Stored}
use Rattle.ags_ports.specs.Port.{position_of}
use Rattle.ags_ports.specs.State.{State, cell}
use Rattle.ags_row.specs.Limit.{Limiting, cell_limit, output_limit, is_named}
use Rattle.ags_row.specs.Cover.{post_value}
use Rattle.ags_row.specs.declared.rows.Row.{Row}
use Rattle.ags_row.specs.declared.posts.Post.{Post}
use Rattle.ags_safe.specs.Case.{Case}
use Rattle.ags_safe.specs.Linked.{LinkHolds}
use Rattle.ags_safe.specs.InRow.{HasFixedWords}
use Rattle.ags_safe.specs.declared.answers.PostPair.{PostPair}

-- the state is one that the post of a row says: its location, A, Q, index, indicator, every erasable cell, and the link
pub record Agrees {D : Type 0} (meaning : Meaning D) (limits : Limiting D) (row : Row D) (post : Post D) (s : State) : Type 0 where
  pub location : s.location ≡ post.next
  pub a : meaning.held post.a s.a ≡ true
  pub q : meaning.held post.q s.q ≡ true
  pub index : s.index ≡ post.x
  pub clear : s.indicator ≡ false → post.v0 ≡ true
  pub set : s.indicator ≡ true → post.v1 ≡ true
  pub cells : (address : ℕ) → address < 2048 → meaning.held (post_value row limits post address) (cell s address) ≡ true
  pub link : IfSome post.link (LinkHolds s)

-- the post is there, and the state agrees with it
abbrev pub AgreesWith : {D : Type 0} → Meaning D → Limiting D → Row D → Option (Post D) → State → Type 0
AgreesWith meaning limits row None s = ⊥
AgreesWith meaning limits row (Some post) s = Agrees meaning limits row post s

-- the state agrees with one of two posts
abbrev pub AgreesWithOne : {D : Type 0} → Meaning D → Limiting D → Row D → PostPair D → State → Type 0
AgreesWithOne meaning limits row pair s = AgreesWith meaning limits row pair.first s ⊎ AgreesWith meaning limits row pair.second s

-- a store goes to an erasable cell, and its word is one of the cell's limit
abbrev pub IsStoreInLimit : {D : Type 0} → Meaning D → Limiting D → Stored → Type 0
IsStoreInLimit meaning limits stored = (stored.address < 2048) × (meaning.held (cell_limit limits stored.address) stored.word ≡ true)

-- a word is given to an output register, and is one of its limit
abbrev pub IsGivenInLimit : {D : Type 0} → Meaning D → Case D → Stored → Type 0
IsGivenInLimit meaning c gave =
    IsSome (position_of c.machine.ports.outputs gave.address) × (meaning.held (output_limit c.limits gave.address) gave.word ≡ true)

-- One step follows a case's posts: an order ran; the state that it leaves agrees with one of the posts, and its fixed cells hold the
-- image's words; it overflows at a named place only; it stores to no fixed cell; a word is taken from a register and given to one;
-- and the word that is stored, or given, is one of the limit there.
pub record Follows {D : Type 0} (meaning : Meaning D) (c : Case D) (pair : PostPair D) (report : Done) (after : State) : Type 0 where
  pub ran : report.ran ≡ true
  pub agrees : AgreesWithOne meaning c.limits c.row pair after
  pub fixed : HasFixedWords c.image after
  pub overflow : report.overflow ≡ true → is_named c.limits report.location ≡ true
  pub stored : IfSome report.stored (IsStoreInLimit meaning c.limits)
  pub took : IfSome report.took (λ address. IsSome (position_of c.machine.ports.inputs address))
  pub gave : IfSome report.gave (IsGivenInLimit meaning c)
