-- Which cases keep the tags that the rows state.
use Rattle.std.specs.Prelude.{◌≡◌, ℕ, ◌⊎◌, List, Option, Some, None, Result, Ok, Err, IfSome}
use Rattle.ags_isa.specs.declared.orders.Order.{Order}
use Rattle.ags_isa.specs.declared.decoding.Decoded.{Decoded}
use Rattle.ags_isa.specs.Naming.{IsDecoding}
use Rattle.ags_domain.specs.Domain.{Meaning}
use Rattle.ags_ports.specs.Effect.{effective_at}
use Rattle.ags_row.specs.declared.posts.Post.{Post}
use Rattle.ags_row.specs.declared.rows.Row.{Row}
use Rattle.ags_safe.specs.Case.{Case}
use Rattle.ags_safe.specs.Posts.{IsPostsOfCase}
use Rattle.ags_safe.specs.declared.answers.PostPair.{PostPair}
use Rattle.ags_safe.specs.Certificate.{Certificate}
use Rattle.ags_check.specs.Finding.{SomeRow, IsStartRow, IsCoveredBy}
use Rattle.ags_tags.specs.declared.tags.RowTags.{RowTags}
use Rattle.ags_tags.specs.Tag.{Scaling, tags_of_row}
use Rattle.ags_scale.specs.RowChange.{DoesToTags, TakesTags, HoldsRaw}
use Rattle.ags_scale.specs.declared.answers.Meeting.{Meeting}
use Rattle.ags_scale.specs.declared.answers.TagFault.{TagFault}
use Rattle.ags_scale.specs.declared.answers.TagFault.TheVariants.{Mixes, Loses}

-- the case's word is read as this order, whose address is y and which acts on the address e
pub record IsOrderAt {D : Type 0} (c : Case D) (order : Order) (e y : ℕ) : Type 0 where
  pub read : Decoded
  pub is_read : IsDecoding c.machine.codes c.word (Some read)
  pub order_is : order ≡ read.order
  pub acts_on : e ≡ effective_at c.index read.order read.indexed read.address
  pub address : y ≡ read.address

-- what the case's order makes of tags
abbrev pub AreTagsOfCase : {D : Type 0} → Scaling → Case D → RowTags → Result RowTags Meeting → Type 0
AreTagsOfCase scales c tags outcome = (order : Order) × (e : ℕ) × (y : ℕ) × IsOrderAt c order e y × DoesToTags scales order e y tags outcome

module _ {D : Type 0} (meaning : Meaning D) (cert : Certificate D) (scales : Scaling) where
  -- some one row covers the post and takes the tags
  abbrev pub IsTaken : RowTags → Row D → Post D → Type 0
  IsTaken tags base post = IsCoveredBy meaning cert (λ number. TakesTags (tags_of_row scales number) tags) base post

  -- the post that may be there is there, and no one row takes it with the tags
  abbrev pub IsLost : RowTags → Row D → Option (Post D) → (next : ℕ) → Type 0
  IsLost tags base None next = ⊥
  IsLost tags base (Some post) next = (¬ IsTaken tags base post) × (next ≡ post.next)

  -- the first post of two that is lost
  abbrev pub IsFirstLost : RowTags → Row D → PostPair D → (next : ℕ) → Type 0
  IsFirstLost tags base pair next = IsLost tags base pair.first next ⊎ (IfSome pair.first (IsTaken tags base) × IsLost tags base pair.second next)

  -- each post is taken
  abbrev pub AreTaken : RowTags → Row D → PostPair D → Type 0
  AreTaken tags base pair = IfSome pair.first (IsTaken tags base) × IfSome pair.second (IsTaken tags base)

  -- A case of the row with a number keeps the tags: those that the order makes of the row's are taken with each post.
  pub record KeepsRowTags (number : ℕ) (c : Case D) : Type 0 where
    pub tags : RowTags
    pub are_tags : AreTagsOfCase scales c (tags_of_row scales number) (Ok tags)
    pub pair : PostPair D
    pub posts : IsPostsOfCase meaning c (Ok pair)
    pub taken : AreTaken tags c.row pair

  -- It mixes them: two meet and aren't equal.
  pub record MixesRowTags (number : ℕ) (c : Case D) (told : TagFault) : Type 0 where
    pub two : Meeting
    pub are_tags : AreTagsOfCase scales c (tags_of_row scales number) (Err two)
    pub is : told ≡ Mixes c.word c.index c.indicator two

  -- It loses them: with those that the order makes of the row's a post isn't taken.
  pub record LosesRowTags (number : ℕ) (c : Case D) (told : TagFault) : Type 0 where
    pub tags : RowTags
    pub are_tags : AreTagsOfCase scales c (tags_of_row scales number) (Ok tags)
    pub pair : PostPair D
    pub posts : IsPostsOfCase meaning c (Ok pair)
    pub next : ℕ
    pub lost : IsFirstLost tags c.row pair next
    pub is : told ≡ Loses c.word c.index c.indicator next

  -- what comes of a case of the row with a number
  abbrev pub IsCaseTagged : (number : ℕ) → Case D → Result ℕ TagFault → Type 0
  IsCaseTagged number c (Ok count) = KeepsRowTags number c × (count ≡ 1)
  IsCaseTagged number c (Err told) = MixesRowTags number c told ⊎ LosesRowTags number c told

  -- some one row holds the start, and raw for A and Q
  abbrev pub IsStartTagged : List (Option ℕ) → Type 0
  IsStartTagged image = SomeRow (IsStartRow meaning image cert (λ number. HoldsRaw (tags_of_row scales number))) cert.rows
