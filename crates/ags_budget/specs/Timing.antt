-- Which cases keep the time that their row's bound leaves them.
use Rattle.std.specs.Prelude.{◌≡◌, ℕ, ◌+◌, ◌<◌, ◌≤◌, ◌⊎◌, Bool, true, false, List, Option, Some, None, Result, Ok, Err, IfSome, MatchBool}
use Rattle.ags_isa.specs.declared.orders.Order.{Order}
use Rattle.ags_isa.specs.declared.orders.Order.TheVariants.{Dly}
use Rattle.ags_isa.specs.declared.decoding.Decoded.{Decoded}
use Rattle.ags_isa.specs.Naming.{IsDecoding}
use Rattle.ags_domain.specs.Domain.{Meaning}
use Rattle.ags_ports.specs.Time.{time_of}
use Rattle.ags_row.specs.declared.posts.Post.{Post}
use Rattle.ags_row.specs.declared.rows.Row.{Row}
use Rattle.ags_safe.specs.Case.{Case}
use Rattle.ags_safe.specs.Posts.{IsPostsOfCase}
use Rattle.ags_safe.specs.declared.answers.PostPair.{PostPair}
use Rattle.ags_safe.specs.Certificate.{Certificate}
use Rattle.ags_check.specs.Finding.{IsCoveredBy}
use Rattle.ags_times.specs.Budget.{bound_of}
use Rattle.ags_budget.specs.declared.answers.LateCase.{LateCase}

-- the order is DLY, which ends a cycle
abbrev pub is_dly : Order → Bool
is_dly Dly = true
is_dly order = false

-- the case's word is read as this order
abbrev pub IsOrderOf : {D : Type 0} → Case D → Order → Type 0
IsOrderOf c order = (d : Decoded) × IsDecoding c.machine.codes c.word (Some d) × (d.order ≡ order)

module _ {D : Type 0} (meaning : Meaning D) (cert : Certificate D) (bounds : List ℕ) where
  -- the least bound of the rows that cover a post of a base row: some covering row has it, and none has a lesser one
  pub record IsLeastBound (base : Row D) (post : Post D) (least : ℕ) : Type 0 where
    pub some : IsCoveredBy meaning cert (λ number. bound_of bounds number ≡ least) base post
    pub none : ¬ IsCoveredBy meaning cert (λ number. bound_of bounds number < least) base post

  -- after this time the bound leaves that of some row that covers the post
  abbrev pub IsPostInTime : (bound time : ℕ) → Row D → Post D → Type 0
  IsPostInTime bound time base post = IsCoveredBy meaning cert (λ number. time + bound_of bounds number ≤ bound) base post

  -- it leaves that of none; this is needed at least
  abbrev pub IsPostLate : (bound time : ℕ) → Row D → Post D → (needs : ℕ) → Type 0
  IsPostLate bound time base post needs = (least : ℕ) × IsLeastBound base post least × (needs ≡ time + least) × (bound < needs)

  -- the post that may be there is there and is late, and is told
  abbrev pub IsLate : (bound time : ℕ) → Row D → Option (Post D) → (next : Option ℕ) → (needs : ℕ) → Type 0
  IsLate bound time base None next needs = ⊥
  IsLate bound time base (Some post) next needs = IsPostLate bound time base post needs × (next ≡ Some post.next)

  -- the first post of two that is late
  abbrev pub IsFirstLate : (bound time : ℕ) → Row D → PostPair D → (next : Option ℕ) → (needs : ℕ) → Type 0
  IsFirstLate bound time base pair next needs = IsLate bound time base pair.first next needs
      ⊎ (IfSome pair.first (IsPostInTime bound time base) × IsLate bound time base pair.second next needs)

  -- each post is in time
  abbrev pub ArePostsInTime : (bound time : ℕ) → Row D → PostPair D → Type 0
  ArePostsInTime bound time base pair = IfSome pair.first (IsPostInTime bound time base) × IfSome pair.second (IsPostInTime bound time base)

  -- A case is in time: for DLY the order's time is within the row's bound, for any other order the bound leaves after that time the bound
  -- of a row that covers the post, for each post.
  abbrev pub IsCaseInTime : (number : ℕ) → Case D → Type 0
  IsCaseInTime number c = (order : Order) × IsOrderOf c order × MatchBool (is_dly order)
      (time_of c.machine.times order ≤ bound_of bounds number)
      ((pair : PostPair D) × IsPostsOfCase meaning c (Ok pair) × ArePostsInTime (bound_of bounds number) (time_of c.machine.times order) c.row pair)

  -- A case is late: what it needs, with the first post that needs it, is above the row's bound.
  pub record IsCaseLate (number : ℕ) (c : Case D) (told : LateCase) : Type 0 where
    pub order : Order
    pub is_order : IsOrderOf c order
    pub next : Option ℕ
    pub needs : ℕ
    pub late : MatchBool (is_dly order)
        ((needs ≡ time_of c.machine.times order) × (bound_of bounds number < needs) × (next ≡ None))
        ((pair : PostPair D) × IsPostsOfCase meaning c (Ok pair) × IsFirstLate (bound_of bounds number) (time_of c.machine.times order) c.row pair next needs)
    pub is : told ≡ record { word = c.word; x = c.index; v = c.indicator; next = next; needs = needs; bound = bound_of bounds number }

  -- what comes of a case of the row with a number
  abbrev pub IsCaseTimed : (number : ℕ) → Case D → Result ℕ LateCase → Type 0
  IsCaseTimed number c (Ok count) = IsCaseInTime number c × (count ≡ 1)
  IsCaseTimed number c (Err told) = IsCaseLate number c told
