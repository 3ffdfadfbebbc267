-- The posts of a case of a row without a link: the table of the orders as it stands where no row has a link and nothing is narrowed.
use Rattle.std.specs.Prelude.{◌≡◌, ℕ, Bool, IfSome, ◌-◌, ◌%◌, true, false, nat_eq, Option, Some, None, Ok, Err, if◌then◌else◌}
use Rattle.std.specs.Option.{IsSomeAnd}
use Rattle.ags_word.specs.Operation.{sum, difference, negative, size, left_shift, product_high, product_rounded, quotient, long_left_high, long_right_high}
use Rattle.ags_isa.specs.declared.orders.Order.{Order}
use Rattle.ags_isa.specs.declared.orders.Order.TheVariants.{Abs, Add, Adz, Als, Axt, Cla, Clz, Com, Dly, Dvp, Inp, Ldq, Lls, Lrs, Mpr, Mpy, Mpz, Out, Sto, Stq, Sub, Suz, Tix, Tmi, Tov, Tra, Tsq}
use Rattle.ags_isa.specs.declared.decoding.Decoded.{Decoded}
use Rattle.ags_isa.specs.Naming.{order_word, IsDecoding}
use Rattle.ags_ports.specs.Effect.{effective_at}
use Rattle.ags_ports.specs.Port.{position_of}
use Rattle.ags_domain.specs.Domain.{Meaning, IsPart, is_negative, is_not_negative}
use Rattle.ags_domain.specs.Hull.{IsInterval, no_cell}
use Rattle.ags_domain.specs.Candidates.{sum_candidates, difference_candidates, sign_candidates, left_shift_candidates, product_candidates, long_left_candidates, quotient_candidates}
use Rattle.ags_row.specs.Limit.{input_limit}
use Rattle.ags_row.specs.declared.posts.Post.{Post}
use Rattle.ags_safe.specs.Case.{Case, next_of_row}
use Rattle.ags_safe.specs.Told.{OneWord, These}
use Rattle.ags_safe.specs.Line.{Line, cell_in_case, IsPostOf}
use Rattle.ags_safe.specs.Posts.{Outcome, IsSingle, pair_of, HasPort, Stores, Computes, ComputesWith, IsStored, IsGiven, IsCleared, loads, frees_q, unlinks}
use Rattle.ags_safe.specs.declared.answers.PostPair.{PostPair}
use Rattle.ags_safe.specs.declared.answers.Stop.TheVariants.{NoOrder}

-- what a post says of the machine without its link
abbrev pub without_link : {D : Type 0} → Post D → Post D
without_link post = record post { link = None }

-- what may be a post, so
abbrev pub some_without_link : {D : Type 0} → Option (Post D) → Option (Post D)
some_without_link (Some post) = Some (without_link post)
some_without_link None = None

-- two posts, so
abbrev pub pair_without_link : {D : Type 0} → PostPair D → PostPair D
pair_without_link pair = record { first = some_without_link pair.first; second = some_without_link pair.second }

-- posts, so, or the same stop
abbrev pub outcome_without_link : {D : Type 0} → Outcome D → Outcome D
outcome_without_link (Ok pair) = Ok (pair_without_link pair)
outcome_without_link (Err stop) = Err stop

-- no post narrows a cell
abbrev pub AreNotNarrowed : {D : Type 0} → PostPair D → Type 0
AreNotNarrowed pair = IfSome pair.first (λ post. post.narrowed ≡ None) × IfSome pair.second (λ post. post.narrowed ≡ None)

module _ {D : Type 0} (meaning : Meaning D) (c : Case D) where
  -- the post of a part of A is what the line says with that part, and there is none where there is no part
  abbrev pub IsPlainPart : Line D → Option D → Option (Post D) → Type 0
  IsPlainPart line None post = post ≡ None
  IsPlainPart line (Some part) post = IsSomeAnd post (IsPostOf meaning c (record line { a = These part }))

  -- the post for those words of A that a test chooses
  abbrev pub IsPlainWhere : (ℕ → Bool) → Line D → Option (Post D) → Type 0
  IsPlainWhere chosen line post = (part : Option D) × IsPart meaning chosen c.row.a part × IsPlainPart line part post

  -- the order goes by one line where A is negative, and by another one where it isn't
  abbrev pub IsPlainSplit : (taken other : Line D) → Outcome D → Type 0
  IsPlainSplit taken other (Ok pair) = (first : Option (Post D)) × (second : Option (Post D))
      × IsPlainWhere is_negative taken first × IsPlainWhere is_not_negative other second × (pair ≡ pair_of meaning c first second)
  IsPlainSplit taken other (Err stop) = ⊥

  -- what an order leaves at an address y, where e is the address that it acts on
  abbrev pub IsPlainPosts : Order → (e y : ℕ) → Outcome D → Type 0
  IsPlainPosts Cla e y outcome = IsSingle meaning c (loads meaning c e) outcome
  IsPlainPosts Ldq e y outcome = IsSingle meaning c (record (unlinks meaning c) { q = cell_in_case c e }) outcome
  IsPlainPosts Sto e y outcome = Stores meaning c e (IsStored meaning c e (These c.row.a) (unlinks meaning c)) outcome
  IsPlainPosts Stq e y outcome = Stores meaning c e (IsStored meaning c e (These c.row.q) (unlinks meaning c)) outcome
  IsPlainPosts Add e y outcome = ComputesWith meaning c sum sum_candidates e (λ _. unlinks meaning c) (IsSingle meaning c) outcome
  IsPlainPosts Sub e y outcome = ComputesWith meaning c difference difference_candidates e (λ _. unlinks meaning c) (IsSingle meaning c) outcome
  IsPlainPosts Com e y outcome = Computes meaning c negative sign_candidates no_cell (unlinks meaning c) (IsSingle meaning c) outcome
  IsPlainPosts Abs e y outcome = Computes meaning c size sign_candidates no_cell (unlinks meaning c) (IsSingle meaning c) outcome
  IsPlainPosts Als e y outcome = Computes meaning c (left_shift (y % 64)) left_shift_candidates no_cell (unlinks meaning c) (IsSingle meaning c) outcome
  IsPlainPosts Dvp e y outcome = ComputesWith meaning c quotient quotient_candidates e (λ _. unlinks meaning c) (IsSingle meaning c) outcome
  IsPlainPosts Mpy e y outcome = ComputesWith meaning c product_high product_candidates e (λ _. frees_q meaning c) (IsSingle meaning c) outcome
  IsPlainPosts Mpr e y outcome = ComputesWith meaning c product_rounded product_candidates e (λ _. frees_q meaning c) (IsSingle meaning c) outcome
  IsPlainPosts Lls e y outcome = Computes meaning c (long_left_high (y % 64)) long_left_candidates no_cell (frees_q meaning c) (IsSingle meaning c) outcome
  IsPlainPosts Lrs e y outcome = (d : D) × IsInterval meaning (long_right_high (y % 64)) (meaning.ends c.row.a) no_cell d
      × IsSingle meaning c (record (frees_q meaning c) { a = These d }) outcome
  IsPlainPosts Clz e y outcome = Stores meaning c e (IsCleared meaning c e (loads meaning c e)) outcome
  IsPlainPosts Adz e y outcome = Stores meaning c e (ComputesWith meaning c sum sum_candidates e (λ _. unlinks meaning c) (IsCleared meaning c e)) outcome
  IsPlainPosts Suz e y outcome = Stores meaning c e (ComputesWith meaning c difference difference_candidates e (λ _. unlinks meaning c) (IsCleared meaning c e)) outcome
  IsPlainPosts Mpz e y outcome = Stores meaning c e (ComputesWith meaning c product_rounded product_candidates e (λ _. frees_q meaning c) (IsCleared meaning c e)) outcome
  IsPlainPosts Tra e y outcome = IsSingle meaning c (record (unlinks meaning c) { next = e }) outcome
  IsPlainPosts Tmi e y outcome = IsPlainSplit (record (unlinks meaning c) { next = e }) (unlinks meaning c) outcome
  IsPlainPosts Tov e y outcome = IsSingle meaning c (if c.indicator then (record (unlinks meaning c) { next = e; v0 = true; v1 = false }) else unlinks meaning c) outcome
  IsPlainPosts Tix e y outcome = IsSingle meaning c (if nat_eq c.index 0 then unlinks meaning c else (record (unlinks meaning c) { next = y; x = c.index - 1 })) outcome
  IsPlainPosts Axt e y outcome = IsSingle meaning c (record (unlinks meaning c) { x = y % 8 }) outcome
  IsPlainPosts Tsq e y outcome = IsSingle meaning c (record (unlinks meaning c) { next = e; q = OneWord (order_word c.machine.codes Tra false (next_of_row c.row)) }) outcome
  IsPlainPosts Inp e y outcome = HasPort meaning c (position_of c.machine.ports.inputs y)
      (IsSingle meaning c (record (unlinks meaning c) { a = These (input_limit c.limits y) })) outcome
  IsPlainPosts Out e y outcome = HasPort meaning c (position_of c.machine.ports.outputs y) (IsGiven meaning c y (unlinks meaning c)) outcome
  IsPlainPosts Dly e y outcome = IsSingle meaning c (record (unlinks meaning c) { next = y }) outcome

  -- by what the case's word was read as
  abbrev pub IsPlainOfWord : Option Decoded → Outcome D → Type 0
  IsPlainOfWord (Some decoded) outcome =
      IsPlainPosts decoded.order (effective_at c.index decoded.order decoded.indexed decoded.address) decoded.address outcome
  IsPlainOfWord None outcome = outcome ≡ Err NoOrder

  -- the posts of the case, or its stop
  abbrev pub IsPlainOfCase : Outcome D → Type 0
  IsPlainOfCase outcome = (named : Option Decoded) × IsDecoding c.machine.codes c.word named × IsPlainOfWord named outcome
