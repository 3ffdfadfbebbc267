-- The posts of a case, or why the checker stops at it. What a row of the table doesn't name is as in the case. The stops are
-- nested in the order in which they are tested.
use Rattle.std.specs.Prelude.{◌≡◌, ℕ, ◌-◌, ◌%◌, Bool, true, false, nat_eq, ℤ, ◌+ℤ◌, neg_ℤ, List, Option, Some, None, Result, Ok, Err, MatchBool, if◌then◌else◌}
use Rattle.std.specs.Option.{IsSomeAnd}
use Rattle.ags_word.specs.Word.{val}
use Rattle.ags_word.specs.Operation.{Operation, sum, difference, negative, size, left_shift, product_high, product_rounded, quotient, long_left_high, long_right_high}
use Rattle.ags_isa.specs.declared.orders.Order.{Order}
use Rattle.ags_isa.specs.declared.orders.Order.TheVariants.{Abs, Add, Adz, Als, Axt, Cla, Clz, Com, Dly, Dvp, Inp, Ldq, Lls, Lrs, Mpr, Mpy, Mpz, Out, Sto, Stq, Sub, Suz, Tix, Tmi, Tov, Tra, Tsq}
use Rattle.ags_isa.specs.declared.decoding.Decoded.{Decoded}
use Rattle.ags_isa.specs.Naming.{order_word, IsDecoding}
use Rattle.ags_ports.specs.Effect.{effective_at}
use Rattle.ags_ports.specs.Port.{position_of}
use Rattle.ags_domain.specs.Domain.{Ends, Meaning, IsWithin, IsPart, is_negative, is_not_negative, has_value_between}
use Rattle.ags_domain.specs.Hull.{Answers, IsInterval, no_cell}
use Rattle.ags_domain.specs.Candidates.{sum_candidates, difference_candidates, sign_candidates, left_shift_candidates, product_candidates, long_left_candidates, quotient_candidates}
use Rattle.ags_domain.specs.declared.operands.Operands.{Operands}
use Rattle.ags_row.specs.Limit.{cell_limit, input_limit, output_limit, is_named}
use Rattle.ags_row.specs.declared.links.Link.{Link}
use Rattle.ags_row.specs.declared.posts.Post.{Post}
use Rattle.ags_safe.specs.Case.{Case, next_of_row, is_erasable}
use Rattle.ags_safe.specs.Told.{Told, OneWord, These, EveryWord, IsTold}
use Rattle.ags_safe.specs.Linked.{link_to, link_with, link_beside}
use Rattle.ags_safe.specs.Line.{Line, moves_on, cell_in_case, IsPostOf}
use Rattle.ags_safe.specs.declared.answers.PostPair.{PostPair}
use Rattle.ags_safe.specs.declared.answers.Stop.{Stop}
use Rattle.ags_safe.specs.declared.answers.Stop.TheVariants.{NoOrder, BadPort, FixedWrite, MayOverflow, CellRange, OutputRange}

-- the posts, or the stop
abbrev pub Outcome : Type 0 → Type 0
Outcome D = Result (PostPair D) (Stop D)

module _ {D : Type 0} (meaning : Meaning D) (c : Case D) where
  -- ---- posts

  -- the one post is what the line says
  abbrev pub IsSingle : Line D → Outcome D → Type 0
  IsSingle line (Ok pair) = IsSomeAnd pair.first (IsPostOf meaning c line) × (pair.second ≡ None)
  IsSingle line (Err stop) = ⊥

  -- what is left of a linked cell is narrowed in the post; there is no post where nothing is left
  abbrev pub IsPostLeft : Line D → ℕ → Option D → Option (Post D) → Type 0
  IsPostLeft line address None post = post ≡ None
  IsPostLeft line address (Some left) post =
      IsSomeAnd post (IsPostOf meaning c (record line { narrowed = Some (record { address = address; value = These left }) }))

  -- The post of a line whose A lies between two ends. In a row with a link the cell keeps of its words in the case those that the
  -- link lets it have with such an A.
  abbrev pub IsPostLinked : Option Link → Ends → Line D → Option (Post D) → Type 0
  IsPostLinked None ends line post = IsSomeAnd post (IsPostOf meaning c line)
  IsPostLinked (Some link) ends line post = (m : D) × IsTold meaning (cell_in_case c link.address) m × (left : Option D)
      × IsPart meaning (has_value_between (val ends.least +ℤ link.offset) (val ends.greatest +ℤ link.offset)) m left
      × IsPostLeft line link.address left post

  -- the post of a part of A is what the line says with that part, and there is none where there is no part
  abbrev pub IsPostOfPart : Line D → Option D → Option (Post D) → Type 0
  IsPostOfPart line None post = post ≡ None
  IsPostOfPart line (Some part) post = IsPostLinked c.row.link (meaning.ends part) (record line { a = These part }) post

  -- the post for those words of A that a test chooses
  abbrev pub IsPostWhere : (ℕ → Bool) → Line D → Option (Post D) → Type 0
  IsPostWhere chosen line post = (part : Option D) × IsPart meaning chosen c.row.a part × IsPostOfPart line part post

  -- two posts as a pair: a single one is the first
  abbrev pub pair_of : Option (Post D) → Option (Post D) → PostPair D
  pair_of None second = record { first = second; second = None }
  pair_of (Some first) second = record { first = Some first; second = second }

  -- the order goes by one line where A is negative, and by another one where it isn't
  abbrev pub IsSplit : (taken other : Line D) → Outcome D → Type 0
  IsSplit taken other (Ok pair) = (first : Option (Post D)) × (second : Option (Post D))
      × IsPostWhere is_negative taken first × IsPostWhere is_not_negative other second × (pair ≡ pair_of first second)
  IsSplit taken other (Err stop) = ⊥

  -- ---- stops

  -- there is a register at the position that was looked up, and then this follows; else the port is bad
  abbrev pub HasPort : Option ℕ → (Outcome D → Type 0) → Outcome D → Type 0
  HasPort None follows outcome = outcome ≡ Err BadPort
  HasPort (Some position) follows outcome = follows outcome

  -- a store goes to an erasable cell, and then this follows; one to a fixed cell is a stop
  abbrev pub Stores : ℕ → (Outcome D → Type 0) → Outcome D → Type 0
  Stores e follows outcome = MatchBool (is_erasable e) (follows outcome) (outcome ≡ Err (FixedWrite e))

  -- A is what the domain answers, and the line with it follows. Where the domain has operands that overflow instead, a named place
  -- goes on with any A and without a link, and the indicator may be set; any other place is a stop.
  abbrev pub Decides : Line D → (Line D → Outcome D → Type 0) → Result D Operands → Outcome D → Type 0
  Decides line follows (Ok d) outcome = follows (record line { a = These d }) outcome
  Decides line follows (Err o) outcome = MatchBool (is_named c.limits c.row.location)
      (follows (record line { a = EveryWord; v1 = true; link = None }) outcome)
      (outcome ≡ Err (MayOverflow o))

  -- an operation is made on A and a cell between two ends: the least interval of all new A is what is answered
  abbrev pub Computes : Operation → (Ends → Ends → List Operands) → Ends → Line D → (Line D → Outcome D → Type 0) → Outcome D → Type 0
  Computes operation candidates m_ends line follows outcome = (answer : Result D Operands)
      × Answers meaning operation candidates (meaning.ends c.row.a) m_ends answer × Decides line follows answer outcome

  -- so it is with the cell at an address; the line may ask for the ends of what the cell holds
  abbrev pub ComputesWith : Operation → (Ends → Ends → List Operands) → ℕ → (Ends → Line D) → (Line D → Outcome D → Type 0) → Outcome D → Type 0
  ComputesWith operation candidates e line_with follows outcome = (m : D) × IsTold meaning (cell_in_case c e) m
      × Computes operation candidates (meaning.ends m) (line_with (meaning.ends m)) follows outcome

  -- the one post is what the line says with a store; what is stored is within the cell's limit, or else it is a stop
  abbrev pub IsStored : ℕ → Told D → Line D → Outcome D → Type 0
  IsStored e told line (Ok pair) = (value : D) × IsTold meaning told value × IsWithin meaning value (cell_limit c.limits e)
      × IsSingle (record line { stored = Some (record { address = e; value = told }) }) (Ok pair)
  IsStored e told line (Err stop) = (value : D) × IsTold meaning told value × (¬ IsWithin meaning value (cell_limit c.limits e))
      × (stop ≡ CellRange e value)

  -- the one post is what the line says; A is within the output register's limit, or else it is a stop
  abbrev pub IsGiven : ℕ → Line D → Outcome D → Type 0
  IsGiven y line (Ok pair) = IsWithin meaning c.row.a (output_limit c.limits y) × IsSingle line (Ok pair)
  IsGiven y line (Err stop) = (¬ IsWithin meaning c.row.a (output_limit c.limits y)) × (stop ≡ OutputRange y c.row.a)

  -- ---- what the clearing orders share with the plain ones

  -- no link holds any more
  abbrev pub unlinks : Line D
  unlinks = record (moves_on c) { link = None }

  -- A is what the cell holds
  abbrev pub loads : ℕ → Line D
  loads e = record unlinks { a = cell_in_case c e }

  -- Q may hold any word
  abbrev pub frees_q : Line D
  frees_q = record unlinks { q = EveryWord }

  -- A grows by a number that the cell's one word gives
  abbrev pub grows_by : (ℤ → ℤ) → Ends → Line D
  grows_by grows m_ends = record (moves_on c) { link = link_with c.row.link grows m_ends }

  -- what is stored is 0
  abbrev pub IsCleared : ℕ → Line D → Outcome D → Type 0
  IsCleared e line outcome = IsStored e (OneWord 0) line outcome

  -- ---- the table

  -- What an order leaves at an address y, where e is the address that it acts on.
  abbrev pub IsPosts : Order → (e y : ℕ) → Outcome D → Type 0
  -- A, or Q, is the value of the cell. A that is loaded is linked to the cell.
  IsPosts Cla e y outcome = IsSingle (record (loads e) { link = link_to e }) outcome
  IsPosts Ldq e y outcome = IsSingle (record (moves_on c) { q = cell_in_case c e }) outcome
  -- A, or Q, is stored. A that is stored is linked to the cell; Q takes the cell's place in a link.
  IsPosts Sto e y outcome = Stores e (IsStored e (These c.row.a) (record (moves_on c) { link = link_to e })) outcome
  IsPosts Stq e y outcome = Stores e (IsStored e (These c.row.q) (record (moves_on c) { link = link_beside c.row.link e })) outcome
  -- A is the least interval of the results. A sum or difference with one word keeps the link, with another offset.
  IsPosts Add e y outcome = ComputesWith sum sum_candidates e (grows_by (λ n. n)) IsSingle outcome
  IsPosts Sub e y outcome = ComputesWith difference difference_candidates e (grows_by neg_ℤ) IsSingle outcome
  IsPosts Com e y outcome = Computes negative sign_candidates no_cell unlinks IsSingle outcome
  IsPosts Abs e y outcome = Computes size sign_candidates no_cell unlinks IsSingle outcome
  IsPosts Als e y outcome = Computes (left_shift (y % 64)) left_shift_candidates no_cell unlinks IsSingle outcome
  IsPosts Dvp e y outcome = ComputesWith quotient quotient_candidates e (λ _. unlinks) IsSingle outcome
  -- So it is, and Q may hold any word.
  IsPosts Mpy e y outcome = ComputesWith product_high product_candidates e (λ _. frees_q) IsSingle outcome
  IsPosts Mpr e y outcome = ComputesWith product_rounded product_candidates e (λ _. frees_q) IsSingle outcome
  IsPosts Lls e y outcome = Computes (long_left_high (y % 64)) long_left_candidates no_cell frees_q IsSingle outcome
  IsPosts Lrs e y outcome = (d : D) × IsInterval meaning (long_right_high (y % 64)) (meaning.ends c.row.a) no_cell d
      × IsSingle (record frees_q { a = These d }) outcome
  -- As CLA, ADD, SUB and MPR, and the cell is cleared.
  IsPosts Clz e y outcome = Stores e (IsCleared e (loads e)) outcome
  IsPosts Adz e y outcome = Stores e (ComputesWith sum sum_candidates e (λ _. unlinks) (IsCleared e)) outcome
  IsPosts Suz e y outcome = Stores e (ComputesWith difference difference_candidates e (λ _. unlinks) (IsCleared e)) outcome
  IsPosts Mpz e y outcome = Stores e (ComputesWith product_rounded product_candidates e (λ _. frees_q) (IsCleared e)) outcome
  -- It goes to e.
  IsPosts Tra e y outcome = IsSingle (record (moves_on c) { next = e }) outcome
  -- It goes to e with the negative part of A, and on with the rest; a linked cell is narrowed.
  IsPosts Tmi e y outcome = IsSplit (record (moves_on c) { next = e }) (moves_on c) outcome
  -- Where the indicator is set, it goes to e and the indicator is clear.
  IsPosts Tov e y outcome = IsSingle (if c.indicator then (record (moves_on c) { next = e; v0 = true; v1 = false }) else moves_on c) outcome
  -- Where the index isn't 0, it is one less, and it goes to y.
  IsPosts Tix e y outcome = IsSingle (if nat_eq c.index 0 then moves_on c else (record (moves_on c) { next = y; x = c.index - 1 })) outcome
  -- The index is y modulo 8.
  IsPosts Axt e y outcome = IsSingle (record (moves_on c) { x = y % 8 }) outcome
  -- Q is the word of TRA to the next location, and it goes to e.
  IsPosts Tsq e y outcome = IsSingle (record (moves_on c) { next = e; q = OneWord (order_word c.machine.codes Tra false (next_of_row c.row)) }) outcome
  -- A is the input register's limit.
  IsPosts Inp e y outcome = HasPort (position_of c.machine.ports.inputs y)
      (IsSingle (record unlinks { a = These (input_limit c.limits y) })) outcome
  -- Nothing else changes.
  IsPosts Out e y outcome = HasPort (position_of c.machine.ports.outputs y) (IsGiven y (moves_on c)) outcome
  -- It goes to y.
  IsPosts Dly e y outcome = IsSingle (record (moves_on c) { next = y }) outcome

  -- what the case's word was read as: an order, at the address that it acts on with the case's index; or no order, which is a stop
  abbrev pub IsPostsOfWord : Option Decoded → Outcome D → Type 0
  IsPostsOfWord (Some decoded) outcome =
      IsPosts decoded.order (effective_at c.index decoded.order decoded.indexed decoded.address) decoded.address outcome
  IsPostsOfWord None outcome = outcome ≡ Err NoOrder

  -- The posts of the case, or its stop.
  abbrev pub IsPostsOfCase : Outcome D → Type 0
  IsPostsOfCase outcome = (named : Option Decoded) × IsDecoding c.machine.codes c.word named × IsPostsOfWord named outcome
