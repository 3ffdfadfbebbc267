-- Each case has posts or a stop. Behind the law of the same name is
--     some_posts    the outcome of a case
use Rattle.std.proofs.Common.{◌≡◌, ℕ, ◌/◌, ◌%◌, ◌<◌, ◌^◌, Bool, true, false, refl, sym, arith, List, ℤ, ◌+ℤ◌}
use Rattle.std.specs.Prelude.{◌-◌, ◌==◌, nat_eq, Option, Some, None, IfSome, Result, Ok, Err, MatchBool, neg_ℤ, if◌then◌else◌}
use Rattle.ags_word.specs.Word.{val}
use Rattle.ags_word.specs.Operation.{Operation, sum, difference, negative, size, left_shift, product_high, product_rounded, quotient, long_left_high}
use Rattle.ags_isa.specs.declared.orders.Order.{Order}
use Rattle.ags_isa.specs.declared.orders.Order.TheVariants.{Abs, Add, Adz, Als, Axt, Cla, Clz, Com, Dly, Dvp, Inp, Ldq, Lls, Lrs, Mpr, Mpy, Mpz, Out, Sto, Stq, Sub, Suz, Tix, Tmi, Tov, Tra, Tsq}
use Rattle.ags_isa.specs.declared.decoding.Decoded.{Decoded}
use Rattle.ags_isa.specs.Code.{AreCodes, code_of, order_of}
use Rattle.ags_isa.specs.Naming.{order_word, IsDecoding}
use Rattle.ags_isa.proofs.CodeLemmas.{order_of-found, order_of-code}
use Rattle.ags_isa.proofs.WordLemmas.{code_over, code_names, order_word-below}
use Rattle.ags_ports.specs.Effect.{effective_at}
use Rattle.ags_ports.specs.Machine.{IsMachine}
use Rattle.ags_ports.specs.Port.{position_of}
use Rattle.ags_image.specs.Image.{IsImage, word_at}
use Rattle.ags_domain.specs.Domain.{Ends, IsPart, IsWithin, is_negative, is_not_negative}
use Rattle.ags_domain.specs.Hull.{no_cell}
use Rattle.ags_domain.specs.Candidates.{sum_candidates, difference_candidates, sign_candidates, left_shift_candidates, product_candidates, long_left_candidates, quotient_candidates}
use Rattle.ags_domain.specs.Value.{value_meaning, value_ends}
use Rattle.ags_domain.specs.declared.operands.Operands.{Operands}
use Rattle.ags_domain.specs.declared.values.Value.{Value}
use Rattle.ags_domain.proofs.HullLaws.{AreEnds}
use Rattle.ags_row.specs.Limit.{cell_limit, input_limit, output_limit, is_named}
use Rattle.ags_row.specs.Cover.{cell_value}
use Rattle.ags_row.specs.declared.links.Link.{Link}
use Rattle.ags_row.specs.declared.posts.Post.{Post}
use Rattle.ags_safe.specs.Case.{Case, next_of_row, is_erasable}
use Rattle.ags_safe.specs.Told.{Told, OneWord, These, EveryWord, IsTold}
use Rattle.ags_safe.specs.Linked.{link_to, link_beside}
use Rattle.ags_safe.specs.Line.{Line, moves_on, cell_in_case, code_cell, IsPostOf}
use Rattle.ags_safe.specs.Posts.{Outcome, IsSingle, IsPostLeft, IsPostLinked, IsPostOfPart, IsPostWhere, pair_of, IsSplit, HasPort, Stores, Decides, Computes, ComputesWith, IsStored, IsGiven, IsCleared, loads, frees_q, unlinks, grows_by, IsPosts, IsPostsOfWord, IsPostsOfCase}
use Rattle.ags_safe.specs.declared.answers.PostPair.{PostPair}
use Rattle.ags_safe.specs.declared.answers.Stop.{Stop}
use Rattle.ags_safe.specs.declared.answers.Stop.TheVariants.{NoOrder, BadPort, FixedWrite, MayOverflow, CellRange, OutputRange}
use Rattle.ags_check.proofs.OperationLemmas.{HasAnswer, ends_are, sum_answer, difference_answer, high_answer, rounded_answer, quotient_answer, negative_answer, size_answer, left_answer, long_left_answer, long_right_interval}
use Rattle.ags_check.proofs.ToldLemmas.{CanBeTold, some_told, CanBeStored, some_cell, negative_part, rest_part, part_inside, is_within}

-- ---- what a word was read as

named_by : (table : List ℕ) (word : ℕ) → AreCodes table → (found : Option Order) → order_of table (word / 2 ^ 13) ≡ found
    → IfSome found (λ order. code_of table order ≡ word / 2 ^ 13) → (named : Option Decoded) × IsDecoding table word named
named_by table word are None none is = (
  None,
  λ order indexed address names.
      let some = order_of-code table (word / 2 ^ 13) are order (sym (code_over table word order indexed address names)) in
      cc,
)
named_by table word are (Some order) found is =
    let names = code_names table word order (sym is) in
    (Some (record { order = order; indexed = names.0; address = word % 2 ^ 12 }), names.1)

some_decoding : (table : List ℕ) (word : ℕ) → AreCodes table → (named : Option Decoded) × IsDecoding table word named
some_decoding table word are = named_by table word are (order_of table (word / 2 ^ 13)) refl (order_of-found table (word / 2 ^ 13))

-- ---- lines that can be told

abbrev CanBeLine : Line Value → Type 0
CanBeLine line = CanBeTold line.a × CanBeTold line.q × CanBeStored line.stored × CanBeStored line.narrowed

module _ (c : Case Value) (is_machine : IsMachine c.machine) (is_image : IsImage c.image) (word_is : c.word < 2 ^ 18) where
  abbrev HasOutcome : (Outcome Value → Type 0) → Type 0
  HasOutcome follows = (outcome : Outcome Value) × follows outcome

  code_can : CanBeStored (code_cell c)
  code_can = by (is_erasable c.row.location)
    where
      by : (b : Bool) → CanBeStored (if b then Some (record { address = c.row.location; value = OneWord c.word }) else None)
      by true = word_is
      by false = tt

  cell_can : (e : ℕ) → CanBeTold (cell_in_case c e)
  cell_can e = by (is_erasable e) (e == c.row.location)
    where
      by : (b d : Bool) → CanBeTold (if b then (if d then OneWord c.word else These (cell_value c.row c.limits e)) else OneWord (word_at c.image e))
      by true true = word_is
      by true false = tt
      by false d = is_image.words e

  moves_can : CanBeLine (moves_on c)
  moves_can = (tt, tt, tt, tt)

  loads_can : (e : ℕ) → CanBeLine (loads value_meaning c e)
  loads_can e = (cell_can e, tt, tt, tt)

  frees_can : CanBeLine (frees_q value_meaning c)
  frees_can = (tt, tt, tt, tt)

  -- ---- posts

  some_post : (line : Line Value) → CanBeLine line → (post : Post Value) × IsPostOf value_meaning c line post
  some_post line can =
      let a = some_told line.a can.0 in
      let q = some_told line.q can.1 in
      let stored = some_cell line.stored can.2 in
      let code = some_cell (code_cell c) code_can in
      let narrowed = some_cell line.narrowed can.3 in (
        record { next = line.next; a = a.0; q = q.0; x = line.x; v0 = line.v0; v1 = line.v1; stored = stored.0; code = code.0; narrowed = narrowed.0; link = line.link },
        record { next = refl; a = a.1; q = q.1; x = refl; v0 = refl; v1 = refl; stored = stored.1; code = code.1; narrowed = narrowed.1; link = refl },
      )

  some_pair : (line : Line Value) → CanBeLine line → (pair : PostPair Value) × IsSingle value_meaning c line (Ok pair)
  some_pair line can =
      let post = some_post line can in
      (record { first = Some post.0; second = None }, (post.1, refl))

  single : (line : Line Value) → CanBeLine line → HasOutcome (IsSingle value_meaning c line)
  single line can = let pair = some_pair line can in (Ok pair.0, pair.1)

  -- a post that may be there
  abbrev HasPost : (Option (Post Value) → Type 0) → Type 0
  HasPost follows = (post : Option (Post Value)) × follows post

  post_left : (line : Line Value) → CanBeLine line → (address : ℕ) (left : Option Value) → HasPost (IsPostLeft value_meaning c line address left)
  post_left line can address None = (None, refl)
  post_left line can address (Some left) =
      let post = some_post (record line { narrowed = Some (record { address = address; value = These left }) }) (can.0, can.1, can.2, tt) in
      (Some post.0, post.1)

  post_linked : (link : Option Link) (ends : Ends) (line : Line Value) → CanBeLine line → HasPost (IsPostLinked value_meaning c link ends line)
  post_linked None ends line can = let post = some_post line can in (Some post.0, post.1)
  post_linked (Some link) ends line can =
      let m = some_told (cell_in_case c link.address) (cell_can link.address) in
      let left = part_inside (val ends.least +ℤ link.offset) (val ends.greatest +ℤ link.offset) m.0 in
      let post = post_left line can link.address left.0 in
      (post.0, (m.0, m.1, left.0, left.1, post.1))

  post_of_part : (line : Line Value) → CanBeLine line → (part : Option Value) → HasPost (IsPostOfPart value_meaning c line part)
  post_of_part line can None = (None, refl)
  post_of_part line can (Some part) =
      post_linked c.row.link (value_ends part) (record line { a = These part }) (tt, can.1, can.2, can.3)

  post_where : (chosen : ℕ → Bool) (line : Line Value) → CanBeLine line → (part : Option Value) → IsPart value_meaning chosen c.row.a part
      → HasPost (IsPostWhere value_meaning c chosen line)
  post_where chosen line can part is = let post = post_of_part line can part in (post.0, (part, is, post.1))

  splits : (taken other : Line Value) → CanBeLine taken → CanBeLine other → HasOutcome (IsSplit value_meaning c taken other)
  splits taken other taken_can other_can =
      let low = negative_part c.row.a in
      let high = rest_part c.row.a in
      let first = post_where is_negative taken taken_can low.0 low.1 in
      let second = post_where is_not_negative other other_can high.0 high.1 in
      (Ok (pair_of value_meaning c first.0 second.0), (first.0, second.0, first.1, second.1, refl))

  -- ---- stops

  with_port : (position : Option ℕ) (follows : Outcome Value → Type 0) → HasOutcome follows → HasOutcome (HasPort value_meaning c position follows)
  with_port None follows found = (Err BadPort, refl)
  with_port (Some position) follows found = found

  matched : (b : Bool) (follows : Outcome Value → Type 0) (stop : Stop Value) → HasOutcome follows
      → HasOutcome (λ outcome. MatchBool b (follows outcome) (outcome ≡ Err stop))
  matched true follows stop found = found
  matched false follows stop found = (Err stop, refl)

  stores : (e : ℕ) (follows : Outcome Value → Type 0) → HasOutcome follows → HasOutcome (Stores value_meaning c e follows)
  stores e follows found = matched (is_erasable e) follows (FixedWrite e) found

  -- what follows has an outcome at each line that can be told
  abbrev GoesOn : (Line Value → Outcome Value → Type 0) → Type 0
  GoesOn follows = (line : Line Value) → CanBeLine line → HasOutcome (follows line)

  decides : (line : Line Value) (follows : Line Value → Outcome Value → Type 0) → CanBeLine line → GoesOn follows
      → (answer : Result Value Operands) → HasOutcome (Decides value_meaning c line follows answer)
  decides line follows can goes (Ok d) = goes (record line { a = These d }) (tt, can.1, can.2, can.3)
  decides line follows can goes (Err o) = matched (is_named c.limits c.row.location) (follows (record line { a = EveryWord; v1 = true; link = None })) (MayOverflow o)
      (goes (record line { a = EveryWord; v1 = true; link = None }) (tt, can.1, can.2, can.3))

  computes : (operation : Operation) (candidates : Ends → Ends → List Operands) (m_ends : Ends) (line : Line Value)
      (follows : Line Value → Outcome Value → Type 0) → CanBeLine line → GoesOn follows → HasAnswer operation candidates (value_ends c.row.a) m_ends
      → HasOutcome (Computes value_meaning c operation candidates m_ends line follows)
  computes operation candidates m_ends line follows can goes found =
      let decided = decides line follows can goes found.0 in
      (decided.0, (found.0, found.1, decided.1))

  computes_with : (operation : Operation) (candidates : Ends → Ends → List Operands)
      → ((a m : Ends) → AreEnds a → AreEnds m → HasAnswer operation candidates a m) → (e : ℕ) (line_with : Ends → Line Value)
      (follows : Line Value → Outcome Value → Type 0) → ((ends : Ends) → CanBeLine (line_with ends)) → GoesOn follows
      → HasOutcome (ComputesWith value_meaning c operation candidates e line_with follows)
  computes_with operation candidates answers e line_with follows can goes =
      let m = some_told (cell_in_case c e) (cell_can e) in
      let computed = computes operation candidates (value_ends m.0) (line_with (value_ends m.0)) follows (can (value_ends m.0)) goes
      (answers (value_ends c.row.a) (value_ends m.0) (ends_are c.row.a) (ends_are m.0)) in
      (computed.0, (m.0, m.1, computed.1))

  stored_if : (e : ℕ) (told : Told Value) (line : Line Value) → CanBeTold told → CanBeLine line
      → (value : Value) × IsTold value_meaning told value → HasOutcome (IsStored value_meaning c e told line)
  stored_if e told line told_can can value = by (is_within value.0 (cell_limit c.limits e))
    where
      by : Dec (IsWithin value_meaning value.0 (cell_limit c.limits e)) → HasOutcome (IsStored value_meaning c e told line)
      by (yes within) =
          let pair = some_pair (record line { stored = Some (record { address = e; value = told }) }) (can.0, can.1, told_can, can.3) in
          (Ok pair.0, (value.0, value.1, within, pair.1))
      by (no out) = (Err (CellRange e value.0), (value.0, value.1, out, refl))

  stored : (e : ℕ) (told : Told Value) (line : Line Value) → CanBeTold told → CanBeLine line → HasOutcome (IsStored value_meaning c e told line)
  stored e told line told_can can = stored_if e told line told_can can (some_told told told_can)

  given : (y : ℕ) (line : Line Value) → CanBeLine line → HasOutcome (IsGiven value_meaning c y line)
  given y line can = by (is_within c.row.a (output_limit c.limits y))
    where
      by : Dec (IsWithin value_meaning c.row.a (output_limit c.limits y)) → HasOutcome (IsGiven value_meaning c y line)
      by (yes within) = let pair = some_pair line can in (Ok pair.0, (within, pair.1))
      by (no out) = (Err (OutputRange y c.row.a), (out, refl))

  cleared : (e : ℕ) → GoesOn (IsCleared value_meaning c e)
  cleared e line can = stored e (OneWord 0) line (omega arith) can

  -- one of two lines
  single_if : (b : Bool) (line other : Line Value) → CanBeLine line → CanBeLine other → HasOutcome (IsSingle value_meaning c (if b then line else other))
  single_if true line other can also = single line can
  single_if false line other can also = single other also

  -- ---- the table

  tsq_below : order_word c.machine.codes Tra false (next_of_row c.row) < 2 ^ 18
  tsq_below = order_word-below c.machine.codes is_machine.codes Tra false (next_of_row c.row) (omega arith)

  of_order : (order : Order) (e y : ℕ) → HasOutcome (IsPosts value_meaning c order e y)
  of_order Cla e y = single (record (loads value_meaning c e) { link = link_to e }) (loads_can e)
  of_order Ldq e y = single (record (moves_on c) { q = cell_in_case c e }) (tt, cell_can e, tt, tt)
  of_order Sto e y = stores e (IsStored value_meaning c e (These c.row.a) (record (moves_on c) { link = link_to e }))
      (stored e (These c.row.a) (record (moves_on c) { link = link_to e }) tt moves_can)
  of_order Stq e y = stores e (IsStored value_meaning c e (These c.row.q) (record (moves_on c) { link = link_beside c.row.link e }))
      (stored e (These c.row.q) (record (moves_on c) { link = link_beside c.row.link e }) tt moves_can)
  of_order Add e y = computes_with sum sum_candidates sum_answer e (grows_by value_meaning c (λ n. n)) (IsSingle value_meaning c) (λ ends. moves_can) single
  of_order Sub e y = computes_with difference difference_candidates difference_answer e (grows_by value_meaning c neg_ℤ) (IsSingle value_meaning c) (λ ends. moves_can) single
  of_order Com e y = computes negative sign_candidates no_cell (unlinks value_meaning c) (IsSingle value_meaning c) moves_can single
      (negative_answer (value_ends c.row.a) (ends_are c.row.a))
  of_order Abs e y = computes size sign_candidates no_cell (unlinks value_meaning c) (IsSingle value_meaning c) moves_can single
      (size_answer (value_ends c.row.a) (ends_are c.row.a))
  of_order Als e y = computes (left_shift (y % 64)) left_shift_candidates no_cell (unlinks value_meaning c) (IsSingle value_meaning c) moves_can single
      (left_answer (value_ends c.row.a) (ends_are c.row.a) (y % 64))
  of_order Dvp e y = computes_with quotient quotient_candidates quotient_answer e (λ ends. unlinks value_meaning c) (IsSingle value_meaning c) (λ ends. moves_can) single
  of_order Mpy e y = computes_with product_high product_candidates high_answer e (λ ends. frees_q value_meaning c) (IsSingle value_meaning c) (λ ends. frees_can) single
  of_order Mpr e y = computes_with product_rounded product_candidates rounded_answer e (λ ends. frees_q value_meaning c) (IsSingle value_meaning c) (λ ends. frees_can) single
  of_order Lls e y = computes (long_left_high (y % 64)) long_left_candidates no_cell (frees_q value_meaning c) (IsSingle value_meaning c) frees_can single
      (long_left_answer (value_ends c.row.a) (ends_are c.row.a) (y % 64))
  of_order Lrs e y =
      let d = long_right_interval (value_ends c.row.a) (ends_are c.row.a) (y % 64) in
      let found = single (record (frees_q value_meaning c) { a = These d.0 }) (tt, tt, tt, tt) in
      (found.0, (d.0, d.1, found.1))
  of_order Clz e y = stores e (IsCleared value_meaning c e (loads value_meaning c e)) (cleared e (loads value_meaning c e) (loads_can e))
  of_order Adz e y = stores e (ComputesWith value_meaning c sum sum_candidates e (λ ends. unlinks value_meaning c) (IsCleared value_meaning c e))
      (computes_with sum sum_candidates sum_answer e (λ ends. unlinks value_meaning c) (IsCleared value_meaning c e) (λ ends. moves_can) (cleared e))
  of_order Suz e y = stores e (ComputesWith value_meaning c difference difference_candidates e (λ ends. unlinks value_meaning c) (IsCleared value_meaning c e))
      (computes_with difference difference_candidates difference_answer e (λ ends. unlinks value_meaning c) (IsCleared value_meaning c e) (λ ends. moves_can) (cleared e))
  of_order Mpz e y = stores e (ComputesWith value_meaning c product_rounded product_candidates e (λ ends. frees_q value_meaning c) (IsCleared value_meaning c e))
      (computes_with product_rounded product_candidates rounded_answer e (λ ends. frees_q value_meaning c) (IsCleared value_meaning c e) (λ ends. frees_can) (cleared e))
  of_order Tra e y = single (record (moves_on c) { next = e }) (tt, tt, tt, tt)
  of_order Tmi e y = splits (record (moves_on c) { next = e }) (moves_on c) (tt, tt, tt, tt) moves_can
  of_order Tov e y = single_if c.indicator (record (moves_on c) { next = e; v0 = true; v1 = false }) (moves_on c) (tt, tt, tt, tt) moves_can
  of_order Tix e y = single_if (nat_eq c.index 0) (moves_on c) (record (moves_on c) { next = y; x = c.index - 1 }) moves_can (tt, tt, tt, tt)
  of_order Axt e y = single (record (moves_on c) { x = y % 8 }) (tt, tt, tt, tt)
  of_order Tsq e y = single (record (moves_on c) { next = e; q = OneWord (order_word c.machine.codes Tra false (next_of_row c.row)) }) (tt, tsq_below, tt, tt)
  of_order Inp e y = with_port (position_of c.machine.ports.inputs y) (IsSingle value_meaning c (record (unlinks value_meaning c) { a = These (input_limit c.limits y) }))
      (single (record (unlinks value_meaning c) { a = These (input_limit c.limits y) }) (tt, tt, tt, tt))
  of_order Out e y = with_port (position_of c.machine.ports.outputs y) (IsGiven value_meaning c y (moves_on c)) (given y (moves_on c) moves_can)
  of_order Dly e y = single (record (moves_on c) { next = y }) (tt, tt, tt, tt)

  of_word : (named : Option Decoded) → HasOutcome (IsPostsOfWord value_meaning c named)
  of_word (Some decoded) =
      of_order decoded.order (effective_at c.index decoded.order decoded.indexed decoded.address) decoded.address
  of_word None = (Err NoOrder, refl)

  pub some_posts : (outcome : Outcome Value) × IsPostsOfCase value_meaning c outcome
  some_posts =
      let named = some_decoding c.machine.codes c.word is_machine.codes in
      let found = of_word named.0 in
      (found.0, (named.0, named.1, found.1))
