-- Where posts go, and that they narrow no cell in a row without a link. Behind the laws are
--     posts_go       the posts of a case go to locations of the memory
--     not_narrowed   the posts of a case of a row without a link narrow no cell
use Rattle.std.proofs.Common.{◌≡◌, ℕ, ◌-◌, ◌%◌, ◌<◌, Bool, true, false, refl, sym, subst, arith, List}
use Rattle.std.specs.Prelude.{Option, Some, None, Result, Ok, Err, nat_eq, bit_or, ◌&&◌, IfSome, IfOk, MatchBool, neg_ℤ, if◌then◌else◌}
use Rattle.std.specs.Option.{IsSomeAnd}
use Rattle.std.proofs.lemmas.Nat.{or_lt}
use Rattle.ags_word.specs.Operation.{Operation, sum, difference, negative, size, left_shift, product_high, product_rounded, quotient, long_left_high}
use Rattle.ags_isa.specs.declared.orders.Order.{Order}
use Rattle.ags_isa.specs.declared.orders.Order.TheVariants.{Abs, Add, Adz, Als, Axt, Cla, Clz, Com, Dly, Dvp, Inp, Ldq, Lls, Lrs, Mpr, Mpy, Mpz, Out, Sto, Stq, Sub, Suz, Tix, Tmi, Tov, Tra, Tsq}
use Rattle.ags_isa.specs.declared.decoding.Decoded.{Decoded}
use Rattle.ags_isa.specs.Naming.{order_word, IsDecoding}
use Rattle.ags_ports.specs.Effect.{counts_index, effective_at}
use Rattle.ags_ports.specs.Port.{position_of}
use Rattle.ags_domain.specs.Domain.{Ends, Meaning}
use Rattle.ags_domain.specs.Hull.{no_cell}
use Rattle.ags_domain.specs.Candidates.{sum_candidates, difference_candidates, sign_candidates, left_shift_candidates, product_candidates, long_left_candidates, quotient_candidates}
use Rattle.ags_domain.specs.declared.operands.Operands.{Operands}
use Rattle.ags_row.specs.Limit.{input_limit, is_named}
use Rattle.ags_row.specs.declared.ats.At.{At}
use Rattle.ags_row.specs.declared.links.Link.{Link}
use Rattle.ags_row.specs.declared.posts.Post.{Post}
use Rattle.ags_safe.specs.Case.{Case, next_of_row, is_erasable}
use Rattle.ags_safe.specs.Told.{Told, OneWord, These, EveryWord, Store, AreCellsTold}
use Rattle.ags_safe.specs.Linked.{link_to, link_beside}
use Rattle.ags_safe.specs.Line.{Line, moves_on, cell_in_case, IsPostOf}
use Rattle.ags_safe.specs.Posts.{Outcome, IsSingle, IsPostLeft, IsPostLinked, IsPostOfPart, pair_of, IsSplit, HasPort, Stores, Decides, Computes, ComputesWith, IsStored, IsGiven, IsCleared, loads, frees_q, unlinks, grows_by, IsPosts, IsPostsOfWord, IsPostsOfCase}
use Rattle.ags_safe.specs.Going.{GoWithin}
use Rattle.ags_safe.specs.PlainCase.{AreNotNarrowed}
use Rattle.ags_safe.specs.declared.answers.PostPair.{PostPair}
use Rattle.ags_safe.specs.declared.answers.Stop.{Stop}

module _ {D : Type 0} (meaning : Meaning D) (c : Case D) where
  -- a line goes to a location of the memory, and narrows no cell
  abbrev IsFineLine : Line D → Type 0
  IsFineLine line = (line.next < 4096) × (line.narrowed ≡ None)

  -- a post goes to a location of the memory, and narrows no cell in a row without a link
  abbrev IsFine : Post D → Type 0
  IsFine post = (post.next < 4096) × (c.row.link ≡ None → post.narrowed ≡ None)

  -- so do two posts
  abbrev AreFine : PostPair D → Type 0
  AreFine pair = IfSome pair.first IsFine × IfSome pair.second IsFine

  -- what is said of an outcome lets its posts do so
  abbrev Goes : (Outcome D → Type 0) → Type 0
  Goes follows = (pair : PostPair D) → follows (Ok pair) → AreFine pair

  none_told : (store : Option (Store D)) (cell : Option (At D)) → AreCellsTold meaning store cell → store ≡ None → cell ≡ None
  none_told store None told none = refl
  none_told None (Some cell) told none = absurd told
  none_told (Some store) (Some cell) told none = absurd cc

  -- a post of a line goes where the line says
  some_goes : (line : Line D) (post : Option (Post D)) → IsFineLine line → IsSomeAnd post (IsPostOf meaning c line) → IfSome post IsFine
  some_goes line None below is = absurd is
  some_goes line (Some post) below is =
      (subst (λ (n : ℕ). n < 4096) (sym is.next) below.0, λ none. none_told line.narrowed post.narrowed is.narrowed below.1)

  none_goes : (post : Option (Post D)) → post ≡ None → IfSome post IsFine
  none_goes post is = subst (λ (o : Option (Post D)). IfSome o IsFine) (sym is) tt

  single_goes : (line : Line D) → IsFineLine line → Goes (IsSingle meaning c line)
  single_goes line below pair is = (some_goes line pair.first below is.0, none_goes pair.second is.1)

  -- a post in a row with a link goes where its line says
  linked_post_goes : (line : Line D) (post : Option (Post D)) → line.next < 4096 → (c.row.link ≡ None → ⊥)
      → IsSomeAnd post (IsPostOf meaning c line) → IfSome post IsFine
  linked_post_goes line None below some is = absurd is
  linked_post_goes line (Some post) below some is = (subst (λ (n : ℕ). n < 4096) (sym is.next) below, λ none. absurd (some none))

  left_goes : (line : Line D) (address : ℕ) (left : Option D) (post : Option (Post D)) → IsFineLine line → (c.row.link ≡ None → ⊥)
      → IsPostLeft meaning c line address left post → IfSome post IsFine
  left_goes line address None post below some is = none_goes post is
  left_goes line address (Some left) post below some is =
      linked_post_goes (record line { narrowed = Some (record { address = address; value = These left }) }) post below.0 some is

  linked_goes : (link : Option Link) → c.row.link ≡ link → (ends : Ends) (line : Line D) (post : Option (Post D)) → IsFineLine line
      → IsPostLinked meaning c link ends line post → IfSome post IsFine
  linked_goes None same ends line post below is = some_goes line post below is
  linked_goes (Some link) same ends line post below is = left_goes line link.address is.2 post below (λ none. cc) is.4

  part_goes : (line : Line D) (part : Option D) (post : Option (Post D)) → IsFineLine line → IsPostOfPart meaning c line part post
      → IfSome post IsFine
  part_goes line None post below is = none_goes post is
  part_goes line (Some part) post below is = linked_goes c.row.link refl (meaning.ends part) (record line { a = These part }) post below is

  pair_goes : (first second : Option (Post D)) → IfSome first IsFine → IfSome second IsFine → AreFine (pair_of meaning c first second)
  pair_goes None second p r = (r, tt)
  pair_goes (Some first) second p r = (p, r)

  split_goes : (taken stays : Line D) → IsFineLine taken → IsFineLine stays → Goes (IsSplit meaning c taken stays)
  split_goes taken stays below also pair is = subst (λ (p : PostPair D). AreFine p) (sym is.4)
      (pair_goes is.0 is.1 (part_goes taken is.2.0 is.0 below is.2.2) (part_goes stays is.3.0 is.1 also is.3.2))

  -- ---- stops

  chosen_goes : (b : Bool) (follows : Outcome D → Type 0) (stop : Stop D) → Goes follows → Goes (λ outcome. MatchBool b (follows outcome) (outcome ≡ Err stop))
  chosen_goes true follows stop goes pair is = goes pair is
  chosen_goes false follows stop goes pair is = absurd cc

  stores_goes : (e : ℕ) (follows : Outcome D → Type 0) → Goes follows → Goes (Stores meaning c e follows)
  stores_goes e follows goes = chosen_goes (is_erasable e) follows _ goes

  port_goes : (position : Option ℕ) (follows : Outcome D → Type 0) → Goes follows → Goes (HasPort meaning c position follows)
  port_goes None follows goes pair is = absurd cc
  port_goes (Some position) follows goes pair is = goes pair is

  -- each line that goes to a location of the memory does so by what follows it
  abbrev EachGoes : (Line D → Outcome D → Type 0) → Type 0
  EachGoes follows = (line : Line D) → IsFineLine line → Goes (follows line)

  decides_goes : (follows : Line D → Outcome D → Type 0) (answer : Result D Operands) → EachGoes follows → EachGoes (λ line. Decides meaning c line follows answer)
  decides_goes follows (Ok d) goes line below = goes (record line { a = These d }) below
  decides_goes follows (Err o) goes line below = chosen_goes (is_named c.limits c.row.location) (follows (record line { a = EveryWord; v1 = true; link = None })) _
      (goes (record line { a = EveryWord; v1 = true; link = None }) below)

  computes_goes : (operation : Operation) (candidates : Ends → Ends → List Operands) (m_ends : Ends) (follows : Line D → Outcome D → Type 0) → EachGoes follows
      → EachGoes (λ line. Computes meaning c operation candidates m_ends line follows)
  computes_goes operation candidates m_ends follows goes line below pair is = decides_goes follows is.0 goes line below pair is.2

  with_goes : (operation : Operation) (candidates : Ends → Ends → List Operands) (e : ℕ) (follows : Line D → Outcome D → Type 0) → EachGoes follows
      → (line_with : Ends → Line D) → ((ends : Ends) → IsFineLine (line_with ends))
      → Goes (ComputesWith meaning c operation candidates e line_with follows)
  with_goes operation candidates e follows goes line_with below pair is =
      computes_goes operation candidates (meaning.ends is.0) follows goes (line_with (meaning.ends is.0)) (below (meaning.ends is.0)) pair is.2

  stored_goes : (e : ℕ) (told : Told D) → EachGoes (IsStored meaning c e told)
  stored_goes e told line below pair is = single_goes (record line { stored = Some (record { address = e; value = told }) }) below pair is.3

  given_goes : (y : ℕ) (line : Line D) → IsFineLine line → Goes (IsGiven meaning c y line)
  given_goes y line below pair is = single_goes line below pair is.1

  chosen_line : (b : Bool) (one other : Line D) → IsFineLine one → IsFineLine other → IsFineLine (if b then one else other)
  chosen_line true one other p r = p
  chosen_line false one other p r = r

  -- ---- the table

  next_within : IsFineLine (moves_on c)
  next_within = (omega arith, refl)

  module _ (e y : ℕ) (e_below : e < 4096) (y_below : y < 4096) where
    order_goes : (order : Order) → Goes (IsPosts meaning c order e y)
    order_goes Cla = single_goes (record (loads meaning c e) { link = link_to e }) next_within
    order_goes Ldq = single_goes (record (moves_on c) { q = cell_in_case c e }) next_within
    order_goes Sto = stores_goes e (IsStored meaning c e (These c.row.a) (record (moves_on c) { link = link_to e }))
        (stored_goes e (These c.row.a) (record (moves_on c) { link = link_to e }) next_within)
    order_goes Stq = stores_goes e (IsStored meaning c e (These c.row.q) (record (moves_on c) { link = link_beside c.row.link e }))
        (stored_goes e (These c.row.q) (record (moves_on c) { link = link_beside c.row.link e }) next_within)
    order_goes Add = with_goes sum sum_candidates e (IsSingle meaning c) single_goes (grows_by meaning c (λ n. n)) (λ ends. next_within)
    order_goes Sub = with_goes difference difference_candidates e (IsSingle meaning c) single_goes (grows_by meaning c neg_ℤ) (λ ends. next_within)
    order_goes Com = computes_goes negative sign_candidates no_cell (IsSingle meaning c) single_goes (unlinks meaning c) next_within
    order_goes Abs = computes_goes size sign_candidates no_cell (IsSingle meaning c) single_goes (unlinks meaning c) next_within
    order_goes Als = computes_goes (left_shift (y % 64)) left_shift_candidates no_cell (IsSingle meaning c) single_goes (unlinks meaning c) next_within
    order_goes Dvp = with_goes quotient quotient_candidates e (IsSingle meaning c) single_goes (λ ends. unlinks meaning c) (λ ends. next_within)
    order_goes Mpy = with_goes product_high product_candidates e (IsSingle meaning c) single_goes (λ ends. frees_q meaning c) (λ ends. next_within)
    order_goes Mpr = with_goes product_rounded product_candidates e (IsSingle meaning c) single_goes (λ ends. frees_q meaning c) (λ ends. next_within)
    order_goes Lls = computes_goes (long_left_high (y % 64)) long_left_candidates no_cell (IsSingle meaning c) single_goes (frees_q meaning c) next_within
    order_goes Lrs = λ pair is. single_goes (record (frees_q meaning c) { a = These is.0 }) next_within pair is.2
    order_goes Clz = stores_goes e (IsCleared meaning c e (loads meaning c e)) (stored_goes e (OneWord 0) (loads meaning c e) next_within)
    order_goes Adz = stores_goes e (ComputesWith meaning c sum sum_candidates e (λ ends. unlinks meaning c) (IsCleared meaning c e))
        (with_goes sum sum_candidates e (IsCleared meaning c e) (stored_goes e (OneWord 0)) (λ ends. unlinks meaning c) (λ ends. next_within))
    order_goes Suz = stores_goes e (ComputesWith meaning c difference difference_candidates e (λ ends. unlinks meaning c) (IsCleared meaning c e))
        (with_goes difference difference_candidates e (IsCleared meaning c e) (stored_goes e (OneWord 0)) (λ ends. unlinks meaning c) (λ ends. next_within))
    order_goes Mpz = stores_goes e (ComputesWith meaning c product_rounded product_candidates e (λ ends. frees_q meaning c) (IsCleared meaning c e))
        (with_goes product_rounded product_candidates e (IsCleared meaning c e) (stored_goes e (OneWord 0)) (λ ends. frees_q meaning c) (λ ends. next_within))
    order_goes Tra = single_goes (record (moves_on c) { next = e }) (e_below, refl)
    order_goes Tmi = split_goes (record (moves_on c) { next = e }) (moves_on c) (e_below, refl) next_within
    order_goes Tov = single_goes (if c.indicator then (record (moves_on c) { next = e; v0 = true; v1 = false }) else moves_on c)
        (chosen_line c.indicator (record (moves_on c) { next = e; v0 = true; v1 = false }) (moves_on c) (e_below, refl) next_within)
    order_goes Tix = single_goes (if nat_eq c.index 0 then moves_on c else (record (moves_on c) { next = y; x = c.index - 1 }))
        (chosen_line (nat_eq c.index 0) (moves_on c) (record (moves_on c) { next = y; x = c.index - 1 }) next_within (y_below, refl))
    order_goes Axt = single_goes (record (moves_on c) { x = y % 8 }) next_within
    order_goes Tsq = single_goes (record (moves_on c) { next = e; q = OneWord (order_word c.machine.codes Tra false (next_of_row c.row)) }) (e_below, refl)
    order_goes Inp = port_goes (position_of c.machine.ports.inputs y) (IsSingle meaning c (record (unlinks meaning c) { a = These (input_limit c.limits y) }))
        (single_goes (record (unlinks meaning c) { a = These (input_limit c.limits y) }) next_within)
    order_goes Out = port_goes (position_of c.machine.ports.outputs y) (IsGiven meaning c y (moves_on c)) (given_goes y (moves_on c) next_within)
    order_goes Dly = single_goes (record (moves_on c) { next = y }) (y_below, refl)

  choose_below : (b : Bool) (m n : ℕ) → m < 4096 → n < 4096 → (if b then m else n) < 4096
  choose_below true m n p r = p
  choose_below false m n p r = r

  acts_within : (d : Decoded) → c.index < 8 → d.address < 4096 → effective_at c.index d.order d.indexed d.address < 4096
  acts_within d index below = choose_below (d.indexed && counts_index d.order) (bit_or d.address c.index) d.address
      (or_lt 12 d.address c.index below (omega (arith, index))) below

  word_goes : (named : Option Decoded) → c.index < 8 → IsDecoding c.machine.codes c.word named → Goes (IsPostsOfWord meaning c named)
  word_goes None index names pair is = absurd cc
  word_goes (Some d) index names pair is = order_goes (effective_at c.index d.order d.indexed d.address) d.address (acts_within d index names.below) names.below d.order pair is

  pair_fine : (pair : PostPair D) → c.index < 8 → IsPostsOfCase meaning c (Ok pair) → AreFine pair
  pair_fine pair index is = word_goes is.0 index is.1 pair is.2

  below_only : (post : Option (Post D)) → IfSome post IsFine → IfSome post (λ p. p.next < 4096)
  below_only None is = tt
  below_only (Some post) is = is.0

  pub posts_go : (outcome : Outcome D) → c.index < 8 → IsPostsOfCase meaning c outcome → IfOk outcome GoWithin
  posts_go (Ok pair) index is = let fine = pair_fine pair index is in (below_only pair.first fine.0, below_only pair.second fine.1)
  posts_go (Err stop) index is = tt

  narrowed_only : (post : Option (Post D)) → c.row.link ≡ None → IfSome post IsFine → IfSome post (λ p. p.narrowed ≡ None)
  narrowed_only None none is = tt
  narrowed_only (Some post) none is = is.1 none

  pub not_narrowed : (pair : PostPair D) → c.index < 8 → c.row.link ≡ None → IsPostsOfCase meaning c (Ok pair) → AreNotNarrowed pair
  not_narrowed pair index none is =
      let fine = pair_fine pair index is in (narrowed_only pair.first none fine.0, narrowed_only pair.second none fine.1)
