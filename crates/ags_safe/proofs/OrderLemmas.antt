-- Each order follows the posts of its case.
use Rattle.std.proofs.Common.{◌≡◌, ℕ, ◌-◌, ◌%◌, ◌<◌, ◌≤◌, ◌^◌, Bool, true, false, refl, sym, ap, subst, ◌∙◌, arith, List, get_or, inl, inr, ◌+ℤ◌, ◌-ℤ◌}
use Rattle.std.specs.Prelude.{Option, Some, None, Ok, ◌==◌, ◌&&◌, nat_eq, IsSome, IfSome, not, neg_ℤ, if◌then◌else◌}
use Rattle.std.proofs.lemmas.Bool.{ltb-true, eqb-true}
use Rattle.std.proofs.lemmas.Bool.Decides.{nat_tests}
use Rattle.std.proofs.lemmas.Int.{ints}
use Rattle.ags_word.specs.Word.{val, wrap, fits}
use Rattle.ags_word.proofs.WordLaws.{val-wrap}
use Rattle.ags_word.specs.Long.{long, pair, shifted_right, wrap_long}
use Rattle.ags_word.specs.Operation.{Operation, sum, difference, negative, size, left_shift, product, product_high, product_rounded, quotient, shifted_left, long_left_high, long_right_high}
use Rattle.ags_isa.specs.declared.orders.Order.{Order}
use Rattle.ags_isa.specs.declared.orders.Order.TheVariants.{Abs, Add, Adz, Als, Axt, Cla, Clz, Com, Dly, Dvp, Inp, Ldq, Lls, Lrs, Mpr, Mpy, Mpz, Out, Sto, Stq, Sub, Suz, Tix, Tmi, Tov, Tra, Tsq}
use Rattle.ags_isa.specs.Naming.{order_word}
use Rattle.ags_domain.specs.Domain.{Ends, Meaning, IsMeaning, IsBetween, IsPart, is_negative, is_not_negative}
use Rattle.ags_domain.specs.Hull.{no_cell}
use Rattle.ags_domain.specs.Candidates.{sum_candidates, difference_candidates, sign_candidates, left_shift_candidates, product_candidates, long_left_candidates, quotient_candidates}
use Rattle.ags_domain.specs.declared.operands.Operands.{Operands}
use Rattle.ags_image.specs.Image.{word_at}
use Rattle.ags_ports.specs.declared.events.Phase.{Phase}
use Rattle.ags_ports.specs.Port.{position_of, register_at}
use Rattle.ags_ports.specs.State.{State, IsState, cell, next_location}
use Rattle.ags_ports.specs.Effect.{effect, leaves, moved_on, gone_to, then_clears, then_stores, loads as loads_a}
use Rattle.ags_row.specs.Limit.{input_limit}
use Rattle.ags_row.specs.Cover.{cell_value}
use Rattle.ags_row.specs.declared.posts.Post.{Post}
use Rattle.ags_safe.specs.Case.{Case, is_erasable, next_of_row}
use Rattle.ags_safe.specs.Told.{Told, OneWord, These, EveryWord, IsTold, IsAmong}
use Rattle.ags_safe.specs.Line.{Line, moves_on, cell_in_case}
use Rattle.ags_safe.specs.Posts.{Outcome, IsSingle, IsPostLinked, IsPostOfPart, pair_of, IsSplit, HasPort, Computes, ComputesWith, IsStored, IsGiven, IsCleared, loads, frees_q, unlinks, IsPosts}
use Rattle.ags_row.specs.declared.links.Link.{Link}
use Rattle.ags_safe.specs.Linked.{LinkHolds, link_to, link_beside, link_with}
use Rattle.ags_safe.specs.InRow.{IsInCase}
use Rattle.ags_safe.specs.OneStep.{AgreesWith, AgreesWithOne}
use Rattle.ags_safe.specs.declared.answers.PostPair.{PostPair}
use Rattle.ags_safe.specs.declared.answers.Stop.TheVariants.{FixedWrite}
use Rattle.ags_safe.proofs.AgreementLemmas.{told_held, IsInLine, line_agrees}
use Rattle.ags_safe.proofs.LinkLemmas.{link_to_holds, beside_holds, with_holds, linked_below, lies_linked, none_some}
use Rattle.ags_safe.proofs.SoundLemmas.{IsSound, never, goes_on, single_agrees, leaves_sound, next_is, clear_stays, set_stays, cell_word, stored_sound, chosen, computed, met, computed_in_line, met_between, written}
use Rattle.std.proofs.lemmas.List.{get_or-set_same, get_or-set_other}

-- the one word of an operation without a cell
zero_between : IsBetween no_cell 0
zero_between = record { is_word = omega arith; from = omega (arith, ints); to = omega (arith, ints) }

fixed_from : (address : ℕ) → is_erasable address ≡ false → 2048 ≤ address
fixed_from address h = grind (arith, nat_tests)

-- a register was found where there are posts
port_found : {D : Type 0} (meaning : Meaning D) (c : Case D) (position : Option ℕ) (follows : Outcome D → Type 0) (pair : PostPair D)
    → HasPort meaning c position follows (Ok pair) → (n : ℕ) × (position ≡ Some n) × follows (Ok pair)
port_found meaning c None follows pair h = absurd cc
port_found meaning c (Some n) follows pair h = (n, refl, h)

not_false : (b : Bool) → not b ≡ false → b ≡ true
not_false true h = refl
not_false false h = cc

and_both : (a b : Bool) → a ≡ true → b ≡ true → (a && b) ≡ true
and_both a b h k = rw (h, k) refl

-- what a sum, or a difference, leaves where it doesn't overflow
sum_value : (a m : ℕ) → not (fits (val a +ℤ val m)) ≡ false → val (wrap (val a +ℤ val m)) ≡ (val a +ℤ val m)
sum_value a m h = val-wrap (val a +ℤ val m) (not_false _ h)

difference_value : (a m : ℕ) → not (fits (val a -ℤ val m)) ≡ false → val (wrap (val a -ℤ val m)) ≡ (val a +ℤ neg_ℤ (val m))
difference_value a m h = val-wrap (val a -ℤ val m) (not_false _ h) ∙ omega (arith, ints)

-- a word that is among what is told
abbrev IsWordAmong : {D : Type 0} → Meaning D → Told D → ℕ → Type 0
IsWordAmong meaning told w = (w < 2 ^ 18) × IsAmong meaning told w

module _ {D : Type 0} (meaning : Meaning D) (lawful : IsMeaning D meaning) (c : Case D) (s : State) (is : IsState c.machine s)
    (in_case : IsInCase meaning c s) where
  -- ---- the word of a cell

  cell_by : (address : ℕ) (low here : Bool) → address < 4096 → is_erasable address ≡ low → (address == c.row.location) ≡ here
      → IsAmong meaning (if low then (if here then OneWord c.word else These (cell_value c.row c.limits address)) else OneWord (word_at c.image address)) (cell s address)
  cell_by address true true below erasable same =
      let at : address ≡ s.location = eqb-true address c.row.location same ∙ sym in_case.in_row.location in
      ap (λ (n : ℕ). cell s n) at ∙ in_case.word
  cell_by address true false below erasable other = in_case.in_row.cells address (ltb-true address 2048 erasable)
  cell_by address false here below fixed same = in_case.in_row.fixed address (fixed_from address fixed) below

  -- a cell's word is among what the case says of it
  cell_among : (address : ℕ) → address < 4096 → IsAmong meaning (cell_in_case c address) (cell s address)
  cell_among address below = cell_by address (is_erasable address) (address == c.row.location) below refl refl

  cell_word_among : (address : ℕ) → address < 4096 → IsWordAmong meaning (cell_in_case c address) (cell s address)
  cell_word_among address below = (cell_word meaning lawful c s is in_case address below, cell_among address below)

  cell_between : (address : ℕ) (m : D) → address < 4096 → IsTold meaning (cell_in_case c address) m → IsBetween (meaning.ends m) (cell s address)
  cell_between address m below told =
      let word = cell_word meaning lawful c s is in_case address below in
      lawful.between m (cell s address) word (told_held meaning (cell_in_case c address) m (cell s address) told word (cell_among address below))

  -- ---- what stays

  -- what leaves the indicator and the cells as they are is in a line where its location, A, Q and index are
  left_in_line : {location a q index next x : ℕ} {inputs outputs : List ℕ} {phase : Phase} {a_told q_told : Told D} {link : Option Link}
      → location ≡ next → IsWordAmong meaning a_told a → IsWordAmong meaning q_told q → index ≡ x
      → IfSome link (λ (l : Link). val a +ℤ l.offset ≡ val (cell s l.address))
      → IsInLine meaning s
      (record s { location = location; a = a; q = q; index = index; inputs = inputs; outputs = outputs; phase = phase })
      (record (moves_on c) { next = next; a = a_told; q = q_told; x = x; link = link })
  left_in_line goes a_among q_among counts linked = record {
    next = goes;
    a_word = a_among.0;
    a = a_among.1;
    q_word = q_among.0;
    q = q_among.1;
    x = counts;
    clear = clear_stays meaning lawful c s is in_case;
    set = set_stays meaning lawful c s is in_case;
    cells = refl;
    narrowed = tt;
    link = linked;
  }

  next_here : next_location s ≡ next_of_row c.row
  next_here = next_is meaning lawful c s is in_case

  a_stays : IsWordAmong meaning (These c.row.a) s.a
  a_stays = (is.a, in_case.in_row.a)

  q_stays : IsWordAmong meaning (These c.row.q) s.q
  q_stays = (is.q, in_case.in_row.q)

  moves_in_line : IsInLine meaning s (moved_on s) (moves_on c)
  moves_in_line = left_in_line next_here a_stays q_stays in_case.index in_case.in_row.link

  gone_in_line : (e : ℕ) → IsInLine meaning s (gone_to s e) (record (moves_on c) { next = e })
  gone_in_line e = left_in_line refl a_stays q_stays in_case.index in_case.in_row.link

  -- where a line has no link there is none to hold
  nothing_linked : (P : Type 0) (Q : Link → Type 0) (link : Option Link) → IfSome link (λ (l : Link). (None ≡ Some l) × P) → IfSome link Q
  nothing_linked P Q None h = tt
  nothing_linked P Q (Some l) h = absurd (none_some l h.0)

  -- ---- operations

  computes_single : (operation : Operation) (candidates : Ends → Ends → List Operands) (m_ends : Ends) (m v : ℕ) (q : Told D) (line_link : Option Link) (pair : PostPair D)
      → IsBetween m_ends m → Computes meaning c operation candidates m_ends (record (moves_on c) { q = q; link = line_link }) (IsSingle meaning c) (Ok pair)
      → ((l : Link) → line_link ≡ Some l → operation.overflows s.a s.q m ≡ false → LinkHolds (computed meaning lawful c s is in_case operation m v).after l)
      → IsAmong meaning q v → IsState c.machine (computed meaning lawful c s is in_case operation m v).after
      → IsSound meaning c pair (computed meaning lawful c s is in_case operation m v)
  computes_single operation candidates m_ends m v q line_link pair between p holds among is_state =
      let found = chosen meaning lawful c s is in_case operation candidates m_ends (record (moves_on c) { q = q; link = line_link }) (IsSingle meaning c) p.0 pair
      (met meaning lawful c s is in_case m) p.1 (met_between meaning lawful c s is in_case m m_ends between) is_state.a p.2 in
      record {
        agrees = single_agrees meaning lawful c s is in_case (record (moves_on c) { q = q; a = found.0; v1 = found.1; link = found.2 }) pair _ found.4
            (computed_in_line meaning lawful c s is in_case operation m v line_link found.2 q found.0 found.1 found.3 holds is_state.a is_state.q among) is_state;
        overflow = found.3.named;
        stored = tt;
        took = tt;
        gave = tt;
      }

  computes_cleared : (operation : Operation) (candidates : Ends → Ends → List Operands) (m_ends : Ends) (e m v : ℕ) (q : Told D) (pair : PostPair D)
      → IsBetween m_ends m → is_erasable e ≡ true
      → Computes meaning c operation candidates m_ends (record (unlinks meaning c) { q = q }) (IsCleared meaning c e) (Ok pair)
      → IsAmong meaning q v → IsState c.machine (then_clears (computed meaning lawful c s is in_case operation m v) e).after
      → IsSound meaning c pair (then_clears (computed meaning lawful c s is in_case operation m v) e)
  computes_cleared operation candidates m_ends e m v q pair between erasable p among is_state =
      let found = chosen meaning lawful c s is in_case operation candidates m_ends (record (unlinks meaning c) { q = q }) (IsCleared meaning c e) p.0 pair
      (met meaning lawful c s is in_case m) p.1 (met_between meaning lawful c s is in_case m m_ends between) is_state.a p.2 in
      stored_sound meaning lawful c s is in_case e (OneWord 0) (record (moves_on c) { q = q; a = found.0; v1 = found.1; link = found.2 }) found.2 pair
      (computed meaning lawful c s is in_case operation m v) 0 erasable found.4
      (computed_in_line meaning lawful c s is in_case operation m v None found.2 q found.0 found.1 found.3 (λ l h k. absurd (none_some l h)) is_state.a is_state.q among)
      (nothing_linked _ _ found.2 found.3.linked)
      refl is_state (omega arith) refl found.3.named refl refl

  -- ---- an order that goes two ways

  -- the post for those words of A that a test chooses is there where A's word is chosen
  linked_agrees : (link : Option Link) (line : Line D) (part : D) (post : Option (Post D)) (after : State) → IfSome link (LinkHolds s)
      → ((l : Link) → link ≡ Some l → l.address < 2048) → meaning.held part s.a ≡ true
      → IsPostLinked meaning c link (meaning.ends part) line post → IsInLine meaning s after line → IsState c.machine after
      → AgreesWith meaning c.limits c.row post after
  linked_agrees None line part None after holds low held is_post in_line is_state = absurd is_post
  linked_agrees None line part (Some post) after holds low held is_post in_line is_state =
      line_agrees meaning c s is in_case line post after is_post in_line is_state
  linked_agrees (Some link) line part post after holds low held (m, told, None, is_part, none) in_line is_state =
      let below : link.address < 2048 = low link refl in
      let word = cell_word meaning lawful c s is in_case link.address (omega arith) in
      let lies = lies_linked s link (meaning.ends part) holds (lawful.between part s.a is.a held) in
      absurd (never (sym (is_part (cell s link.address) word
      (told_held meaning (cell_in_case c link.address) m (cell s link.address) told word (cell_among link.address (omega arith)))) ∙ lies))
  linked_agrees (Some link) line part None after holds low held (m, told, Some left, is_part, is_post) in_line is_state = absurd is_post
  linked_agrees (Some link) line part (Some post) after holds low held (m, told, Some left, is_part, is_post) in_line is_state =
      let below : link.address < 2048 = low link refl in
      let word = cell_word meaning lawful c s is in_case link.address (omega arith) in
      let lies = lies_linked s link (meaning.ends part) holds (lawful.between part s.a is.a held) in
      let inside = told_held meaning (cell_in_case c link.address) m (cell s link.address) told word (cell_among link.address (omega arith)) in
      line_agrees meaning c s is in_case (record line { narrowed = Some (record { address = link.address; value = These left }) }) post after is_post (record {
        next = in_line.next;
        a_word = in_line.a_word;
        a = in_line.a;
        q_word = in_line.q_word;
        q = in_line.q;
        x = in_line.x;
        clear = in_line.clear;
        set = in_line.set;
        cells = in_line.cells;
        narrowed = is_part.1 (cell s link.address) word ∙ and_both _ _ inside lies;
        link = in_line.link;
      }) is_state

  part_agrees : (chooses : ℕ → Bool) (line : Line D) (part : Option D) (post : Option (Post D)) (after : State)
      → IsPart meaning chooses c.row.a part → IsPostOfPart meaning c line part post → chooses s.a ≡ true
      → ((told : Told D) → IsAmong meaning told s.a → IsInLine meaning s after (record line { a = told })) → IsState c.machine after
      → AgreesWith meaning c.limits c.row post after
  part_agrees chooses line None post after is_part is_post chosen in_line is_state =
      absurd (never (sym (is_part s.a is.a in_case.in_row.a) ∙ chosen))
  part_agrees chooses line (Some part) post after is_part is_post chosen in_line is_state =
      let held : meaning.held part s.a ≡ true =
      is_part.1 s.a is.a ∙ and_both (meaning.held c.row.a s.a) (chooses s.a) in_case.in_row.a chosen in
      linked_agrees c.row.link (record line { a = These part }) part post after in_case.in_row.link (linked_below c.row.link c.row.linked) held is_post
      (in_line (These part) held) is_state

  first_of_pair : (first second : Option (Post D)) (after : State) → AgreesWith meaning c.limits c.row first after
      → AgreesWithOne meaning c.limits c.row (pair_of meaning c first second) after
  first_of_pair None second after h = absurd h
  first_of_pair (Some first) second after h = inl h

  second_of_pair : (first second : Option (Post D)) (after : State) → AgreesWith meaning c.limits c.row second after
      → AgreesWithOne meaning c.limits c.row (pair_of meaning c first second) after
  second_of_pair None second after h = inl h
  second_of_pair (Some first) second after h = inr h

  leaves_one : (pair : PostPair D) (after : State) → AgreesWithOne meaning c.limits c.row pair after → IsSound meaning c pair (leaves after)
  leaves_one pair after h = record { agrees = h; overflow = λ over. absurd (never over); stored = tt; took = tt; gave = tt }

  splits : (negative : Bool) (e : ℕ) (pair : PostPair D) → is_negative s.a ≡ negative
      → IsSplit meaning c (record (moves_on c) { next = e }) (moves_on c) (Ok pair)
      → IsState c.machine (if negative then gone_to s e else moved_on s)
      → IsSound meaning c pair (leaves (if negative then gone_to s e else moved_on s))
  splits true e pair negative p is_state = leaves_one pair (gone_to s e)
      (subst (λ (q : PostPair D). AgreesWithOne meaning c.limits c.row q (gone_to s e)) (sym p.4)
      (first_of_pair p.0 p.1 (gone_to s e)
      (part_agrees is_negative (record (moves_on c) { next = e }) p.2.0 p.0 (gone_to s e) p.2.1 p.2.2 negative
      (λ told among. left_in_line refl (is.a, among) q_stays in_case.index in_case.in_row.link) is_state)))
  splits false e pair other p is_state =
      let not_negative : is_not_negative s.a ≡ true = rw other refl in
      leaves_one pair (moved_on s)
      (subst (λ (q : PostPair D). AgreesWithOne meaning c.limits c.row q (moved_on s)) (sym p.4)
      (second_of_pair p.0 p.1 (moved_on s)
      (part_agrees is_not_negative (moves_on c) p.3.0 p.1 (moved_on s) p.3.1 p.3.2 not_negative
      (λ told among. left_in_line next_here (is.a, among) q_stays in_case.index in_case.in_row.link) is_state)))

  -- ---- orders that look at the indicator, or at the index

  clears : (set : Bool) (e : ℕ) (pair : PostPair D) → s.indicator ≡ set
      → IsSingle meaning c (if set then (record (moves_on c) { next = e; v0 = true; v1 = false }) else moves_on c) (Ok pair)
      → IsState c.machine (if set then (record s { indicator = false; location = e }) else moved_on s)
      → IsSound meaning c pair (leaves (if set then (record s { indicator = false; location = e }) else moved_on s))
  clears true e pair set p is_state = leaves_sound meaning lawful c s is in_case (record (moves_on c) { next = e; v0 = true; v1 = false }) pair
      (record s { indicator = false; location = e }) p (record {
        next = refl;
        a_word = is.a;
        a = in_case.in_row.a;
        q_word = is.q;
        q = in_case.in_row.q;
        x = in_case.index;
        clear = λ no. refl;
        set = λ yes. yes;
        cells = refl;
        narrowed = tt;
        link = in_case.in_row.link;
      }) is_state
  clears false e pair set p is_state =
      leaves_sound meaning lawful c s is in_case (moves_on c) pair (moved_on s) p moves_in_line is_state

  counts_down : (zero : Bool) (y : ℕ) (pair : PostPair D)
      → IsSingle meaning c (if zero then moves_on c else (record (moves_on c) { next = y; x = c.index - 1 })) (Ok pair)
      → IsState c.machine (if zero then moved_on s else (record s { index = s.index - 1; location = y }))
      → IsSound meaning c pair (leaves (if zero then moved_on s else (record s { index = s.index - 1; location = y })))
  counts_down true y pair p is_state =
      leaves_sound meaning lawful c s is in_case (moves_on c) pair (moved_on s) p moves_in_line is_state
  counts_down false y pair p is_state = leaves_sound meaning lawful c s is in_case (record (moves_on c) { next = y; x = c.index - 1 }) pair
      (record s { index = s.index - 1; location = y }) p
      (left_in_line refl a_stays q_stays (ap (λ (n : ℕ). n - 1) in_case.index) in_case.in_row.link) is_state

  -- ---- a store

  stored_here : (w e : ℕ) → is_erasable e ≡ true → cell ((then_stores (leaves (moved_on s)) e w).after) e ≡ w
  stored_here w e erasable =
      let below : e < 2048 = ltb-true e 2048 erasable in
      ap (λ (cells : List ℕ). get_or cells e 0) (written (is_erasable e) s.cells e w erasable)
      ∙ get_or-set_same s.cells e w 0 (omega (arith, is.cells_count))

  stored_other : (w e : ℕ) → is_erasable e ≡ true → (address : ℕ) → (address ≡ e → ⊥) → cell ((then_stores (leaves (moved_on s)) e w).after) address ≡ cell s address
  stored_other w e erasable address other =
      ap (λ (cells : List ℕ). get_or cells address 0) (written (is_erasable e) s.cells e w erasable)
      ∙ get_or-set_other s.cells e address w 0 other

  -- ---- the table

  loads_in_line : (e : ℕ) (link : Option Link) → e < 4096 → IfSome link (LinkHolds ((loads_a s (cell s e)).after))
      → IsInLine meaning s ((loads_a s (cell s e)).after) (record (loads meaning c e) { link = link })
  loads_in_line e link below linked = left_in_line next_here (cell_word_among e below) q_stays in_case.index linked

  pub order_sound : (order : Order) (e y : ℕ) (pair_found : PostPair D) → e < 4096 → IsPosts meaning c order e y (Ok pair_found)
      → IsState c.machine ((effect c.machine s order e y).after) → IsSound meaning c pair_found (effect c.machine s order e y)
  order_sound Cla e y both below p kept =
      leaves_sound meaning lawful c s is in_case (record (loads meaning c e) { link = link_to e }) both _ p
      (loads_in_line e (link_to e) below (link_to_holds ((loads_a s (cell s e)).after) e refl)) kept
  order_sound Ldq e y both below p kept =
      leaves_sound meaning lawful c s is in_case (record (moves_on c) { q = cell_in_case c e }) both _ p
      (left_in_line next_here a_stays (cell_word_among e below) in_case.index in_case.in_row.link) kept
  order_sound Sto e y both below p kept =
      let goes = goes_on (is_erasable e) (IsStored meaning c e (These c.row.a) (record (moves_on c) { link = link_to e }) (Ok both)) both (FixedWrite e) p in
      stored_sound meaning lawful c s is in_case e (These c.row.a) (moves_on c) (link_to e) both (leaves (moved_on s)) s.a goes.0 goes.1
      moves_in_line (link_to_holds ((then_stores (leaves (moved_on s)) e s.a).after) e (sym (stored_here s.a e goes.0))) refl kept is.a in_case.in_row.a (λ over. absurd (never over)) refl refl
  order_sound Stq e y both below p kept =
      let goes = goes_on (is_erasable e) (IsStored meaning c e (These c.row.q) (record (moves_on c) { link = link_beside c.row.link e }) (Ok both)) both (FixedWrite e) p in
      stored_sound meaning lawful c s is in_case e (These c.row.q) (moves_on c) (link_beside c.row.link e) both (leaves (moved_on s)) s.q goes.0 goes.1
      moves_in_line (beside_holds c.row.link e s ((then_stores (leaves (moved_on s)) e s.q).after) refl (stored_other s.q e goes.0) in_case.in_row.link) refl kept is.q in_case.in_row.q (λ over. absurd (never over)) refl refl
  order_sound Add e y both below p kept =
      let between = cell_between e p.0 below p.1 in
      computes_single sum sum_candidates (meaning.ends p.0) (cell s e) s.q (These c.row.q) (link_with c.row.link (λ n. n) (meaning.ends p.0)) both
      between p.2 (λ l are fits. with_holds c.row.link s in_case.in_row.link (λ n. n) (meaning.ends p.0) (cell s e) between l are _ (sum_value s.a (cell s e) fits))
      in_case.in_row.q kept
  order_sound Sub e y both below p kept =
      let between = cell_between e p.0 below p.1 in
      computes_single difference difference_candidates (meaning.ends p.0) (cell s e) s.q (These c.row.q) (link_with c.row.link neg_ℤ (meaning.ends p.0)) both
      between p.2 (λ l are fits. with_holds c.row.link s in_case.in_row.link neg_ℤ (meaning.ends p.0) (cell s e) between l are _ (difference_value s.a (cell s e) fits))
      in_case.in_row.q kept
  order_sound Com e y both below p kept = computes_single negative sign_candidates no_cell 0 s.q (These c.row.q) None both zero_between p (λ l h k. absurd (none_some l h)) in_case.in_row.q kept
  order_sound Abs e y both below p kept = computes_single size sign_candidates no_cell 0 s.q (These c.row.q) None both zero_between p (λ l h k. absurd (none_some l h)) in_case.in_row.q kept
  order_sound Als e y both below p kept =
      computes_single (left_shift (y % 64)) left_shift_candidates no_cell 0 s.q (These c.row.q) None both zero_between p (λ l h k. absurd (none_some l h)) in_case.in_row.q kept
  order_sound Dvp e y both below p kept = computes_single quotient quotient_candidates (meaning.ends p.0) (cell s e) s.q (These c.row.q) None both
      (cell_between e p.0 below p.1) p.2 (λ l h k. absurd (none_some l h)) in_case.in_row.q kept
  order_sound Mpy e y both below p kept = computes_single product_high product_candidates (meaning.ends p.0) (cell s e)
      (pair (product s.a (cell s e))).1 EveryWord None both (cell_between e p.0 below p.1) p.2 (λ l h k. absurd (none_some l h)) kept.q kept
  order_sound Mpr e y both below p kept = computes_single product_rounded product_candidates (meaning.ends p.0) (cell s e)
      (pair (product s.a (cell s e))).1 EveryWord None both (cell_between e p.0 below p.1) p.2 (λ l h k. absurd (none_some l h)) kept.q kept
  order_sound Lls e y both below p kept = computes_single (long_left_high (y % 64)) long_left_candidates no_cell 0
      (pair (wrap_long (shifted_left (y % 64) s.a s.q))).1 EveryWord None both zero_between p (λ l h k. absurd (none_some l h)) kept.q kept
  order_sound Lrs e y both below p kept = computes_single (long_right_high (y % 64)) sign_candidates no_cell 0
      (pair (shifted_right (long s.a s.q) (y % 64))).1 EveryWord None both zero_between (Ok p.0, p.1, p.2) (λ l h k. absurd (none_some l h)) kept.q kept
  order_sound Clz e y both below p kept =
      let goes = goes_on (is_erasable e) (IsCleared meaning c e (loads meaning c e) (Ok both)) both (FixedWrite e) p in
      stored_sound meaning lawful c s is in_case e (OneWord 0) (loads meaning c e) None both (loads_a s (cell s e)) 0 goes.0 goes.1
      (loads_in_line e None below tt) tt refl kept (omega arith) refl (λ over. absurd (never over)) refl refl
  order_sound Adz e y both below p kept =
      let goes = goes_on (is_erasable e) (ComputesWith meaning c sum sum_candidates e (λ _. unlinks meaning c) (IsCleared meaning c e) (Ok both)) both (FixedWrite e) p in
      computes_cleared sum sum_candidates (meaning.ends goes.1.0) e (cell s e) s.q (These c.row.q) both
      (cell_between e goes.1.0 below goes.1.1) goes.0 goes.1.2 in_case.in_row.q kept
  order_sound Suz e y both below p kept =
      let goes = goes_on (is_erasable e) (ComputesWith meaning c difference difference_candidates e (λ _. unlinks meaning c) (IsCleared meaning c e) (Ok both)) both (FixedWrite e) p in
      computes_cleared difference difference_candidates (meaning.ends goes.1.0) e (cell s e) s.q (These c.row.q) both
      (cell_between e goes.1.0 below goes.1.1) goes.0 goes.1.2 in_case.in_row.q kept
  order_sound Mpz e y both below p kept =
      let goes = goes_on (is_erasable e) (ComputesWith meaning c product_rounded product_candidates e (λ _. frees_q meaning c) (IsCleared meaning c e) (Ok both)) both (FixedWrite e) p in
      computes_cleared product_rounded product_candidates (meaning.ends goes.1.0) e (cell s e) (pair (product s.a (cell s e))).1 EveryWord both
      (cell_between e goes.1.0 below goes.1.1) goes.0 goes.1.2 kept.q kept
  order_sound Tra e y both below p kept =
      leaves_sound meaning lawful c s is in_case (record (moves_on c) { next = e }) both (gone_to s e) p (gone_in_line e) kept
  order_sound Tmi e y both below p kept = splits (is_negative s.a) e both refl p kept
  order_sound Tov e y both below p kept = clears s.indicator e both refl
      (subst (λ (b : Bool). IsSingle meaning c (if b then (record (moves_on c) { next = e; v0 = true; v1 = false }) else moves_on c) (Ok both))
      (sym in_case.indicator) p) kept
  order_sound Tix e y both below p kept = counts_down (nat_eq s.index 0) y both
      (subst (λ (n : ℕ). IsSingle meaning c (if nat_eq n 0 then moves_on c else (record (moves_on c) { next = y; x = c.index - 1 })) (Ok both))
      (sym in_case.index) p) kept
  order_sound Axt e y both below p kept =
      leaves_sound meaning lawful c s is in_case (record (moves_on c) { x = y % 8 }) both _ p
      (left_in_line next_here a_stays q_stays refl in_case.in_row.link) kept
  order_sound Tsq e y both below p kept =
      leaves_sound meaning lawful c s is in_case
      (record (moves_on c) { next = e; q = OneWord (order_word c.machine.codes Tra false (next_of_row c.row)) }) both _ p
      (left_in_line refl a_stays (kept.q, ap (λ (n : ℕ). order_word c.machine.codes Tra false n) next_here) in_case.index in_case.in_row.link) kept
  order_sound Inp e y both below p kept =
      let position = position_of c.machine.ports.inputs y in
      let found = port_found meaning c position (IsSingle meaning c (record (unlinks meaning c) { a = These (input_limit c.limits y) })) both p in
      let input_held : meaning.held (input_limit c.limits y) (register_at s.inputs position) ≡ true =
      subst (λ (at : Option ℕ). meaning.held (input_limit c.limits y) (register_at s.inputs at) ≡ true) (sym found.1) (in_case.inputs y found.0 found.1) in
      record {
        agrees = single_agrees meaning lawful c s is in_case (record (unlinks meaning c) { a = These (input_limit c.limits y) }) both _ found.2
            (left_in_line next_here (kept.a, input_held) q_stays in_case.index tt) kept;
        overflow = λ over. absurd (never over);
        stored = tt;
        took = subst (λ (at : Option ℕ). IsSome at) (sym found.1) refl;
        gave = tt;
      }
  order_sound Out e y both below p kept =
      let position = position_of c.machine.ports.outputs y in
      let found = port_found meaning c position (IsGiven meaning c y (moves_on c)) both p in
      record {
        agrees = single_agrees meaning lawful c s is in_case (moves_on c) both _ found.2.1
            (left_in_line next_here a_stays q_stays in_case.index in_case.in_row.link) kept;
        overflow = λ over. absurd (never over);
        stored = tt;
        took = tt;
        gave = (subst (λ (at : Option ℕ). IsSome at) (sym found.1) refl, found.2.0 s.a is.a in_case.in_row.a);
      }
  order_sound Dly e y both below p kept =
      leaves_sound meaning lawful c s is in_case (record (moves_on c) { next = y }) both _ p
      (left_in_line refl a_stays q_stays in_case.index in_case.in_row.link) kept
