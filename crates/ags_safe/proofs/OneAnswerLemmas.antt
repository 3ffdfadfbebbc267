-- A case has one answer. Behind the law of the same name is
--     one_answer    outcomes of a case are one
use Rattle.std.proofs.Common.{◌≡◌, ℕ, ◌%◌, ◌<◌, ◌^◌, Bool, true, false, refl, sym, ap, subst, ◌∙◌, arith, List, [], ◌∷◌, ℤ, ◌+ℤ◌, ◌≤ℤ◌}
use Rattle.std.specs.Prelude.{Option, Some, None, Result, Ok, Err, ◌&&◌, MatchBool, neg_ℤ, if◌then◌else◌}
use Rattle.std.specs.Option.{IsSomeAnd}
use Rattle.std.specs.List.{find}
use Rattle.std.proofs.lemmas.Int.{ints}
use Rattle.ags_word.specs.Word.{val}
use Rattle.ags_word.specs.Operation.{Operation, sum, difference, negative, size, left_shift, product_high, product_rounded, quotient, long_left_high, long_right_high}
use Rattle.ags_isa.specs.declared.orders.Order.{Order}
use Rattle.ags_isa.specs.declared.orders.Order.TheVariants.{Abs, Add, Adz, Als, Axt, Cla, Clz, Com, Dly, Dvp, Inp, Ldq, Lls, Lrs, Mpr, Mpy, Mpz, Out, Sto, Stq, Sub, Suz, Tix, Tmi, Tov, Tra, Tsq}
use Rattle.ags_isa.specs.declared.decoding.Decoded.{Decoded}
use Rattle.ags_isa.specs.Code.{AreCodes}
use Rattle.ags_isa.specs.Naming.{IsDecoding}
use Rattle.ags_isa.proofs.WordLemmas.{names-one}
use Rattle.ags_domain.specs.Domain.{Ends, Meaning, IsMeaning, IsAlone, IsFull, IsPart, is_negative, is_not_negative, has_value_between}
use Rattle.ags_domain.specs.Hull.{Answers, IsInterval, IsFirstOverflow, overflows_at, no_cell}
use Rattle.ags_domain.specs.Candidates.{sum_candidates, difference_candidates, sign_candidates, left_shift_candidates, product_candidates, long_left_candidates, quotient_candidates}
use Rattle.ags_domain.specs.ListLaws.{and_left, and_right}
use Rattle.ags_domain.specs.declared.operands.Operands.{Operands}
use Rattle.ags_ports.specs.Effect.{effective_at}
use Rattle.ags_ports.specs.Port.{position_of}
use Rattle.ags_ports.specs.Machine.{IsMachine}
use Rattle.ags_row.specs.Limit.{is_named}
use Rattle.ags_row.specs.declared.ats.At.{At}
use Rattle.ags_row.specs.declared.links.Link.{Link}
use Rattle.ags_safe.specs.Linked.{link_to, link_beside}
use Rattle.ags_row.specs.declared.posts.Post.{Post}
use Rattle.ags_safe.specs.Case.{Case, is_erasable}
use Rattle.ags_safe.specs.Told.{Told, OneWord, These, EveryWord, IsTold, Store, AreCellsTold}
use Rattle.ags_safe.specs.Line.{Line, moves_on, cell_in_case, IsPostOf}
use Rattle.ags_safe.specs.Posts.{Outcome, IsSingle, IsPostLeft, IsPostLinked, IsPostOfPart, IsPostWhere, pair_of, IsSplit, HasPort, Stores, Decides, Computes, ComputesWith, IsStored, IsGiven, IsCleared, loads, frees_q, unlinks, grows_by, IsPosts, IsPostsOfWord, IsPostsOfCase}
use Rattle.ags_safe.specs.declared.answers.PostPair.{PostPair}
use Rattle.ags_safe.specs.declared.answers.Stop.{Stop}
use Rattle.ags_safe.specs.declared.answers.Stop.TheVariants.{FixedWrite, MayOverflow, CellRange}

-- ---- what is found passes

kept_or : {X : Type 0} (b : Bool) (x o : X) (rest : Option X) → (if b then Some x else rest) ≡ Some o → (P : X → Bool) → P x ≡ b → (rest ≡ Some o → P o ≡ true) → P o ≡ true
kept_or true x o rest found P is later = let same : x ≡ o = cc in ap P (sym same) ∙ is
kept_or false x o rest found P is later = later found

found_passes : {X : Type 0} (p : X → Bool) (xs : List X) (o : X) → find p xs ≡ Some o → p o ≡ true
found_passes p [] o found = absurd cc
found_passes p (x ∷ xs) o found = kept_or (p x) x o (find p xs) found p refl (found_passes p xs o)

both_true : (a b : Bool) → (a ≡ true → b ≡ true) → (b ≡ true → a ≡ true) → a ≡ b
both_true true b p r = sym (p refl)
both_true false true p r = r refl
both_true false false p r = refl

true_false : true ≡ false → ⊥
true_false h = cc

through : (a b c : ℤ) → a ≤ℤ b → b ≤ℤ c → a ≤ℤ c
through a b c p r = omega (arith, ints)

-- ---- words name one order

decoded_same : (o p : Order) (i j : Bool) (y z : ℕ) → o ≡ p → i ≡ j → y ≡ z
    → ◌≡◌ {A = Decoded} (record { order = o; indexed = i; address = y }) (record { order = p; indexed = j; address = z })
decoded_same o p i j y z same also too = cc

decoding_one : (table : List ℕ) → AreCodes table → (word : ℕ) (c d : Option Decoded) → IsDecoding table word c → IsDecoding table word d → c ≡ d
decoding_one table are word None None p r = refl
decoding_one table are word None (Some d) p r = absurd (p d.order d.indexed d.address r)
decoding_one table are word (Some c) None p r = absurd (r c.order c.indexed c.address p)
decoding_one table are word (Some c) (Some d) p r =
    let parts = names-one table are word c.order d.order c.indexed d.indexed c.address d.address p r in
    ap (λ (named : Decoded). Some named) (decoded_same c.order d.order c.indexed d.indexed c.address d.address parts.0 parts.1 parts.2)

-- ---- records of equal parts

at_same : {D : Type 0} (one other : At D) → one.address ≡ other.address → one.value ≡ other.value → one ≡ other
at_same {D} one other p r = ap (λ (n : ℕ). at_of n one.value) p ∙ ap (λ (d : D). at_of other.address d) r
  where
    at_of : ℕ → D → At D
    at_of n d = record { address = n; value = d }

abbrev post_of : {D : Type 0} (next : ℕ) (a q : D) (x : ℕ) (v0 v1 : Bool) (stored code narrowed : Option (At D)) (link : Option Link) → Post D
post_of next a q x v0 v1 stored code narrowed link = record { next = next; a = a; q = q; x = x; v0 = v0; v1 = v1; stored = stored; code = code; narrowed = narrowed; link = link }

post_same : {D : Type 0} (n n' : ℕ) (a a' q q' : D) (x x' : ℕ) (v v' w w' : Bool) (s s' c c' m m' : Option (At D)) (l l' : Option Link)
    → n ≡ n' → a ≡ a' → q ≡ q' → x ≡ x' → v ≡ v' → w ≡ w' → s ≡ s' → c ≡ c' → m ≡ m' → l ≡ l'
    → post_of n a q x v w s c m l ≡ post_of n' a' q' x' v' w' s' c' m' l'
post_same n n' a a' q q' x x' v v' w w' s s' c c' m m' l l' e1 e2 e3 e4 e5 e6 e7 e8 e9 e10 = cc

abbrev pair_with : {D : Type 0} (first second : Option (Post D)) → PostPair D
pair_with first second = record { first = first; second = second }

pair_same : {D : Type 0} (f f' s s' : Option (Post D)) → f ≡ f' → s ≡ s' → pair_with f s ≡ pair_with f' s'
pair_same f f' s s' p r = cc

-- an outcome is told by a fact
abbrev IsOneOutcome : {D : Type 0} → (Outcome D → Type 0) → Type 0
IsOneOutcome {D} follows = (one other : Outcome D) → follows one → follows other → one ≡ other

module _ {D : Type 0} (meaning : Meaning D) (lawful : IsMeaning D meaning) where
  -- ---- sets

  alone_one : (word : ℕ) (d e : D) → IsAlone meaning word d → IsAlone meaning word e → d ≡ e
  alone_one word d e p r = lawful.one d e (p.kept ∙ sym r.kept) (λ w is. p.alone w is ∙ sym (r.alone w is))

  full_one : (d e : D) → IsFull meaning d → IsFull meaning e → d ≡ e
  full_one d e p r = lawful.one d e (p.kept ∙ sym r.kept) (λ w is. p.every w is ∙ sym (r.every w is))

  told_one : (told : Told D) (d e : D) → IsTold meaning told d → IsTold meaning told e → d ≡ e
  told_one (OneWord word) d e p r = alone_one word d e p r
  told_one (These f) d e p r = p ∙ sym r
  told_one EveryWord d e p r = full_one d e p r

  -- some word is chosen where there is a part
  no_part : (chooses : ℕ → Bool) (d part : D) → IsPart meaning chooses d (Some part) → IsPart meaning chooses d None → ⊥
  no_part chooses d part p none =
      let w = (meaning.ends part).least in
      let is = lawful.least_word part in
      let both : (meaning.held d w && chooses w) ≡ true = sym (p.1 w is) ∙ lawful.least_held part in
      true_false (sym (and_right (meaning.held d w) (chooses w) both) ∙ none w is (and_left (meaning.held d w) (chooses w) both))

  part_one : (chooses : ℕ → Bool) (d : D) (one other : Option D) → IsPart meaning chooses d one → IsPart meaning chooses d other → one ≡ other
  part_one chooses d None None p r = refl
  part_one chooses d (Some part) None p r = absurd (no_part chooses d part p r)
  part_one chooses d None (Some part) p r = absurd (no_part chooses d part r p)
  part_one chooses d (Some part) (Some other) p r =
      ap (λ (f : D). Some f) (lawful.one part other (p.0 ∙ sym r.0) (λ w is. p.1 w is ∙ sym (r.1 w is)))

  -- ---- the domain's answers

  wider : (operation : Operation) (a_ends m_ends : Ends) (d e : D) → IsInterval meaning operation a_ends m_ends d
      → IsInterval meaning operation a_ends m_ends e → (w : ℕ) → w < 2 ^ 18 → meaning.held d w ≡ true → meaning.held e w ≡ true
  wider operation a_ends m_ends d e p r w is held =
      let inside = lawful.between d w is held in
      let low : val (meaning.ends e).least ≤ℤ val (meaning.ends d).least =
      subst (λ (n : ℕ). val (meaning.ends e).least ≤ℤ val n) p.hull.least.given (r.hull.each p.hull.least.at p.hull.least.operands).from in
      let high : val (meaning.ends d).greatest ≤ℤ val (meaning.ends e).greatest =
      subst (λ (n : ℕ). val n ≤ℤ val (meaning.ends e).greatest) p.hull.greatest.given (r.hull.each p.hull.greatest.at p.hull.greatest.operands).to in
      lawful.ranged e w r.kept (record {
        is_word = is;
        from = through (val (meaning.ends e).least) (val (meaning.ends d).least) (val w) low inside.from;
        to = through (val w) (val (meaning.ends d).greatest) (val (meaning.ends e).greatest) inside.to high;
      })

  interval_one : (operation : Operation) (a_ends m_ends : Ends) (d e : D) → IsInterval meaning operation a_ends m_ends d
      → IsInterval meaning operation a_ends m_ends e → d ≡ e
  interval_one operation a_ends m_ends d e p r = lawful.one d e (p.kept ∙ sym r.kept) (λ w is.
      both_true (meaning.held d w) (meaning.held e w) (wider operation a_ends m_ends d e p r w is) (wider operation a_ends m_ends e d r p w is))

  not_both : (operation : Operation) (candidates : Ends → Ends → List Operands) (a_ends m_ends : Ends) (d : D) (o : Operands)
      → IsInterval meaning operation a_ends m_ends d → IsFirstOverflow operation a_ends m_ends (candidates a_ends m_ends) o → ⊥
  not_both operation candidates a_ends m_ends d o p r =
      true_false (sym (found_passes (overflows_at operation) (candidates a_ends m_ends) o r.first) ∙ p.none o r.operands)

  answer_one : (operation : Operation) (candidates : Ends → Ends → List Operands) (a_ends m_ends : Ends) (one other : Result D Operands)
      → Answers meaning operation candidates a_ends m_ends one → Answers meaning operation candidates a_ends m_ends other → one ≡ other
  answer_one operation candidates a_ends m_ends (Ok d) (Ok e) p r = ap (λ (f : D). Ok f) (interval_one operation a_ends m_ends d e p r)
  answer_one operation candidates a_ends m_ends (Ok d) (Err o) p r = absurd (not_both operation candidates a_ends m_ends d o p r)
  answer_one operation candidates a_ends m_ends (Err o) (Ok d) p r = absurd (not_both operation candidates a_ends m_ends d o r p)
  answer_one operation candidates a_ends m_ends (Err o) (Err u) p r =
      let same : ◌≡◌ {A = Option Operands} (Some o) (Some u) = sym p.first ∙ r.first in
      cc

  -- ---- posts

  cell_told_one : (store : Option (Store D)) (one other : Option (At D)) → AreCellsTold meaning store one → AreCellsTold meaning store other → one ≡ other
  cell_told_one None None None p r = refl
  cell_told_one (Some store) (Some one) (Some other) p r =
      ap (λ (at : At D). Some at) (at_same one other (p.0 ∙ sym r.0) (told_one store.value one.value other.value p.1 r.1))
  cell_told_one None (Some one) other p r = absurd p
  cell_told_one None None (Some other) p r = absurd r
  cell_told_one (Some store) None other p r = absurd p
  cell_told_one (Some store) (Some one) None p r = absurd r

  module _ (c : Case D) where
    post_one : (line : Line D) (one other : Post D) → IsPostOf meaning c line one → IsPostOf meaning c line other → one ≡ other
    post_one line one other p r = post_same one.next other.next one.a other.a one.q other.q one.x other.x one.v0 other.v0 one.v1 other.v1
        one.stored other.stored one.code other.code one.narrowed other.narrowed one.link other.link
        (p.next ∙ sym r.next) (told_one line.a one.a other.a p.a r.a) (told_one line.q one.q other.q p.q r.q) (p.x ∙ sym r.x)
        (p.v0 ∙ sym r.v0) (p.v1 ∙ sym r.v1) (cell_told_one line.stored one.stored other.stored p.stored r.stored)
        (cell_told_one _ one.code other.code p.code r.code)
        (cell_told_one line.narrowed one.narrowed other.narrowed p.narrowed r.narrowed) (p.link ∙ sym r.link)

    some_one : (line : Line D) (one other : Option (Post D)) → IsSomeAnd one (IsPostOf meaning c line) → IsSomeAnd other (IsPostOf meaning c line) → one ≡ other
    some_one line None other p r = absurd p
    some_one line (Some one) None p r = absurd r
    some_one line (Some one) (Some other) p r = ap (λ (post : Post D). Some post) (post_one line one other p r)

    single_one : (line : Line D) → IsOneOutcome (IsSingle meaning c line)
    single_one line (Ok one) (Ok other) p r = ap (λ (pair : PostPair D). Ok pair)
        (pair_same one.first other.first one.second other.second (some_one line one.first other.first p.0 r.0) (p.1 ∙ sym r.1))
    single_one line (Ok one) (Err stop) p r = absurd r
    single_one line (Err stop) other p r = absurd p

    left_post_one : (line : Line D) (address : ℕ) (left : Option D) (one other : Option (Post D)) → IsPostLeft meaning c line address left one
        → IsPostLeft meaning c line address left other → one ≡ other
    left_post_one line address None one other p r = p ∙ sym r
    left_post_one line address (Some left) one other p r = some_one _ one other p r

    linked_post_one : (link : Option Link) (ends : Ends) (line : Line D) (one other : Option (Post D)) → IsPostLinked meaning c link ends line one
        → IsPostLinked meaning c link ends line other → one ≡ other
    linked_post_one None ends line one other p r = some_one line one other p r
    linked_post_one (Some link) ends line one other (m, told, left, is, p) (n, told_too, also, is_too, r) =
        let chosen = has_value_between (val ends.least +ℤ link.offset) (val ends.greatest +ℤ link.offset) in
        let same : m ≡ n = told_one (cell_in_case c link.address) m n told told_too in
        let same_left : left ≡ also = part_one chosen n left also (subst (λ (d : D). IsPart meaning chosen d left) same is) is_too in
        left_post_one line link.address also one other (subst (λ (d : Option D). IsPostLeft meaning c line link.address d one) same_left p) r

    part_post_one : (line : Line D) (part : Option D) (one other : Option (Post D)) → IsPostOfPart meaning c line part one
        → IsPostOfPart meaning c line part other → one ≡ other
    part_post_one line None one other p r = p ∙ sym r
    part_post_one line (Some part) one other p r = linked_post_one c.row.link (meaning.ends part) (record line { a = These part }) one other p r

    where_one : (chooses : ℕ → Bool) (line : Line D) (one other : Option (Post D)) → IsPostWhere meaning c chooses line one
        → IsPostWhere meaning c chooses line other → one ≡ other
    where_one chooses line one other p r =
        let same : p.0 ≡ r.0 = part_one chooses c.row.a p.0 r.0 p.1 r.1 in
        part_post_one line r.0 one other (subst (λ (part : Option D). IsPostOfPart meaning c line part one) same p.2) r.2

    split_one : (taken stays : Line D) → IsOneOutcome (IsSplit meaning c taken stays)
    split_one taken stays (Ok one) (Ok other) p r =
        let first : p.0 ≡ r.0 = where_one is_negative taken p.0 r.0 p.2 r.2 in
        let second : p.1 ≡ r.1 = where_one is_not_negative stays p.1 r.1 p.3 r.3 in
        let same : one ≡ other = p.4 ∙ ap (λ (f : Option (Post D)). pair_of meaning c f p.1) first
        ∙ ap (λ (f : Option (Post D)). pair_of meaning c r.0 f) second ∙ sym r.4 in
        ap (λ (pair : PostPair D). Ok pair) same
    split_one taken stays (Ok one) (Err stop) p r = absurd r
    split_one taken stays (Err stop) other p r = absurd p

    -- ---- stops

    port_one : (position : Option ℕ) (follows : Outcome D → Type 0) → IsOneOutcome follows → IsOneOutcome (HasPort meaning c position follows)
    port_one None follows goes one other p r = p ∙ sym r
    port_one (Some position) follows goes one other p r = goes one other p r

    chosen_one : (b : Bool) (follows : Outcome D → Type 0) (stop : Outcome D) → IsOneOutcome follows
        → IsOneOutcome (λ outcome. MatchBool b (follows outcome) (outcome ≡ stop))
    chosen_one true follows stop goes one other p r = goes one other p r
    chosen_one false follows stop goes one other p r = p ∙ sym r

    stores_one : (e : ℕ) (follows : Outcome D → Type 0) → IsOneOutcome follows → IsOneOutcome (Stores meaning c e follows)
    stores_one e follows goes = chosen_one (is_erasable e) follows (Err (FixedWrite e)) goes

    decides_one : (line : Line D) (follows : Line D → Outcome D → Type 0) (answer : Result D Operands) → ((next : Line D) → IsOneOutcome (follows next))
        → IsOneOutcome (Decides meaning c line follows answer)
    decides_one line follows (Ok d) goes = goes (record line { a = These d })
    decides_one line follows (Err o) goes = chosen_one (is_named c.limits c.row.location) (follows (record line { a = EveryWord; v1 = true; link = None }))
        (Err (MayOverflow o)) (goes (record line { a = EveryWord; v1 = true; link = None }))

    computes_one : (operation : Operation) (candidates : Ends → Ends → List Operands) (m_ends : Ends) (line : Line D)
        (follows : Line D → Outcome D → Type 0) → ((next : Line D) → IsOneOutcome (follows next))
        → IsOneOutcome (Computes meaning c operation candidates m_ends line follows)
    computes_one operation candidates m_ends line follows goes one other p r =
        let same : p.0 ≡ r.0 = answer_one operation candidates (meaning.ends c.row.a) m_ends p.0 r.0 p.1 r.1 in
        decides_one line follows r.0 goes one other (subst (λ (answer : Result D Operands). Decides meaning c line follows answer one) same p.2) r.2

    with_one : (operation : Operation) (candidates : Ends → Ends → List Operands) (e : ℕ) (line : Ends → Line D)
        (follows : Line D → Outcome D → Type 0) → ((next : Line D) → IsOneOutcome (follows next))
        → IsOneOutcome (ComputesWith meaning c operation candidates e line follows)
    with_one operation candidates e line follows goes one other p r =
        let same : p.0 ≡ r.0 = told_one (cell_in_case c e) p.0 r.0 p.1 r.1 in
        computes_one operation candidates (meaning.ends r.0) (line (meaning.ends r.0)) follows goes one other
        (subst (λ (m : D). Computes meaning c operation candidates (meaning.ends m) (line (meaning.ends m)) follows one) same p.2) r.2

    stored_one : (e : ℕ) (told : Told D) (line : Line D) → IsOneOutcome (IsStored meaning c e told line)
    stored_one e told line (Ok one) (Ok other) p r = single_one _ (Ok one) (Ok other) p.3 r.3
    stored_one e told line (Ok one) (Err stop) p r =
        let same : p.0 ≡ r.0 = told_one told p.0 r.0 p.1 r.1 in
        absurd (r.2 (λ w is held. p.2 w is (subst (λ (d : D). meaning.held d w ≡ true) (sym same) held)))
    stored_one e told line (Err stop) (Ok other) p r =
        let same : p.0 ≡ r.0 = told_one told p.0 r.0 p.1 r.1 in
        absurd (p.2 (λ w is held. r.2 w is (subst (λ (d : D). meaning.held d w ≡ true) same held)))
    stored_one e told line (Err stop) (Err also) p r =
        let same : p.0 ≡ r.0 = told_one told p.0 r.0 p.1 r.1 in
        ap (λ (s : Stop D). Err s) (p.3 ∙ ap (λ (d : D). CellRange e d) same ∙ sym r.3)

    given_one : (y : ℕ) (line : Line D) → IsOneOutcome (IsGiven meaning c y line)
    given_one y line (Ok one) (Ok other) p r = single_one line (Ok one) (Ok other) p.1 r.1
    given_one y line (Ok one) (Err stop) p r = absurd (r.0 p.0)
    given_one y line (Err stop) (Ok other) p r = absurd (p.0 r.0)
    given_one y line (Err stop) (Err also) p r = ap (λ (s : Stop D). Err s) (p.1 ∙ sym r.1)

    -- ---- the table

    posts_one : (order : Order) (e y : ℕ) → IsOneOutcome (IsPosts meaning c order e y)
    posts_one Cla e y = single_one _
    posts_one Ldq e y = single_one _
    posts_one Sto e y = stores_one e _ (stored_one e (These c.row.a) (record (moves_on c) { link = link_to e }))
    posts_one Stq e y = stores_one e _ (stored_one e (These c.row.q) (record (moves_on c) { link = link_beside c.row.link e }))
    posts_one Add e y = with_one sum sum_candidates e (grows_by meaning c (λ n. n)) (IsSingle meaning c) single_one
    posts_one Sub e y = with_one difference difference_candidates e (grows_by meaning c neg_ℤ) (IsSingle meaning c) single_one
    posts_one Com e y = computes_one negative sign_candidates no_cell (unlinks meaning c) (IsSingle meaning c) single_one
    posts_one Abs e y = computes_one size sign_candidates no_cell (unlinks meaning c) (IsSingle meaning c) single_one
    posts_one Als e y = computes_one (left_shift (y % 64)) left_shift_candidates no_cell (unlinks meaning c) (IsSingle meaning c) single_one
    posts_one Dvp e y = with_one quotient quotient_candidates e (λ _. unlinks meaning c) (IsSingle meaning c) single_one
    posts_one Mpy e y = with_one product_high product_candidates e (λ _. frees_q meaning c) (IsSingle meaning c) single_one
    posts_one Mpr e y = with_one product_rounded product_candidates e (λ _. frees_q meaning c) (IsSingle meaning c) single_one
    posts_one Lls e y = computes_one (long_left_high (y % 64)) long_left_candidates no_cell (frees_q meaning c) (IsSingle meaning c) single_one
    posts_one Lrs e y = λ one other p r.
        let same : p.0 ≡ r.0 = interval_one (long_right_high (y % 64)) (meaning.ends c.row.a) no_cell p.0 r.0 p.1 r.1 in
        single_one (record (frees_q meaning c) { a = These r.0 }) one other
        (subst (λ (d : D). IsSingle meaning c (record (frees_q meaning c) { a = These d }) one) same p.2) r.2
    posts_one Clz e y = stores_one e _ (stored_one e (OneWord 0) (loads meaning c e))
    posts_one Adz e y = stores_one e _ (with_one sum sum_candidates e (λ _. unlinks meaning c) (IsCleared meaning c e) (stored_one e (OneWord 0)))
    posts_one Suz e y = stores_one e _ (with_one difference difference_candidates e (λ _. unlinks meaning c) (IsCleared meaning c e) (stored_one e (OneWord 0)))
    posts_one Mpz e y = stores_one e _ (with_one product_rounded product_candidates e (λ _. frees_q meaning c) (IsCleared meaning c e) (stored_one e (OneWord 0)))
    posts_one Tra e y = single_one _
    posts_one Tmi e y = split_one (record (moves_on c) { next = e }) (moves_on c)
    posts_one Tov e y = single_one _
    posts_one Tix e y = single_one _
    posts_one Axt e y = single_one _
    posts_one Tsq e y = single_one _
    posts_one Inp e y = port_one (position_of c.machine.ports.inputs y) _ (single_one _)
    posts_one Out e y = port_one (position_of c.machine.ports.outputs y) _ (given_one y (moves_on c))
    posts_one Dly e y = single_one _

    word_one : (named : Option Decoded) → IsOneOutcome (IsPostsOfWord meaning c named)
    word_one None one other p r = p ∙ sym r
    word_one (Some d) one other p r = posts_one d.order (effective_at c.index d.order d.indexed d.address) d.address one other p r

    pub one_answer : (one other : Outcome D) → IsMachine c.machine → IsPostsOfCase meaning c one → IsPostsOfCase meaning c other → one ≡ other
    one_answer one other is p r =
        let same : p.0 ≡ r.0 = decoding_one c.machine.codes is.codes c.word p.0 r.0 p.1 r.1 in
        word_one r.0 one other (subst (λ (named : Option Decoded). IsPostsOfWord meaning c named one) same p.2) r.2
