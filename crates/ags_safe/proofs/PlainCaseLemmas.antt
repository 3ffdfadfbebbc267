-- Without links a case has the posts of the plain table, and a row covers what it covered. Behind the laws are
--     covers_any_link    a row without a link covers a post whatever its link is
--     plain_case         the posts of a case of a row without a link are those of the table without links
--     back_case          each posts of that table are, but for their links, those of the case
use Rattle.std.proofs.Common.{◌≡◌, ℕ, ◌%◌, Bool, true, false, refl, sym, ap, subst, ◌∙◌, List}
use Rattle.std.specs.Prelude.{Option, Some, None, Result, Ok, Err, IfSome, MatchBool, nat_eq, neg_ℤ, if◌then◌else◌}
use Rattle.std.specs.Option.{IsSomeAnd}
use Rattle.ags_word.specs.Operation.{Operation, sum, difference, negative, size, left_shift, product_high, product_rounded, quotient, long_left_high}
use Rattle.ags_isa.specs.declared.decoding.Decoded.{Decoded}
use Rattle.ags_isa.specs.declared.orders.Order.{Order}
use Rattle.ags_ports.specs.Effect.{effective_at}
use Rattle.ags_isa.specs.declared.orders.Order.TheVariants.{Abs, Add, Adz, Als, Axt, Cla, Clz, Com, Dly, Dvp, Inp, Ldq, Lls, Lrs, Mpr, Mpy, Mpz, Out, Sto, Stq, Sub, Suz, Tix, Tmi, Tov, Tra, Tsq}
use Rattle.ags_domain.specs.Domain.{Ends, Meaning}
use Rattle.ags_domain.specs.declared.operands.Operands.{Operands}
use Rattle.ags_row.specs.Limit.{Limiting}
use Rattle.ags_row.specs.Cover.{Covers, post_value}
use Rattle.ags_row.specs.declared.posts.Post.{Post}
use Rattle.ags_row.specs.declared.links.Link.{Link}
use Rattle.ags_row.specs.declared.rows.Row.{Row}
use Rattle.ags_safe.specs.Case.{Case}
use Rattle.ags_safe.specs.Told.{Told, OneWord, These, EveryWord}
use Rattle.ags_safe.specs.Linked.{link_to, link_beside}
use Rattle.ags_domain.specs.Candidates.{sum_candidates, difference_candidates, sign_candidates, left_shift_candidates, product_candidates, long_left_candidates, quotient_candidates}
use Rattle.ags_domain.specs.Hull.{no_cell}
use Rattle.ags_row.specs.Limit.{input_limit}
use Rattle.ags_safe.specs.Line.{Line, moves_on, IsPostOf}
use Rattle.ags_safe.specs.Posts.{Outcome, IsSingle, IsPostLinked, IsPostOfPart, pair_of, IsSplit, HasPort, Stores, Decides, Computes, ComputesWith, IsStored, IsGiven, IsCleared, IsPosts, IsPostsOfWord, IsPostsOfCase, grows_by, unlinks, loads, frees_q}
use Rattle.ags_safe.specs.PlainCase.{without_link, some_without_link, pair_without_link, outcome_without_link, IsPlainPart, IsPlainSplit, IsPlainPosts, IsPlainOfWord, IsPlainOfCase}
use Rattle.ags_safe.specs.declared.answers.PostPair.{PostPair}
use Rattle.ags_safe.specs.declared.answers.Stop.{Stop}
use Rattle.ags_safe.specs.declared.answers.Stop.TheVariants.{BadPort, NoOrder}

-- a row without a link covers what it covers whatever the post's link is
pub covers_any_link : {D : Type 0} (meaning : Meaning D) (target base : Row D) (post : Post D) (limits : Limiting D) (link : Option Link)
    → target.link ≡ None → Covers meaning target base post limits → Covers meaning target base (record post { link = link }) limits
unfolding post_value
covers_any_link meaning target base post limits link none covers = record {
  location = covers.location;
  a = covers.a;
  q = covers.q;
  index = covers.index;
  clear = covers.clear;
  set = covers.set;
  cells = covers.cells;
  link = subst (λ (l : Option Link). IfSome l (λ asked. link ≡ Some asked)) (sym none) tt;
}

-- ---- the plain table

module _ {D : Type 0} (meaning : Meaning D) (c : Case D) where
  plain_post : (line : Line D) (post : Post D) → IsPostOf meaning c line post → IsPostOf meaning c (record line { link = None }) (without_link post)
  plain_post line post is = record {
    next = is.next;
    a = is.a;
    q = is.q;
    x = is.x;
    v0 = is.v0;
    v1 = is.v1;
    stored = is.stored;
    code = is.code;
    narrowed = is.narrowed;
    link = refl;
  }

  plain_some : (line : Line D) (post : Option (Post D)) → IsSomeAnd post (IsPostOf meaning c line)
      → IsSomeAnd (some_without_link post) (IsPostOf meaning c (record line { link = None }))
  plain_some line None is = absurd is
  plain_some line (Some post) is = plain_post line post is

  plain_single : (line : Line D) (o : Outcome D) → IsSingle meaning c line o → IsSingle meaning c (record line { link = None }) (outcome_without_link o)
  plain_single line (Ok pair) is = (plain_some line pair.first is.0, ap (λ (p : Option (Post D)). some_without_link p) is.1)
  plain_single line (Err stop) is = absurd is

  plain_either : (b : Bool) (one other : Line D) (o : Outcome D) → IsSingle meaning c (if b then one else other) o
      → IsSingle meaning c (if b then (record one { link = None }) else (record other { link = None })) (outcome_without_link o)
  plain_either true one other o is = plain_single one o is
  plain_either false one other o is = plain_single other o is

  plain_stored : (e : ℕ) (told : Told D) (line : Line D) (o : Outcome D) → IsStored meaning c e told line o
      → IsStored meaning c e told (record line { link = None }) (outcome_without_link o)
  plain_stored e told line (Ok pair) is = (is.0, is.1, is.2, plain_single _ (Ok pair) is.3)
  plain_stored e told line (Err stop) is = (is.0, is.1, is.2, is.3)

  plain_given : (y : ℕ) (line : Line D) (o : Outcome D) → IsGiven meaning c y line o → IsGiven meaning c y (record line { link = None }) (outcome_without_link o)
  plain_given y line (Ok pair) is = (is.0, plain_single line (Ok pair) is.1)
  plain_given y line (Err stop) is = is

  plain_choice : (b : Bool) (P Q : Outcome D → Type 0) (stop : Stop D) (o : Outcome D) → (P o → Q (outcome_without_link o))
      → MatchBool b (P o) (o ≡ Err stop) → MatchBool b (Q (outcome_without_link o)) (outcome_without_link o ≡ Err stop)
  plain_choice true P Q stop o goes is = goes is
  plain_choice false P Q stop o goes is = ap (λ (x : Outcome D). outcome_without_link x) is

  abbrev KeepsPlain : (Line D → Outcome D → Type 0) → Type 0
  KeepsPlain follows = (line : Line D) (o : Outcome D) → follows line o → follows (record line { link = None }) (outcome_without_link o)

  plain_decides : (line : Line D) (follows : Line D → Outcome D → Type 0) (answer : Result D Operands) (o : Outcome D) → KeepsPlain follows
      → Decides meaning c line follows answer o → Decides meaning c (record line { link = None }) follows answer (outcome_without_link o)
  plain_decides line follows (Ok d) o keeps is = keeps (record line { a = These d }) o is
  plain_decides line follows (Err f) o keeps is = plain_choice _ (follows (record line { a = EveryWord; v1 = true; link = None }))
      (follows (record line { a = EveryWord; v1 = true; link = None })) _ o (keeps (record line { a = EveryWord; v1 = true; link = None }) o) is

  plain_computes : (operation : Operation) (candidates : Ends → Ends → List Operands) (m_ends : Ends) (line : Line D)
      (follows : Line D → Outcome D → Type 0) (o : Outcome D) → KeepsPlain follows → Computes meaning c operation candidates m_ends line follows o
      → Computes meaning c operation candidates m_ends (record line { link = None }) follows (outcome_without_link o)
  plain_computes operation candidates m_ends line follows o keeps is = (is.0, is.1, plain_decides line follows is.0 o keeps is.2)

  plain_with : (operation : Operation) (candidates : Ends → Ends → List Operands) (e : ℕ) (line : Ends → Line D)
      (follows : Line D → Outcome D → Type 0) (o : Outcome D) → KeepsPlain follows → ComputesWith meaning c operation candidates e line follows o
      → ComputesWith meaning c operation candidates e (λ ends. record (line ends) { link = None }) follows (outcome_without_link o)
  plain_with operation candidates e line follows o keeps is =
      (is.0, is.1, plain_computes operation candidates (meaning.ends is.0) (line (meaning.ends is.0)) follows o keeps is.2)

  plain_stores : (e : ℕ) (P Q : Outcome D → Type 0) (o : Outcome D) → (P o → Q (outcome_without_link o)) → Stores meaning c e P o
      → Stores meaning c e Q (outcome_without_link o)
  plain_stores e P Q o goes is = plain_choice _ P Q _ o goes is

  plain_port : (position : Option ℕ) (P Q : Outcome D → Type 0) (o : Outcome D) → (P o → Q (outcome_without_link o)) → HasPort meaning c position P o
      → HasPort meaning c position Q (outcome_without_link o)
  plain_port None P Q o goes is = ap (λ (x : Outcome D). outcome_without_link x) is
  plain_port (Some position) P Q o goes is = goes is

  plain_linked : (link : Option Link) → link ≡ None → (ends : Ends) (line : Line D) (post : Option (Post D)) → IsPostLinked meaning c link ends line post
      → IsSomeAnd (some_without_link post) (IsPostOf meaning c (record line { link = None }))
  plain_linked None none ends line post is = plain_some line post is
  plain_linked (Some link) none ends line post is = absurd cc

  plain_part : c.row.link ≡ None → (line : Line D) (part : Option D) (post : Option (Post D)) → IsPostOfPart meaning c line part post
      → IsPlainPart meaning c (record line { link = None }) part (some_without_link post)
  plain_part none line None post is = ap (λ (p : Option (Post D)). some_without_link p) is
  plain_part none line (Some part) post is = plain_linked c.row.link none (meaning.ends part) (record line { a = These part }) post is

  plain_pair : (first second : Option (Post D))
      → ◌≡◌ {A = PostPair D} (record { first = some_without_link ((pair_of meaning c first second).first); second = some_without_link ((pair_of meaning c first second).second) })
      (pair_of meaning c (some_without_link first) (some_without_link second))
  plain_pair None second = refl
  plain_pair (Some first) second = refl

  plain_split : c.row.link ≡ None → (taken other : Line D) (o : Outcome D) → IsSplit meaning c taken other o
      → IsPlainSplit meaning c (record taken { link = None }) (record other { link = None }) (outcome_without_link o)
  plain_split none taken other (Ok pair) (first, second, one, two, is) = (
    some_without_link first,
    some_without_link second,
    (one.0, one.1, plain_part none taken one.0 first one.2),
    (two.0, two.1, plain_part none other two.0 second two.2),
    ap (λ (p : PostPair D). record { first = some_without_link p.first; second = some_without_link p.second }) is ∙ plain_pair first second,
  )
  plain_split none taken other (Err stop) is = absurd is

  plain : c.row.link ≡ None → (order : Order) (e y : ℕ) (o : Outcome D) → IsPosts meaning c order e y o → IsPlainPosts meaning c order e y (outcome_without_link o)
  plain none Cla e y o is = plain_single _ o is
  plain none Ldq e y o is = plain_single _ o is
  plain none Sto e y o is = plain_stores e (IsStored meaning c e (These c.row.a) (record (moves_on c) { link = link_to e })) (IsStored meaning c e (These c.row.a) (unlinks meaning c)) o (plain_stored e (These c.row.a) (record (moves_on c) { link = link_to e }) o) is
  plain none Stq e y o is = plain_stores e (IsStored meaning c e (These c.row.q) (record (moves_on c) { link = link_beside c.row.link e })) (IsStored meaning c e (These c.row.q) (unlinks meaning c)) o (plain_stored e (These c.row.q) (record (moves_on c) { link = link_beside c.row.link e }) o) is
  plain none Add e y o is = plain_with sum sum_candidates e (grows_by meaning c (λ n. n)) (IsSingle meaning c) o plain_single is
  plain none Sub e y o is = plain_with difference difference_candidates e (grows_by meaning c neg_ℤ) (IsSingle meaning c) o plain_single is
  plain none Com e y o is = plain_computes negative sign_candidates no_cell (unlinks meaning c) (IsSingle meaning c) o plain_single is
  plain none Abs e y o is = plain_computes size sign_candidates no_cell (unlinks meaning c) (IsSingle meaning c) o plain_single is
  plain none Als e y o is = plain_computes (left_shift (y % 64)) left_shift_candidates no_cell (unlinks meaning c) (IsSingle meaning c) o plain_single is
  plain none Dvp e y o is = plain_with quotient quotient_candidates e (λ _. unlinks meaning c) (IsSingle meaning c) o plain_single is
  plain none Mpy e y o is = plain_with product_high product_candidates e (λ _. frees_q meaning c) (IsSingle meaning c) o plain_single is
  plain none Mpr e y o is = plain_with product_rounded product_candidates e (λ _. frees_q meaning c) (IsSingle meaning c) o plain_single is
  plain none Lls e y o is = plain_computes (long_left_high (y % 64)) long_left_candidates no_cell (frees_q meaning c) (IsSingle meaning c) o plain_single is
  plain none Lrs e y o is = (is.0, is.1, plain_single _ o is.2)
  plain none Clz e y o is = plain_stores e (IsCleared meaning c e (loads meaning c e)) (IsCleared meaning c e (loads meaning c e)) o (plain_stored e (OneWord 0) (loads meaning c e) o) is
  plain none Adz e y o is = plain_stores e (ComputesWith meaning c sum sum_candidates e (λ _. unlinks meaning c) (IsCleared meaning c e)) (ComputesWith meaning c sum sum_candidates e (λ _. unlinks meaning c) (IsCleared meaning c e)) o
      (plain_with sum sum_candidates e (λ _. unlinks meaning c) (IsCleared meaning c e) o (plain_stored e (OneWord 0))) is
  plain none Suz e y o is = plain_stores e (ComputesWith meaning c difference difference_candidates e (λ _. unlinks meaning c) (IsCleared meaning c e)) (ComputesWith meaning c difference difference_candidates e (λ _. unlinks meaning c) (IsCleared meaning c e)) o
      (plain_with difference difference_candidates e (λ _. unlinks meaning c) (IsCleared meaning c e) o (plain_stored e (OneWord 0))) is
  plain none Mpz e y o is = plain_stores e (ComputesWith meaning c product_rounded product_candidates e (λ _. frees_q meaning c) (IsCleared meaning c e)) (ComputesWith meaning c product_rounded product_candidates e (λ _. frees_q meaning c) (IsCleared meaning c e)) o
      (plain_with product_rounded product_candidates e (λ _. frees_q meaning c) (IsCleared meaning c e) o (plain_stored e (OneWord 0))) is
  plain none Tra e y o is = plain_single _ o is
  plain none Tmi e y o is = plain_split none (record (moves_on c) { next = e }) (moves_on c) o is
  plain none Tov e y o is = plain_either c.indicator _ _ o is
  plain none Tix e y o is = plain_either (nat_eq c.index 0) _ _ o is
  plain none Axt e y o is = plain_single _ o is
  plain none Tsq e y o is = plain_single _ o is
  plain none Inp e y o is = plain_port _ (IsSingle meaning c (record (unlinks meaning c) { a = These (input_limit c.limits y) })) (IsSingle meaning c (record (unlinks meaning c) { a = These (input_limit c.limits y) })) o (plain_single _ o) is
  plain none Out e y o is = plain_port _ (IsGiven meaning c y (moves_on c)) (IsGiven meaning c y (unlinks meaning c)) o (plain_given y (moves_on c) o) is
  plain none Dly e y o is = plain_single _ o is

  plain_word : c.row.link ≡ None → (named : Option Decoded) (o : Outcome D) → IsPostsOfWord meaning c named o → IsPlainOfWord meaning c named (outcome_without_link o)
  plain_word none (Some d) o is = plain none d.order (effective_at c.index d.order d.indexed d.address) d.address o is
  plain_word none None o is = ap (λ (x : Outcome D). outcome_without_link x) is

  pub plain_case : c.row.link ≡ None → (o : Outcome D) → IsPostsOfCase meaning c o → IsPlainOfCase meaning c (outcome_without_link o)
  plain_case none o is = (is.0, is.1, plain_word none is.0 o is.2)

  -- ---- and back

  -- an outcome with links, of which something is said, is this one without them
  abbrev Back : (Outcome D → Type 0) → Outcome D → Type 0
  Back P o = (linked : Outcome D) × P linked × (outcome_without_link linked ≡ o)

  back_post : (line : Line D) (post : Post D) → IsPostOf meaning c (record line { link = None }) post → IsPostOf meaning c line (record post { link = line.link })
  back_post line post is = record {
    next = is.next;
    a = is.a;
    q = is.q;
    x = is.x;
    v0 = is.v0;
    v1 = is.v1;
    stored = is.stored;
    code = is.code;
    narrowed = is.narrowed;
    link = refl;
  }

  same_without : (post : Post D) (link : Option Link) → post.link ≡ None → without_link (record post { link = link }) ≡ post
  same_without post link none = ap (λ (l : Option Link). record post { link = l }) (sym none)

  back_some : (line : Line D) (post : Option (Post D)) → IsSomeAnd post (IsPostOf meaning c (record line { link = None }))
      → (linked : Option (Post D)) × IsSomeAnd linked (IsPostOf meaning c line) × (some_without_link linked ≡ post)
  back_some line None is = absurd is
  back_some line (Some post) is =
      (Some (record post { link = line.link }), back_post line post is, ap (λ (p : Post D). Some p) (same_without post line.link is.link))

  pair_same : (one first second : Option (Post D)) → some_without_link one ≡ first → second ≡ None
      → ◌≡◌ {A = PostPair D} (record { first = some_without_link one; second = None }) (record { first = first; second = second })
  pair_same one first second p r = cc

  back_pair : (line : Line D) (pair : PostPair D) → IsSingle meaning c (record line { link = None }) (Ok pair)
      → (linked : PostPair D) × IsSingle meaning c line (Ok linked) × (pair_without_link linked ≡ pair)
  back_pair line pair is =
      let first = back_some line pair.first is.0 in
      (record { first = first.0; second = None }, (first.1, refl), pair_same first.0 pair.first pair.second first.2 is.1)

  back_single : (line : Line D) (o : Outcome D) → IsSingle meaning c (record line { link = None }) o → Back (IsSingle meaning c line) o
  back_single line (Ok pair) is = let linked = back_pair line pair is in (Ok linked.0, linked.1, ap (λ (p : PostPair D). Ok p) linked.2)
  back_single line (Err stop) is = absurd is

  back_either : (b : Bool) (one other : Line D) (o : Outcome D)
      → IsSingle meaning c (if b then (record one { link = None }) else (record other { link = None })) o
      → Back (IsSingle meaning c (if b then one else other)) o
  back_either true one other o is = back_single one o is
  back_either false one other o is = back_single other o is

  back_stored : (e : ℕ) (told : Told D) (line : Line D) (o : Outcome D) → IsStored meaning c e told (record line { link = None }) o
      → Back (IsStored meaning c e told line) o
  back_stored e told line (Ok pair) is =
      let linked = back_pair (record line { stored = Some (record { address = e; value = told }) }) pair is.3 in
      (Ok linked.0, (is.0, is.1, is.2, linked.1), ap (λ (p : PostPair D). Ok p) linked.2)
  back_stored e told line (Err stop) is = (Err stop, is, refl)

  back_given : (y : ℕ) (line : Line D) (o : Outcome D) → IsGiven meaning c y (record line { link = None }) o → Back (IsGiven meaning c y line) o
  back_given y line (Ok pair) is =
      let linked = back_pair line pair is.1 in
      (Ok linked.0, (is.0, linked.1), ap (λ (p : PostPair D). Ok p) linked.2)
  back_given y line (Err stop) is = (Err stop, is, refl)

  back_choice : (b : Bool) (P Q : Outcome D → Type 0) (stop : Stop D) (o : Outcome D) → (Q o → Back P o)
      → MatchBool b (Q o) (o ≡ Err stop) → Back (λ x. MatchBool b (P x) (x ≡ Err stop)) o
  back_choice true P Q stop o goes is = goes is
  back_choice false P Q stop o goes is = (Err stop, refl, sym is)

  abbrev KeepsBack : (Line D → Outcome D → Type 0) → Type 0
  KeepsBack follows = (line : Line D) (o : Outcome D) → follows (record line { link = None }) o → Back (follows line) o

  back_decides : (line : Line D) (follows : Line D → Outcome D → Type 0) (answer : Result D Operands) (o : Outcome D) → KeepsBack follows
      → Decides meaning c (record line { link = None }) follows answer o → Back (Decides meaning c line follows answer) o
  back_decides line follows (Ok d) o keeps is = keeps (record line { a = These d }) o is
  back_decides line follows (Err f) o keeps is = back_choice _ (follows (record line { a = EveryWord; v1 = true; link = None }))
      (follows (record line { a = EveryWord; v1 = true; link = None })) _ o (keeps (record line { a = EveryWord; v1 = true; link = None }) o) is

  back_computes : (operation : Operation) (candidates : Ends → Ends → List Operands) (m_ends : Ends) (line : Line D)
      (follows : Line D → Outcome D → Type 0) (o : Outcome D) → KeepsBack follows
      → Computes meaning c operation candidates m_ends (record line { link = None }) follows o
      → Back (Computes meaning c operation candidates m_ends line follows) o
  back_computes operation candidates m_ends line follows o keeps is =
      let linked = back_decides line follows is.0 o keeps is.2 in
      (linked.0, (is.0, is.1, linked.1), linked.2)

  back_with : (operation : Operation) (candidates : Ends → Ends → List Operands) (e : ℕ) (line : Ends → Line D)
      (follows : Line D → Outcome D → Type 0) (o : Outcome D) → KeepsBack follows
      → ComputesWith meaning c operation candidates e (λ ends. record (line ends) { link = None }) follows o
      → Back (ComputesWith meaning c operation candidates e line follows) o
  back_with operation candidates e line follows o keeps is =
      let linked = back_computes operation candidates (meaning.ends is.0) (line (meaning.ends is.0)) follows o keeps is.2 in
      (linked.0, (is.0, is.1, linked.1), linked.2)

  back_stores : (e : ℕ) (P Q : Outcome D → Type 0) (o : Outcome D) → (Q o → Back P o) → Stores meaning c e Q o → Back (Stores meaning c e P) o
  back_stores e P Q o goes is = back_choice _ P Q _ o goes is

  back_port : (position : Option ℕ) (P Q : Outcome D → Type 0) (o : Outcome D) → (Q o → Back P o) → HasPort meaning c position Q o
      → Back (HasPort meaning c position P) o
  back_port None P Q o goes is = (Err BadPort, refl, sym is)
  back_port (Some position) P Q o goes is = goes is

  -- a part of A
  back_linked : (link : Option Link) → link ≡ None → (ends : Ends) (line : Line D) (post : Option (Post D))
      → IsSomeAnd post (IsPostOf meaning c (record line { link = None }))
      → (linked : Option (Post D)) × IsPostLinked meaning c link ends line linked × (some_without_link linked ≡ post)
  back_linked None none ends line post is = back_some line post is
  back_linked (Some link) none ends line post is = absurd cc

  back_part : c.row.link ≡ None → (line : Line D) (part : Option D) (post : Option (Post D)) → IsPlainPart meaning c (record line { link = None }) part post
      → (linked : Option (Post D)) × IsPostOfPart meaning c line part linked × (some_without_link linked ≡ post)
  back_part none line None post is = (None, refl, sym is)
  back_part none line (Some part) post is = back_linked c.row.link none (meaning.ends part) (record line { a = These part }) post is

  pairs_same : (one two first second : Option (Post D)) (pair : PostPair D) → some_without_link one ≡ first → some_without_link two ≡ second
      → pair ≡ pair_of meaning c first second → pair_without_link (pair_of meaning c one two) ≡ pair
  pairs_same one two first second pair p r is = plain_pair one two ∙ both p r ∙ sym is
    where
      both : some_without_link one ≡ first → some_without_link two ≡ second
          → pair_of meaning c (some_without_link one) (some_without_link two) ≡ pair_of meaning c first second
      both p r = ap (λ (o : Option (Post D)). pair_of meaning c o (some_without_link two)) p ∙ ap (λ (o : Option (Post D)). pair_of meaning c first o) r

  back_split : c.row.link ≡ None → (taken other : Line D) (o : Outcome D)
      → IsPlainSplit meaning c (record taken { link = None }) (record other { link = None }) o → Back (IsSplit meaning c taken other) o
  back_split none taken other (Ok pair) (first, second, one, two, is) =
      let negative = back_part none taken one.0 first one.2 in
      let rest = back_part none other two.0 second two.2 in (
        Ok (pair_of meaning c negative.0 rest.0),
        (negative.0, rest.0, (one.0, one.1, negative.1), (two.0, two.1, rest.1), refl),
        ap (λ (p : PostPair D). Ok p) (pairs_same negative.0 rest.0 first second pair negative.2 rest.2 is),
      )
  back_split none taken other (Err stop) is = absurd is

  back : c.row.link ≡ None → (order : Order) (e y : ℕ) (o : Outcome D) → IsPlainPosts meaning c order e y o → Back (IsPosts meaning c order e y) o
  back none Cla e y o is = back_single _ o is
  back none Ldq e y o is = back_single _ o is
  back none Sto e y o is = back_stores e (IsStored meaning c e (These c.row.a) (record (moves_on c) { link = link_to e })) (IsStored meaning c e (These c.row.a) (unlinks meaning c)) o (back_stored e (These c.row.a) (record (moves_on c) { link = link_to e }) o) is
  back none Stq e y o is = back_stores e (IsStored meaning c e (These c.row.q) (record (moves_on c) { link = link_beside c.row.link e })) (IsStored meaning c e (These c.row.q) (unlinks meaning c)) o (back_stored e (These c.row.q) (record (moves_on c) { link = link_beside c.row.link e }) o) is
  back none Add e y o is = back_with sum sum_candidates e (grows_by meaning c (λ n. n)) (IsSingle meaning c) o back_single is
  back none Sub e y o is = back_with difference difference_candidates e (grows_by meaning c neg_ℤ) (IsSingle meaning c) o back_single is
  back none Com e y o is = back_computes negative sign_candidates no_cell (unlinks meaning c) (IsSingle meaning c) o back_single is
  back none Abs e y o is = back_computes size sign_candidates no_cell (unlinks meaning c) (IsSingle meaning c) o back_single is
  back none Als e y o is = back_computes (left_shift (y % 64)) left_shift_candidates no_cell (unlinks meaning c) (IsSingle meaning c) o back_single is
  back none Dvp e y o is = back_with quotient quotient_candidates e (λ _. unlinks meaning c) (IsSingle meaning c) o back_single is
  back none Mpy e y o is = back_with product_high product_candidates e (λ _. frees_q meaning c) (IsSingle meaning c) o back_single is
  back none Mpr e y o is = back_with product_rounded product_candidates e (λ _. frees_q meaning c) (IsSingle meaning c) o back_single is
  back none Lls e y o is = back_computes (long_left_high (y % 64)) long_left_candidates no_cell (frees_q meaning c) (IsSingle meaning c) o back_single is
  back none Lrs e y o is =
      let linked = back_single (record (frees_q meaning c) { a = These is.0 }) o is.2 in
      (linked.0, (is.0, is.1, linked.1), linked.2)
  back none Clz e y o is = back_stores e (IsCleared meaning c e (loads meaning c e)) (IsCleared meaning c e (loads meaning c e)) o (back_stored e (OneWord 0) (loads meaning c e) o) is
  back none Adz e y o is = back_stores e (ComputesWith meaning c sum sum_candidates e (λ _. unlinks meaning c) (IsCleared meaning c e)) (ComputesWith meaning c sum sum_candidates e (λ _. unlinks meaning c) (IsCleared meaning c e)) o
      (back_with sum sum_candidates e (λ _. unlinks meaning c) (IsCleared meaning c e) o (back_stored e (OneWord 0))) is
  back none Suz e y o is = back_stores e (ComputesWith meaning c difference difference_candidates e (λ _. unlinks meaning c) (IsCleared meaning c e)) (ComputesWith meaning c difference difference_candidates e (λ _. unlinks meaning c) (IsCleared meaning c e)) o
      (back_with difference difference_candidates e (λ _. unlinks meaning c) (IsCleared meaning c e) o (back_stored e (OneWord 0))) is
  back none Mpz e y o is = back_stores e (ComputesWith meaning c product_rounded product_candidates e (λ _. frees_q meaning c) (IsCleared meaning c e)) (ComputesWith meaning c product_rounded product_candidates e (λ _. frees_q meaning c) (IsCleared meaning c e)) o
      (back_with product_rounded product_candidates e (λ _. frees_q meaning c) (IsCleared meaning c e) o (back_stored e (OneWord 0))) is
  back none Tra e y o is = back_single _ o is
  back none Tmi e y o is = back_split none (record (moves_on c) { next = e }) (moves_on c) o is
  back none Tov e y o is = back_either c.indicator _ _ o is
  back none Tix e y o is = back_either (nat_eq c.index 0) _ _ o is
  back none Axt e y o is = back_single _ o is
  back none Tsq e y o is = back_single _ o is
  back none Inp e y o is = back_port _ (IsSingle meaning c (record (unlinks meaning c) { a = These (input_limit c.limits y) })) (IsSingle meaning c (record (unlinks meaning c) { a = These (input_limit c.limits y) })) o (back_single _ o) is
  back none Out e y o is = back_port _ (IsGiven meaning c y (moves_on c)) (IsGiven meaning c y (unlinks meaning c)) o (back_given y (moves_on c) o) is
  back none Dly e y o is = back_single _ o is

  back_word : c.row.link ≡ None → (named : Option Decoded) (o : Outcome D) → IsPlainOfWord meaning c named o → Back (IsPostsOfWord meaning c named) o
  back_word none (Some d) o is = back none d.order (effective_at c.index d.order d.indexed d.address) d.address o is
  back_word none None o is = (Err NoOrder, refl, sym is)

  pub back_case : c.row.link ≡ None → (o : Outcome D) → IsPlainOfCase meaning c o → Back (IsPostsOfCase meaning c) o
  back_case none o is = let linked = back_word none is.0 o is.2 in (linked.0, (is.0, is.1, linked.1), linked.2)
