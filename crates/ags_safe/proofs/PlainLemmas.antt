-- A certificate in which no row has a link is accepted just where it is by the table without links. Behind the law are
--     plainly, linked    the two directions
use Rattle.std.proofs.Common.{◌≡◌, ℕ, ◌<◌, Bool, true, refl, sym, ap, subst, arith, List, [], ◌∷◌, length, get_or, All, zero, suc}
use Rattle.std.specs.Prelude.{Option, Some, None, Ok, Err, IfSome, unwrap_or}
use Rattle.ags_domain.specs.Domain.{Meaning, IsWithin}
use Rattle.ags_ports.specs.declared.machines.Machine.{Machine}
use Rattle.ags_row.specs.Flag.{has_flag}
use Rattle.ags_row.specs.Limit.{Limiting}
use Rattle.ags_row.specs.Cover.{Covers, post_value, cell_value, value_if}
use Rattle.ags_row.specs.declared.ats.At.{At}
use Rattle.ags_row.specs.declared.links.Link.{Link}
use Rattle.ags_row.specs.declared.posts.Post.{Post}
use Rattle.ags_row.specs.declared.rows.Row.{Row}
use Rattle.ags_safe.specs.Case.{Case, case_of}
use Rattle.ags_safe.specs.Posts.{Outcome, IsPostsOfCase}
use Rattle.ags_safe.specs.PlainCase.{without_link, some_without_link, pair_without_link, outcome_without_link}
use Rattle.ags_safe.specs.declared.answers.PostPair.{PostPair}
use Rattle.ags_safe.proofs.PlainCaseLemmas.{plain_case, back_case}
use Rattle.ags_safe.proofs.GoingLemmas.{not_narrowed}
use Rattle.ags_safe.specs.Certificate.{Certificate}
use Rattle.ags_safe.specs.Accepted.{HoldsStart, IsCovered, IsCaseAccepted, IsRowAccepted, Accepted}
use Rattle.ags_safe.specs.Plain.{plain_value, PlainlyCovers, PlainlyHoldsStart, IsPlainlyCovered, IsCasePlainlyAccepted, IsRowPlainlyAccepted, PlainlyAccepted}

flag_below : (flags : List Bool) (n : ℕ) → has_flag flags n ≡ true → n < length flags
flag_below [] n is = absurd cc
flag_below (flag ∷ flags) zero is = omega arith
flag_below (flag ∷ flags) (suc n) is = let rest = flag_below flags n is in omega arith

module _ {D : Type 0} (meaning : Meaning D) where
  not_named : (narrowed : Option (At D)) (address : ℕ) (rest : D) → narrowed ≡ None → unwrap_or (value_if narrowed address) rest ≡ rest
  not_named None address rest none = refl
  not_named (Some at) address rest none = absurd cc

  value_same : (base : Row D) (limits : Limiting D) (post : Post D) (address : ℕ) → post.narrowed ≡ None
      → post_value base limits post address ≡ plain_value base limits (without_link post) address
  unfolding post_value
  value_same base limits post address none = ap (λ (rest : D). unwrap_or (value_if post.stored address) rest)
      (not_named post.narrowed address (unwrap_or (value_if post.code address) (cell_value base limits address)) none)

  cover_plainly : (target base : Row D) (post : Post D) (limits : Limiting D) → post.narrowed ≡ None
      → Covers meaning target base post limits → PlainlyCovers meaning target base (without_link post) limits
  cover_plainly target base post limits none covers = record {
    location = covers.location;
    a = covers.a;
    q = covers.q;
    index = covers.index;
    clear = covers.clear;
    set = covers.set;
    cells = λ k d inside. subst (λ (value : D). IsWithin meaning value (get_or target.at k d).value)
        (value_same base limits post (get_or target.at k d).address none) (covers.cells k d inside);
  }

  no_link_asked : (target : Option Link) (left : Option Link) → target ≡ None → IfSome target (λ link. left ≡ Some link)
  no_link_asked None left none = tt
  no_link_asked (Some link) left none = absurd cc

  cover_linked : (target base : Row D) (post : Post D) (limits : Limiting D) → post.narrowed ≡ None → target.link ≡ None
      → PlainlyCovers meaning target base (without_link post) limits → Covers meaning target base post limits
  cover_linked target base post limits none unlinked covers = record {
    location = covers.location;
    a = covers.a;
    q = covers.q;
    index = covers.index;
    clear = covers.clear;
    set = covers.set;
    cells = λ k d inside. subst (λ (value : D). IsWithin meaning value (get_or target.at k d).value)
        (sym (value_same base limits post (get_or target.at k d).address none)) (covers.cells k d inside);
    link = no_link_asked target.link post.link unlinked;
  }

  module _ (machine : Machine) (image : List (Option ℕ)) (cert : Certificate D) (unlinked : All (λ row. row.link ≡ None) cert.rows) where
    covered_plainly : (base : Row D) (post : Post D) → post.narrowed ≡ None → IsCovered meaning cert base post
        → IsPlainlyCovered meaning cert base (without_link post)
    covered_plainly base post none is = (is.0, is.1, is.2, is.3, cover_plainly is.1 base post cert.limits none is.4)

    covered_linked : (base : Row D) (post : Post D) → post.narrowed ≡ None → IsPlainlyCovered meaning cert base (without_link post)
        → IsCovered meaning cert base post
    covered_linked base post none is = (
      is.0,
      is.1,
      is.2,
      is.3,
      cover_linked is.1 base post cert.limits none (subst (λ (row : Row D). row.link ≡ None) is.3 (unlinked is.0 is.1 is.2)) is.4,
    )

    some_plainly : (base : Row D) (post : Option (Post D)) → IfSome post (λ p. p.narrowed ≡ None) → IfSome post (IsCovered meaning cert base)
        → IfSome (some_without_link post) (IsPlainlyCovered meaning cert base)
    some_plainly base None none is = tt
    some_plainly base (Some post) none is = covered_plainly base post none is

    some_linked : (base : Row D) (post : Option (Post D)) → IfSome post (λ p. p.narrowed ≡ None)
        → IfSome (some_without_link post) (IsPlainlyCovered meaning cert base) → IfSome post (IsCovered meaning cert base)
    some_linked base None none is = tt
    some_linked base (Some post) none is = covered_linked base post none is

    case_plainly : (c : Case D) → c.index < 8 → c.row.link ≡ None → IsCaseAccepted meaning cert c → IsCasePlainlyAccepted meaning cert c
    case_plainly c index none is =
        let narrowed = not_narrowed meaning c is.0 index none is.1 in (
          pair_without_link is.0,
          plain_case meaning c none (Ok is.0) is.1,
          some_plainly c.row is.0.first narrowed.0 is.2,
          some_plainly c.row is.0.second narrowed.1 is.3,
        )

    pair_linked : (c : Case D) (pair : PostPair D) (linked : Outcome D) → c.index < 8 → c.row.link ≡ None → IsPostsOfCase meaning c linked
        → outcome_without_link linked ≡ Ok pair → IfSome pair.first (IsPlainlyCovered meaning cert c.row)
        → IfSome pair.second (IsPlainlyCovered meaning cert c.row) → IsCaseAccepted meaning cert c
    pair_linked c pair (Ok linked) index none posts same first second =
        let narrowed = not_narrowed meaning c linked index none posts in
        let is : pair_without_link linked ≡ pair = cc in (
          linked,
          posts,
          some_linked c.row linked.first narrowed.0
              (subst (λ (p : PostPair D). IfSome p.first (IsPlainlyCovered meaning cert c.row)) (sym is) first),
          some_linked c.row linked.second narrowed.1
              (subst (λ (p : PostPair D). IfSome p.second (IsPlainlyCovered meaning cert c.row)) (sym is) second),
        )
    pair_linked c pair (Err stop) index none posts same first second = absurd cc

    case_linked : (c : Case D) → c.index < 8 → c.row.link ≡ None → IsCasePlainlyAccepted meaning cert c → IsCaseAccepted meaning cert c
    case_linked c index none is =
        let linked = back_case meaning c none (Ok is.0) is.1 in
        pair_linked c is.0 linked.0 index none linked.1 linked.2 is.2 is.3

    row_plainly : (row : Row D) → row.link ≡ None → IsRowAccepted meaning machine image cert row → IsRowPlainlyAccepted meaning machine image cert row
    row_plainly row none is = record {
      code = is.code;
      is_code = is.is_code;
      cases = λ word index indicator listed may indicated.
          let below = flag_below row.x index may in
          let eight = row.indices in
          case_plainly (case_of machine image cert.limits row word index indicator) (omega arith) none (is.cases word index indicator listed may indicated);
    }

    row_linked : (row : Row D) → row.link ≡ None → IsRowPlainlyAccepted meaning machine image cert row → IsRowAccepted meaning machine image cert row
    row_linked row none is = record {
      code = is.code;
      is_code = is.is_code;
      cases = λ word index indicator listed may indicated.
          let below = flag_below row.x index may in
          let eight = row.indices in
          case_linked (case_of machine image cert.limits row word index indicator) (omega arith) none (is.cases word index indicator listed may indicated);
    }

    start_plainly : (row : Row D) → HoldsStart meaning image cert row → PlainlyHoldsStart meaning image cert row
    start_plainly row is = record { location = is.location; a = is.a; q = is.q; index = is.index; indicator = is.indicator; cells = is.cells }

    nothing_asked : (P : Link → Type 0) (link : Option Link) → link ≡ None → IfSome link P
    nothing_asked P None none = tt
    nothing_asked P (Some link) none = absurd cc

    start_linked : (row : Row D) → row.link ≡ None → PlainlyHoldsStart meaning image cert row → HoldsStart meaning image cert row
    start_linked row none is = record {
      location = is.location;
      a = is.a;
      q = is.q;
      index = is.index;
      indicator = is.indicator;
      cells = is.cells;
      link = nothing_asked _ row.link none;
    }

    pub plainly : Accepted meaning machine image cert → PlainlyAccepted meaning machine image cert
    plainly is = record {
      first_words = is.first_words;
      start = (is.start.0, is.start.1, is.start.2, is.start.3, start_plainly is.start.1 is.start.4);
      rows = λ k d inside. row_plainly (get_or cert.rows k d) (unlinked k d inside) (is.rows k d inside);
    }

    pub linked : PlainlyAccepted meaning machine image cert → Accepted meaning machine image cert
    linked is = record {
      first_words = is.first_words;
      start = (
        is.start.0,
        is.start.1,
        is.start.2,
        is.start.3,
        start_linked is.start.1 (subst (λ (row : Row D). row.link ≡ None) is.start.3 (unlinked is.start.0 is.start.1 is.start.2)) is.start.4,
      );
      rows = λ k d inside. row_linked (get_or cert.rows k d) (unlinked k d inside) (is.rows k d inside);
    }
