-- A row is judged by the rows at the locations to which its posts go. Behind the law is
--     judged_alike    what comes of a row stays where the rows differ elsewhere
use Rattle.std.proofs.Common.{◌≡◌, ℕ, zero, suc, ◌+◌, refl, subst, arith, List, [], ◌∷◌, inl, inr}
use Rattle.std.specs.Prelude.{Option, Some, None, IfSome, Result, Ok, Err}
use Rattle.std.specs.List.{Contains}
use Rattle.ags_domain.specs.Domain.{Meaning}
use Rattle.ags_domain.specs.declared.word_sets.WordSet.{WordSet}
use Rattle.ags_ports.specs.declared.machines.Machine.{Machine}
use Rattle.ags_row.specs.declared.posts.Post.{Post}
use Rattle.ags_row.specs.declared.rows.Row.{Row}
use Rattle.ags_safe.specs.Case.{Case, IsCode}
use Rattle.ags_safe.specs.Posts.{Outcome, IsPostsOfCase}
use Rattle.ags_safe.specs.declared.answers.PostPair.{PostPair}
use Rattle.ags_safe.specs.Certificate.{Certificate}
use Rattle.ags_safe.specs.Accepted.{IsCovered}
use Rattle.ags_verdict.specs.InOrder.{InOrder}
use Rattle.ags_verdict.specs.RowCase.{RowCase, cases_in, case_in}
use Rattle.ags_verdict.specs.Fault.{IsUncovered, IsFirstUncovered, IsFaultOfAnswer, IsCaseJudged, IsJudgedWith, IsRowJudged}
use Rattle.ags_verdict.specs.Locality.{GoesTo, OneGoesTo, HasPostAt, DifferAtAlone}
use Rattle.ags_verdict.specs.declared.verdicts.RowFault.{RowFault}

-- what comes of each of some things by one judgement comes of it by another
each_moved : {X F : Type 0} (one other : ℕ → X → Result ℕ F → Type 0) (position : ℕ) (xs : List X)
    → ((p : ℕ) (x : X) (outcome : Result ℕ F) → Contains xs x → one p x outcome → other p x outcome)
    → (outcome : Result ℕ F) → InOrder one position xs outcome → InOrder other position xs outcome
each_moved one other position [] moved (Ok count) is = is
each_moved one other position [] moved (Err fault) is = is
each_moved one other position (x ∷ xs) moved (Ok count) is = (
  is.0,
  is.1,
  moved position x (Ok is.0) (0, omega arith, refl) is.2,
  each_moved one other (position + 1) xs (λ p y o c. moved p y o (suc c.0, omega (arith, c.1), c.2)) (Ok is.1) is.3,
  is.4,
)
each_moved one other position (x ∷ xs) moved (Err fault) (inl fails) = inl (moved position x (Err fault) (0, omega arith, refl) fails)
each_moved one other position (x ∷ xs) moved (Err fault) (inr later) =
    inr (
      later.0,
      moved position x (Ok later.0) (0, omega arith, refl) later.1,
      each_moved one other (position + 1) xs (λ p y o c. moved p y o (suc c.0, omega (arith, c.1), c.2)) (Err fault) later.2,
    )

module _ {D : Type 0} (meaning : Meaning D) (machine : Machine) (image : List (Option ℕ)) (cert : Certificate D) (at : ℕ → Type 0)
    (one other : List (Row D)) (differ : DifferAtAlone at one other) where
  abbrev Before : Certificate D
  Before = record cert { rows = one }

  abbrev After : Certificate D
  After = record cert { rows = other }

  covered_forth : (row : Row D) (post : Post D) → ¬ at post.next → IsCovered meaning Before row post → IsCovered meaning After row post
  covered_forth row post apart is =
      let elsewhere = differ is.1 (λ here. apart (subst at is.4.location here)) in
      let among = elsewhere.0 (is.0, is.2, is.3) in
      (among.0, is.1, among.1, among.2, is.4)

  covered_back : (row : Row D) (post : Post D) → ¬ at post.next → IsCovered meaning After row post → IsCovered meaning Before row post
  covered_back row post apart is =
      let elsewhere = differ is.1 (λ here. apart (subst at is.4.location here)) in
      let among = elsewhere.1 (is.0, is.2, is.3) in
      (among.0, is.1, among.1, among.2, is.4)

  -- what may be a post goes to none of the locations
  abbrev Avoids : Option (Post D) → Type 0
  Avoids post = (location : ℕ) → GoesTo post location → ¬ at location

  post_forth : (row : Row D) (post : Option (Post D)) → Avoids post → IfSome post (IsCovered meaning Before row) → IfSome post (IsCovered meaning After row)
  post_forth row None avoids is = tt
  post_forth row (Some post) avoids is = covered_forth row post (avoids post.next refl) is

  uncovered_forth : (row : Row D) (post : Option (Post D)) (next : ℕ) → Avoids post → IsUncovered meaning Before row post next → IsUncovered meaning After row post next
  uncovered_forth row None next avoids is = is
  uncovered_forth row (Some post) next avoids is = (λ covered. is.0 (covered_back row post (avoids post.next refl) covered), is.1)

  -- so do two posts
  abbrev Avoid : PostPair D → Type 0
  Avoid pair = (location : ℕ) → OneGoesTo pair location → ¬ at location

  first_forth : (row : Row D) (pair : PostPair D) (next : ℕ) → Avoid pair → IsFirstUncovered meaning Before row pair next → IsFirstUncovered meaning After row pair next
  first_forth row pair next avoid (inl is) = inl (uncovered_forth row pair.first next (λ location goes. avoid location (inl goes)) is)
  first_forth row pair next avoid (inr is) = inr (
    post_forth row pair.first (λ location goes. avoid location (inl goes)) is.0,
    uncovered_forth row pair.second next (λ location goes. avoid location (inr goes)) is.1,
  )

  -- so do the posts of a case
  abbrev CaseAvoids : Case D → Type 0
  CaseAvoids c = (pair : PostPair D) → IsPostsOfCase meaning c (Ok pair) → Avoid pair

  fault_forth : (c : Case D) (answer : Outcome D) (told : RowFault D) → IsPostsOfCase meaning c answer → CaseAvoids c
      → IsFaultOfAnswer meaning Before c answer told → IsFaultOfAnswer meaning After c answer told
  fault_forth c (Err why) told posts avoids is = is
  fault_forth c (Ok pair) told posts avoids is = (is.0, first_forth c.row pair is.0 (avoids pair posts) is.1, is.2)

  case_forth : (c : Case D) (outcome : Result ℕ (RowFault D)) → CaseAvoids c → IsCaseJudged meaning Before c outcome → IsCaseJudged meaning After c outcome
  case_forth c (Ok count) avoids is =
      let avoid = avoids is.0.0 is.0.1 in (
        (
          is.0.0,
          is.0.1,
          post_forth c.row is.0.0.first (λ location goes. avoid location (inl goes)) is.0.2,
          post_forth c.row is.0.0.second (λ location goes. avoid location (inr goes)) is.0.3,
        ),
        is.1,
      )
  case_forth c (Err told) avoids is = (is.0, is.1, fault_forth c is.0 told is.1 avoids is.2)

  module _ (row : Row D) (avoids : (location : ℕ) → at location → ¬ HasPostAt meaning machine image cert.limits row location) where
    -- a case of the row has no post at the locations
    case_avoids : (code : WordSet) → IsCode meaning image cert.limits row (Some code) → (c : RowCase) → Contains (cases_in row code.list) c
        → CaseAvoids (case_in machine image cert.limits row c)
    case_avoids code is_code c stands pair posts location goes here =
        avoids location here (code, is_code, (stands.0, c, stands.1, stands.2, (pair, posts, goes)))

    with_forth : (code : Option WordSet) (outcome : Result ℕ (RowFault D)) → IsCode meaning image cert.limits row code
        → IsJudgedWith meaning Before machine image row code outcome → IsJudgedWith meaning After machine image row code outcome
    with_forth None outcome is_code is = is
    with_forth (Some code) outcome is_code is = each_moved
        (λ position c o. IsCaseJudged meaning Before (case_in machine image cert.limits row c) o)
        (λ position c o. IsCaseJudged meaning After (case_in machine image cert.limits row c) o) 0 (cases_in row code.list)
        (λ position c o stands judged. case_forth (case_in machine image cert.limits row c) o (case_avoids code is_code c stands) judged) outcome is

    pub judged_alike : (outcome : Result ℕ (RowFault D)) → IsRowJudged meaning Before machine image row outcome → IsRowJudged meaning After machine image row outcome
    judged_alike outcome is = (is.0, is.1, with_forth is.0 outcome is.1 is.2)
