-- A certificate of which no item fails is accepted.
use Rattle.std.proofs.Common.{ℕ, ◌+◌, Bool, refl, List, get_or, inl, inr}
use Rattle.std.specs.Prelude.{Option, Some, None, Ok, Err, IfSome}
use Rattle.std.proofs.lemmas.List.{get_or_default}
use Rattle.ags_domain.specs.Domain.{Meaning}
use Rattle.ags_domain.specs.declared.word_sets.WordSet.{WordSet}
use Rattle.ags_image.specs.Image.{entry_at, word_at}
use Rattle.ags_ports.specs.declared.machines.Machine.{Machine}
use Rattle.ags_row.specs.Limit.{cell_limit}
use Rattle.ags_row.specs.declared.posts.Post.{Post}
use Rattle.ags_row.specs.declared.rows.Row.{Row}
use Rattle.ags_safe.specs.Case.{Case, case_of, IsCode}
use Rattle.ags_safe.specs.Posts.{Outcome, IsPostsOfCase}
use Rattle.ags_safe.specs.Certificate.{Certificate}
use Rattle.ags_safe.specs.Accepted.{IsCovered, IsCaseAccepted, IsRowAccepted, Accepted}
use Rattle.ags_safe.specs.Failing.{Item, CellItem, StartItem, CodeItem, CaseItem, Fault, InitRange, StartUncovered, CodeUnknown, Stopped, NotCovered, StandsAt, IsJudged, IsUncovered, CaseFails, Fails, AreAnswered}
use Rattle.ags_safe.proofs.DecisionLemmas.{so_unless, is_covered, start_is_held, first_held}

module _ {D : Type 0} (meaning : Meaning D) (machine : Machine) (image : List (Option ℕ)) (cert : Certificate D) where
  -- a post that is never told is covered
  covered_unless : (position : ℕ) (c : Case D) (post : Option (Post D))
      → ((fault : Fault D) → IsUncovered meaning machine image cert position c post fault → ⊥) → IfSome post (IsCovered meaning cert c.row)
  covered_unless position c None never = tt
  covered_unless position c (Some post) never = so_unless (is_covered meaning cert c.row post)
      (λ uncovered. never (NotCovered (position + 1) c.word c.index c.indicator post.next) (uncovered, refl))

  case_accepted : (position : ℕ) (c : Case D) (outcome : Outcome D) → IsPostsOfCase meaning c outcome
      → ((fault : Fault D) → CaseFails meaning machine image cert position c outcome fault → ⊥) → IsCaseAccepted meaning cert c
  case_accepted position c (Err stop) posts never = absurd (never (Stopped (position + 1) c.word stop) refl)
  case_accepted position c (Ok pair) posts never =
      let first : IfSome pair.first (IsCovered meaning cert c.row) = covered_unless position c pair.first (λ fault told. never fault (inl told)) in
      (pair, posts, first, covered_unless position c pair.second (λ fault told. never fault (inr (first, told))))

  module _ (answered : AreAnswered meaning machine image cert) (never : (item : Item) (fault : Fault D) → ¬ Fails meaning machine image cert item fault) where
    row_of_code : (position : ℕ) (row : Row D) (code : Option WordSet) → StandsAt cert position row → IsCode meaning image cert.limits row code
        → ((word index : ℕ) (indicator : Bool) → IsJudged meaning machine image cert row word index indicator
        → (outcome : Outcome D) × IsPostsOfCase meaning (case_of machine image cert.limits row word index indicator) outcome)
        → IsRowAccepted meaning machine image cert row
    row_of_code position row None stands is_code outcomes = absurd (never (CodeItem position) (CodeUnknown (position + 1)) (row, stands, is_code, refl))
    row_of_code position row (Some code) stands is_code outcomes = record {
      code = code;
      is_code = is_code;
      cases = λ word index indicator listed x v.
          let judged : IsJudged meaning machine image cert row word index indicator =
          record { code = code; is_code = is_code; listed = listed; index_may_stand = x; indicator_may_stand = v } in
          let outcome = outcomes word index indicator judged in
          case_accepted position (case_of machine image cert.limits row word index indicator) outcome.0 outcome.1
          (λ fault fails. never (CaseItem position word index indicator) fault (row, stands, judged, outcome.0, outcome.1, fails));
    }

    pub accepted_unless : Accepted meaning machine image cert
    accepted_unless = record {
      first_words = λ address below. so_unless (first_held meaning (cell_limit cert.limits address) (entry_at image address) (cert.init address))
          (λ out. never (CellItem address) (InitRange address (word_at image address)) (below, out, refl));
      start = so_unless (start_is_held meaning image cert) (λ none. never StartItem StartUncovered (none, refl));
      rows = λ position d inside.
          let row = get_or cert.rows position d in
          let code = answered.codes position d inside in
          row_of_code position row code.0 (inside, get_or_default cert.rows position row d inside) code.1 (answered.cases position d inside);
    }
