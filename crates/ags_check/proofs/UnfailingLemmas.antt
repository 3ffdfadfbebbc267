-- What is accepted doesn't fail: a row that has a code isn't one without, and a case whose posts are covered isn't one that fails.
use Rattle.std.proofs.Common.{◌≡◌, ℕ, Bool, true, sym, subst, ◌∙◌, inl, inr, List}
use Rattle.std.specs.Prelude.{Option, Some, None, Ok, IfSome}
use Rattle.std.proofs.lemmas.List.{get_or_default}
use Rattle.ags_domain.specs.Domain.{Meaning, IsMeaning}
use Rattle.ags_domain.specs.WordSet.{lists}
use Rattle.ags_domain.specs.declared.word_sets.WordSet.{WordSet}
use Rattle.ags_ports.specs.declared.machines.Machine.{Machine}
use Rattle.ags_ports.specs.Machine.{IsMachine}
use Rattle.ags_row.specs.declared.posts.Post.{Post}
use Rattle.ags_row.specs.declared.rows.Row.{Row}
use Rattle.ags_safe.specs.Case.{Case, case_of, IsCode}
use Rattle.ags_safe.specs.Posts.{Outcome, IsPostsOfCase}
use Rattle.ags_safe.specs.declared.answers.PostPair.{PostPair}
use Rattle.ags_safe.proofs.OneAnswerLemmas.{one_answer}
use Rattle.ags_safe.proofs.CodeLemmas.{code_one}
use Rattle.ags_safe.specs.Certificate.{Certificate}
use Rattle.ags_safe.specs.Accepted.{IsCovered, IsCaseAccepted, IsRowAccepted}
use Rattle.ags_safe.specs.Failing.{Fault, StandsAt, IsJudged, CaseFails, IsUncovered as IsToldPost}

none_some : (code : WordSet) → ◌≡◌ {A = Option WordSet} None (Some code) → ⊥
none_some code h = cc

same_set : (one other : WordSet) → ◌≡◌ {A = Option WordSet} (Some one) (Some other) → one ≡ other
same_set one other h = cc

module _ {D : Type 0} (meaning : Meaning D) (lawful : IsMeaning D meaning) (machine : Machine) (image : List (Option ℕ)) (cert : Certificate D)
    (machine_is : IsMachine machine) where
  pub one_row : (position : ℕ) (row other : Row D) → StandsAt cert position row → StandsAt cert position other → row ≡ other
  one_row position row other p r = sym p.1 ∙ get_or_default cert.rows position row other p.0 ∙ r.1

  covered_or_told : (position : ℕ) (c : Case D) (post : Option (Post D)) (fault : Fault D) → IfSome post (IsCovered meaning cert c.row)
      → IsToldPost meaning machine image cert position c post fault → ⊥
  covered_or_told position c None fault covers told = told
  covered_or_told position c (Some post) fault covers told = told.0 covers

  pair_covered : (position : ℕ) (c : Case D) (pair : PostPair D) (fault : Fault D) → IfSome pair.first (IsCovered meaning cert c.row)
      → IfSome pair.second (IsCovered meaning cert c.row) → CaseFails meaning machine image cert position c (Ok pair) fault → ⊥
  pair_covered position c pair fault first second (inl told) = covered_or_told position c pair.first fault first told
  pair_covered position c pair fault first second (inr told) = covered_or_told position c pair.second fault second told.1

  pub accepted_or_fails : (position : ℕ) (row : Row D) (word index : ℕ) (indicator : Bool) (outcome : Outcome D) (fault : Fault D)
      → IsCaseAccepted meaning cert (case_of machine image cert.limits row word index indicator)
      → IsPostsOfCase meaning (case_of machine image cert.limits row word index indicator) outcome
      → CaseFails meaning machine image cert position (case_of machine image cert.limits row word index indicator) outcome fault → ⊥
  accepted_or_fails position row word index indicator outcome fault accepted posts fails =
      let c = case_of machine image cert.limits row word index indicator in
      let one : outcome ≡ Ok accepted.0 = one_answer meaning lawful c outcome (Ok accepted.0) machine_is posts accepted.1 in
      pair_covered position c accepted.0 fault accepted.2 accepted.3
      (subst (λ (o : Outcome D). CaseFails meaning machine image cert position c o fault) one fails)

  pub one_code : (row : Row D) (one other : WordSet) → IsCode meaning image cert.limits row (Some one) → IsCode meaning image cert.limits row (Some other) → one ≡ other
  one_code row one other p r = same_set one other (code_one meaning image cert.limits row (Some one) (Some other) p r)

  pub some_or_none : (row : Row D) (code : WordSet) → IsCode meaning image cert.limits row (Some code) → IsCode meaning image cert.limits row None → ⊥
  some_or_none row code is none = none_some code (code_one meaning image cert.limits row None (Some code) none is)

  pub row_or_case : (position : ℕ) (row : Row D) (word index : ℕ) (indicator : Bool) (outcome : Outcome D) (fault : Fault D)
      → IsRowAccepted meaning machine image cert row → IsJudged meaning machine image cert row word index indicator
      → IsPostsOfCase meaning (case_of machine image cert.limits row word index indicator) outcome
      → CaseFails meaning machine image cert position (case_of machine image cert.limits row word index indicator) outcome fault → ⊥
  row_or_case position row word index indicator outcome fault accepted judged posts fails =
      let same = one_code row judged.code accepted.code judged.is_code accepted.is_code in
      accepted_or_fails position row word index indicator outcome fault
      (accepted.cases word index indicator (subst (λ (set : WordSet). lists set.list word ≡ true) same judged.listed) judged.index_may_stand judged.indicator_may_stand)
      posts fails
