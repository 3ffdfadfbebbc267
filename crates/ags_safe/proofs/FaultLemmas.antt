-- No item of an accepted certificate fails, and the first fault is one.
use Rattle.std.proofs.Common.{◌≡◌, ℕ, ◌⊎◌, Bool, true, false, refl, sym, ap, subst, ◌∙◌, List, [], ◌∷◌, ⊎_elim, inl, inr}
use Rattle.std.specs.Prelude.{Option, Some, None, Ok, Err, IfSome}
use Rattle.std.proofs.lemmas.Bool.{cases_order}
use Rattle.std.proofs.lemmas.List.{get_or_default}
use Rattle.ags_domain.specs.Domain.{Meaning, IsMeaning}
use Rattle.ags_domain.specs.WordSet.{lists}
use Rattle.ags_domain.specs.declared.word_sets.WordSet.{WordSet}
use Rattle.ags_ports.specs.declared.machines.Machine.{Machine}
use Rattle.ags_ports.specs.Machine.{IsMachine}
use Rattle.ags_row.specs.Flag.{indicator_number}
use Rattle.ags_row.specs.declared.posts.Post.{Post}
use Rattle.ags_row.specs.declared.rows.Row.{Row}
use Rattle.ags_safe.specs.Case.{Case, case_of}
use Rattle.ags_safe.specs.Posts.{Outcome, IsPostsOfCase}
use Rattle.ags_safe.specs.declared.answers.PostPair.{PostPair}
use Rattle.ags_safe.proofs.OneAnswerLemmas.{one_answer}
use Rattle.ags_safe.proofs.CodeLemmas.{code_one}
use Rattle.ags_safe.specs.Certificate.{Certificate}
use Rattle.ags_safe.specs.Accepted.{IsCovered, IsRowAccepted, Accepted}
use Rattle.ags_safe.specs.Failing.{Item, CellItem, StartItem, CodeItem, CaseItem, Fault, Precedes, position_of_item, StandsAt, IsUncovered, CaseFails, Fails, IsFirstFault}

none_some : (code : WordSet) → ◌≡◌ {A = Option WordSet} None (Some code) → ⊥
none_some code h = cc

same_set : (one other : WordSet) → ◌≡◌ {A = Option WordSet} (Some one) (Some other) → one ≡ other
same_set one other h = cc

-- ---- one of two positions is before the other, or they are one

order_of : (xs ys : List ℕ) → Precedes xs ys ⊎ (Precedes ys xs ⊎ (xs ≡ ys))
order_of [] [] = inr (inr refl)
order_of [] (y ∷ ys) = inl tt
order_of (x ∷ xs) [] = inr (inl tt)
order_of (x ∷ xs) (y ∷ ys) = ⊎_elim
    (λ same. ⊎_elim
    (λ before. inl (inr (same, before)))
    (λ others. ⊎_elim (λ after. inr (inl (inr (sym same, after)))) (λ one. inr (inr (both same one))) others)
    (order_of xs ys))
    (λ apart. ⊎_elim (λ less. inl (inl less)) (λ more. inr (inl (inl more))) apart)
    (cases_order x y)
  where
    both : x ≡ y → xs ≡ ys → x ∷ xs ≡ y ∷ ys
    both p r = cc

same_indicator : (one other : Bool) → indicator_number one ≡ indicator_number other → one ≡ other
same_indicator true true h = refl
same_indicator true false h = absurd cc
same_indicator false true h = absurd cc
same_indicator false false h = refl

same_case : (row word index line w x : ℕ) (indicator v : Bool) → row ≡ line → word ≡ w → index ≡ x → indicator ≡ v
    → CaseItem row word index indicator ≡ CaseItem line w x v
same_case row word index line w x indicator v p r q t = cc

-- items at one position are one
one_item : (one other : Item) → position_of_item one ≡ position_of_item other → one ≡ other
one_item (CellItem address) (CellItem another) h = let same : address ≡ another = cc in ap (λ (n : ℕ). CellItem n) same
one_item (CellItem address) StartItem h = absurd cc
one_item (CellItem address) (CodeItem row) h = absurd cc
one_item (CellItem address) (CaseItem row word index indicator) h = absurd cc
one_item StartItem (CellItem address) h = absurd cc
one_item StartItem StartItem h = refl
one_item StartItem (CodeItem row) h = absurd cc
one_item StartItem (CaseItem row word index indicator) h = absurd cc
one_item (CodeItem row) (CellItem address) h = absurd cc
one_item (CodeItem row) StartItem h = absurd cc
one_item (CodeItem row) (CodeItem line) h = let same : row ≡ line = cc in ap (λ (n : ℕ). CodeItem n) same
one_item (CodeItem row) (CaseItem line word index indicator) h = absurd cc
one_item (CaseItem row word index indicator) (CellItem address) h = absurd cc
one_item (CaseItem row word index indicator) StartItem h = absurd cc
one_item (CaseItem row word index indicator) (CodeItem line) h = absurd cc
one_item (CaseItem row word index indicator) (CaseItem line w x v) h =
    let lines : row ≡ line = cc in
    let words : word ≡ w = cc in
    let indices : index ≡ x = cc in
    let numbers : indicator_number indicator ≡ indicator_number v = cc in
    same_case row word index line w x indicator v lines words indices (same_indicator indicator v numbers)

module _ {D : Type 0} (meaning : Meaning D) (lawful : IsMeaning D meaning) (machine : Machine) (image : List (Option ℕ)) (cert : Certificate D)
    (machine_is : IsMachine machine) where
  -- one row stands at a position
  one_row : (position : ℕ) (row other : Row D) → StandsAt cert position row → StandsAt cert position other → row ≡ other
  one_row position row other p r = sym p.1 ∙ get_or_default cert.rows position row other p.0 ∙ r.1

  -- ---- an accepted certificate

  -- a post that is covered isn't told
  covered_or_told : (position : ℕ) (c : Case D) (post : Option (Post D)) (fault : Fault D) → IfSome post (IsCovered meaning cert c.row)
      → IsUncovered meaning machine image cert position c post fault → ⊥
  covered_or_told position c None fault covers told = told
  covered_or_told position c (Some post) fault covers told = told.0 covers

  pair_covered : (position : ℕ) (c : Case D) (pair : PostPair D) (fault : Fault D) → IfSome pair.first (IsCovered meaning cert c.row)
      → IfSome pair.second (IsCovered meaning cert c.row) → CaseFails meaning machine image cert position c (Ok pair) fault → ⊥
  pair_covered position c pair fault first second fails = ⊎_elim
      (λ told. covered_or_told position c pair.first fault first told)
      (λ told. covered_or_told position c pair.second fault second told.1)
      fails

  row_accepted : Accepted meaning machine image cert → (position : ℕ) (row : Row D) → StandsAt cert position row → IsRowAccepted meaning machine image cert row
  row_accepted accepted position row stands =
      subst (λ (r : Row D). IsRowAccepted meaning machine image cert r) stands.1 (accepted.rows position row stands.0)

  pub accepted_none : (item : Item) (fault : Fault D) → Accepted meaning machine image cert → ¬ Fails meaning machine image cert item fault
  accepted_none (CellItem address) fault accepted fails = fails.1 (accepted.first_words address fails.0)
  accepted_none StartItem fault accepted fails = fails.0 accepted.start
  accepted_none (CodeItem position) fault accepted fails =
      let row_is = row_accepted accepted position fails.0 fails.1 in
      none_some row_is.code (code_one meaning image cert.limits fails.0 None (Some row_is.code) fails.2 row_is.is_code)
  accepted_none (CaseItem position word index indicator) fault accepted fails =
      let row = fails.0 in
      let c = case_of machine image cert.limits row word index indicator in
      let row_is = row_accepted accepted position row fails.1 in
      let judged = fails.2 in
      let same : judged.code ≡ row_is.code = same_set judged.code row_is.code
      (code_one meaning image cert.limits row (Some judged.code) (Some row_is.code) judged.is_code row_is.is_code) in
      let case_is = row_is.cases word index indicator (subst (λ (set : WordSet). lists set.list word ≡ true) same judged.listed)
      judged.index_may_stand judged.indicator_may_stand in
      let one : fails.3 ≡ Ok case_is.0 = one_answer meaning lawful c fails.3 (Ok case_is.0) machine_is fails.4 case_is.1 in
      pair_covered position c case_is.0 fault case_is.2 case_is.3
      (subst (λ (outcome : Outcome D). CaseFails meaning machine image cert position c outcome fault) one fails.5)

  -- ---- one fault

  one_uncovered : (position : ℕ) (c : Case D) (post : Option (Post D)) (fault other : Fault D) → IsUncovered meaning machine image cert position c post fault
      → IsUncovered meaning machine image cert position c post other → fault ≡ other
  one_uncovered position c None fault other p r = absurd p
  one_uncovered position c (Some post) fault other p r = p.1 ∙ sym r.1

  one_of_case : (position : ℕ) (c : Case D) (outcome : Outcome D) (fault other : Fault D) → CaseFails meaning machine image cert position c outcome fault
      → CaseFails meaning machine image cert position c outcome other → fault ≡ other
  one_of_case position c (Err stop) fault other p r = p ∙ sym r
  one_of_case position c (Ok pair) fault other p r = ⊎_elim
      (λ told. ⊎_elim
      (λ also. one_uncovered position c pair.first fault other told also)
      (λ also. absurd (covered_or_told position c pair.first fault also.0 told))
      r)
      (λ told. ⊎_elim
      (λ also. absurd (covered_or_told position c pair.first other told.0 also))
      (λ also. one_uncovered position c pair.second fault other told.1 also.1)
      r)
      p

  one_of_item : (item : Item) (fault other : Fault D) → Fails meaning machine image cert item fault → Fails meaning machine image cert item other
      → fault ≡ other
  one_of_item (CellItem address) fault other p r = p.2 ∙ sym r.2
  one_of_item StartItem fault other p r = p.1 ∙ sym r.1
  one_of_item (CodeItem position) fault other p r = p.3 ∙ sym r.3
  one_of_item (CaseItem position word index indicator) fault other p r =
      let same : p.0 ≡ r.0 = one_row position p.0 r.0 p.1 r.1 in
      let c = case_of machine image cert.limits p.0 word index indicator in
      let posts : IsPostsOfCase meaning c r.3 =
      subst (λ (row : Row D). IsPostsOfCase meaning (case_of machine image cert.limits row word index indicator) r.3) (sym same) r.4 in
      let told : CaseFails meaning machine image cert position c r.3 other =
      subst (λ (row : Row D). CaseFails meaning machine image cert position (case_of machine image cert.limits row word index indicator) r.3 other) (sym same) r.5 in
      let one : p.3 ≡ r.3 = one_answer meaning lawful c p.3 r.3 machine_is p.4 posts in
      one_of_case position c r.3 fault other (subst (λ (outcome : Outcome D). CaseFails meaning machine image cert position c outcome fault) one p.5) told

  pub one_first : (fault other : Fault D) → IsFirstFault meaning machine image cert fault → IsFirstFault meaning machine image cert other → fault ≡ other
  one_first fault other p r = ⊎_elim
      (λ before. absurd (r.first p.item fault before p.fails))
      (λ rest. ⊎_elim
      (λ after. absurd (p.first r.item other after r.fails))
      (λ same. one_of_item p.item fault other p.fails
      (subst (λ (item : Item). Fails meaning machine image cert item other) (sym (one_item p.item r.item same)) r.fails))
      rest)
      (order_of (position_of_item p.item) (position_of_item r.item))
