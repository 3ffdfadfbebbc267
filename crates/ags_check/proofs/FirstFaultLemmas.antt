-- A refusal tells the fault of the first item that fails. Behind the law of the same name are
--     fault_of_refusal    the fault that a refusal tells
--     refusal_of_first    the refusal of the first fault
use Rattle.std.proofs.Common.{◌≡◌, ℕ, ◌+◌, ◌<◌, Bool, true, refl, sym, ap, subst, ◌∙◌, inl, inr, arith, List, [], ◌∷◌, ◌++◌, length, get_or}
use Rattle.std.specs.Prelude.{Option, Some, None, Ok, Err}
use Rattle.std.specs.List.{AllByRecursion}
use Rattle.std.proofs.lemmas.List.{get_or_append_left}
use Rattle.std.proofs.lemmas.List.Elements.{recursion_from_All}
use Rattle.ags_domain.specs.Domain.{Meaning, IsMeaning}
use Rattle.ags_domain.specs.WordSet.{lists}
use Rattle.ags_domain.specs.Value.{value_meaning}
use Rattle.ags_domain.specs.MeaningLaws.{value_lawful}
use Rattle.ags_domain.specs.declared.word_sets.WordSet.{WordSet}
use Rattle.ags_domain.specs.declared.values.Value.{Value}
use Rattle.ags_image.specs.Image.{IsImage, word_at}
use Rattle.ags_ports.specs.declared.machines.Machine.{Machine}
use Rattle.ags_ports.specs.Machine.{IsMachine}
use Rattle.ags_row.specs.Flag.{has_flag, indicator_number}
use Rattle.ags_row.specs.declared.posts.Post.{Post}
use Rattle.ags_row.specs.declared.rows.Row.{Row}
use Rattle.ags_safe.specs.Case.{Case, case_of, IsCode}
use Rattle.ags_safe.specs.Posts.{Outcome, IsPostsOfCase}
use Rattle.ags_safe.specs.Certificate.{Certificate}
use Rattle.ags_safe.specs.Accepted.{IsCaseAccepted, IsRowAccepted}
use Rattle.ags_safe.specs.Failing.{Item, CellItem, StartItem, CodeItem, CaseItem, Fault, InitRange, StartUncovered, CodeUnknown, Stopped, NotCovered, Precedes, position_of_item, StandsAt, IsJudged, CaseFails, Fails, IsFirstFault, IsUncovered as IsToldPost}
use Rattle.ags_safe.proofs.FaultLemmas.{accepted_none, one_first}
use Rattle.ags_verdict.specs.RowCase.{RowCase, numbers_of, cases_in, case_in}
use Rattle.ags_verdict.specs.Fault.{refusal_of, IsUncovered, IsFaultOfAnswer}
use Rattle.ags_verdict.specs.Flat.{IsFirstCase, IsFirstInRow, IsFirstRow, IsFirstFailing}
use Rattle.ags_verdict.specs.Verdict.{IsInitRefused, IsStartRefused, IsVerdict}
use Rattle.ags_verdict.specs.declared.verdicts.RowFault.{RowFault}
use Rattle.ags_verdict.specs.declared.verdicts.Refusal.{Refusal}
use Rattle.ags_verdict.specs.declared.verdicts.Verdict.{Verdict}
use Rattle.ags_verdict.specs.declared.verdicts.Verdict.TheVariants.{Certified, Refused}
use Rattle.ags_verdict.proofs.CaseLemmas.{cases_each, each_cases}
use Rattle.ags_verdict.proofs.TurnLemmas.{InTurn, StandsBefore, one_way, cases_in_turn, earlier_hold}
use Rattle.ags_verdict.proofs.VerdictLemmas.{accepted_of, first_of}
use Rattle.ags_check.specs.Told.{refusal_of_fault}
use Rattle.ags_check.proofs.UnfailingLemmas.{one_row, accepted_or_fails, one_code, some_or_none, row_or_case}
use Rattle.ags_check.proofs.AnswerLemmas.{some_verdict}

-- ---- an element between others

module _ {X : Type 0} where
  stands_inside : (before behind : List X) (x d : X) → (length before < length (before ++ (x ∷ behind))) × (get_or (before ++ (x ∷ behind)) (length before) d ≡ x)
  stands_inside [] behind x d = (omega arith, refl)
  stands_inside (y ∷ before) behind x d = let rest = stands_inside before behind x d in (omega (arith, rest.0), rest.1)

  between : (P : X → Type 0) (before behind : List X) (x : X) → AllByRecursion P (before ++ (x ∷ behind)) → P x
  between P [] behind x each = each.0
  between P (y ∷ before) behind x each = between P before behind x each.1

module _ {D : Type 0} (meaning : Meaning D) (lawful : IsMeaning D meaning) (machine : Machine) (image : List (Option ℕ)) (cert : Certificate D)
    (machine_is : IsMachine machine) where
  abbrev HasFirst : Refusal D → Type 0
  HasFirst told = (fault : Fault D) × IsFirstFault meaning machine image cert fault × (told ≡ refusal_of_fault fault)

  abbrev CaseAccepted : Row D → RowCase → Type 0
  CaseAccepted row c = IsCaseAccepted meaning cert (case_in machine image cert.limits row c)

  -- ---- a first word, and the start

  init_first : (told : Refusal D) → IsInitRefused meaning machine image cert told → HasFirst told
  unfolding word_at
  init_first told is = (
    InitRange is.address (word_at image is.address),
    record { item = CellItem is.address; fails = (is.erasable, is.fails, refl); first = earlier },
    is.is,
  )
    where
      earlier : (item : Item) (other : Fault D) → Precedes (position_of_item item) (0 ∷ is.address ∷ []) → ¬ Fails meaning machine image cert item other
      earlier (CellItem address) other (inl less) fails = omega (arith, less)
      earlier (CellItem address) other (inr (same, inl less)) fails = fails.1 (is.first address less)
      earlier (CellItem address) other (inr (same, inr never)) fails = absurd never.1
      earlier StartItem other before fails = omega (arith, before)
      earlier (CodeItem row) other before fails = omega (arith, before)
      earlier (CaseItem row word index indicator) other before fails = omega (arith, before)

  start_first : (told : Refusal D) → IsStartRefused meaning machine image cert told → HasFirst told
  start_first told is = (StartUncovered, record { item = StartItem; fails = (is.fails, refl); first = earlier }, is.is)
    where
      earlier : (item : Item) (other : Fault D) → Precedes (position_of_item item) (1 ∷ []) → ¬ Fails meaning machine image cert item other
      earlier (CellItem address) other before fails = fails.1 (is.first_words address fails.0)
      earlier StartItem other (inl less) fails = omega (arith, less)
      earlier StartItem other (inr never) fails = absurd never.1
      earlier (CodeItem row) other (inl less) fails = omega (arith, less)
      earlier (CodeItem row) other (inr never) fails = absurd never.1
      earlier (CaseItem row word index indicator) other (inl less) fails = omega (arith, less)
      earlier (CaseItem row word index indicator) other (inr never) fails = absurd never.1

  -- ---- a case

  uncovered_told : (position : ℕ) (c : Case D) (post : Option (Post D)) (next : ℕ) → IsUncovered meaning cert c.row post next
      → IsToldPost meaning machine image cert position c post (NotCovered (position + 1) c.word c.index c.indicator next)
  uncovered_told position c None next is = is
  uncovered_told position c (Some post) next is = (is.0, ap (λ (n : ℕ). NotCovered (position + 1) c.word c.index c.indicator n) is.1)

  -- a fault of a case, and the refusal that tells it
  abbrev IsToldCase : ℕ → Case D → Outcome D → RowFault D → Type 0
  IsToldCase position c outcome told = (fault : Fault D) × CaseFails meaning machine image cert position c outcome fault × (refusal_of (position + 1) told ≡ refusal_of_fault fault)

  case_told : (position : ℕ) (c : Case D) (outcome : Outcome D) (told : RowFault D) → IsFaultOfAnswer meaning cert c outcome told
      → IsToldCase position c outcome told
  case_told position c (Err why) told is = (Stopped (position + 1) c.word why, refl, ap (λ (f : RowFault D). refusal_of (position + 1) f) is)
  case_told position c (Ok pair) told (next, inl is, same) = (
    NotCovered (position + 1) c.word c.index c.indicator next,
    inl (uncovered_told position c pair.first next is),
    ap (λ (f : RowFault D). refusal_of (position + 1) f) same,
  )
  case_told position c (Ok pair) told (next, inr (first, is), same) = (
    NotCovered (position + 1) c.word c.index c.indicator next,
    inr (first, uncovered_told position c pair.second next is),
    ap (λ (f : RowFault D). refusal_of (position + 1) f) same,
  )

  abbrev InRow : Row D → List ℕ → RowCase → Type 0
  InRow row words c = (lists words c.word ≡ true) × (has_flag row.x c.index ≡ true) × (has_flag row.v (indicator_number c.indicator) ≡ true)

  in_row : (row : Row D) (words : List ℕ) → AllByRecursion (InRow row words) (cases_in row words)
  in_row row words = cases_each row (InRow row words) words (λ word index indicator listed x v. (listed, x, v))

  -- ---- a row

  module _ (told : Refusal D) (is : IsFirstRow meaning machine image cert told) where
    abbrev position : ℕ
    position = length is.before

    stands : StandsAt cert position is.fails
    stands = subst (λ (rows : List (Row D)). (position < length rows) × (get_or rows position is.fails ≡ is.fails)) (sym is.splits)
        (stands_inside is.before is.behind is.fails is.fails)

    -- each row before it is accepted
    earlier_row : (other : ℕ) (row : Row D) → other < position → StandsAt cert other row → IsRowAccepted meaning machine image cert row
    earlier_row other row less at =
        let same : get_or is.before other row ≡ row = sym (get_or_append_left is.before (is.fails ∷ is.behind) row other less)
        ∙ sym (ap (λ (rows : List (Row D)). get_or rows other row) is.splits) ∙ at.1 in
        subst (λ (r : Row D). IsRowAccepted meaning machine image cert r) same (is.accepted other row less)

    no_code : (other : ℕ) (fault : Fault D) → other < position → Fails meaning machine image cert (CodeItem other) fault → ⊥
    no_code other fault less fails =
        let accepted = earlier_row other fails.0 less fails.1 in
        some_or_none meaning lawful machine image cert machine_is fails.0 accepted.code accepted.is_code fails.2

    no_case : (other word index : ℕ) (indicator : Bool) (fault : Fault D) → other < position → Fails meaning machine image cert (CaseItem other word index indicator) fault → ⊥
    no_case other word index indicator fault less fails =
        row_or_case meaning lawful machine image cert machine_is other fails.0 word index indicator fails.3 fault (earlier_row other fails.0 less fails.1) fails.2 fails.4 fails.5

    -- ---- without a code

    code_first : IsCode meaning image cert.limits is.fails None → told ≡ refusal_of_fault {D = D} (CodeUnknown (position + 1)) → HasFirst told
    code_first none same = (CodeUnknown (position + 1), record { item = CodeItem position; fails = (is.fails, stands, none, refl); first = earlier }, same)
      where
        earlier : (item : Item) (other : Fault D) → Precedes (position_of_item item) (2 ∷ position ∷ []) → ¬ Fails meaning machine image cert item other
        earlier (CellItem address) other before fails = fails.1 (is.first_words address fails.0)
        earlier StartItem other before fails = fails.0 is.start
        earlier (CodeItem row) other (inl less) fails = omega (arith, less)
        earlier (CodeItem row) other (inr (same, inl less)) fails = no_code row other less fails
        earlier (CodeItem row) other (inr (same, inr never)) fails = absurd never.1
        earlier (CaseItem row word index indicator) other (inl less) fails = omega (arith, less)
        earlier (CaseItem row word index indicator) other (inr (same, inl less)) fails = no_case row word index indicator other less fails
        earlier (CaseItem row word index indicator) other (inr (same, inr never)) fails = absurd never.1

    -- ---- a case of it

    module _ (code : WordSet) (is_code : IsCode meaning image cert.limits is.fails (Some code)) (fault : RowFault D)
        (first : IsFirstCase meaning machine image cert is.fails code fault) where
      abbrev c : RowCase
      c = first.fails

      judged : IsJudged meaning machine image cert is.fails c.word c.index c.indicator
      judged =
          let at = between (InRow is.fails code.list) first.before first.behind c
          (subst (λ (cs : List RowCase). AllByRecursion (InRow is.fails code.list) cs) first.splits (in_row is.fails code.list)) in
          record { code = code; is_code = is_code; listed = at.0; index_may_stand = at.1; indicator_may_stand = at.2 }

      abbrev IsFine : RowCase → Type 0
      IsFine other = StandsBefore other c → CaseAccepted is.fails other

      each_earlier : AllByRecursion IsFine (cases_in is.fails code.list)
      each_earlier = subst (λ (cs : List RowCase). AllByRecursion IsFine cs) (sym first.splits)
          (earlier_hold StandsBefore (λ x y. one_way (numbers_of x) (numbers_of y)) (CaseAccepted is.fails) c first.before first.behind
          (subst (λ (cs : List RowCase). InTurn StandsBefore cs) first.splits (cases_in_turn is.fails code.list code.ascending))
          (recursion_from_All (CaseAccepted is.fails) first.before first.accepted))

      earlier_case : (word index : ℕ) (indicator : Bool) → IsJudged meaning machine image cert is.fails word index indicator
          → StandsBefore (record { word = word; index = index; indicator = indicator }) c
          → IsCaseAccepted meaning cert (case_of machine image cert.limits is.fails word index indicator)
      earlier_case word index indicator j before =
          each_cases is.fails IsFine code.list each_earlier word index indicator
          (subst (λ (set : WordSet). lists set.list word ≡ true) (one_code meaning lawful machine image cert machine_is is.fails j.code code j.is_code is_code) j.listed)
          j.index_may_stand j.indicator_may_stand before

      -- the row that stands at its position is the row
      same_code : (row : Row D) → StandsAt cert position row → IsCode meaning image cert.limits row None → ⊥
      same_code row at none = some_or_none meaning lawful machine image cert machine_is is.fails code is_code
          (subst (λ (r : Row D). IsCode meaning image cert.limits r None) (one_row meaning lawful machine image cert machine_is position row is.fails at stands) none)

      same_row : (word index : ℕ) (indicator : Bool) (other : Fault D) → StandsBefore (record { word = word; index = index; indicator = indicator }) c
          → Fails meaning machine image cert (CaseItem position word index indicator) other → ⊥
      same_row word index indicator other before fails =
          let same = one_row meaning lawful machine image cert machine_is position fails.0 is.fails fails.1 stands in
          accepted_or_fails meaning lawful machine image cert machine_is position is.fails word index indicator fails.3 other
          (earlier_case word index indicator (subst (λ (r : Row D). IsJudged meaning machine image cert r word index indicator) same fails.2) before)
          (subst (λ (r : Row D). IsPostsOfCase meaning (case_of machine image cert.limits r word index indicator) fails.3) same fails.4)
          (subst (λ (r : Row D). CaseFails meaning machine image cert position (case_of machine image cert.limits r word index indicator) fails.3 other) same fails.5)

      case_first : told ≡ refusal_of (position + 1) fault → HasFirst told
      case_first same =
          let answer = first.fault in
          let found = case_told position (case_in machine image cert.limits is.fails c) answer.0 fault answer.2 in (
            found.0,
            record {
              item = CaseItem position c.word c.index c.indicator;
              fails = (is.fails, stands, judged, answer.0, answer.1, found.1);
              first = earlier;
            },
            same ∙ found.2,
          )
        where
          earlier : (item : Item) (other : Fault D) → Precedes (position_of_item item) (2 ∷ position ∷ numbers_of c)
              → ¬ Fails meaning machine image cert item other
          earlier (CellItem address) other before fails = fails.1 (is.first_words address fails.0)
          earlier StartItem other before fails = fails.0 is.start
          earlier (CodeItem row) other (inl less) fails = omega (arith, less)
          earlier (CodeItem row) other (inr (same, inl less)) fails = no_code row other less fails
          earlier (CodeItem row) other (inr (same, inr (at, here))) fails =
              let here = subst (λ (n : ℕ). Fails meaning machine image cert (CodeItem n) other) at fails in
              same_code here.0 here.1 here.2
          earlier (CaseItem row word index indicator) other (inl less) fails = omega (arith, less)
          earlier (CaseItem row word index indicator) other (inr (same, inl less)) fails = no_case row word index indicator other less fails
          earlier (CaseItem row word index indicator) other (inr (same, inr (at, before))) fails =
              same_row word index indicator other before (subst (λ (n : ℕ). Fails meaning machine image cert (CaseItem n word index indicator) other) at fails)

    row_by : (code : Option WordSet) → IsCode meaning image cert.limits is.fails code → (fault : RowFault D)
        → IsFirstInRow meaning machine image cert is.fails code fault → told ≡ refusal_of (position + 1) fault → HasFirst told
    row_by None none fault first same = code_first none (same ∙ ap (λ (f : RowFault D). refusal_of (position + 1) f) first)
    row_by (Some code) is_code fault first same = case_first code is_code fault first same

    row_first : HasFirst told
    row_first = row_by is.code is.is_code is.fault is.first is.is

  -- ---- the first fault

  first_of_failing : (told : Refusal D) → IsFirstFailing meaning machine image cert told → HasFirst told
  first_of_failing told (inl init) = init_first told init
  first_of_failing told (inr (inl start)) = start_first told start
  first_of_failing told (inr (inr row)) = row_first told row

  fault_told : (told : Refusal D) → IsVerdict meaning machine image cert (Refused told) → HasFirst told
  fault_told told is = first_of_failing told (first_of meaning machine image cert told is)

  first_by : (fault : Fault D) → IsFirstFault meaning machine image cert fault
      → (verdict : Verdict D) × IsVerdict meaning machine image cert verdict → IsVerdict meaning machine image cert (Refused (refusal_of_fault fault))
  first_by fault first (Certified rows cases, is) =
      absurd (accepted_none meaning lawful machine image cert machine_is first.item fault (accepted_of meaning machine image cert rows cases is) first.fails)
  first_by fault first (Refused told, is) =
      let found = fault_told told is in
      let same : told ≡ refusal_of_fault fault = found.2
      ∙ ap (λ (f : Fault D). refusal_of_fault f) (one_first meaning lawful machine image cert machine_is found.0 fault found.1 first) in
      subst (λ (r : Refusal D). IsVerdict meaning machine image cert (Refused r)) same is

module _ (machine : Machine) (image : List (Option ℕ)) (cert : Certificate Value) where
  pub fault_of_refusal : (told : Refusal Value) → IsMachine machine → IsVerdict value_meaning machine image cert (Refused told)
      → (fault : Fault Value) × IsFirstFault value_meaning machine image cert fault × (told ≡ refusal_of_fault fault)
  fault_of_refusal told machine_is is = fault_told value_meaning value_lawful machine image cert machine_is told is

  pub refusal_of_first : (fault : Fault Value) → IsMachine machine → IsImage image → IsFirstFault value_meaning machine image cert fault
      → IsVerdict value_meaning machine image cert (Refused (refusal_of_fault fault))
  refusal_of_first fault machine_is is_image first = first_by value_meaning value_lawful machine image cert machine_is fault first
      (some_verdict machine image cert machine_is is_image)
