-- Each budget has an answer, and one alone. The crates above cite:
--     some_timed, one_timed
use Rattle.std.proofs.Common.{◌≡◌, ℕ, ◌+◌, ◌<◌, ◌≤◌, ◌⊎◌, Bool, true, false, refl, sym, ap, subst, ◌∙◌, ⊎_elim, arith, List, length, inl, inr}
use Rattle.std.specs.Prelude.{Option, Some, None, Result, Ok, Err, IfSome, MatchBool}
use Rattle.std.proofs.lemmas.Bool.{cases_lt}
use Rattle.std.proofs.lemmas.List.Elements.{recursion_from_All}
use Rattle.ags_isa.specs.declared.orders.Order.{Order}
use Rattle.ags_isa.specs.declared.decoding.Decoded.{Decoded}
use Rattle.ags_domain.specs.Domain.{Meaning, IsMeaning}
use Rattle.ags_domain.specs.MeaningLaws.{value_lawful}
use Rattle.ags_domain.specs.Value.{value_meaning}
use Rattle.ags_domain.specs.declared.values.Value.{Value}
use Rattle.ags_image.specs.Image.{IsImage}
use Rattle.ags_ports.specs.declared.machines.Machine.{Machine}
use Rattle.ags_ports.specs.Machine.{IsMachine}
use Rattle.ags_ports.specs.Time.{time_of}
use Rattle.ags_ports.proofs.NamingLemmas.{decoding_same}
use Rattle.ags_row.specs.declared.posts.Post.{Post}
use Rattle.ags_row.specs.declared.rows.Row.{Row}
use Rattle.ags_safe.specs.Case.{Case}
use Rattle.ags_safe.specs.Posts.{Outcome, IsPostsOfCase}
use Rattle.ags_safe.specs.declared.answers.PostPair.{PostPair}
use Rattle.ags_safe.proofs.OneAnswerLemmas.{one_answer}
use Rattle.ags_safe.specs.Certificate.{Certificate}
use Rattle.ags_safe.specs.Accepted.{IsCovered, IsCaseAccepted, IsRowAccepted, Accepted}
use Rattle.ags_verdict.specs.RowCase.{RowCase, cases_in, case_in}
use Rattle.ags_verdict.specs.Verdict.{IsVerdict}
use Rattle.ags_verdict.specs.declared.verdicts.Verdict.{Verdict}
use Rattle.ags_verdict.specs.declared.verdicts.Verdict.TheVariants.{Certified, Refused}
use Rattle.ags_verdict.specs.declared.verdicts.Refusal.{Refusal}
use Rattle.ags_verdict.proofs.CaseLemmas.{cases_each}
use Rattle.ags_verdict.proofs.VerdictLemmas.{verdict_one, accepted_of}
use Rattle.ags_check.proofs.AnswerLemmas.{some_verdict}
use Rattle.ags_verdict.specs.Walk.{IsWalked, IsWalkedAt}
use Rattle.ags_verdict.specs.declared.walks.AtRow.{AtRow}
use Rattle.ags_times.specs.Budget.{bound_of}
use Rattle.ags_budget.specs.Over.{over}
use Rattle.ags_budget.specs.Timed.{AreRowsTimed, IsTimed}
use Rattle.ags_budget.specs.Timing.{is_dly, IsOrderOf, IsPostInTime, IsLate, IsFirstLate, ArePostsInTime, IsCaseInTime, IsCaseLate, IsCaseTimed}
use Rattle.ags_budget.specs.declared.answers.LateCase.{LateCase}
use Rattle.ags_budget.specs.declared.answers.Timed.{Timed}
use Rattle.ags_budget.specs.declared.answers.Timed.TheVariants.{Within, Unsafe, Over}
use Rattle.ags_budget.proofs.LeastLemmas.{is_at_most, is_covered_by, some_least, one_least, some_greatest, one_greatest}
use Rattle.ags_verdict.proofs.OrderedLemmas.{some_in_order, with_number, one_walk}
use Rattle.ags_budget.proofs.TimingLemmas.{of_true, of_false}

some_one : {A : Type 0} (left right : A) → ◌≡◌ {A = Option A} (Some left) (Some right) → left ≡ right
some_one left right same = cc

when_true : (P Q : Type 0) (b : Bool) → b ≡ true → MatchBool b P Q → P
when_true P Q true is p = p
when_true P Q false is p = absurd cc

when_false : (P Q : Type 0) (b : Bool) → b ≡ false → MatchBool b P Q → Q
when_false P Q true is q = absurd cc
when_false P Q false is q = q

late_one : (word x : ℕ) (v : Bool) (next other : Option ℕ) (needs more bound : ℕ) → next ≡ other → needs ≡ more
    → ◌≡◌ {A = LateCase} (record { word = word; x = x; v = v; next = next; needs = needs; bound = bound })
    (record { word = word; x = x; v = v; next = other; needs = more; bound = bound })
late_one word x v next other needs more bound p r = cc

module _ {D : Type 0} (meaning : Meaning D) (cert : Certificate D) (bounds : List ℕ) where
  module _ (bound time : ℕ) (base : Row D) where
    -- ---- a post is in time, or it is late

    not_both_post : (post : Option (Post D)) (next : Option ℕ) (needs : ℕ) → IfSome post (IsPostInTime meaning cert bounds bound time base)
        → IsLate meaning cert bounds bound time base post next needs → ⊥
    not_both_post None next needs fine late = late
    not_both_post (Some post) next needs fine late =
        let least = late.0.1 in
        let less : bound < time + late.0.0 = subst (λ (n : ℕ). bound < n) late.0.2 late.0.3 in
        least.none (fine.0, fine.1, fine.2, fine.3, (fine.4.0, omega (arith, less, fine.4.1)))

    not_both_posts : (pair : PostPair D) (next : Option ℕ) (needs : ℕ) → ArePostsInTime meaning cert bounds bound time base pair
        → IsFirstLate meaning cert bounds bound time base pair next needs → ⊥
    not_both_posts pair next needs fine (inl late) = not_both_post pair.first next needs fine.0 late
    not_both_posts pair next needs fine (inr late) = not_both_post pair.second next needs fine.1 late.1

    abbrev AreSame : (next other : Option ℕ) (needs more : ℕ) → Type 0
    AreSame next other needs more = (next ≡ other) × (needs ≡ more)

    one_late : (post : Option (Post D)) (next other : Option ℕ) (needs more : ℕ) → IsLate meaning cert bounds bound time base post next needs
        → IsLate meaning cert bounds bound time base post other more → AreSame next other needs more
    one_late None next other needs more p r = absurd p
    one_late (Some post) next other needs more p r =
        let same : p.0.0 ≡ r.0.0 = one_least meaning cert base post bounds p.0.0 r.0.0 p.0.1 r.0.1 in
        (p.1 ∙ sym r.1, p.0.2 ∙ ap (λ (n : ℕ). time + n) same ∙ sym r.0.2)

    one_first_late : (pair : PostPair D) (next other : Option ℕ) (needs more : ℕ) → IsFirstLate meaning cert bounds bound time base pair next needs
        → IsFirstLate meaning cert bounds bound time base pair other more → AreSame next other needs more
    one_first_late pair next other needs more (inl p) (inl r) = one_late pair.first next other needs more p r
    one_first_late pair next other needs more (inl p) (inr r) = absurd (not_both_post pair.first next needs r.0 p)
    one_first_late pair next other needs more (inr p) (inl r) = absurd (not_both_post pair.first other more p.0 r)
    one_first_late pair next other needs more (inr p) (inr r) = one_late pair.second next other needs more p.1 r.1

    post_in_time : (post : Option (Post D)) → Dec (IfSome post (IsPostInTime meaning cert bounds bound time base))
    post_in_time None = yes tt
    post_in_time (Some post) = is_covered_by meaning cert base post (λ number. time + bound_of bounds number ≤ bound)
        (λ number. is_at_most (time + bound_of bounds number) bound)

    abbrev HasLate : Option (Post D) → Type 0
    HasLate post = (next : Option ℕ) × (needs : ℕ) × IsLate meaning cert bounds bound time base post next needs

    some_late : (post : Option (Post D)) → IfSome post (IsCovered meaning cert base) → (IfSome post (IsPostInTime meaning cert bounds bound time base) → ⊥)
        → HasLate post
    some_late None covered late = absurd (late tt)
    some_late (Some post) covered late =
        let least = some_least meaning cert base post bounds covered in
        let less : bound < time + least.0 = ⊎_elim
        (λ less. less)
        (λ left. absurd (late (least.1.some.0, least.1.some.1, least.1.some.2, least.1.some.3, (least.1.some.4.0, omega (arith, left, least.1.some.4.1)))))
        (cases_lt bound (time + least.0)) in
        (Some post.next, time + least.0, ((least.0, least.1, refl, less), refl))

    abbrev HasFirstLate : PostPair D → Type 0
    HasFirstLate pair = (next : Option ℕ) × (needs : ℕ) × IsFirstLate meaning cert bounds bound time base pair next needs

    -- both are in time, or the first late one is told
    posts_in_time : (pair : PostPair D) → IfSome pair.first (IsCovered meaning cert base) → IfSome pair.second (IsCovered meaning cert base)
        → Dec (IfSome pair.first (IsPostInTime meaning cert bounds bound time base))
        → Dec (IfSome pair.second (IsPostInTime meaning cert bounds bound time base))
        → ArePostsInTime meaning cert bounds bound time base pair ⊎ HasFirstLate pair
    posts_in_time pair covered too (no late) d = let first = some_late pair.first covered late in inr (first.0, first.1, inl first.2)
    posts_in_time pair covered too (yes fine) (no late) = let second = some_late pair.second too late in inr (second.0, second.1, inr (fine, second.2))
    posts_in_time pair covered too (yes fine) (yes well) = inl (fine, well)

  -- ---- a case

  abbrev HasTime : ℕ → Case D → Type 0
  HasTime number c = (outcome : Result ℕ LateCase) × IsCaseTimed meaning cert bounds number c outcome

  module _ (number : ℕ) (c : Case D) where
    abbrev PostsInTime : Order → PostPair D → Type 0
    PostsInTime order = ArePostsInTime meaning cert bounds (bound_of bounds number) (time_of c.machine.times order) c.row

    abbrev FirstLate : Order → PostPair D → Option ℕ → ℕ → Type 0
    FirstLate order = IsFirstLate meaning cert bounds (bound_of bounds number) (time_of c.machine.times order) c.row

    told_late : (order : Order) → IsOrderOf c order → (next : Option ℕ) (needs : ℕ)
        → MatchBool (is_dly order)
        ((needs ≡ time_of c.machine.times order) × (bound_of bounds number < needs) × (next ≡ None))
        ((pair : PostPair D) × IsPostsOfCase meaning c (Ok pair) × FirstLate order pair next needs)
        → HasTime number c
    told_late order is_order next needs late = (
      Err (record { word = c.word; x = c.index; v = c.indicator; next = next; needs = needs; bound = bound_of bounds number }),
      record { order = order; is_order = is_order; next = next; needs = needs; late = late; is = refl },
    )

    by_order : (order : Order) → IsOrderOf c order → IsCaseAccepted meaning cert c → (dly : Bool) → is_dly order ≡ dly → HasTime number c
    by_order order is_order accepted true dly = ⊎_elim
        (λ late. told_late order is_order None (time_of c.machine.times order) (of_true _ _ (is_dly order) dly (refl, late, refl)))
        (λ fine. (Ok 1, ((order, is_order, of_true _ _ (is_dly order) dly fine), refl)))
        (cases_lt (bound_of bounds number) (time_of c.machine.times order))
    by_order order is_order accepted false other = ⊎_elim
        (λ fine. (Ok 1, ((order, is_order, of_false _ _ (is_dly order) other (accepted.0, accepted.1, fine)), refl)))
        (λ late. told_late order is_order late.0 late.1 (of_false _ _ (is_dly order) other (accepted.0, accepted.1, late.2)))
        (posts_in_time (bound_of bounds number) (time_of c.machine.times order) c.row accepted.0 accepted.2 accepted.3
        (post_in_time (bound_of bounds number) (time_of c.machine.times order) c.row accepted.0.first)
        (post_in_time (bound_of bounds number) (time_of c.machine.times order) c.row accepted.0.second))

    by_word : IsCaseAccepted meaning cert c → (outcome : Outcome D) → IsPostsOfCase meaning c outcome → (pair : PostPair D) → outcome ≡ Ok pair
        → HasTime number c
    by_word accepted outcome (None, named, is) pair same = let stops : outcome ≡ Err _ = is in absurd cc
    by_word accepted outcome (Some decoded, named, is) pair same = by_order decoded.order (decoded, named, refl) accepted (is_dly decoded.order) refl

    -- an accepted case has an outcome
    pub some_case : IsCaseAccepted meaning cert c → HasTime number c
    some_case accepted = by_word accepted (Ok accepted.0) accepted.1 accepted.0 refl

    module _ (lawful : IsMeaning D meaning) (machine_is : IsMachine c.machine) where
      one_order : (left right : Order) → IsOrderOf c left → IsOrderOf c right → left ≡ right
      one_order left right p r =
          let same : p.0 ≡ r.0 = some_one p.0 r.0 (decoding_same c.machine.codes machine_is.codes c.word (Some p.0) (Some r.0) p.1 r.1) in
          sym p.2 ∙ ap (λ (d : Decoded). d.order) same ∙ r.2

      ok_pair : (left right : PostPair D) → ◌≡◌ {A = Outcome D} (Ok left) (Ok right) → left ≡ right
      ok_pair left right same = cc

      one_pair : (left right : PostPair D) → IsPostsOfCase meaning c (Ok left) → IsPostsOfCase meaning c (Ok right) → left ≡ right
      one_pair left right p r = ok_pair left right (one_answer meaning lawful c (Ok left) (Ok right) machine_is p r)

      abbrev InTimeBy : Order → Type 0
      InTimeBy order = MatchBool (is_dly order)
          (time_of c.machine.times order ≤ bound_of bounds number)
          ((pair : PostPair D) × IsPostsOfCase meaning c (Ok pair) × PostsInTime order pair)

      abbrev LateBy : Order → Option ℕ → ℕ → Type 0
      LateBy order next needs = MatchBool (is_dly order)
          ((needs ≡ time_of c.machine.times order) × (bound_of bounds number < needs) × (next ≡ None))
          ((pair : PostPair D) × IsPostsOfCase meaning c (Ok pair) × FirstLate order pair next needs)

      not_both_by : (order : Order) (next : Option ℕ) (needs : ℕ) (dly : Bool) → is_dly order ≡ dly → InTimeBy order → LateBy order next needs → ⊥
      not_both_by order next needs true is fine late =
          let most = when_true _ _ (is_dly order) is fine in
          let less = when_true _ _ (is_dly order) is late in
          omega (arith, most, less.0, less.1)
      not_both_by order next needs false is fine late =
          let well = when_false _ _ (is_dly order) is fine in
          let behind = when_false _ _ (is_dly order) is late in
          let same : behind.0 ≡ well.0 = one_pair behind.0 well.0 behind.1 well.1 in
          not_both_posts (bound_of bounds number) (time_of c.machine.times order) c.row well.0 next needs well.2
          (subst (λ (pair : PostPair D). FirstLate order pair next needs) same behind.2)

      one_by : (order : Order) (next other : Option ℕ) (needs more : ℕ) (dly : Bool) → is_dly order ≡ dly → LateBy order next needs → LateBy order other more
          → (next ≡ other) × (needs ≡ more)
      one_by order next other needs more true is p r =
          let left = when_true _ _ (is_dly order) is p in
          let right = when_true _ _ (is_dly order) is r in
          (left.2 ∙ sym right.2, left.0 ∙ sym right.0)
      one_by order next other needs more false is p r =
          let left = when_false _ _ (is_dly order) is p in
          let right = when_false _ _ (is_dly order) is r in
          let same : right.0 ≡ left.0 = one_pair right.0 left.0 right.1 left.1 in
          one_first_late (bound_of bounds number) (time_of c.machine.times order) c.row left.0 next other needs more left.2
          (subst (λ (pair : PostPair D). FirstLate order pair other more) same right.2)

      not_both_case : (told : LateCase) → IsCaseInTime meaning cert bounds number c → IsCaseLate meaning cert bounds number c told → ⊥
      not_both_case told fine late =
          let same : late.order ≡ fine.0 = one_order late.order fine.0 late.is_order fine.1 in
          not_both_by fine.0 late.next late.needs (is_dly fine.0) refl fine.2 (subst (λ (order : Order). LateBy order late.next late.needs) same late.late)

      one_told : (left right : LateCase) → IsCaseLate meaning cert bounds number c left → IsCaseLate meaning cert bounds number c right → left ≡ right
      one_told left right p r =
          let same : r.order ≡ p.order = one_order r.order p.order r.is_order p.is_order in
          let late : LateBy p.order r.next r.needs = subst (λ (order : Order). LateBy order r.next r.needs) same r.late in
          let both = one_by p.order p.next r.next p.needs r.needs (is_dly p.order) refl p.late late in
          p.is ∙ late_one c.word c.index c.indicator p.next r.next p.needs r.needs (bound_of bounds number) both.0 both.1 ∙ sym r.is

      -- a case has one outcome
      pub one_case : (left right : Result ℕ LateCase) → IsCaseTimed meaning cert bounds number c left → IsCaseTimed meaning cert bounds number c right
          → left ≡ right
      one_case (Ok left) (Ok right) p r = ap (λ (n : ℕ). Ok n) (p.1 ∙ sym r.1)
      one_case (Ok left) (Err right) p r = absurd (not_both_case right p.0 r)
      one_case (Err left) (Ok right) p r = absurd (not_both_case left r.0 p)
      one_case (Err left) (Err right) p r = ap (λ (told : LateCase). Err told) (one_told left right p r)

  -- ---- the rows

  module _ (machine : Machine) (image : List (Option ℕ)) where
    abbrev CaseTimed : ℕ → Row D → RowCase → Result ℕ LateCase → Type 0
    CaseTimed number row c o = IsCaseTimed meaning cert bounds number (case_in machine image cert.limits row c) o

    abbrev CaseAccepted : Row D → RowCase → Type 0
    CaseAccepted row c = IsCaseAccepted meaning cert (case_in machine image cert.limits row c)

    some_of_row : (number : ℕ) (row : Row D) → IsRowAccepted meaning machine image cert row
        → (outcome : Result ℕ LateCase) × IsWalked meaning image cert.limits (Ok 0) CaseTimed number row outcome
    some_of_row number row is =
        let sum = some_in_order (λ position c o. CaseTimed number row c o) (CaseAccepted row)
        (λ position c accepted. some_case number (case_in machine image cert.limits row c) accepted)
        0 (cases_in row is.code.list) (cases_each row (CaseAccepted row) is.code.list is.cases) in
        (sum.0, (Some is.code, is.is_code, sum.1))

    -- the rows of an accepted certificate have an outcome
    pub some_rows : Accepted meaning machine image cert → (outcome : Result ℕ (AtRow LateCase)) × AreRowsTimed meaning machine image cert bounds outcome
    some_rows accepted = some_in_order (λ number row o. IsWalkedAt meaning image cert.limits (Ok 0) CaseTimed number row o)
        (IsRowAccepted meaning machine image cert)
        (λ number row is. with_number meaning image cert.limits (Ok 0) CaseTimed number row (some_of_row number row is)) 1 cert.rows
        (recursion_from_All (IsRowAccepted meaning machine image cert) cert.rows accepted.rows)

    -- and one
    pub one_rows : IsMeaning D meaning → IsMachine machine → (left right : Result ℕ (AtRow LateCase)) → AreRowsTimed meaning machine image cert bounds left
        → AreRowsTimed meaning machine image cert bounds right → left ≡ right
    one_rows lawful machine_is left right p r = one_walk meaning image cert.limits (Ok 0) CaseTimed
        (λ number row c one other q s. one_case number (case_in machine image cert.limits row c) lawful machine_is one other q s) cert.rows left right p r

-- ---- the answer

module _ (machine : Machine) (image : List (Option ℕ)) (cert : Certificate Value) (bounds : List ℕ) (machine_is : IsMachine machine) where
  abbrev HasTimed : Type 0
  HasTimed = (timed : Timed) × IsTimed machine image cert bounds timed

  by_rows : (rows cases : ℕ) → length bounds ≡ length cert.rows → IsVerdict value_meaning machine image cert (Certified rows cases)
      → (outcome : Result ℕ (AtRow LateCase)) × AreRowsTimed value_meaning machine image cert bounds outcome → HasTimed
  by_rows rows cases same is (Ok timed, are) =
      let greatest = some_greatest bounds (omega (arith, same, is.0.start.2)) in
      (Within rows cases greatest.0, (is, timed, are, greatest.1))
  by_rows rows cases same is (Err told, are) = (over told.row told.fault, (cases, (is.0, refl), are))

  by_verdict : (verdict : Verdict Value) → length bounds ≡ length cert.rows → IsVerdict value_meaning machine image cert verdict → HasTimed
  by_verdict (Certified rows cases) same is = by_rows rows cases same is
      (some_rows value_meaning cert bounds machine image (accepted_of value_meaning machine image cert rows cases is))
  by_verdict (Refused told) same is = (Unsafe told, is)

  -- with a bound for each row there is an answer
  pub some_timed : IsImage image → length bounds ≡ length cert.rows → HasTimed
  some_timed image_is same =
      let verdict = some_verdict machine image cert machine_is image_is in
      by_verdict verdict.0 same verdict.1

  abbrev verdicts_one : (one other : Verdict Value) → IsVerdict value_meaning machine image cert one
      → IsVerdict value_meaning machine image cert other → one ≡ other
  verdicts_one = verdict_one value_meaning machine image cert value_lawful machine_is

  abbrev rows_one : (left right : Result ℕ (AtRow LateCase)) → AreRowsTimed value_meaning machine image cert bounds left
      → AreRowsTimed value_meaning machine image cert bounds right → left ≡ right
  rows_one = one_rows value_meaning cert bounds machine image value_lawful machine_is

  not_refused : (rows cases : ℕ) (told : Refusal Value) → IsVerdict value_meaning machine image cert (Certified rows cases)
      → IsVerdict value_meaning machine image cert (Refused told) → ⊥
  not_refused rows cases told p r =
      let same : ◌≡◌ {A = Verdict Value} (Certified rows cases) (Refused told) = verdicts_one (Certified rows cases) (Refused told) p r in
      cc

  not_late : (count : ℕ) (told : AtRow LateCase) → AreRowsTimed value_meaning machine image cert bounds (Ok count)
      → AreRowsTimed value_meaning machine image cert bounds (Err told) → ⊥
  not_late count told p r = let same : ◌≡◌ {A = Result ℕ (AtRow LateCase)} (Ok count) (Err told) = rows_one (Ok count) (Err told) p r in cc

  within_one : (rows rows2 cases cases2 greatest greatest2 : ℕ) → ◌≡◌ {A = Verdict Value} (Certified rows cases) (Certified rows2 cases2) → greatest ≡ greatest2
      → ◌≡◌ {A = Timed} (Within rows cases greatest) (Within rows2 cases2 greatest2)
  within_one rows rows2 cases cases2 greatest greatest2 same also = cc

  over_one : (told other : AtRow LateCase) → ◌≡◌ {A = Result ℕ (AtRow LateCase)} (Err told) (Err other)
      → ◌≡◌ {A = Timed} (over told.row told.fault) (over other.row other.fault)
  over_one told other same = let one : told ≡ other = cc in ap (λ (t : AtRow LateCase). over t.row t.fault) one

  -- and one alone
  pub one_timed : (one other : Timed) → IsTimed machine image cert bounds one → IsTimed machine image cert bounds other → one ≡ other
  one_timed (Within rows cases greatest) (Within rows2 cases2 greatest2) p r = within_one rows rows2 cases cases2 greatest greatest2
      (verdicts_one (Certified rows cases) (Certified rows2 cases2) p.0 r.0) (one_greatest bounds greatest greatest2 p.3 r.3)
  one_timed (Within rows cases greatest) (Unsafe told) p r = absurd (not_refused rows cases told p.0 r)
  one_timed (Within rows cases greatest) (Over row word x v next needs bound) p r = absurd (not_late p.1 _ p.2 r.2)
  one_timed (Unsafe told) (Within rows cases greatest) p r = absurd (not_refused rows cases told r.0 p)
  one_timed (Unsafe told) (Unsafe other) p r =
      let same : ◌≡◌ {A = Verdict Value} (Refused told) (Refused other) = verdicts_one (Refused told) (Refused other) p r in cc
  one_timed (Unsafe told) (Over row word x v next needs bound) p r = absurd (not_refused (length cert.rows) r.0 told r.1 p)
  one_timed (Over row word x v next needs bound) (Within rows cases greatest) p r = absurd (not_late r.1 _ r.2 p.2)
  one_timed (Over row word x v next needs bound) (Unsafe told) p r = absurd (not_refused (length cert.rows) p.0 told p.1 r)
  one_timed (Over row word x v next needs bound) (Over row2 word2 x2 v2 next2 needs2 bound2) p r = over_one
      (record { row = row; fault = record { word = word; x = x; v = v; next = next; needs = needs; bound = bound } })
      (record { row = row2; fault = record { word = word2; x = x2; v = v2; next = next2; needs = needs2; bound = bound2 } })
      (rows_one _ _ p.2 r.2)
