-- What comes of a case that is accepted.
use Rattle.std.proofs.Common.{◌≡◌, ℕ, ◌<◌, ◌≤◌, Bool, true, false, refl, sym, subst, List}
use Rattle.std.specs.Prelude.{Option, Some, None, Result, Ok, Err, IfSome, IfOk, IfErr, MatchBool}
use Rattle.ags_domain.specs.Domain.{Meaning}
use Rattle.ags_row.specs.declared.rows.Row.{Row}
use Rattle.ags_safe.specs.Case.{Case, case_of}
use Rattle.ags_domain.specs.Value.{value_meaning}
use Rattle.ags_domain.specs.declared.values.Value.{Value}
use Rattle.ags_ports.specs.declared.machines.Machine.{Machine}
use Rattle.ags_row.specs.Limit.{Limiting}
use Rattle.ags_verdict.specs.RowCase.{RowCase, case_in}
use Rattle.ags_safe.specs.Posts.{Outcome, IsPostsOfCase}
use Rattle.ags_safe.specs.declared.answers.PostPair.{PostPair}
use Rattle.ags_isa.specs.declared.orders.Order.{Order}
use Rattle.ags_ports.specs.Time.{time_of}
use Rattle.ags_safe.specs.Certificate.{Certificate}
use Rattle.ags_times.specs.Budget.{bound_of}
use Rattle.ags_budget.specs.Timing.{is_dly, IsOrderOf, IsFirstLate, ArePostsInTime, IsCaseInTime, IsCaseLate, IsCaseTimed}
use Rattle.ags_budget.specs.declared.answers.LateCase.{LateCase}
use Rattle.ags_safe.specs.Accepted.{IsCovered, IsCaseAccepted}

pub of_true : (P Q : Type 0) (b : Bool) → b ≡ true → P → MatchBool b P Q
of_true P Q true is p = p
of_true P Q false is p = absurd cc

pub of_false : (P Q : Type 0) (b : Bool) → b ≡ false → Q → MatchBool b P Q
of_false P Q true is q = absurd cc
of_false P Q false is q = q

ok_pair : {D : Type 0} (pair other : PostPair D) → ◌≡◌ {A = Outcome D} (Ok pair) (Ok other) → pair ≡ other
ok_pair pair other same = cc

module _ {D : Type 0} (meaning : Meaning D) (cert : Certificate D) (c : Case D)
    (one : (left right : Outcome D) → IsPostsOfCase meaning c left → IsPostsOfCase meaning c right → left ≡ right) (accepted : IsCaseAccepted meaning cert c) where
  -- the posts that were found are covered
  pub covered_posts : (pair : PostPair D) → IsPostsOfCase meaning c (Ok pair)
      → IfSome pair.first (IsCovered meaning cert c.row) × IfSome pair.second (IsCovered meaning cert c.row)
  covered_posts pair is =
      let same : accepted.0 ≡ pair = ok_pair accepted.0 pair (one (Ok accepted.0) (Ok pair) accepted.1 is) in
      subst (λ (p : PostPair D). IfSome p.first (IsCovered meaning cert c.row) × IfSome p.second (IsCovered meaning cert c.row)) same (accepted.2, accepted.3)

  -- there is no stop
  pub no_stop : (why : _) → IsPostsOfCase meaning c (Err why) → ⊥
  no_stop why is = let same : ◌≡◌ {A = Outcome D} (Ok accepted.0) (Err why) = one (Ok accepted.0) (Err why) accepted.1 is in cc

module _ {D : Type 0} (meaning : Meaning D) (cert : Certificate D) (bounds : List ℕ) (number bound time : ℕ) (c : Case D) (order : Order)
    (is_order : IsOrderOf c order) (no : is_dly order ≡ false) (time_is : time ≡ time_of c.machine.times order) (bound_is : bound ≡ bound_of bounds number)
    (pair : PostPair D) (posts : IsPostsOfCase meaning c (Ok pair)) where
  pub late_case : (next needs word x : ℕ) (v : Bool) → word ≡ c.word → x ≡ c.index → v ≡ c.indicator
      → IsFirstLate meaning cert bounds bound time c.row pair (Some next) needs
      → IsCaseLate meaning cert bounds number c (record { word = word; x = x; v = v; next = Some next; needs = needs; bound = bound })
  late_case next needs word x v word_is x_is v_is late = record {
    order = order;
    is_order = is_order;
    next = Some next;
    needs = needs;
    late = of_false _ _ (is_dly order) no (
      pair,
      posts,
      subst (λ (b : ℕ). IsFirstLate meaning cert bounds b (time_of c.machine.times order) c.row pair (Some next) needs) bound_is
          (subst (λ (t : ℕ). IsFirstLate meaning cert bounds bound t c.row pair (Some next) needs) time_is late),
    );
    is = rw (word_is, x_is, v_is, bound_is) refl;
  }

  pub timed_case : ArePostsInTime meaning cert bounds bound time c.row pair → IsCaseInTime meaning cert bounds number c
  timed_case timed = (
    order,
    is_order,
    of_false _ _ (is_dly order) no (
      pair,
      posts,
      subst (λ (b : ℕ). ArePostsInTime meaning cert bounds b (time_of c.machine.times order) c.row pair) bound_is
          (subst (λ (t : ℕ). ArePostsInTime meaning cert bounds bound t c.row pair) time_is timed),
    ),
  )

-- ---- DLY

module _ {D : Type 0} (meaning : Meaning D) (cert : Certificate D) (bounds : List ℕ) (number bound time : ℕ) (c : Case D) (order : Order)
    (is_order : IsOrderOf c order) (yes : is_dly order ≡ true) (time_is : time ≡ time_of c.machine.times order) (bound_is : bound ≡ bound_of bounds number) where
  delay_in_time : time ≤ bound → IsCaseInTime meaning cert bounds number c
  delay_in_time fine = (
    order,
    is_order,
    of_true _ _ (is_dly order) yes
        (subst (λ (b : ℕ). time_of c.machine.times order ≤ b) bound_is (subst (λ (t : ℕ). t ≤ bound) time_is fine)),
  )

  delay_late : bound < time → IsCaseLate meaning cert bounds number c (record { word = c.word; x = c.index; v = c.indicator; next = None; needs = time; bound = bound })
  delay_late late = record {
    order = order;
    is_order = is_order;
    next = None;
    needs = time;
    late = of_true _ _ (is_dly order) yes (time_is, subst (λ (b : ℕ). b < time) bound_is late, refl);
    is = rw bound_is refl;
  }

  pub delayed : (outcome : Result ℕ LateCase) → IfOk outcome (λ count. (count ≡ 1) × (time ≤ bound))
      → IfErr outcome (λ late. (bound < time) × (late ≡ record { word = c.word; x = c.index; v = c.indicator; next = None; needs = time; bound = bound }))
      → IsCaseTimed meaning cert bounds number c outcome
  delayed (Ok count) fine late = (delay_in_time fine.1, fine.0)
  delayed (Err told) fine late = subst (λ (l : LateCase). IsCaseLate meaning cert bounds number c l) (sym late.1) (delay_late late.0)

-- ---- the posts of a case, by what it was asked with

pub posts_moved : (machine : Machine) (image : List (Option ℕ)) (limits other : Limiting Value) (row : Row Value) (word x : ℕ) (v : Bool) (c : RowCase) (outcome : Outcome Value)
    → limits ≡ other → word ≡ c.word → x ≡ c.index → v ≡ c.indicator
    → IsPostsOfCase value_meaning (case_of machine image limits row word x v) outcome → IsPostsOfCase value_meaning (case_in machine image other row c) outcome
posts_moved machine image limits other row word x v c outcome same_limits same_word same_x same_v is =
    subst (λ (l : Limiting Value). IsPostsOfCase value_meaning (case_in machine image l row c) outcome) same_limits
    (subst (λ (w : ℕ). IsPostsOfCase value_meaning (case_of machine image limits row w c.index c.indicator) outcome) same_word
    (subst (λ (i : ℕ). IsPostsOfCase value_meaning (case_of machine image limits row word i c.indicator) outcome) same_x
    (subst (λ (b : Bool). IsPostsOfCase value_meaning (case_of machine image limits row word x b) outcome) same_v is)))
