-- Where the posts of cases go, as a loop goes over the cases.
use Rattle.std.proofs.Common.{◌≡◌, ℕ, ◌+◌, ◌<◌, ◌≤◌, ◌⊎◌, Bool, sym, ap, subst, ◌∙◌, ⊎_elim, arith, List, length, get_or, inl, inr}
use Rattle.std.specs.Prelude.{Option, Ok, Err, Any, ◌↔◌}
use Rattle.std.proofs.lemmas.Bool.{cases_lt}
use Rattle.std.proofs.lemmas.List.{get_or_default}
use Rattle.ags_domain.specs.Domain.{Meaning}
use Rattle.ags_domain.specs.Value.{value_meaning}
use Rattle.ags_domain.specs.declared.values.Value.{Value}
use Rattle.ags_ports.specs.declared.machines.Machine.{Machine}
use Rattle.ags_row.specs.Limit.{Limiting}
use Rattle.ags_row.specs.declared.rows.Row.{Row}
use Rattle.ags_safe.specs.Case.{Case, case_of}
use Rattle.ags_safe.specs.Posts.{Outcome, IsPostsOfCase}
use Rattle.ags_safe.specs.declared.answers.PostPair.{PostPair}
use Rattle.ags_safe.specs.declared.answers.Stop.{Stop}
use Rattle.ags_verdict.specs.Locality.{OneGoesTo, CaseGoesTo}
use Rattle.ags_verdict.specs.RowCase.{RowCase, case_in}

ok_pair : {D : Type 0} (pair other : PostPair D) → ◌≡◌ {A = Outcome D} (Ok pair) (Ok other) → pair ≡ other
ok_pair pair other same = cc

not_both : {D : Type 0} (pair : PostPair D) (stop : Stop D) → ◌≡◌ {A = Outcome D} (Ok pair) (Err stop) → ⊥
not_both pair stop same = cc

module _ {D : Type 0} (meaning : Meaning D) (machine : Machine) (image : List (Option ℕ)) (limits : Limiting D) (c : Case D)
    (one : (left right : Outcome D) → IsPostsOfCase meaning c left → IsPostsOfCase meaning c right → left ≡ right)
    (location : ℕ) (Before After : Type 0) where
  -- the posts of the case are noted
  pub pair_noted : (pair : PostPair D) → IsPostsOfCase meaning c (Ok pair) → After ↔ (Before ⊎ OneGoesTo pair location)
      → After ↔ (Before ⊎ CaseGoesTo meaning machine image limits c location)
  pair_noted pair posts noted = (
    λ after. ⊎_elim (λ before. inl before) (λ goes. inr (pair, posts, goes)) (noted.0 after),
    λ either. noted.1 (⊎_elim
        (λ before. inl before)
        (λ goes. inr (subst (λ (p : PostPair D). OneGoesTo p location) (ok_pair goes.0 pair (one (Ok goes.0) (Ok pair) goes.1 posts)) goes.2))
        either),
  )

  -- a case that stops has none
  pub none_noted : (stop : Stop D) → IsPostsOfCase meaning c (Err stop) → (After ↔ Before) → After ↔ (Before ⊎ CaseGoesTo meaning machine image limits c location)
  none_noted stop stops same = (
    λ after. inl (same.0 after),
    λ either. ⊎_elim (λ before. same.1 before) (λ goes. absurd (not_both goes.0 stop (one (Ok goes.0) (Err stop) goes.1 stops))) either,
  )

-- where one post goes is noted, and then where another goes
pub both_noted : (Old Between New One Other : Type 0) → (Between ↔ (Old ⊎ One)) → (New ↔ (Between ⊎ Other)) → New ↔ (Old ⊎ (One ⊎ Other))
both_noted Old Between New One Other first second = (
  λ new. ⊎_elim
      (λ between. ⊎_elim (λ old. inl old) (λ one. inr (inl one)) (first.0 between))
      (λ other. inr (inr other))
      (second.0 new),
  λ either. ⊎_elim
      (λ old. second.1 (inl (first.1 (inl old))))
      (λ goes. ⊎_elim (λ one. second.1 (inl (first.1 (inr one)))) (λ other. second.1 (inr other)) goes)
      either,
)

-- one of the first of some things has it
abbrev pub AnyOfFirst : {X : Type 0} → (X → Type 0) → List X → ℕ → Type 0
AnyOfFirst {X} P xs count = (k : ℕ) × (x : X) × (k < count) × (k < length xs) × (get_or xs k x ≡ x) × P x

module _ {X : Type 0} (P : X → Type 0) (xs : List X) where
  pub none_first : (Now : Type 0) → ¬ Now → Now ↔ AnyOfFirst P xs 0
  none_first Now none = (λ now. absurd (none now), λ any. absurd (omega (arith, any.2)))

  pub one_further : (i : ℕ) (x : X) (Before After : Type 0) → i < length xs → x ≡ get_or xs i x → (Before ↔ AnyOfFirst P xs i)
      → (After ↔ (Before ⊎ P x)) → After ↔ AnyOfFirst P xs (i + 1)
  one_further i x Before After inside is before after = (
    λ now. ⊎_elim
        (λ earlier. let any = before.0 earlier in (any.0, any.1, omega (arith, any.2), any.3, any.4, any.5))
        (λ here. (i, x, omega arith, inside, sym is, here))
        (after.0 now),
    λ any. after.1 (⊎_elim
        (λ less. inl (before.1 (any.0, any.1, less, any.3, any.4, any.5)))
        (λ more.
        let same : any.0 ≡ i = omega (arith, more, any.2) in
        let read : any.1 ≡ x = sym any.4 ∙ get_or_default xs any.0 any.1 x any.3 ∙ ap (λ (n : ℕ). get_or xs n x) same ∙ sym is in
        inr (subst P read any.5))
        (cases_lt any.0 i)),
  )

  pub all_first : (i : ℕ) (Now : Type 0) → length xs ≤ i → (Now ↔ AnyOfFirst P xs i) → Now ↔ Any P xs
  all_first i Now whole so_far = (
    λ now. let any = so_far.0 now in (any.0, any.1, any.3, any.4, any.5),
    λ any. so_far.1 (any.0, any.1, omega (arith, any.2, whole), any.2, any.3, any.4),
  )

pub same_noted : {A : Type 0} → A ↔ A
same_noted = (λ a. a, λ a. a)

-- the posts of a case, by what they were asked with
pub posts_moved : (machine : Machine) (image : List (Option ℕ)) (limits other : Limiting Value) (row : Row Value) (word x : ℕ) (v : Bool) (its : RowCase)
    (outcome : Outcome Value) → limits ≡ other → word ≡ its.word → x ≡ its.index → v ≡ its.indicator
    → IsPostsOfCase value_meaning (case_of machine image limits row word x v) outcome → IsPostsOfCase value_meaning (case_in machine image other row its) outcome
posts_moved machine image limits other row word x v its outcome same_limits same_word same_x same_v is =
    subst (λ (l : Limiting Value). IsPostsOfCase value_meaning (case_in machine image l row its) outcome) same_limits
    (subst (λ (w : ℕ). IsPostsOfCase value_meaning (case_of machine image limits row w its.index its.indicator) outcome) same_word
    (subst (λ (i : ℕ). IsPostsOfCase value_meaning (case_of machine image limits row word i its.indicator) outcome) same_x
    (subst (λ (b : Bool). IsPostsOfCase value_meaning (case_of machine image limits row word x b) outcome) same_v is)))
