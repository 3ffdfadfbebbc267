-- What comes of a case that is accepted.
use Rattle.std.proofs.Common.{◌≡◌, ℕ, ◌+◌, ◌≤◌, Bool, refl, ap, subst, ◌∙◌, List, arith}
use Rattle.std.specs.Prelude.{Option, Some, Result, Ok, Err}
use Rattle.ags_isa.specs.Naming.{IsDecoding}
use Rattle.ags_isa.specs.declared.decoding.Decoded.{Decoded}
use Rattle.ags_domain.specs.Domain.{Meaning}
use Rattle.ags_domain.specs.Value.{value_meaning}
use Rattle.ags_domain.specs.declared.values.Value.{Value}
use Rattle.ags_ports.specs.Effect.{effective_at}
use Rattle.ags_ports.specs.declared.machines.Machine.{Machine}
use Rattle.ags_row.specs.Limit.{Limiting}
use Rattle.ags_row.specs.declared.rows.Row.{Row}
use Rattle.ags_safe.specs.Case.{Case, case_of}
use Rattle.ags_safe.specs.Posts.{Outcome, IsPostsOfCase}
use Rattle.ags_safe.specs.declared.answers.Stop.{Stop}
use Rattle.ags_safe.specs.Certificate.{Certificate}
use Rattle.ags_safe.specs.Accepted.{IsCaseAccepted}
use Rattle.ags_verdict.specs.RowCase.{RowCase, case_in}
use Rattle.ags_tags.specs.Tag.{Scaling, tags_of_row}
use Rattle.ags_tags.specs.declared.tags.RowTags.{RowTags}
use Rattle.ags_scale.specs.RowChange.{DoesToTags}
use Rattle.ags_scale.specs.Tagging.{AreTagsOfCase}
use Rattle.ags_scale.specs.declared.answers.Meeting.{Meeting}

module _ {D : Type 0} (meaning : Meaning D) (cert : Certificate D) (c : Case D)
    (one : (left right : Outcome D) → IsPostsOfCase meaning c left → IsPostsOfCase meaning c right → left ≡ right) (accepted : IsCaseAccepted meaning cert c) where
  -- there is no stop
  pub no_stop : (why : Stop D) → IsPostsOfCase meaning c (Err why) → ⊥
  no_stop why is = let same : ◌≡◌ {A = Outcome D} (Ok accepted.0) (Err why) = one (Ok accepted.0) (Err why) accepted.1 is in cc

-- ---- the posts of a case, by what it was asked with

pub posts_moved : (machine : Machine) (image : List (Option ℕ)) (limits other : Limiting Value) (row : Row Value) (word x : ℕ) (v : Bool)
    (c : RowCase) (outcome : Outcome Value) → limits ≡ other → word ≡ c.word → x ≡ c.index → v ≡ c.indicator
    → IsPostsOfCase value_meaning (case_of machine image limits row word x v) outcome → IsPostsOfCase value_meaning (case_in machine image other row c) outcome
posts_moved machine image limits other row word x v c outcome same_limits same_word same_x same_v is =
    subst (λ (l : Limiting Value). IsPostsOfCase value_meaning (case_in machine image l row c) outcome) same_limits
    (subst (λ (w : ℕ). IsPostsOfCase value_meaning (case_of machine image limits row w c.index c.indicator) outcome) same_word
    (subst (λ (i : ℕ). IsPostsOfCase value_meaning (case_of machine image limits row word i c.indicator) outcome) same_x
    (subst (λ (b : Bool). IsPostsOfCase value_meaning (case_of machine image limits row word x b) outcome) same_v is)))

-- ---- the tags of a case, by what its word is read as

pub tags_of_case : (scales : Scaling) (c : Case Value) (read : Decoded) (e x number : ℕ) (before : RowTags) (outcome : Result RowTags Meeting)
    → IsDecoding c.machine.codes c.word (Some read) → x ≡ c.index → e ≡ effective_at x read.order read.indexed read.address
    → before ≡ tags_of_row scales number → DoesToTags scales read.order e read.address before outcome
    → AreTagsOfCase scales c (tags_of_row scales number) outcome
tags_of_case scales c read e x number before outcome is_read same_x acts_on same_tags does = (
  read.order,
  e,
  read.address,
  record {
    read = read;
    is_read = is_read;
    order_is = refl;
    acts_on = acts_on ∙ ap (λ (i : ℕ). effective_at i read.order read.indexed read.address) same_x;
    address = refl;
  },
  subst (λ (t : RowTags). DoesToTags scales read.order e read.address t outcome) same_tags does,
)

-- what is new is one step more, or none
pub one_step : (old new : ℕ) → new ≡ old + 1 → new ≤ old + 1
one_step old new is = omega arith

pub no_step : (old : ℕ) → old ≤ old + 1
no_step old = omega arith
