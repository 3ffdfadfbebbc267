-- Two images compare in one way.
use Rattle.std.proofs.Common.{◌≡◌, ◌≢◌, ℕ, zero, suc, ◌<◌, ◌≤◌, ◌⊎◌, List, Option, Some, None, refl, sym, ap, ◌∙◌, arith, inl, inr}
use Rattle.std.proofs.lemmas.Bool.{cases_lt, cases_eq}
use Rattle.ags_image.specs.Image.{memory_size, entry_at, IsImage}
use Rattle.ags_image.proofs.ImageLaws.{image_same}
use Rattle.ags_compare.specs.declared.comparing.Compared.{Compared}
use Rattle.ags_compare.specs.declared.comparing.Compared.TheVariants.{Equal, Differs}
use Rattle.ags_compare.specs.Comparison.{AgreeBelow, IsLeastDifference, IsComparison}

-- images that agree below a location don't differ at a lower one
no_difference : (left right : List (Option ℕ)) (most location : ℕ) (one other : Option ℕ) → AgreeBelow left right most → location < most
    → IsLeastDifference left right location one other → ⊥
no_difference left right most location one other agree below least =
    least.differ (sym least.left_entry ∙ agree location below ∙ least.right_entry)

-- the least location at which they differ is one
same_location : (left right : List (Option ℕ)) (location place : ℕ) (one other first second : Option ℕ) → IsLeastDifference left right location one other
    → IsLeastDifference left right place first second → location ≡ place
same_location left right location place one other first second least too =
    elim (cases_lt location place) [
      | inl below ↦ absurd (no_difference left right place location one other too.lower below least)
      | inr above ↦ elim (cases_eq location place) [
        | inl same ↦ same
        | inr apart ↦ absurd (no_difference left right location place first second least.lower (omega arith) too)
      ]
    ]

pub one_comparison : (left right : List (Option ℕ)) (answer other : Compared) → IsComparison left right answer → IsComparison left right other → answer ≡ other
one_comparison left right Equal Equal is too = refl
one_comparison left right Equal (Differs place first second) is too = absurd (no_difference left right memory_size place first second is too.within too)
one_comparison left right (Differs location one other) Equal is too = absurd (no_difference left right memory_size location one other too is.within is)
one_comparison left right (Differs location one other) (Differs place first second) is too =
    let at : location ≡ place = same_location left right location place one other first second is too in
    let left_is = is.left_entry in
    let right_is = is.right_entry in
    let left_too = too.left_entry in
    let right_too = too.right_entry in
    cc

pub equal_is_one : (left right : List (Option ℕ)) → IsImage left → IsImage right → IsComparison left right Equal → left ≡ right
equal_is_one left right is too agree = image_same left right is too agree

-- ---- two images compare

-- two entries are one or differ
same_or_not : (one other : Option ℕ) → (one ≡ other) ⊎ (one ≢ other)
same_or_not None None = inl refl
same_or_not None (Some word) = inr (λ is. absurd cc)
same_or_not (Some word) None = inr (λ is. absurd cc)
same_or_not (Some word) (Some number) = elim (cases_eq word number) [
  | inl same ↦ inl (ap Some same)
  | inr apart ↦ inr (λ is. let same : word ≡ number = cc in absurd (apart same))
]

module _ (left right : List (Option ℕ)) where
  -- they agree below a location, or there is a least one at which they differ
  Compares : ℕ → Type 0
  Compares bound = AgreeBelow left right bound ⊎ ((location : ℕ) × IsLeastDifference left right location (entry_at left location) (entry_at right location))

  one_more : (bound : ℕ) → suc bound ≤ memory_size → AgreeBelow left right bound → (entry_at left bound ≡ entry_at right bound) ⊎ (entry_at left bound ≢ entry_at right bound)
      → Compares (suc bound)
  unfolding Compares
  one_more bound within agree (inl same) = inl agree_too
    where
      agree_too : AgreeBelow left right (suc bound)
      agree_too lower below = elim (cases_eq lower bound) [
        | inl is ↦ rw is same
        | inr apart ↦ agree lower (omega arith)
      ]
  one_more bound within agree (inr apart) = inr (bound, record { within = omega arith; lower = agree; left_entry = refl; right_entry = refl; differ = apart })

  compared_below : (bound : ℕ) → bound ≤ memory_size → Compares bound
  unfolding Compares
  compared_below zero within = inl (λ lower below. absurd (omega arith))
  compared_below (suc bound) within = elim (compared_below bound (omega arith)) [
    | inl agree ↦ one_more bound within agree (same_or_not (entry_at left bound) (entry_at right bound))
    | inr found ↦ inr found
  ]

  pub some_comparison : (answer : Compared) × IsComparison left right answer
  unfolding Compares
  some_comparison = elim (compared_below memory_size (omega arith)) [
    | inl agree ↦ (Equal, agree)
    | inr found ↦ (Differs found.0 (entry_at left found.0) (entry_at right found.0), found.1)
  ]
