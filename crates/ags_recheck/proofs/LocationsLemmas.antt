-- Sets of locations, bit by bit.
use Rattle.std.proofs.Common.{◌≡◌, ◌≢◌, ℕ, ◌*◌, ◌/◌, ◌%◌, ◌^◌, ◌<◌, Bool, true, false, refl, sym, ap, ◌∙◌, ⊎_elim, arith, List, length, get_or, set, replicate}
use Rattle.std.specs.Prelude.{◌==◌}
use Rattle.std.specs.Int.{bit_at, w64}
use Rattle.std.specs.Int.RustNames.{bit_or}
use lib.Bits.{bit_and}
use Rattle.std.proofs.lemmas.Bool.{eqb-true, cases_lt}
use Rattle.std.proofs.lemmas.List.{get_or-set_same, get_or-set_other, get_or_default, get_or-replicate, get_or_past}
use Rattle.std.proofs.lemmas.Nat.Bits.{shr_and_one, bit_at_set_same, bit_at_set_other, bit_at-zero}
use Rattle.ags_recheck.specs.Locations.{has_location}
use Rattle.ags_recheck.proofs.EditLemmas.{apart_of}

-- the test of a bit
pub tested : (words : List ℕ) (location word : ℕ) → location / 64 < length words → word ≡ get_or words (location / 64) word
    → (bit_and (word / 2 ^ (location % 64)) 1 == 1) ≡ has_location words location
tested words location word inside is =
    let read : word ≡ get_or words (location / 64) 0 = is ∙ get_or_default words (location / 64) word 0 inside in
    ap (λ (b : ℕ). b == 1) (shr_and_one word (location % 64)) ∙ ap (λ (w : ℕ). bit_at w (location % 64) == 1) read

-- no bit of 0 is set
pub none_set : (words : List ℕ) → ((i : ℕ) → get_or words i 0 ≡ 0) → (location : ℕ) → has_location words location ≡ false
none_set words zeros location =
    ap (λ (w : ℕ). bit_at w (location % 64) == 1) (zeros (location / 64)) ∙ ap (λ (b : ℕ). b == 1) (bit_at-zero (location % 64))

module _ (words : List ℕ) (location word : ℕ) (inside : location / 64 < length words) (is : word ≡ get_or words (location / 64) word) where
  abbrev pub With : ℕ
  With = bit_or word (1 * 2 ^ (location % 64) % 2 ^ 64)

  below : location % 64 < 64
  below = omega arith

  pub noted_here : has_location (set words (location / 64) With) location ≡ true
  noted_here =
      ap (λ (w : ℕ). bit_at w (location % 64) == 1) (get_or-set_same words (location / 64) With 0 inside)
      ∙ ap (λ (b : ℕ). b == 1) (bit_at_set_same w64 word (location % 64) below)

  same_bit : (other : ℕ) → other ≢ location → (other / 64) ≡ (location / 64) → has_location (set words (location / 64) With) other ≡ has_location words other
  same_bit other apart same =
      let bits : other % 64 ≢ location % 64 = λ equal. apart (omega (arith, same, equal)) in
      let read : word ≡ get_or words (location / 64) 0 = is ∙ get_or_default words (location / 64) word 0 inside in
      ap (λ (n : ℕ). bit_at (get_or (set words (location / 64) With) n 0) (other % 64) == 1) same
      ∙ ap (λ (w : ℕ). bit_at w (other % 64) == 1) (get_or-set_same words (location / 64) With 0 inside)
      ∙ ap (λ (b : ℕ). b == 1) (bit_at_set_other w64 word (location % 64) below (other % 64) bits)
      ∙ ap (λ (w : ℕ). bit_at w (other % 64) == 1) read
      ∙ ap (λ (n : ℕ). bit_at (get_or words n 0) (other % 64) == 1) (sym same)

  by_word : (other : ℕ) → other ≢ location → (b : Bool) → (other / 64 == location / 64) ≡ b
      → has_location (set words (location / 64) With) other ≡ has_location words other
  by_word other apart true same = same_bit other apart (eqb-true (other / 64) (location / 64) same)
  by_word other apart false differs =
      ap (λ (w : ℕ). bit_at w (other % 64) == 1) (get_or-set_other words (location / 64) (other / 64) With 0 (apart_of (other / 64) (location / 64) differs))

  pub noted_others : (other : ℕ) → other ≢ location → has_location (set words (location / 64) With) other ≡ has_location words other
  noted_others other apart = by_word other apart (other / 64 == location / 64) refl

-- a set of 64 words that is given a location
module _ (words : List ℕ) (location : ℕ) (below : location < 4096) (whole : length words ≡ 64) where
  inside_of : location / 64 < length words
  inside_of = omega (arith, below, whole)

  pub here_from : has_location (set words (location / 64) (bit_or (get_or words (location / 64) 0) (1 * 2 ^ (location % 64) % 2 ^ 64))) location ≡ true
  here_from = noted_here words location (get_or words (location / 64) 0) inside_of (get_or_default words (location / 64) 0 (get_or words (location / 64) 0) inside_of)

  pub others_from : (now : List ℕ) → words ≡ now → (other : ℕ) → other ≢ location
      → has_location (set words (location / 64) (bit_or (get_or words (location / 64) 0) (1 * 2 ^ (location % 64) % 2 ^ 64))) other ≡ has_location now other
  others_from now same other apart =
      noted_others words location (get_or words (location / 64) 0) inside_of (get_or_default words (location / 64) 0 (get_or words (location / 64) 0) inside_of) other apart
      ∙ ap (λ (ws : List ℕ). has_location ws other) same

-- 64 zeros
abbrev Zeros : List ℕ
Zeros = replicate 64 0

zero_at : (i : ℕ) → get_or Zeros i 0 ≡ 0
zero_at i = ⊎_elim
    (λ less. get_or-replicate 64 i 0 0 less)
    (λ more. get_or_past Zeros i 0 more)
    (cases_lt i 64)

pub zeros_have_none : (location : ℕ) → has_location Zeros location ≡ false
zeros_have_none location = none_set Zeros zero_at location
