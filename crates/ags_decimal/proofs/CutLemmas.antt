-- A text cut at the first byte of a kind, and at its sign.
use Rattle.std.proofs.Common.{◌≡◌, ℕ, ◌≤◌, ◌⊎◌, Bool, true, false, not, cond, List, [], ◌∷◌, ◌++◌, ◌==◌, length, drop, get_or, refl, ap, unwrap_or, position, inl, inr, one-add, arith}
use Rattle.std.specs.List.{position_or_len, prefix_len, list_all}
use Rattle.std.proofs.lemmas.Bool.{cases_lt, le-ltb, lt-ltb, cases_Bool, and_parts, eqb-true, eq-eqb}
use Rattle.std.proofs.lemmas.List.{take-append-drop}
use Rattle.std.proofs.lemmas.List.Sums.{prefix_len-le-length}
use Rattle.std.proofs.lemmas.List.Folds.{list_all-append}
use Rattle.ags_decimal.specs.Reading.{front_at, rest_at, begins_with_minus, behind_sign}
use Rattle.ags_decimal.specs.Spelling.{IsSign}

-- a byte is not the mark
abbrev pub is_not : ℕ → ℕ → Bool
is_not mark b = not (b == mark)

-- what stands from a mark on: nothing, or the mark and what is after it
abbrev pub FromMark : ℕ → List ℕ → Type 0
FromMark mark rest = (rest ≡ []) ⊎ ((behind : List ℕ) × (rest ≡ mark ∷ behind))

from_mark : (mark : ℕ) (text : List ℕ) → FromMark mark (drop (prefix_len (is_not mark) text) text)
from_mark mark [] = inl refl
from_mark mark (b ∷ text) =
    elim (cases_Bool (b == mark)) [
      | inl is ↦ rw is (inr (text, ap (λ x. x ∷ text) (eqb-true b mark is)))
      | inr other ↦ rw (other, one-add (prefix_len (is_not mark) text)) (from_mark mark text)
    ]

pub rest_at-FromMark : (mark : ℕ) (text : List ℕ) → FromMark mark (rest_at mark text)
unfolding rest_at
rest_at-FromMark mark text = from_mark mark text

pub front_at-rest_at : (mark : ℕ) (text : List ℕ) → front_at mark text ++ rest_at mark text ≡ text
unfolding front_at rest_at
front_at-rest_at mark text = take-append-drop (prefix_len (is_not mark) text) text

-- a front without the mark, before what stands from a mark on
cut_len : (mark : ℕ) (front rest : List ℕ) → list_all (is_not mark) front ≡ true → FromMark mark rest → prefix_len (is_not mark) (front ++ rest) ≡ length front
cut_len mark [] rest all (inl nil) = rw nil refl
cut_len mark [] rest all (inr marked) = rw (marked.1, eq-eqb mark mark refl) refl
cut_len mark (b ∷ front) rest all from =
    let parts = and_parts (is_not mark b) (list_all (is_not mark) front) all in
    let is : is_not mark b ≡ true = parts.0 in
    let whole = cut_len mark front rest parts.1 from in
    rw (is) (omega arith)

pub front_at-cut : (mark : ℕ) (front rest : List ℕ) → list_all (is_not mark) front ≡ true → FromMark mark rest → front_at mark (front ++ rest) ≡ front
unfolding front_at
front_at-cut mark front rest all from = rw (cut_len mark front rest all from) (Rattle.std.proofs.Math.Seq.take-append_seam front rest)

pub rest_at-cut : (mark : ℕ) (front rest : List ℕ) → list_all (is_not mark) front ≡ true → FromMark mark rest → rest_at mark (front ++ rest) ≡ rest
unfolding rest_at
rest_at-cut mark front rest all from = rw (cut_len mark front rest all from) (Rattle.std.proofs.Math.Seq.drop-append_seam front rest)

-- ---- tests of each byte

pub list_all-join : (p : ℕ → Bool) (front back : List ℕ) → list_all p front ≡ true → list_all p back ≡ true → list_all p (front ++ back) ≡ true
list_all-join p front back one other = rw (list_all-append p front back, one, other) refl

pub list_all-weaken : (p q : ℕ → Bool) → ((b : ℕ) → p b ≡ true → q b ≡ true) → (text : List ℕ) → list_all p text ≡ true → list_all q text ≡ true
list_all-weaken p q less [] all = refl
list_all-weaken p q less (b ∷ text) all =
    let parts = and_parts (p b) (list_all p text) all in
    rw (less b parts.0, list_all-weaken p q less text parts.1) refl

-- ---- the sign

-- the sign that a text begins with
abbrev pub sign_at : List ℕ → List ℕ
sign_at [] = []
sign_at (b ∷ text) = cond (b == 45) (45 ∷ []) (cond (b == 43) (43 ∷ []) [])

pub sign_at-IsSign : (text : List ℕ) → IsSign (begins_with_minus text) (sign_at text)
sign_at-IsSign [] = inl refl
sign_at-IsSign (b ∷ text) =
    elim (cases_Bool (b == 45)) [
      | inl minus ↦ rw minus refl
      | inr other ↦ rw other (plus_sign (b == 43))
    ]
  where
    plus_sign : (plus : Bool) → IsSign false (cond {A = List ℕ} plus (43 ∷ []) [])
    plus_sign true = inr refl
    plus_sign false = inl refl

pub sign_at-behind : (text : List ℕ) → text ≡ sign_at text ++ behind_sign text
unfolding behind_sign
sign_at-behind [] = refl
sign_at-behind (b ∷ text) =
    elim (cases_Bool (b == 45)) [
      | inl minus ↦ rw minus (ap (λ x. x ∷ text) (eqb-true b 45 minus))
      | inr other ↦ rw other (elim (cases_Bool (b == 43)) [
        | inl plus ↦ rw plus (ap (λ x. x ∷ text) (eqb-true b 43 plus))
        | inr none ↦ rw none refl
      ])
    ]

-- a text that begins with no sign
pub record BeginsUnsigned (text : List ℕ) : Type 0 where
  pub minus : (get_or text 0 0 == 45) ≡ false
  pub plus : (get_or text 0 0 == 43) ≡ false

pub begins_with_minus-signed : (negative : Bool) (sign text : List ℕ) → IsSign negative sign → BeginsUnsigned text → begins_with_minus (sign ++ text) ≡ negative
begins_with_minus-signed true sign text is unsigned = rw is refl
begins_with_minus-signed false sign text (inl none) unsigned = rw none unsigned.minus
begins_with_minus-signed false sign text (inr plus) unsigned = rw plus refl

pub behind_sign-signed : (negative : Bool) (sign text : List ℕ) → IsSign negative sign → BeginsUnsigned text → behind_sign (sign ++ text) ≡ text
unfolding behind_sign
behind_sign-signed true sign text is unsigned = rw is refl
behind_sign-signed false sign text (inl none) unsigned = rw (none, unsigned.minus, unsigned.plus) refl
behind_sign-signed false sign text (inr plus) unsigned = rw plus refl
