-- Tests of the bytes of a text: of each, of the first, and of some byte; and the digits among them.
use Rattle.std.proofs.Common.{◌≡◌, ℕ, ◌<◌, ◌≤◌, ◌⊎◌, ◌==◌, Bool, true, false, not, List, [], ◌∷◌, ◌++◌, length, refl, sym, ap, ◌∙◌, inl, inr, nat_eq, arith}
use Rattle.std.specs.Prelude.{slice_index}
use Rattle.std.specs.Char.{digit_value}
use Rattle.std.specs.Cmp.Lexicographic.{pointwise, same_text}
use Rattle.std.specs.List.{list_all}
use Rattle.std.specs.Str.Parse.{AllDigits, starts_with_minus, without_leading_sign}
use Rattle.std.proofs.lemmas.Bool.{cases_Bool, and_parts, and_from, eqb-true, true≢false, false_from_ne_true}
use Rattle.std.proofs.lemmas.Bool.Decides.{nat_tests}
use Rattle.std.proofs.lemmas.List.Folds.{list_all-append}
use Rattle.ags_decimal.specs.Spelling.{is_digit, IsSign}
use Rattle.ags_card.specs.Spelling.{Holds}

-- a text is empty or has some bytes
pub list_cases : (text : List ℕ) → (text ≡ []) ⊎ (0 < length text)
list_cases [] = inl refl
list_cases (b ∷ text) = inr (omega arith)

-- ---- each byte

pub list_all-join : (p : ℕ → Bool) (front back : List ℕ) → list_all p front ≡ true → list_all p back ≡ true → list_all p (front ++ back) ≡ true
list_all-join p front back one other = rw (list_all-append p front back, one, other) refl

pub list_all-weaken : (p q : ℕ → Bool) → ((b : ℕ) → p b ≡ true → q b ≡ true) → (text : List ℕ) → list_all p text ≡ true → list_all q text ≡ true
list_all-weaken p q less [] all = refl
list_all-weaken p q less (b ∷ text) all =
    let parts = and_parts (p b) (list_all p text) all in
    and_from _ _ (less b parts.0) (list_all-weaken p q less text parts.1)

-- the first byte is none that fails the test
pub first_by : (p : ℕ → Bool) (c : ℕ) → p c ≡ false → (text rest : List ℕ) → 0 < length text → list_all p text ≡ true → (slice_index (text ++ rest) 0 == c) ≡ false
first_by p c fails [] rest some all = absurd (omega arith)
first_by p c fails (b ∷ text) rest some all =
    let parts = and_parts (p b) (list_all p text) all in
    false_from_ne_true (b == c) (λ same. true≢false (sym parts.0 ∙ ap p (eqb-true b c same) ∙ fails))

-- a text is not one of a byte that fails the test
pub not_byte : (p : ℕ → Bool) (c : ℕ) → p c ≡ false → (text : List ℕ) → list_all p text ≡ true → pointwise nat_eq text (c ∷ []) ≡ false
not_byte p c fails text all =
    false_from_ne_true (pointwise nat_eq text (c ∷ [])) (λ same.
    let one : text ≡ c ∷ [] = same_text text (c ∷ []) (sym same) in
    let passes : list_all p (c ∷ []) ≡ true = rw one at all in
    true≢false (sym (and_parts (p c) true passes).0 ∙ fails))

-- a byte is no other one that fails the test
pub is_not : (p : ℕ → Bool) (c : ℕ) → p c ≡ false → (b : ℕ) → p b ≡ true → not (b == c) ≡ true
is_not p c fails b is =
    elim (cases_Bool (b == c)) [
      | inl same ↦ absurd (true≢false (sym is ∙ ap p (eqb-true b c same) ∙ fails))
      | inr other ↦ rw other refl
    ]

-- ---- some byte

-- where not each byte passes, some byte fails
pub some_fails : (p : ℕ → Bool) (text : List ℕ) → list_all p text ≡ false → Holds (λ b. not (p b)) text
some_fails p [] all = absurd (true≢false all)
some_fails p (b ∷ text) all =
    elim (cases_Bool (p b)) [
      | inl passes ↦
          let rest = some_fails p text (rw passes at all) in
          (b ∷ rest.0, rest.1, rest.2, ap (λ x. b ∷ x) rest.3, rest.4)
      | inr fails ↦ ([], b, text, refl, rw fails refl)
    ]

-- where some byte fails, not each one passes
pub fails_not_all : (p q : ℕ → Bool) → ((b : ℕ) → p b ≡ true → q b ≡ false) → (text : List ℕ) → Holds p text → list_all q text ≡ false
fails_not_all p q fails text holds =
    false_from_ne_true (list_all q text) (λ all.
    let whole : list_all q (holds.0 ++ holds.1 ∷ holds.2) ≡ true = rw (holds.3) at all in
    let parts = and_parts (list_all q holds.0) (list_all q (holds.1 ∷ holds.2)) (sym (list_all-append q holds.0 (holds.1 ∷ holds.2)) ∙ whole) in
    let byte = and_parts (q holds.1) (list_all q holds.2) parts.1 in
    true≢false (sym byte.0 ∙ fails holds.1 holds.4))

-- ---- digits

-- what has the value of a decimal digit is one
pub decimal_digit : (b : ℕ) → digit_value b < 10 → is_digit b ≡ true
decimal_digit b is = grind (arith, nat_tests)

-- so what are digits of a base up to ten are such digits
digit_bytes : (base : ℕ) (text : List ℕ) → base ≤ 10 → AllDigits base text → list_all is_digit text ≡ true
digit_bytes base [] most digits = refl
digit_bytes base (b ∷ text) most digits = and_from _ _ (decimal_digit b (omega (arith, digits.0, most))) (digit_bytes base text most digits.1)

pub decimal_bytes : (text : List ℕ) → AllDigits 10 text → list_all is_digit text ≡ true
decimal_bytes text digits = digit_bytes 10 text (omega arith) digits

pub octal_bytes : (text : List ℕ) → AllDigits 8 text → list_all is_digit text ≡ true
octal_bytes text digits = digit_bytes 8 text (omega arith) digits

-- ---- the sign

-- the sign that a text begins with, or none
pub record BeginsWithSign (text : List ℕ) : Type 0 where
  pub sign : List ℕ
  pub whole : text ≡ sign ++ without_leading_sign text
  pub is_sign : IsSign (starts_with_minus text) sign

pub sign_front : (text : List ℕ) → BeginsWithSign text
sign_front [] = record { sign = []; whole = refl; is_sign = inl refl }
sign_front (b ∷ text) =
    elim (cases_Bool (b == 45)) [
      | inl minus ↦ record { sign = 45 ∷ []; whole = rw minus (ap (λ x. x ∷ text) (eqb-true b 45 minus)); is_sign = rw minus refl }
      | inr other ↦ elim (cases_Bool (b == 43)) [
        | inl plus ↦ record { sign = 43 ∷ []; whole = rw (other, plus) (ap (λ x. x ∷ text) (eqb-true b 43 plus)); is_sign = rw other (inr refl) }
        | inr none ↦ record { sign = []; whole = rw (other, none) refl; is_sign = rw other (inl refl) }
      ]
    ]

-- a text that begins with no sign
pub record BeginsUnsigned (text : List ℕ) : Type 0 where
  pub minus : (slice_index text 0 == 45) ≡ false
  pub plus : (slice_index text 0 == 43) ≡ false

pub starts_with_minus-signed : (negative : Bool) (sign text : List ℕ) → IsSign negative sign → BeginsUnsigned text → starts_with_minus (sign ++ text) ≡ negative
starts_with_minus-signed true sign text is unsigned = rw is refl
starts_with_minus-signed false sign text (inl none) unsigned = rw none unsigned.minus
starts_with_minus-signed false sign text (inr plus) unsigned = rw plus refl

pub without_leading_sign-signed : (negative : Bool) (sign text : List ℕ) → IsSign negative sign → BeginsUnsigned text → without_leading_sign (sign ++ text) ≡ text
without_leading_sign-signed true sign text is unsigned = rw is refl
without_leading_sign-signed false sign text (inl none) unsigned = rw (none, unsigned.minus, unsigned.plus) refl
without_leading_sign-signed false sign text (inr plus) unsigned = rw plus refl
