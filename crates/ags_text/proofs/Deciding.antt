-- What can be decided: facts of texts and numbers that hold or do not, and numbers that a text writes or does not; and
-- that two answers are one.
--
-- The crates above cite these to show that each line has a reading, and that what is read is that reading.
use Rattle.std.proofs.Common.{◌≡◌, ℕ, ◌<◌, ◌≤◌, Bool, true, ◌⊎◌, List, [], ◌∷◌, length, Option, Some, None, refl, sym, ◌∙◌, inl, inr, arith}
use Rattle.std.specs.Prelude.{IfSome}
use Rattle.std.specs.Str.Parse.{AllDigits, digits_value}
use Rattle.std.specs.Char.{digit_value}
use Rattle.std.proofs.lemmas.Bool.{cases_Bool, cases_lt, cases_eq, true≢false}
use Rattle.ags_text.specs.Numeral.{IsNumber, Writes}

-- a fact holds, or it does not
abbrev pub Decided : Type 0 → Type 0
Decided P = P ⊎ (P → ⊥)

-- something is found of which a fact holds, or it holds of nothing
abbrev pub Found : (A : Type 0) → (A → Type 0) → Type 0
Found A P = ((x : A) × P x) ⊎ ((x : A) → P x → ⊥)

-- two answers are one where what is found of each is found of the other
pub same_answer : {A : Type 0} (P : A → Type 0) (one other : Option A) → IfSome one P → ((x : A) → P x → one ≡ Some x)
    → ((x : A) → other ≡ Some x → P x) → ((x : A) → P x → other ≡ Some x) → one ≡ other
same_answer P None None found only tells finds = refl
same_answer P None (Some y) found only tells finds = only y (tells y refl)
same_answer P (Some x) None found only tells finds = sym (finds x found)
same_answer P (Some x) (Some y) found only tells finds = sym (finds x found)

-- a number is not below one that it reaches
pub not_both : (m n : ℕ) → m < n → n ≤ m → ⊥
not_both m n lt le = omega arith

-- a test passes or fails
pub decide_bool : (b : Bool) → Decided (b ≡ true)
decide_bool b =
    elim (cases_Bool b) [
      | inl is ↦ inl is
      | inr fails ↦ inr (λ is. true≢false (sym is ∙ fails))
    ]

-- a number is at most another
pub decide_le : (m n : ℕ) → Decided (m ≤ n)
decide_le m n =
    elim (cases_lt n m) [
      | inl lt ↦ inr (λ le. not_both n m lt le)
      | inr le ↦ inl le
    ]

-- two numbers are one
pub decide_eq : (m n : ℕ) → Decided (m ≡ n)
decide_eq m n = cases_eq m n

-- two texts are one
pub decide_list : (xs ys : List ℕ) → Decided (xs ≡ ys)
decide_list [] [] = inl refl
decide_list [] (y ∷ ys) = inr (λ same. cc)
decide_list (x ∷ xs) [] = inr (λ same. cc)
decide_list (x ∷ xs) (y ∷ ys) =
    elim (cases_eq x y) [
      | inr other ↦ inr (λ same. other (cc))
      | inl first ↦ elim (decide_list xs ys) [
        | inl rest ↦ inl (cc)
        | inr others ↦ inr (λ same. others (cc))
      ]
    ]

-- three facts hold together
pub decide_all : (A B C : Type 0) → Decided A → Decided B → Decided C → Decided (A × B × C)
decide_all A B C (inl a) (inl b) (inl c) = inl (a, b, c)
decide_all A B C (inl a) (inl b) (inr fails) = inr (λ all. fails all.2)
decide_all A B C (inl a) (inr fails) c = inr (λ all. fails all.1)
decide_all A B C (inr fails) b c = inr (λ all. fails all.0)

-- each byte of a text is a digit
pub decide_digits : (base : ℕ) (text : List ℕ) → Decided (AllDigits base text)
decide_digits base [] = inl tt
decide_digits base (b ∷ text) =
    elim (cases_lt (digit_value b) base) [
      | inr past ↦ inr (λ digits. not_both (digit_value b) base digits.0 past)
      | inl digit ↦ elim (decide_digits base text) [
        | inl digits ↦ inl (digit, digits)
        | inr others ↦ inr (λ digits. others digits.1)
      ]
    ]

-- digits of any number write this one
pub decide_number : (base most : ℕ) (text : List ℕ) (number : ℕ) → Decided (IsNumber base most text number)
decide_number base most text number =
    elim (cases_lt 0 (length text)) [
      | inr none ↦ inr (λ is. not_both 0 (length text) is.digits.0 none)
      | inl some ↦ elim (decide_all _ _ _ (decide_digits base text) (decide_le (length text) most) (decide_eq number (digits_value base text))) [
        | inl all ↦ inl (record { digits = (some, all.0); fits = all.1; value = all.2 })
        | inr fails ↦ inr (λ is. fails (is.digits.1, is.fits, is.value))
      ]
    ]

-- so many digits do
pub decide_writes : (base width : ℕ) (text : List ℕ) (number : ℕ) → Decided (Writes base width text number)
decide_writes base width text number =
    elim (decide_all _ _ _ (decide_eq (length text) width) (decide_digits base text) (decide_eq (digits_value base text) number)) [
      | inl all ↦ inl (record { length = all.0; digits = all.1; value = all.2 })
      | inr fails ↦ inr (λ is. fails (is.length, is.digits, is.value))
    ]

-- the number that digits write
pub number_found : (base most : ℕ) (text : List ℕ) → Found ℕ (λ number. IsNumber base most text number)
number_found base most text =
    elim (decide_number base most text (digits_value base text)) [
      | inl is ↦ inl (digits_value base text, is)
      | inr fails ↦ inr (λ number is. fails (record { digits = is.digits; fits = is.fits; value = refl }))
    ]
