-- The flags that digits set, over every text: there is one answer, or none.
use Rattle.std.proofs.Common.{◌≡◌, ℕ, zero, suc, ◌+◌, Bool, true, false, List, [], ◌∷◌, length, get_or, refl, sym, ap, ◌∙◌, inl, inr, arith}
use Rattle.std.proofs.lemmas.Bool.{cases_eq}
use Rattle.ags_text.specs.Field.{next_field, behind_field}
use Rattle.ags_text.proofs.Deciding.{decide_bool, decide_list}
use Rattle.ags_row.specs.Flag.{some_flag}
use Rattle.ags_certtext.specs.Spelling.{flag_digits}
use Rattle.ags_certtext.specs.Front.{BeginsWithFlags, AreFlags, digit_front}
use Rattle.ags_certtext.proofs.FlagLemmas.{flag_step, flag_front}
use Rattle.ags_certtext.proofs.FoundLemmas.{OneFound}

-- what stands at the front of digits: a digit, or it doesn't
record Cut (digit : ℕ) (text : List ℕ) : Type 0 where
  flag : Bool
  rest : List ℕ
  whole : text ≡ digit_front digit flag rest
  other : flag ≡ false → (others : List ℕ) → text ≡ digit_front digit true others → ⊥

cut : (digit : ℕ) (text : List ℕ) → Cut digit text
cut digit [] = record { flag = false; rest = []; whole = refl; other = λ clear others is. cc }
cut digit (b ∷ text) =
    elim (cases_eq b digit) [
      | inl same ↦ record { flag = true; rest = text; whole = rw same refl; other = λ clear others is. cc }
      | inr differ ↦ record { flag = false; rest = b ∷ text; whole = refl; other = λ clear others is. differ (ap (λ (t : List ℕ). get_or t 0 0) is) }
    ]

-- so many flags have the digits
record HasDigits (count digit : ℕ) (text : List ℕ) (flags : List Bool) : Type 0 where
  long : length flags ≡ count
  are : flag_digits digit flags ≡ text

digits_found : (count digit : ℕ) (text : List ℕ) → OneFound (List Bool) (HasDigits count digit text)
digits_found zero digit [] = inl (record { it = []; is = record { long = refl; are = refl }; one = λ flags is. no_flag flags is.long })
  where
    no_flag : (flags : List Bool) → length flags ≡ 0 → flags ≡ []
    no_flag [] none = refl
    no_flag (flag ∷ flags) none = absurd (omega (arith, none))
digits_found zero digit (b ∷ text) = inr (λ flags is. no_digit flags is.long is.are)
  where
    no_digit : (flags : List Bool) → length flags ≡ 0 → flag_digits digit flags ≡ b ∷ text → ⊥
    no_digit [] none are = cc
    no_digit (flag ∷ flags) none are = omega (arith, none)
digits_found (suc count) digit text = of (cut digit text) (digits_found count (digit + 1) (cut digit text).rest)
  where
    first_is : (c : Cut digit text) (flags : List Bool) → length flags ≡ suc count → flag_digits digit flags ≡ text
        → (later : List Bool) × (flags ≡ c.flag ∷ later) × HasDigits count (digit + 1) c.rest later
    first_is c [] long are = absurd (omega (arith, long))
    first_is c (flag ∷ flags) long are =
        let step = flag_step digit flag flags c.flag text c.rest c.whole c.other are in
        (flags, ap (λ (f : Bool). f ∷ flags) step.0, record { long = omega (arith, long); are = step.1 })

    of : (c : Cut digit text) → OneFound (List Bool) (HasDigits count (digit + 1) c.rest) → OneFound (List Bool) (HasDigits (suc count) digit text)
    of c (inr none) = inr (λ flags is. let first = first_is c flags is.long is.are in none first.0 first.2)
    of c (inl later) = inl (record {
      it = c.flag ∷ later.it;
      is = record { long = (let long = later.is.long in omega (arith, long)); are = flag_front digit c.flag later.it text c.rest c.whole later.is.are };
      one = λ flags is. let first = first_is c flags is.long is.are in first.1 ∙ ap (λ (fs : List Bool). c.flag ∷ fs) (later.one first.0 first.2);
    })

flags_found : (count : ℕ) (text : List ℕ) → OneFound (List Bool) (AreFlags count text)
flags_found count text =
    elim (digits_found count 48 text) [
      | inr none ↦ inr (λ flags are. none flags (record { long = are.count_is; are = sym are.digits }))
      | inl found ↦ elim (decide_bool (some_flag found.it)) [
        | inr clear ↦ inr (λ flags are. clear (rw (← found.one flags (record { long = are.count_is; are = sym are.digits })) are.some))
        | inl some ↦ inl (record {
          it = found.it;
          is = record { count_is = found.is.long; some = some; digits = sym found.is.are };
          one = λ flags are. found.one flags (record { long = are.count_is; are = sym are.digits });
        })
      ]
    ]

pub named_flags_found : (count name : ℕ) (text : List ℕ) → OneFound (List Bool) (BeginsWithFlags count name text)
named_flags_found count name text =
    elim (decide_list (next_field text) (name ∷ [])) [
      | inr other ↦ inr (λ flags is. other is.named)
      | inl named ↦ elim (flags_found count (next_field (behind_field text))) [
        | inr none ↦ inr (λ flags is. none flags is.flags_are)
        | inl found ↦ inl (record {
          it = found.it;
          is = record { named = named; flags_are = found.is };
          one = λ flags is. found.one flags is.flags_are;
        })
      ]
    ]
