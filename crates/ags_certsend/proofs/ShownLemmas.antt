-- Texts without control characters, and how long they are at most.
use Rattle.std.proofs.Common.{◌≡◌, ℕ, ◌+◌, ◌^◌, ◌<◌, ◌≤◌, Bool, true, false, not, ◌==◌, List, [], ◌∷◌, ◌++◌, length, refl, sym, ◌∙◌, arith}
use Rattle.std.specs.Prelude.{nat_le}
use Rattle.std.specs.Char.{digit_value}
use Rattle.std.specs.List.{list_all}
use Rattle.std.specs.Str.Parse.{AllDigits}
use Rattle.std.proofs.lemmas.Bool.{and_parts, true≢false}
use Rattle.std.proofs.lemmas.Bool.Decides.{nat_tests}
use Rattle.std.proofs.lemmas.List.{length-append}
use Rattle.std.proofs.lemmas.List.Folds.{list_all-append}
use Rattle.ags_text.specs.Line.{HasNoFeed, EndsInReturn}
use Rattle.ags_text.specs.Numeral.{numeral, Writes}
use Rattle.ags_text.proofs.NumeralLemmas.{writes}
use Rattle.ags_certtext.specs.Spelling.{flag_digits}

-- a byte that is no control character
abbrev pub is_shown : ℕ → Bool
is_shown b = nat_le 32 b

-- a text of such bytes, of at most so many
pub record IsShown (most : ℕ) (text : List ℕ) : Type 0 where
  pub plain : list_all is_shown text ≡ true
  pub short : length text ≤ most

pub shown-append : (m n : ℕ) (xs ys : List ℕ) → IsShown m xs → IsShown n ys → IsShown (m + n) (xs ++ ys)
shown-append m n xs ys first second = record {
  plain = list_all-append is_shown xs ys ∙ rw (first.plain, second.plain) refl;
  short = omega (arith, length-append xs ys, first.short, second.short);
}

pub shown-weaker : (m n : ℕ) (text : List ℕ) → m ≤ n → IsShown m text → IsShown n text
shown-weaker m n text more is = record { plain = is.plain; short = omega (arith, is.short, more) }

-- ---- digits

digit_shown : (b : ℕ) → digit_value b < 10 → is_shown b ≡ true
digit_shown b digit = grind (arith, nat_tests)

pub digits_shown : (base : ℕ) (text : List ℕ) → base ≤ 10 → AllDigits base text → list_all is_shown text ≡ true
digits_shown base [] most digits = refl
digits_shown base (b ∷ text) most digits =
    let first = digits.0 in
    rw (digit_shown b (omega (arith, first, most)), digits_shown base text most digits.1) refl

pub octal_shown : (width n : ℕ) → n < 8 ^ width → IsShown width (numeral 8 width n)
octal_shown width n fits =
    let is : Writes 8 width (numeral 8 width n) n = writes 8 width n (omega arith) (omega arith) fits in
    let long = is.length in
    record { plain = digits_shown 8 (numeral 8 width n) (omega arith) is.digits; short = omega (arith, long) }

above_32 : (digit : ℕ) → 32 ≤ digit → is_shown digit ≡ true
above_32 digit least = grind (arith, nat_tests)

pub flags_shown : (digit : ℕ) (flags : List Bool) → 32 ≤ digit → IsShown (length flags) (flag_digits digit flags)
flags_shown digit [] least = record { plain = refl; short = omega arith }
flags_shown digit (true ∷ flags) least =
    let rest = flags_shown (digit + 1) flags (omega arith) in
    record { plain = rw (above_32 digit least, rest.plain) refl; short = omega (arith, rest.short) }
flags_shown digit (false ∷ flags) least =
    let rest = flags_shown (digit + 1) flags (omega arith) in
    record { plain = rest.plain; short = omega (arith, rest.short) }

-- ---- no feed, and no return at the end

shown_no_feed : (b : ℕ) → is_shown b ≡ true → not (b == 10) ≡ true
shown_no_feed b is = grind (arith, nat_tests)

pub no_feed : (text : List ℕ) → list_all is_shown text ≡ true → HasNoFeed text
no_feed [] is = refl
no_feed (b ∷ text) is =
    let parts = and_parts (is_shown b) (list_all is_shown text) is in
    rw (shown_no_feed b parts.0, no_feed text parts.1) refl

pub no_return : (text : List ℕ) → list_all is_shown text ≡ true → EndsInReturn text → ⊥
no_return text is ends =
    let all : list_all is_shown (ends.0 ++ 13 ∷ []) ≡ true = rw ends.1 at is in
    let parts = and_parts (list_all is_shown ends.0) (list_all is_shown (13 ∷ [])) (sym (list_all-append is_shown ends.0 (13 ∷ [])) ∙ all) in
    let last : false ≡ true = parts.1 in
    true≢false (sym last)
