-- Expressions: what is read is what is written, both ways.
use Rattle.std.proofs.Common.{◌≡◌, ℕ, ◌<◌, ◌||◌, ◌==◌, Bool, true, false, not, List, [], ◌∷◌, ◌++◌, length, drop, Option, Some, None, refl, sym, ap, ◌∙◌, inl, inr, nat_eq, append_assoc, subst, arith}
use Rattle.std.specs.Prelude.{slice_index}
use Rattle.std.specs.Cmp.Lexicographic.{pointwise, same_text}
use Rattle.std.specs.List.{list_all}
use Rattle.std.specs.Option.{option_map}
use Rattle.std.specs.Str.Parse.{starts_with_minus, without_leading_sign}
use Rattle.std.proofs.lemmas.Bool.{cases_Bool, and_parts, and_right, or_left, or_right, or_cases, eqb-true, true≢false}
use Rattle.std.proofs.lemmas.List.{append-nil}
use Rattle.ags_text.specs.Numeral.{number_of}
use Rattle.ags_text.proofs.NumberLaws.{number_told, number_written}
use Rattle.ags_decimal.specs.Spelling.{is_digit, IsSign}
use Rattle.ags_card.specs.declared.terms.Atom.{Atom}
use Rattle.ags_card.specs.declared.terms.Atom.TheVariants.{Number, Here, Symbol}
use Rattle.ags_card.specs.declared.terms.Term.{Term}
use Rattle.ags_card.specs.Symbol.{is_capital, is_symbol}
use Rattle.ags_card.specs.Spelling.{IsAtom, sign_byte, IsSum, IsExpression}
use Rattle.ags_card.specs.Reading.{atom_reading, is_sign, with_term, terms_reading, expression_reading}
use Rattle.ags_card.proofs.SymbolLemmas.{is_symbol-IsSymbol, IsSymbol-is_symbol}
use Rattle.ags_card.proofs.TermLemmas.{none_empty}
use Rattle.ags_card.proofs.ByteLemmas.{list_all-join, list_all-weaken, first_by, not_byte, is_not, decimal_bytes, octal_bytes, sign_front, BeginsUnsigned, starts_with_minus-signed, without_leading_sign-signed}

-- ---- a term without its sign

-- a number that was read as a term
mapped_number : (found : Option ℕ) (atom : Atom) → option_map Number found ≡ Some atom → (number : ℕ) × (found ≡ Some number) × (atom ≡ Number number)
mapped_number None atom is = let none : ◌≡◌ {A = Option Atom} None (Some atom) = is in absurd (cc)
mapped_number (Some number) atom is = (number, refl, (cc))

slash_first : (text : List ℕ) → (slice_index text 0 == 47) ≡ true → text ≡ 47 ∷ drop 1 text
slash_first [] is = absurd (true≢false (sym is))
slash_first (b ∷ text) is = ap (λ x. x ∷ text) (eqb-true b 47 is)

pub atom_spelled : (text : List ℕ) (atom : Atom) → atom_reading text ≡ Some atom → IsAtom text atom
unfolding atom_reading
atom_spelled text atom is =
    elim (cases_Bool (slice_index text 0 == 47)) [
      | inl slash ↦
          let found = mapped_number (number_of 8 6 (drop 1 text)) atom (rw slash at is) in
          rw (found.2) (inl (drop 1 text, slash_first text slash, number_told 8 6 (drop 1 text) found.0 found.1))
      | inr no_slash ↦ elim (cases_Bool (pointwise nat_eq text (42 ∷ []))) [
        | inl here ↦
            let value : Some Here ≡ Some atom = rw (no_slash, here) at is in
            let same : atom ≡ Here = (cc) in
            rw same (same_text text (42 ∷ []) (sym here))
        | inr not_here ↦ elim (cases_Bool (is_symbol text)) [
          | inl symbol ↦
              let value : Some (Symbol text) ≡ Some atom = rw (no_slash, not_here, symbol) at is in
              let same : atom ≡ Symbol text = (cc) in
              rw same (refl, is_symbol-IsSymbol text symbol)
          | inr none ↦
              let found = mapped_number (number_of 10 6 text) atom (rw (no_slash, not_here, none) at is) in
              rw (found.2) (inr (number_told 10 6 text found.0 found.1))
        ]
      ]
    ]

-- a byte of a symbol
abbrev is_symbol_byte : ℕ → Bool
is_symbol_byte b = is_capital b || is_digit b

-- digits are no symbol
digits_no_symbol : (text : List ℕ) → list_all is_digit text ≡ true → is_symbol text ≡ false
unfolding is_symbol
digits_no_symbol text all = rw all (and_right (list_all is_symbol_byte text) false refl)

pub atom_read : (text : List ℕ) (atom : Atom) → IsAtom text atom → atom_reading text ≡ Some atom
unfolding atom_reading
atom_read text (Number number) (inl octal) = rw (octal.1, number_written 8 6 octal.0 number octal.2) refl
atom_read text (Number number) (inr decimal) =
    let bytes = decimal_bytes text decimal.digits.1 in
    let slash : (slice_index text 0 == 47) ≡ false = rw append-nil at (first_by is_digit 47 refl text [] decimal.digits.0 bytes) in
    rw (slash, not_byte is_digit 42 refl text bytes, digits_no_symbol text bytes, number_written 10 6 text number decimal) refl
atom_read text Here is = rw is refl
atom_read text (Symbol name) is =
    let symbol = is.1 in
    let slash : (slice_index name 0 == 47) ≡ false = rw append-nil at (first_by is_symbol_byte 47 refl name [] symbol.some symbol.bytes) in
    rw (is.0, slash, not_byte is_symbol_byte 42 refl name symbol.bytes, IsSymbol-is_symbol name symbol) refl

-- a byte of a term
abbrev pub is_atom_byte : ℕ → Bool
is_atom_byte b = is_symbol_byte b || (b == 47 || b == 42)

symbol_byte : (b : ℕ) → is_symbol_byte b ≡ true → is_atom_byte b ≡ true
symbol_byte b is = or_left (is_symbol_byte b) (b == 47 || b == 42) is

digit_byte : (b : ℕ) → is_digit b ≡ true → is_atom_byte b ≡ true
digit_byte b is = symbol_byte b (or_right (is_capital b) (is_digit b) is)

pub atom_bytes : (text : List ℕ) (atom : Atom) → IsAtom text atom → list_all is_atom_byte text ≡ true
atom_bytes text (Number number) (inl octal) = rw (octal.1) (list_all-weaken is_digit is_atom_byte digit_byte octal.0 (octal_bytes octal.0 octal.2.digits.1))
atom_bytes text (Number number) (inr decimal) = list_all-weaken is_digit is_atom_byte digit_byte text (decimal_bytes text decimal.digits.1)
atom_bytes text Here is = rw is refl
atom_bytes text (Symbol name) is = rw (is.0) (list_all-weaken is_symbol_byte is_atom_byte symbol_byte name is.1.bytes)

pub atom_some : (text : List ℕ) (atom : Atom) → IsAtom text atom → 0 < length text
atom_some text atom is = none_empty text atom (atom_read text atom is)

-- ---- terms

-- terms, the first of which has that sign
SumFrom : Bool → List ℕ → List Term → Type 0
SumFrom minus text [] = ⊥
SumFrom minus text (term ∷ terms) = (term.minus ≡ minus) × IsSum text (term ∷ terms)

-- a term and others that were read
record IsWithTerm (minus : Bool) (found : Option Atom) (rest : Option (List Term)) (terms : List Term) : Type 0 where
  atom : Atom
  others : List Term
  found_is : found ≡ Some atom
  rest_is : rest ≡ Some others
  terms_are : terms ≡ record { minus = minus; atom = atom } ∷ others

with_term_parts : (minus : Bool) (found : Option Atom) (rest : Option (List Term)) (terms : List Term) → with_term minus found rest ≡ Some terms → IsWithTerm minus found rest terms
with_term_parts minus (Some atom) (Some others) terms is = record { atom = atom; others = others; found_is = refl; rest_is = refl; terms_are = (cc) }
with_term_parts minus (Some atom) None terms is = absurd (cc)
with_term_parts minus None rest terms is = absurd (cc)

-- the sign that a byte is
sign_of_byte : (b : ℕ) → is_sign b ≡ true → sign_byte (b == 45) ≡ b
sign_of_byte b is =
    elim (cases_Bool (b == 45)) [
      | inl minus ↦ rw minus (sym (eqb-true b 45 minus))
      | inr other ↦ elim (or_cases (b == 43) (b == 45) is) [
        | inl plus ↦ rw other (sym (eqb-true b 43 plus))
        | inr minus ↦ absurd (true≢false (sym minus ∙ other))
      ]
    ]

-- a term before others
joined_sum : (minus : Bool) (before : List ℕ) (b : ℕ) (text : List ℕ) (atom : Atom) (others : List Term) → is_sign b ≡ true → IsAtom before atom → SumFrom (b == 45) text others
    → SumFrom minus (before ++ b ∷ text) (record { minus = minus; atom = atom } ∷ others)
unfolding SumFrom
joined_sum minus before b text atom [] sign is sum = absurd sum
joined_sum minus before b text atom (next ∷ more) sign is sum =
    let byte : b ≡ sign_byte next.minus = sym (sign_of_byte b sign) ∙ ap sign_byte (sym sum.0) in
    (refl, (before, text, ap (λ x. before ++ x ∷ text) byte, is, sum.1))

terms_spelled : (text : List ℕ) (minus : Bool) (before : List ℕ) (terms : List Term) → terms_reading minus before text ≡ Some terms → SumFrom minus (before ++ text) terms
unfolding terms_reading SumFrom
terms_spelled [] minus before terms is =
    let parts = with_term_parts minus (atom_reading before) (Some []) terms is in
    let none : parts.others ≡ [] = (cc (parts.rest_is)) in
    rw (parts.terms_are, none, append-nil before) (refl, atom_spelled before parts.atom parts.found_is)
terms_spelled (b ∷ text) minus before terms is =
    elim (cases_Bool (is_sign b)) [
      | inl sign ↦
          let parts = with_term_parts minus (atom_reading before) (terms_reading (b == 45) [] text) terms (rw sign at is) in
          let rest = terms_spelled text (b == 45) [] parts.others parts.rest_is in
          rw (parts.terms_are) (joined_sum minus before b text parts.atom parts.others sign (atom_spelled before parts.atom parts.found_is) rest)
      | inr other ↦
          let rest = terms_spelled text minus (before ++ b ∷ []) terms (rw other at is) in
          subst (λ x. SumFrom minus x terms) (append_assoc before (b ∷ []) text) rest
    ]

-- bytes that are no signs belong to the term
skip : (minus : Bool) (before front rest : List ℕ) → list_all is_atom_byte front ≡ true → terms_reading minus before (front ++ rest) ≡ terms_reading minus (before ++ front) rest
unfolding terms_reading
skip minus before [] rest all = rw (append-nil before) refl
skip minus before (b ∷ front) rest all =
    let parts = and_parts (is_atom_byte b) (list_all is_atom_byte front) all in
    let other : is_sign b ≡ false = no_sign b parts.0 in
    let more = skip minus (before ++ b ∷ []) front rest parts.1 in
    rw (other) (more ∙ ap (λ x. terms_reading minus x rest) (append_assoc before (b ∷ []) front))
  where
    no_sign : (b : ℕ) → is_atom_byte b ≡ true → is_sign b ≡ false
    no_sign b is =
        let plus : not (b == 43) ≡ true = is_not is_atom_byte 43 refl b is in
        let minus : not (b == 45) ≡ true = is_not is_atom_byte 45 refl b is in
        both (b == 43) (b == 45) plus minus
      where
        both : (x y : Bool) → not x ≡ true → not y ≡ true → (x || y) ≡ false
        both true y one other = sym one
        both false true one other = sym other
        both false false one other = refl

sign_is : (minus : Bool) → is_sign (sign_byte minus) ≡ true
sign_is true = refl
sign_is false = refl

minus_is : (minus : Bool) → (sign_byte minus == 45) ≡ minus
minus_is true = refl
minus_is false = refl

terms_read : (terms : List Term) (term : Term) (text : List ℕ) → IsSum text (term ∷ terms) → terms_reading term.minus [] text ≡ Some (term ∷ terms)
unfolding terms_reading
terms_read [] term text is =
    let whole : terms_reading term.minus [] (text ++ []) ≡ terms_reading term.minus text [] = skip term.minus [] text [] (atom_bytes text term.atom is) in
    ap (terms_reading term.minus []) (sym (append-nil text)) ∙ whole ∙ rw (atom_read text term.atom is) refl
terms_read (next ∷ terms) term text is =
    let atom = is.0 in
    let behind = is.1 in
    let whole = skip term.minus [] atom (sign_byte next.minus ∷ behind) (atom_bytes atom term.atom is.3) in
    let rest = terms_read terms next behind is.4 in
    rw (is.2) (whole ∙ rw (sign_is next.minus, minus_is next.minus, atom_read atom term.atom is.3, rest) refl)

-- ---- expressions

pub expression_spelled : (text : List ℕ) (terms : List Term) → expression_reading text ≡ Some terms → IsExpression text terms
unfolding expression_reading SumFrom
expression_spelled text [] is = terms_spelled (without_leading_sign text) (starts_with_minus text) [] [] is
expression_spelled text (term ∷ terms) is =
    let sum = terms_spelled (without_leading_sign text) (starts_with_minus text) [] (term ∷ terms) is in
    let sign = sign_front text in
    (sign.sign, without_leading_sign text, sign.whole, rw (sum.0) sign.is_sign, sum.1)

-- terms begin with no sign
atom_unsigned : (text rest : List ℕ) (atom : Atom) → IsAtom text atom → BeginsUnsigned (text ++ rest)
atom_unsigned text rest atom is =
    let bytes = atom_bytes text atom is in
    let some = atom_some text atom is in
    record { minus = first_by is_atom_byte 45 refl text rest some bytes; plus = first_by is_atom_byte 43 refl text rest some bytes }

sum_unsigned : (terms : List Term) (term : Term) (text : List ℕ) → IsSum text (term ∷ terms) → BeginsUnsigned text
sum_unsigned [] term text is = rw append-nil at (atom_unsigned text [] term.atom is)
sum_unsigned (next ∷ terms) term text is = rw (is.2) (atom_unsigned is.0 (sign_byte next.minus ∷ is.1) term.atom is.3)

pub expression_read : (text : List ℕ) (terms : List Term) → IsExpression text terms → expression_reading text ≡ Some terms
unfolding expression_reading
expression_read text [] is = absurd is
expression_read text (term ∷ terms) is =
    let unsigned = sum_unsigned terms term is.1 is.4 in
    let minus = starts_with_minus-signed term.minus is.0 is.1 is.3 unsigned in
    let behind = without_leading_sign-signed term.minus is.0 is.1 is.3 unsigned in
    rw (is.2, behind, minus) (terms_read terms term is.1 is.4)

-- ---- the bytes of an expression

-- a byte of an expression
abbrev is_expression_byte : ℕ → Bool
is_expression_byte b = is_atom_byte b || is_sign b

atom_byte : (b : ℕ) → is_atom_byte b ≡ true → is_expression_byte b ≡ true
atom_byte b is = or_left (is_atom_byte b) (is_sign b) is

sum_bytes : (terms : List Term) (text : List ℕ) → IsSum text terms → list_all is_expression_byte text ≡ true
sum_bytes [] text is = absurd is
sum_bytes (term ∷ []) text is = list_all-weaken is_atom_byte is_expression_byte atom_byte text (atom_bytes text term.atom is)
sum_bytes (term ∷ next ∷ terms) text is =
    let front = list_all-weaken is_atom_byte is_expression_byte atom_byte is.0 (atom_bytes is.0 term.atom is.3) in
    let byte : is_expression_byte (sign_byte next.minus) ≡ true = or_right (is_atom_byte (sign_byte next.minus)) (is_sign (sign_byte next.minus)) (sign_is next.minus) in
    let back : list_all is_expression_byte (sign_byte next.minus ∷ is.1) ≡ true = rw byte (sum_bytes (next ∷ terms) is.1 is.4) in
    rw (is.2) (list_all-join is_expression_byte is.0 (sign_byte next.minus ∷ is.1) front back)

sign_bytes : (negative : Bool) (sign : List ℕ) → IsSign negative sign → list_all is_expression_byte sign ≡ true
sign_bytes true sign is = rw is refl
sign_bytes false sign (inl none) = rw none refl
sign_bytes false sign (inr plus) = rw plus refl

pub expression_bytes : (text : List ℕ) (terms : List Term) → IsExpression text terms → list_all is_expression_byte text ≡ true
expression_bytes text [] is = absurd is
expression_bytes text (term ∷ terms) is =
    rw (is.2) (list_all-join is_expression_byte is.0 is.1 (sign_bytes term.minus is.0 is.3) (sum_bytes (term ∷ terms) is.1 is.4))

-- no comma is among them
pub expression_no_comma : (text : List ℕ) (terms : List Term) → IsExpression text terms → list_all (λ b. not (b == 44)) text ≡ true
expression_no_comma text terms is = list_all-weaken is_expression_byte (λ b. not (b == 44)) (is_not is_expression_byte 44 refl) text (expression_bytes text terms is)

-- an expression is not empty
pub expression_some : (text : List ℕ) (terms : List Term) → IsExpression text terms → 0 < length text
unfolding expression_reading terms_reading atom_reading is_symbol number_of
expression_some [] terms is = let none : ◌≡◌ {A = Option (List Term)} None (Some terms) = expression_read [] terms is in absurd (cc)
expression_some (b ∷ text) terms is = omega arith
