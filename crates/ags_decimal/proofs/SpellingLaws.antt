-- What is read is what is spelled, both ways.
use Rattle.std.proofs.Common.{◌≡◌, ℕ, ◌+◌, ◌<◌, ◌^◌, ◌&&◌, ◌||◌, ◌==◌, Bool, true, false, List, [], ◌∷◌, ◌++◌, length, drop, refl, sym, ap, ◌∙◌, inl, inr, arith, ℤ, pos, ◌-ℤ◌, ◌≤ℤ◌}
use Rattle.std.specs.Prelude.{Option, Some, None, nat_lt, neg_ℤ}
use Rattle.std.specs.Int.RustNames.{int_le}
use Rattle.std.specs.List.{list_all}
use Rattle.std.proofs.lemmas.Int.{ints}
use Rattle.std.proofs.lemmas.List.{append-nil}
use Rattle.std.proofs.lemmas.List.Folds.{list_all-append}
use Rattle.std.proofs.lemmas.Bool.{cases_Bool, and_parts, eqb-true}
use Rattle.std.proofs.lemmas.Bool.Decides.{nat_tests}
use Rattle.ags_decimal.specs.Decimal.{Parts, IsWithinLimits}
use Rattle.ags_decimal.specs.Reading.{front_at, rest_at, begins_with_minus, behind_sign, signed_reading, marked_reading, digits_of, places_of, lies_between, limited, settled_reading, reading_before_scale, reading}
use Rattle.ags_decimal.specs.Spelling.{is_digit, are_digits, digits_number, IsSign, IsSigned, IsMarked, IsPointed, Spells}
use Rattle.ags_decimal.proofs.CutLemmas.{is_not, FromMark, rest_at-FromMark, front_at-rest_at, front_at-cut, rest_at-cut, list_all-join, list_all-weaken, sign_at, sign_at-IsSign, sign_at-behind, BeginsUnsigned, begins_with_minus-signed, behind_sign-signed}
use Rattle.ags_decimal.proofs.NumberLemmas.{number_after-below}
use Rattle.ags_decimal.proofs.WordLemmas.{below_tens}

-- ---- what is read is spelled

signed_spelled : (text : List ℕ) (n : ℤ) → signed_reading text ≡ Some n → IsSigned text n
unfolding signed_reading
signed_spelled text n is =
    elim (cases_Bool (are_digits 2 (behind_sign text))) [
      | inl digits ↦
          let value = rw digits at is in
          record { negative = begins_with_minus text; sign = sign_at text; digits = behind_sign text; whole = sign_at-behind text; is_sign = sign_at-IsSign text; are_digits = digits; value = (cc) }
      | inr other ↦ let none = rw other at is in absurd (cc)
    ]

some_length : (b : ℕ) (text : List ℕ) → (length (b ∷ text) == 0) ≡ false
some_length b text = grind (arith, nat_tests)

marked_spelled : (mark : ℕ) (usual : ℤ) (rest : List ℕ) (n : ℤ) → FromMark mark rest → marked_reading usual rest ≡ Some n → IsMarked mark usual rest n
unfolding marked_reading
marked_spelled mark usual rest n (inl nil) is = let usual_is = rw nil at is in inl (nil, cc)
marked_spelled mark usual rest n (inr marked) is = inr (marked.0, marked.1, signed_spelled marked.0 n (rw (marked.1, some_length mark marked.0) at is))

pointed_of : (front rest text : List ℕ) → FromMark 46 rest → front ++ rest ≡ text → IsPointed (front ++ drop 1 rest) (length (drop 1 rest)) text
pointed_of front rest text (inl nil) whole = rw nil (inl (sym (rw nil at whole), refl))
pointed_of front rest text (inr marked) whole = rw (marked.1) (inr (front, marked.0, refl, refl, sym (rw (marked.1) at whole)))

pointed_spelled : (text : List ℕ) → IsPointed (digits_of text) (places_of text) text
unfolding digits_of places_of
pointed_spelled text = pointed_of (front_at 46 text) (rest_at 46 text) text (rest_at-FromMark 46 text) (front_at-rest_at 46 text)

digits_below : (text : List ℕ) → are_digits 10 text ≡ true → digits_number text < 10 ^ 10
digits_below text digits =
    let parts = and_parts (list_all is_digit text) (nat_lt 0 (length text) && nat_lt (length text) 11) digits in
    let counts = and_parts (nat_lt 0 (length text)) (nat_lt (length text) 11) parts.1 in
    below_tens (digits_number text) (0 + length text) 10 (number_after-below 0 0 text (omega arith) parts.0) (grind (arith, nat_tests, counts.1))

lies_between_is : (least most n : ℤ) → lies_between least most n ≡ true → (least ≤ℤ n) × (n ≤ℤ most)
lies_between_is least most n is = let parts = and_parts (int_le least n) (int_le n most) is in (grind (arith, ints, parts.0), grind (arith, ints, parts.1))

-- a decimal of its parts is those parts, which are within the limits
record AreLimited (parts found : Parts) : Type 0 where
  same : parts ≡ found
  limits : IsWithinLimits parts

limited_is : (parts found : Parts) → parts.digits < 10 ^ 10 → limited parts ≡ Some found → AreLimited parts found
unfolding limited
limited_is parts found below is =
    elim (cases_Bool (lies_between (neg_ℤ (pos 12)) (pos 12) parts.power && lies_between (neg_ℤ (pos 30)) (pos 60) parts.scale)) [
      | inl within ↦
          let value = rw within at is in
          let ends = and_parts (lies_between (neg_ℤ (pos 12)) (pos 12) parts.power) (lies_between (neg_ℤ (pos 30)) (pos 60) parts.scale) within in
          let power = lies_between_is (neg_ℤ (pos 12)) (pos 12) parts.power ends.0 in
          let scale = lies_between_is (neg_ℤ (pos 30)) (pos 60) parts.scale ends.1 in
          record {
            same = (cc);
            limits = record { digits = below; least_power = power.0; most_power = power.1; least_scale = scale.0; most_scale = scale.1 };
          }
      | inr over ↦ let none = rw over at is in absurd (cc)
    ]

-- what a decimal is settled from
record IsSettled (negative : Bool) (number : List ℕ) (exponent_read scale_read : Option ℤ) (found : Parts) : Type 0 where
  exponent : ℤ
  scale : ℤ
  exponent_is : exponent_read ≡ Some exponent
  scale_is : scale_read ≡ Some scale
  digits : are_digits 10 (digits_of number) ≡ true
  parts : AreLimited (record { negative = negative; digits = digits_number (digits_of number); power = exponent -ℤ pos (places_of number); scale = scale }) found

settled_spelled : (negative : Bool) (number : List ℕ) (exponent_read scale_read : Option ℤ) (found : Parts)
    → settled_reading negative number exponent_read scale_read ≡ Some found → IsSettled negative number exponent_read scale_read found
settled_spelled negative number (Some exponent) (Some scale) found is =
    elim (cases_Bool (are_digits 10 (digits_of number))) [
      | inl digits ↦ record { exponent = exponent; scale = scale; exponent_is = refl; scale_is = refl; digits = digits; parts = limited_is _ found (digits_below (digits_of number) digits) (rw digits at is) }
      | inr other ↦ let none = rw other at is in absurd (cc)
    ]
settled_spelled negative number (Some exponent) None found is = absurd (cc)
settled_spelled negative number None scale found is = absurd (cc)

-- a text in its four parts
whole_text : (mantissa exponent front scale text : List ℕ) → mantissa ++ exponent ≡ front → front ++ scale ≡ text
    → text ≡ (sign_at mantissa ++ behind_sign mantissa ++ exponent) ++ scale
whole_text mantissa exponent front scale text one other = sym (ap (λ x. (x ++ exponent) ++ scale) (sym (sign_at-behind mantissa)) ∙ ap (λ x. x ++ scale) one ∙ other)

pub reading-spells : (text : List ℕ) (parts : Parts) → reading text ≡ Some parts → Spells text parts
unfolding reading reading_before_scale
reading-spells text parts is =
    let front = front_at 66 text in
    let mantissa = front_at 69 front in
    let settled = settled_spelled (begins_with_minus mantissa) (behind_sign mantissa) (marked_reading (pos 0) (rest_at 69 front)) (marked_reading (pos 17) (rest_at 66 text)) parts is in
    let same = settled.parts.same in
    let made = settled.parts.limits in
    rw (← same) (record {
      sign = sign_at mantissa;
      number = behind_sign mantissa;
      exponent_part = rest_at 69 front;
      scale_part = rest_at 66 text;
      whole = whole_text mantissa (rest_at 69 front) front (rest_at 66 text) text (front_at-rest_at 69 front) (front_at-rest_at 66 text);
      is_sign = sign_at-IsSign mantissa;
      digits = digits_of (behind_sign mantissa);
      places = places_of (behind_sign mantissa);
      is_number = pointed_spelled (behind_sign mantissa);
      are_digits = settled.digits;
      digits_are = refl;
      exponent = settled.exponent;
      is_exponent = marked_spelled 69 (pos 0) (rest_at 69 front) settled.exponent (rest_at-FromMark 69 front) settled.exponent_is;
      power_is = refl;
      is_scale = marked_spelled 66 (pos 17) (rest_at 66 text) settled.scale (rest_at-FromMark 66 text) settled.scale_is;
      limits = made;
    })

-- ---- what is spelled is read

marked_from : (mark : ℕ) (usual : ℤ) (text : List ℕ) (n : ℤ) → IsMarked mark usual text n → FromMark mark text
marked_from mark usual text n (inl none) = inl none.0
marked_from mark usual text n (inr marked) = inr (marked.0, marked.1)

unsigned_by : (p : ℕ → Bool) → p 45 ≡ false → p 43 ≡ false → (text : List ℕ) → list_all p text ≡ true → BeginsUnsigned text
unsigned_by p minus plus [] all = record { minus = refl; plus = refl }
unsigned_by p minus plus (b ∷ text) all =
    let parts = and_parts (p b) (list_all p text) all in
    record { minus = differs 45 minus parts.0; plus = differs 43 plus parts.0 }
  where
    differs : (sign : ℕ) → p sign ≡ false → p b ≡ true → (b == sign) ≡ false
    differs sign fails passes =
        elim (cases_Bool (b == sign)) [
          | inl is ↦ let same : b ≡ sign = eqb-true b sign is in let passed = rw same at passes in absurd (cc)
          | inr other ↦ other
        ]

digits_all : (most : ℕ) (text : List ℕ) → are_digits most text ≡ true → list_all is_digit text ≡ true
digits_all most text digits = (and_parts (list_all is_digit text) (nat_lt 0 (length text) && nat_lt (length text) (most + 1)) digits).0

signed_read : (text : List ℕ) (n : ℤ) → IsSigned text n → signed_reading text ≡ Some n
unfolding signed_reading
signed_read text n spelled =
    let unsigned = unsigned_by is_digit refl refl spelled.digits (digits_all 2 spelled.digits spelled.are_digits) in
    let minus = begins_with_minus-signed spelled.negative spelled.sign spelled.digits spelled.is_sign unsigned in
    let behind = behind_sign-signed spelled.negative spelled.sign spelled.digits spelled.is_sign unsigned in
    rw (spelled.whole, behind, minus, spelled.are_digits) (ap Some (sym spelled.value))

marked_read : (mark : ℕ) (usual : ℤ) (text : List ℕ) (n : ℤ) → IsMarked mark usual text n → marked_reading usual text ≡ Some n
unfolding marked_reading
marked_read mark usual text n (inl none) = rw none.0 (ap Some (sym none.1))
marked_read mark usual text n (inr marked) = rw (marked.1, some_length mark marked.0) (signed_read marked.0 n marked.2)

-- a digit or a point
abbrev is_number_byte : ℕ → Bool
is_number_byte b = is_digit b || b == 46

pointed_bytes : (digits text : List ℕ) (places : ℕ) → IsPointed digits places text → list_all is_digit digits ≡ true → list_all is_number_byte text ≡ true
pointed_bytes digits text places (inl plain) all = rw (plain.0) (list_all-weaken is_digit is_number_byte (λ b is. rw is refl) digits all)
pointed_bytes digits text places (inr pointed) all =
    let split : list_all is_digit (pointed.0 ++ pointed.1) ≡ true = rw (pointed.2) at all in
    let parts = and_parts (list_all is_digit pointed.0) (list_all is_digit pointed.1) (rw (list_all-append is_digit pointed.0 pointed.1) at split) in
    let less : (b : ℕ) → is_digit b ≡ true → is_number_byte b ≡ true = λ b is. rw is refl in
    let back : list_all is_number_byte (46 ∷ pointed.1) ≡ true = list_all-weaken is_digit is_number_byte less pointed.1 parts.1 in
    rw (pointed.4) (list_all-join is_number_byte pointed.0 (46 ∷ pointed.1) (list_all-weaken is_digit is_number_byte less pointed.0 parts.0) back)

-- the digits of a number with a point or without, and its places, are read
record IsPointRead (digits text : List ℕ) (places : ℕ) : Type 0 where
  digits_are : digits_of text ≡ digits
  places_are : places_of text ≡ places

no_point : (b : ℕ) → is_digit b ≡ true → is_not 46 b ≡ true
no_point b is =
    elim (cases_Bool (b == 46)) [
      | inl same ↦ let e : b ≡ 46 = eqb-true b 46 same in let digit : is_digit 46 ≡ true = rw e at is in absurd (cc)
      | inr other ↦ rw other refl
    ]

pointed_read : (digits text : List ℕ) (places : ℕ) → IsPointed digits places text → list_all is_digit digits ≡ true → IsPointRead digits text places
unfolding digits_of places_of
pointed_read digits text places (inl plain) all =
    let free = list_all-weaken is_digit (is_not 46) no_point digits all in
    let front : front_at 46 digits ≡ digits = rw append-nil at (front_at-cut 46 digits [] free (inl refl)) in
    let rest : rest_at 46 digits ≡ [] = rw append-nil at (rest_at-cut 46 digits [] free (inl refl)) in
    rw (plain.0) (record { digits_are = rw (front, rest) (append-nil digits); places_are = rw rest (sym plain.1) })
pointed_read digits text places (inr pointed) all =
    let split : list_all is_digit (pointed.0 ++ pointed.1) ≡ true = rw (pointed.2) at all in
    let parts = and_parts (list_all is_digit pointed.0) (list_all is_digit pointed.1) (rw (list_all-append is_digit pointed.0 pointed.1) at split) in
    let free = list_all-weaken is_digit (is_not 46) no_point pointed.0 parts.0 in
    let front = front_at-cut 46 pointed.0 (46 ∷ pointed.1) free (inr (pointed.1, refl)) in
    let rest = rest_at-cut 46 pointed.0 (46 ∷ pointed.1) free (inr (pointed.1, refl)) in
    rw (pointed.4) (record { digits_are = rw (front, rest) (sym pointed.2); places_are = rw rest (sym pointed.3) })

-- a byte of a number or a sign
abbrev is_signed_byte : ℕ → Bool
is_signed_byte b = is_number_byte b || (b == 45 || b == 43)

sign_bytes : (negative : Bool) (sign : List ℕ) → IsSign negative sign → list_all is_signed_byte sign ≡ true
sign_bytes true sign is = rw is refl
sign_bytes false sign (inl none) = rw none refl
sign_bytes false sign (inr plus) = rw plus refl

signed_bytes : (text : List ℕ) (n : ℤ) → IsSigned text n → list_all is_signed_byte text ≡ true
signed_bytes text n spelled =
    rw (spelled.whole) (list_all-join is_signed_byte spelled.sign spelled.digits (sign_bytes spelled.negative spelled.sign spelled.is_sign)
    (list_all-weaken is_digit is_signed_byte (λ b is. rw is refl) spelled.digits (digits_all 2 spelled.digits spelled.are_digits)))

-- no byte of a number or a sign is a letter
no_letter : (mark b : ℕ) → is_signed_byte mark ≡ false → is_signed_byte b ≡ true → is_not mark b ≡ true
no_letter mark b letter is =
    elim (cases_Bool (b == mark)) [
      | inl same ↦ let e : b ≡ mark = eqb-true b mark same in let byte : is_signed_byte mark ≡ true = rw e at is in absurd (cc)
      | inr other ↦ rw other refl
    ]

exponent_free : (text : List ℕ) (n : ℤ) → IsMarked 69 (pos 0) text n → list_all (is_not 66) text ≡ true
exponent_free text n (inl none) = rw none.0 refl
exponent_free text n (inr marked) =
    let free : list_all (is_not 66) (69 ∷ marked.0) ≡ true = list_all-weaken is_signed_byte (is_not 66) (λ b. no_letter 66 b refl) marked.0 (signed_bytes marked.0 n marked.2) in
    rw (marked.1) free

lies_between_in : (least most n : ℤ) → least ≤ℤ n → n ≤ℤ most → lies_between least most n ≡ true
lies_between_in least most n low high = grind (arith, ints)

limited_in : (parts : Parts) → IsWithinLimits parts → limited parts ≡ Some parts
unfolding limited
limited_in parts limits =
    rw (lies_between_in (neg_ℤ (pos 12)) (pos 12) parts.power limits.least_power limits.most_power, lies_between_in (neg_ℤ (pos 30)) (pos 60) parts.scale limits.least_scale limits.most_scale) refl

settled_read : (parts : Parts) (number : List ℕ) (exponent : ℤ) → are_digits 10 (digits_of number) ≡ true → parts.digits ≡ digits_number (digits_of number)
    → parts.power ≡ exponent -ℤ pos (places_of number) → IsWithinLimits parts → settled_reading parts.negative number (Some exponent) (Some parts.scale) ≡ Some parts
settled_read parts number exponent digits value power limits = rw (digits, ← value, ← power) (limited_in parts limits)

pub spelled-reading : (text : List ℕ) (parts : Parts) → Spells text parts → reading text ≡ Some parts
unfolding reading reading_before_scale
spelled-reading text parts spells =
    let number = spells.number in
    let sign = spells.sign in
    let digits = digits_all 10 spells.digits spells.are_digits in
    let bytes = pointed_bytes spells.digits number spells.places spells.is_number digits in
    let mantissa_bytes = list_all-join is_signed_byte sign number (sign_bytes parts.negative sign spells.is_sign) (list_all-weaken is_number_byte is_signed_byte (λ b is. rw is refl) number bytes) in
    let mantissa_free = list_all-weaken is_signed_byte (is_not 66) (λ b. no_letter 66 b refl) (sign ++ number) mantissa_bytes in
    let no_exponent = list_all-weaken is_signed_byte (is_not 69) (λ b. no_letter 69 b refl) (sign ++ number) mantissa_bytes in
    let front_free = list_all-join (is_not 66) (sign ++ number) spells.exponent_part mantissa_free (exponent_free spells.exponent_part spells.exponent spells.is_exponent) in
    let from_scale = marked_from 66 (pos 17) spells.scale_part parts.scale spells.is_scale in
    let from_exponent = marked_from 69 (pos 0) spells.exponent_part spells.exponent spells.is_exponent in
    let front = front_at-cut 66 (sign ++ number ++ spells.exponent_part) spells.scale_part front_free from_scale in
    let scale = rest_at-cut 66 (sign ++ number ++ spells.exponent_part) spells.scale_part front_free from_scale in
    let mantissa = front_at-cut 69 (sign ++ number) spells.exponent_part no_exponent from_exponent in
    let exponent = rest_at-cut 69 (sign ++ number) spells.exponent_part no_exponent from_exponent in
    let unsigned = unsigned_by is_number_byte refl refl number bytes in
    let minus = begins_with_minus-signed parts.negative sign number spells.is_sign unsigned in
    let behind = behind_sign-signed parts.negative sign number spells.is_sign unsigned in
    let read = pointed_read spells.digits number spells.places spells.is_number digits in
    let are = rw (← read.digits_are) at spells.are_digits in
    let value = rw (← read.digits_are) at spells.digits_are in
    let power = rw (← read.places_are) at spells.power_is in
    rw (
      spells.whole,
      front,
      scale,
      mantissa,
      exponent,
      minus,
      behind,
      marked_read 69 (pos 0) spells.exponent_part spells.exponent spells.is_exponent,
      marked_read 66 (pos 17) spells.scale_part parts.scale spells.is_scale,
    )
    (settled_read parts number spells.exponent are value power spells.limits)
