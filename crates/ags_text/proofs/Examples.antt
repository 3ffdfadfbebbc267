-- Worked values of the definitions of fields and numbers.
use Rattle.std.proofs.Common.{◌≡◌, [], ◌∷◌, Some, None, refl, arith}
use Rattle.std.specs.Prelude.{codes}
use Rattle.ags_text.specs.Field.{leading_field, behind_leading_field, behind_blanks, next_field, behind_field, HasFields, AreCut}
use Rattle.ags_text.specs.Numeral.{IsOctal, IsDecimal, number_of}

-- the field at the start of a line, and its next field
first_word : leading_field (codes "A1  OCT 7") ≡ codes "A1"
unfolding leading_field
first_word = refl

field_behind : next_field (codes "  OCT 7 ") ≡ codes "OCT"
unfolding next_field leading_field behind_blanks
field_behind = refl

rest_behind : behind_field (codes "  OCT 7 ") ≡ codes " 7 "
unfolding behind_field behind_leading_field behind_blanks
rest_behind = refl

-- two fields that stand in a line, and that they are cut
two_stand : HasFields (codes " STEP  12 ") (codes "STEP" ∷ codes "12" ∷ [])
two_stand = (codes " ", codes "  12 ", refl, refl, (codes "  ", codes " ", record { some = omega arith; blanks = refl }, refl, refl))

two_cut : AreCut (codes "STEP" ∷ codes "12" ∷ []) (codes " STEP  12 ")
unfolding next_field behind_field leading_field behind_leading_field behind_blanks
two_cut = (refl, (refl, refl))

-- one text in two bases
octal_seventeen : IsOctal 6 (codes "021") 17
octal_seventeen = record { digits = (omega arith, (omega arith, (omega arith, (omega arith, tt)))); fits = omega arith; value = refl }

decimal_twenty_one : IsDecimal 9 (codes "021") 21
decimal_twenty_one = record { digits = (omega arith, (omega arith, (omega arith, (omega arith, tt)))); fits = omega arith; value = refl }

-- and its number in each, and texts without one: a digit too large, a sign, a digit too many, and none at all
number_in_octal : number_of 8 6 (codes "021") ≡ Some 17
unfolding number_of
number_in_octal = refl

number_in_decimal : number_of 10 9 (codes "021") ≡ Some 21
unfolding number_of
number_in_decimal = refl

eight_is_not_octal : number_of 8 6 (codes "18") ≡ None
unfolding number_of
eight_is_not_octal = refl

sign_is_no_digit : number_of 10 9 (codes "+1") ≡ None
unfolding number_of
sign_is_no_digit = refl

seven_digits_are_many : number_of 8 6 (codes "0000001") ≡ None
unfolding number_of
seven_digits_are_many = refl

nothing_is_no_number : number_of 8 6 [] ≡ None
unfolding number_of
nothing_is_no_number = refl
