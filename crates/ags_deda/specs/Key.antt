-- The panel's keys: which kind each is, and what it shows and sends.
use Rattle.std.specs.Prelude.{ℕ, ◌+◌, Bool, true, false, nat_lt, if◌then◌else◌}
use Rattle.ags_deda.specs.declared.keys.Key.{Key}
use Rattle.ags_deda.specs.declared.keys.Key.TheVariants.{Digit, Plus, Minus, Clr, Entr, ReadOut, Hold}

-- a digit of an address
abbrev pub is_octal_digit : Key → Bool
is_octal_digit (Digit digit) = nat_lt digit 8
is_octal_digit _ = false

-- a digit of a value
abbrev pub is_decimal_digit : Key → Bool
is_decimal_digit (Digit digit) = nat_lt digit 10
is_decimal_digit _ = false

-- a value's sign
abbrev pub is_sign : Key → Bool
is_sign Plus = true
is_sign Minus = true
is_sign _ = false

-- ENTR
abbrev pub is_entr : Key → Bool
is_entr Entr = true
is_entr _ = false

-- READ OUT
abbrev pub is_readout : Key → Bool
is_readout ReadOut = true
is_readout _ = false

-- HOLD
abbrev pub is_hold : Key → Bool
is_hold Hold = true
is_hold _ = false

-- CLR
abbrev pub is_clr : Key → Bool
is_clr Clr = true
is_clr _ = false

-- what stands in a column where nothing was keyed: a space on the display, and in a message the number 15
abbrev pub blank_character : ℕ
blank_character = 32

abbrev pub blank_digit : ℕ
blank_digit = 15

-- what a key shows: its character, and nothing where it has none
abbrev pub key_character : Key → ℕ
key_character (Digit digit) = if nat_lt digit 10 then 48 + digit else blank_character
key_character Plus = 43
key_character Minus = 45
key_character _ = blank_character

-- what a key sends: a digit as it is, a plus as 0 and a minus as 1
abbrev pub key_digit : Key → ℕ
key_digit (Digit digit) = if nat_lt digit 10 then digit else blank_digit
key_digit Plus = 0
key_digit Minus = 1
key_digit _ = blank_digit
