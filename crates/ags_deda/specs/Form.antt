-- The two forms that keys may have, and the keys that are taken. Lists of keys stand newest first, so that a further key
-- is put before the earlier ones.
use Rattle.std.specs.Prelude.{ℕ, ◌%◌, Bool, true, false, ◌&&◌, ◌||◌, ◌==◌, nat_lt, List, [], ◌∷◌, length, if◌then◌else◌}
use Rattle.ags_deda.specs.declared.keys.Key.{Key}
use Rattle.ags_deda.specs.Key.{is_octal_digit, is_decimal_digit, is_sign, is_entr, is_readout, is_hold}

-- An entry: three digits of an address, a sign, five digits of a value, and ENTR. The key may stand at that position of
-- it, counted from 0.
unfoldable pub entry_has : ℕ → Key → Bool
entry_has position key =
    if nat_lt position 3 then is_octal_digit key else (
    if position == 3 then is_sign key else (
    if nat_lt position 9 then is_decimal_digit key else (position == 9 && is_entr key)))

-- A readout: three digits of an address, READ OUT, and any number of pairs HOLD, READ OUT. So after the address
-- READ OUT stands at the odd positions, and HOLD at the even ones.
unfoldable pub readout_has : ℕ → Key → Bool
readout_has position key = if nat_lt position 3 then is_octal_digit key else (if position % 2 == 1 then is_readout key else is_hold key)

-- the keys are a prefix of a form: each may stand where it does
unfoldable pub fits : (ℕ → Key → Bool) → List Key → Bool
fits form [] = true
fits form (key ∷ earlier) = form (length earlier) key && fits form earlier

-- the keys are a prefix of one of the two forms
abbrev pub are_lawful : List Key → Bool
are_lawful keys = fits entry_has keys || fits readout_has keys

-- the keys that are taken: those before the first one that makes them unlawful
unfoldable pub taken : List Key → List Key
taken [] = []
taken (key ∷ earlier) = if are_lawful (key ∷ earlier) then key ∷ earlier else taken earlier

-- the keys are a whole entry
abbrev pub is_entered : List Key → Bool
is_entered keys = fits entry_has keys && (length keys == 10)

-- the keys are a readout from its first READ OUT on
abbrev pub in_readout : List Key → Bool
in_readout keys = fits readout_has keys && nat_lt 3 (length keys)

-- HOLD is in force: it is the last key
abbrev pub is_held : List Key → Bool
is_held [] = false
is_held (key ∷ earlier) = is_hold key
