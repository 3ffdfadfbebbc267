-- What a panel shows and sends, as functions of what happened to it.
use Rattle.std.specs.Prelude.{ℕ, ◌+◌, ◌%◌, zero, suc, Bool, not, ◌||◌, ◌==◌, nat_lt, List, [], ◌∷◌, ◌++◌, length, map, reverse, take, drop, slice_index, Option, Some, None, if◌then◌else◌}
use Rattle.ags_deda.specs.declared.keys.Key.{Key}
use Rattle.ags_deda.specs.Key.{blank_character, blank_digit, key_character, key_digit}
use Rattle.ags_deda.specs.Form.{are_lawful, taken, is_entered, in_readout, is_held}
use Rattle.ags_deda.specs.Happening.{Happening, Pressed, Shown, Sent, since_clear, keys_of, sent_count}

-- ---- what was keyed

-- the first so many elements, with blanks after them where they are fewer
unfoldable pub padded : (width blank : ℕ) → List ℕ → List ℕ
padded zero blank xs = []
padded (suc width) blank [] = blank ∷ padded width blank []
padded (suc width) blank (x ∷ xs) = x ∷ padded width blank xs

-- keys in nine columns, in the order in which they were pressed, each as `spell` says
unfoldable pub spelled : (spell : Key → ℕ) (blank : ℕ) → List Key → List ℕ
spelled spell blank keys = padded 9 blank (map spell (reverse keys))

-- ---- what was shown to the panel: each of these is of the happenings since the last CLR

-- The shown digits that count, newest first: those of a readout since its first READ OUT. None counts once a key was
-- wrong.
unfoldable pub counted : List Happening → List ℕ
counted [] = []
counted (Pressed key ∷ earlier) = counted earlier
counted (Shown digit ∷ earlier) = if in_readout (keys_of earlier) then digit ∷ counted earlier else counted earlier
counted (Sent digit ∷ earlier) = counted earlier

-- The nine digits, oldest first, of a group that becomes whole with a digit after these, which stand newest first, and
-- nothing where none does.
abbrev pub whole_group : ℕ → List ℕ → Option (List ℕ)
whole_group digit digits = if (length digits + 1) % 9 == 0 then Some (reverse (take 9 (digit ∷ digits))) else None

-- the group that is displayed after an earlier one: one that became whole while HOLD was not in force, and else the same
abbrev pub later_group : (whole : Option (List ℕ)) (held : Bool) (earlier : Option (List ℕ)) → Option (List ℕ)
later_group None held earlier = earlier
later_group (Some group) held earlier = if held then earlier else Some group

-- the last group that was displayed
unfoldable pub group_shown : List Happening → Option (List ℕ)
group_shown [] = None
group_shown (Pressed key ∷ earlier) = group_shown earlier
group_shown (Shown digit ∷ earlier) =
    if in_readout (keys_of earlier) then later_group (whole_group digit (counted earlier)) (is_held (keys_of earlier)) (group_shown earlier) else group_shown earlier
group_shown (Sent digit ∷ earlier) = group_shown earlier

-- how a digit stands in the column of the sign: 0 is a plus, 1 is a minus, and any other a question mark
abbrev pub sign_character : ℕ → ℕ
sign_character digit = if digit == 0 then 43 else (if digit == 1 then 45 else 63)

-- and in the other columns: 0 to 9 as they are, and any other as a question mark
abbrev pub digit_character : ℕ → ℕ
digit_character digit = if nat_lt digit 10 then 48 + digit else 63

-- a group in the nine columns: three of the address, the sign, and five of the value
abbrev pub group_text : List ℕ → List ℕ
group_text group =
    digit_character (slice_index group 0) ∷ digit_character (slice_index group 1) ∷ digit_character (slice_index group 2)
    ∷ sign_character (slice_index group 3)
    ∷ digit_character (slice_index group 4) ∷ digit_character (slice_index group 5) ∷ digit_character (slice_index group 6)
    ∷ digit_character (slice_index group 7) ∷ digit_character (slice_index group 8) ∷ []

-- the nine columns: the last group that was shown, and where there was none the keys
abbrev pub columns_of : Option (List ℕ) → List Key → List ℕ
columns_of (Some group) keys = group_text group
columns_of None keys = spelled key_character blank_character keys

-- OPR ERR: an E where it is lit, and else a space
abbrev pub light_character : (lit : Bool) → ℕ
light_character lit = if lit then 69 else 32

-- OPR ERR is lit: a key was wrong
abbrev pub is_lit : List Happening → Bool
is_lit since = not (are_lawful (keys_of since))

-- the display: the nine columns and the light
abbrev pub shows : List Happening → List ℕ
shows since = columns_of (group_shown since) (taken (keys_of since)) ++ light_character (is_lit since) ∷ []

-- ---- what is to be sent

-- the keys make a message: a whole entry, or a readout from its first READ OUT on
abbrev pub is_whole : List Key → Bool
is_whole keys = is_entered keys || in_readout keys

-- the nine digits of the message, and nothing where there is none; with a wrong key there is none
abbrev pub message : List Key → List ℕ
message keys = if is_whole keys then spelled key_digit blank_digit keys else []

-- what is left of it
abbrev pub left : List Happening → List ℕ
left since = drop (sent_count since) (message (keys_of since))

-- ---- the panel's answers

-- the ten bytes of the display
unfoldable pub text : List Happening → List ℕ
text happenings = shows (since_clear happenings)

-- the digits that are still to be sent, the next one first
unfoldable pub unsent : List Happening → List ℕ
unsent happenings = left (since_clear happenings)

-- ---- words for the laws

-- these keys are pressed, in this order, after what happened before
abbrev pub pressing : List Key → List Happening → List Happening
pressing keys earlier = reverse (map Pressed keys) ++ earlier

-- these digits are shown, in this order, after what happened before
abbrev pub showing : List ℕ → List Happening → List Happening
showing digits earlier = reverse (map Shown digits) ++ earlier
