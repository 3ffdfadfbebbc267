-- What a panel shows and sends.
use Rattle.std.proofs.Common.{◌≡◌, ℕ, ◌+◌, ◌<◌, ◌%◌, ◌==◌, Bool, true, false, nat_lt, List, [], ◌∷◌, ◌++◌, length, replicate, Option, Some, None, refl, ap, ◌∙◌, arith, if◌then◌else◌}
use Rattle.std.proofs.lemmas.Bool.Decides.{nat_tests}
use Rattle.std.proofs.Math.Seq.{drop-nil}
use Rattle.ags_deda.specs.declared.keys.Key.{Key}
use Rattle.ags_deda.specs.declared.keys.Key.TheVariants.{Digit, Plus, Minus, Clr, Entr, ReadOut, Hold}
use Rattle.ags_deda.specs.Key.{is_clr, is_sign, key_digit, key_character}
use Rattle.ags_deda.specs.Form.{entry_has, readout_has, fits, are_lawful, taken, in_readout, is_held}
use Rattle.ags_deda.specs.Happening.{Happening, Pressed, Shown, since_clear, keys_of, sent_count}
use Rattle.ags_deda.specs.Panel.{padded, spelled, counted, whole_group, later_group, group_shown, columns_of, group_text, text, unsent, pressing, showing}
use Rattle.ags_deda.proofs.KeyLemmas.{readout_is_lawful, unlawful_message, taken_wrong}

pub clr_text : (happenings : List Happening) → text (Pressed Clr ∷ happenings) ≡ replicate 10 32
unfolding text since_clear keys_of group_shown taken fits spelled padded
clr_text happenings = refl

pub clr_unsent : (happenings : List Happening) → unsent (Pressed Clr ∷ happenings) ≡ []
unfolding unsent since_clear keys_of sent_count fits spelled padded
clr_unsent happenings = refl

pub wrong_text : (key : Key) (happenings : List Happening) → is_clr key ≡ false → are_lawful (key ∷ keys_of (since_clear happenings)) ≡ false
    → text (Pressed key ∷ happenings) ≡ columns_of (group_shown (since_clear happenings)) (taken (keys_of (since_clear happenings))) ++ 69 ∷ []
unfolding text since_clear keys_of group_shown
wrong_text key happenings clr wrong = rw (clr, taken_wrong key (keys_of (since_clear happenings)) wrong, wrong) refl

pub wrong_unsent : (key : Key) (happenings : List Happening) → is_clr key ≡ false → are_lawful (key ∷ keys_of (since_clear happenings)) ≡ false
    → unsent (Pressed key ∷ happenings) ≡ []
unfolding unsent since_clear keys_of sent_count
wrong_unsent key happenings clr wrong =
    rw (clr, (unlawful_message (key ∷ keys_of (since_clear happenings)) wrong).0) (drop-nil (sent_count (since_clear happenings)))

-- ---- entries

below : (n bound : ℕ) → n < bound → nat_lt n bound ≡ true
below n bound lt = grind (arith, nat_tests)

-- a key that is one sign
sign_cases : (P : Key → Type 0) → P Plus → P Minus → (sign : Key) → is_sign sign ≡ true → P sign
sign_cases P plus minus (Digit digit) is = absurd cc
sign_cases P plus minus Plus is = plus
sign_cases P plus minus Minus is = minus
sign_cases P plus minus Clr is = absurd cc
sign_cases P plus minus Entr is = absurd cc
sign_cases P plus minus ReadOut is = absurd cc
sign_cases P plus minus Hold is = absurd cc

abbrev entry : (a b c d e f g h : ℕ) → Key → List Key
entry a b c d e f g h sign = Clr ∷ Digit a ∷ Digit b ∷ Digit c ∷ sign ∷ Digit d ∷ Digit e ∷ Digit f ∷ Digit g ∷ Digit h ∷ Entr ∷ []

pub entry_text : (a b c d e f g h : ℕ) (sign : Key) (happenings : List Happening) → a < 8 → b < 8 → c < 8 → is_sign sign ≡ true → d < 10 → e < 10 → f < 10 → g < 10 → h < 10
    → text (pressing (entry a b c d e f g h sign) happenings)
    ≡ (48 + a) ∷ (48 + b) ∷ (48 + c) ∷ key_character sign ∷ (48 + d) ∷ (48 + e) ∷ (48 + f) ∷ (48 + g) ∷ (48 + h) ∷ 32 ∷ []
unfolding text since_clear keys_of group_shown taken fits entry_has spelled padded
entry_text a b c d e f g h sign happenings la lb lc is ld le lf lg lh =
    sign_cases (λ (key : Key). text (pressing (entry a b c d e f g h key) happenings)
    ≡ (48 + a) ∷ (48 + b) ∷ (48 + c) ∷ key_character key ∷ (48 + d) ∷ (48 + e) ∷ (48 + f) ∷ (48 + g) ∷ (48 + h) ∷ 32 ∷ [])
    (rw (below a 8 la, below b 8 lb, below c 8 lc, below d 10 ld, below e 10 le, below f 10 lf, below g 10 lg, below h 10 lh, below a 10 (omega arith), below b 10 (omega arith), below c 10 (omega arith), below d 10 ld, below e 10 le, below f 10 lf, below g 10 lg, below h 10 lh) refl)
    (rw (below a 8 la, below b 8 lb, below c 8 lc, below d 10 ld, below e 10 le, below f 10 lf, below g 10 lg, below h 10 lh, below a 10 (omega arith), below b 10 (omega arith), below c 10 (omega arith), below d 10 ld, below e 10 le, below f 10 lf, below g 10 lg, below h 10 lh) refl)
    sign is

pub entry_unsent : (a b c d e f g h : ℕ) (sign : Key) (happenings : List Happening) → a < 8 → b < 8 → c < 8 → is_sign sign ≡ true → d < 10 → e < 10 → f < 10 → g < 10 → h < 10
    → unsent (pressing (entry a b c d e f g h sign) happenings) ≡ a ∷ b ∷ c ∷ key_digit sign ∷ d ∷ e ∷ f ∷ g ∷ h ∷ []
unfolding unsent since_clear keys_of sent_count fits entry_has spelled padded
entry_unsent a b c d e f g h sign happenings la lb lc is ld le lf lg lh =
    sign_cases (λ (key : Key). unsent (pressing (entry a b c d e f g h key) happenings) ≡ a ∷ b ∷ c ∷ key_digit key ∷ d ∷ e ∷ f ∷ g ∷ h ∷ [])
    (rw (below a 8 la, below b 8 lb, below c 8 lc, below d 10 ld, below e 10 le, below f 10 lf, below g 10 lg, below h 10 lh, below a 10 (omega arith), below b 10 (omega arith), below c 10 (omega arith)) refl)
    (rw (below a 8 la, below b 8 lb, below c 8 lc, below d 10 ld, below e 10 le, below f 10 lf, below g 10 lg, below h 10 lh, below a 10 (omega arith), below b 10 (omega arith), below c 10 (omega arith)) refl)
    sign is

pub readout_unsent : (a b c : ℕ) (happenings : List Happening) → a < 8 → b < 8 → c < 8
    → unsent (pressing (Clr ∷ Digit a ∷ Digit b ∷ Digit c ∷ ReadOut ∷ []) happenings) ≡ a ∷ b ∷ c ∷ replicate 6 15
unfolding unsent since_clear keys_of sent_count fits entry_has readout_has spelled padded
readout_unsent a b c happenings la lb lc =
    rw (below a 8 la, below b 8 lb, below c 8 lc, below a 10 (omega arith), below b 10 (omega arith), below c 10 (omega arith)) refl

-- ---- groups

nine_more : (n : ℕ) → n % 9 ≡ 0 → ((n + 8 + 1) % 9 == 0) ≡ true
nine_more n is = let whole : (n + 8 + 1) % 9 ≡ 0 = omega arith in grind (arith, nat_tests)

held_group : (whole shown : Option (List ℕ)) → later_group whole true shown ≡ shown
held_group None shown = refl
held_group (Some group) shown = refl

same_or : (b : Bool) (one other : Option (List ℕ)) → one ≡ other → (if b then one else other) ≡ other
same_or true one other is = is
same_or false one other is = refl

-- outside a readout, and during HOLD, a digit changes nothing of the last group
kept_group : (digit : ℕ) (since : List Happening) → is_held (keys_of since) ≡ true → group_shown (Shown digit ∷ since) ≡ group_shown since
unfolding group_shown
kept_group digit since held =
    same_or (in_readout (keys_of since)) (later_group (whole_group digit (counted since)) (is_held (keys_of since)) (group_shown since)) (group_shown since)
    (rw held (held_group (whole_group digit (counted since)) (group_shown since)))

pub held_text : (digit : ℕ) (happenings : List Happening) → is_held (keys_of (since_clear happenings)) ≡ true → text (Shown digit ∷ happenings) ≡ text happenings
unfolding text since_clear keys_of
held_text digit happenings held = rw (kept_group digit (since_clear happenings) held) refl

outside_group : (digit : ℕ) (since : List Happening) → in_readout (keys_of since) ≡ false → group_shown (Shown digit ∷ since) ≡ group_shown since
unfolding group_shown
outside_group digit since outside = rw outside refl

pub outside_text : (digit : ℕ) (happenings : List Happening) → in_readout (keys_of (since_clear happenings)) ≡ false → text (Shown digit ∷ happenings) ≡ text happenings
unfolding text since_clear keys_of
outside_text digit happenings outside = rw (outside_group digit (since_clear happenings) outside) refl

-- nine digits further, of a list of happenings since CLR
groups_since : (a b c s d e f g h : ℕ) (since : List Happening) → in_readout (keys_of since) ≡ true → is_held (keys_of since) ≡ false → length (counted since) % 9 ≡ 0
    → group_shown (showing (a ∷ b ∷ c ∷ s ∷ d ∷ e ∷ f ∷ g ∷ h ∷ []) since) ≡ Some (a ∷ b ∷ c ∷ s ∷ d ∷ e ∷ f ∷ g ∷ h ∷ [])
unfolding group_shown counted keys_of
groups_since a b c s d e f g h since inside held whole =
    let many : length (g ∷ f ∷ e ∷ d ∷ s ∷ c ∷ b ∷ a ∷ counted since) ≡ length (counted since) + 8 = omega arith in
    let nine : ((length (g ∷ f ∷ e ∷ d ∷ s ∷ c ∷ b ∷ a ∷ counted since) + 1) % 9 == 0) ≡ true = ap (λ (n : ℕ). (n + 1) % 9 == 0) many ∙ nine_more (length (counted since)) whole in
    rw (inside, held, nine) refl

pub groups_text : (a b c s d e f g h : ℕ) (happenings : List Happening) → in_readout (keys_of (since_clear happenings)) ≡ true → is_held (keys_of (since_clear happenings)) ≡ false
    → length (counted (since_clear happenings)) % 9 ≡ 0
    → text (showing (a ∷ b ∷ c ∷ s ∷ d ∷ e ∷ f ∷ g ∷ h ∷ []) happenings) ≡ group_text (a ∷ b ∷ c ∷ s ∷ d ∷ e ∷ f ∷ g ∷ h ∷ []) ++ 32 ∷ []
unfolding text since_clear keys_of
groups_text a b c s d e f g h happenings inside held whole =
    rw (groups_since a b c s d e f g h (since_clear happenings) inside held whole, readout_is_lawful (keys_of (since_clear happenings)) inside) refl
