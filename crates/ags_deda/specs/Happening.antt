-- What happens to a panel. Lists of happenings stand newest first, so that a further one is put before the earlier ones.
use Rattle.std.specs.Prelude.{ℕ, ◌+◌, Bool, false, List, [], ◌∷◌, if◌then◌else◌}
use Rattle.ags_deda.specs.declared.keys.Key.{Key}
use Rattle.ags_deda.specs.Key.{is_clr}

-- a key is pressed, a digit is shown to the panel, or it sends one
pub data Happening : Type 0 where
  Pressed : Key → Happening
  Shown : ℕ → Happening
  Sent : ℕ → Happening

-- the press of CLR
abbrev pub clears : Happening → Bool
clears (Pressed key) = is_clr key
clears (Shown digit) = false
clears (Sent digit) = false

-- the happenings since the last CLR, or all of them where there was none
unfoldable pub since_clear : List Happening → List Happening
since_clear [] = []
since_clear (happening ∷ earlier) = if clears happening then [] else happening ∷ since_clear earlier

-- the keys among happenings
unfoldable pub keys_of : List Happening → List Key
keys_of [] = []
keys_of (Pressed key ∷ earlier) = key ∷ keys_of earlier
keys_of (Shown digit ∷ earlier) = keys_of earlier
keys_of (Sent digit ∷ earlier) = keys_of earlier

-- how many digits were sent
unfoldable pub sent_count : List Happening → ℕ
sent_count [] = 0
sent_count (Pressed key ∷ earlier) = sent_count earlier
sent_count (Shown digit ∷ earlier) = sent_count earlier
sent_count (Sent digit ∷ earlier) = sent_count earlier + 1
