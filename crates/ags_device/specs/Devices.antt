-- Lists of devices, as lists of their records.
use Rattle.std.specs.Prelude.{◌≡◌, ℕ, zero, suc, ◌<◌, Bool, false, ◌==◌, List, [], ◌∷◌, length, map, Option, Some, None, if◌then◌else◌}
use Rattle.ags_device.specs.Record.{DeviceRecord, having_heard}

-- ---- the meanings of the device at a position, where there is one

-- the address that it feeds
abbrev pub feeds_of : Option DeviceRecord → Option ℕ
feeds_of None = None
feeds_of (Some d) = d.feeds

-- the address that it hears
abbrev pub hears_of : Option DeviceRecord → Option ℕ
hears_of None = None
hears_of (Some d) = d.hears

-- the words that it will still give
abbrev pub plan_of : Option DeviceRecord → List ℕ
plan_of None = []
plan_of (Some d) = d.plan

-- the words that it has heard
abbrev pub kept_of : Option DeviceRecord → List ℕ
kept_of None = []
kept_of (Some d) = d.kept

-- ---- changes of the list

-- the list with the member at a position changed
abbrev pub changed_at : {A : Type 0} → (A → A) → List A → (position : ℕ) → List A
changed_at f [] position = []
changed_at f (d ∷ devices) zero = f d ∷ devices
changed_at f (d ∷ devices) (suc position) = d ∷ changed_at f devices position

-- the list without the member at a position
abbrev pub without : {A : Type 0} → List A → (position : ℕ) → List A
without [] position = []
without (d ∷ devices) zero = devices
without (d ∷ devices) (suc position) = d ∷ without devices position

-- whether a device with this address to hear hears what is given to an address
abbrev pub is_heard : (hears : Option ℕ) → (address : ℕ) → Bool
is_heard None address = false
is_heard (Some hears) address = hears == address

-- the device once a word was given to an address: it heard the word where it hears that address
abbrev pub hearing : (address word : ℕ) → DeviceRecord → DeviceRecord
hearing address word d = if is_heard d.hears address then having_heard d word else d

-- all devices, in order, once a word was given to an address
abbrev pub all_heard : (address word : ℕ) → List DeviceRecord → List DeviceRecord
all_heard address word devices = map (hearing address word) devices

-- the devices once the word was given to so many of them alone, from the first on
abbrev pub heard_below : (address word count : ℕ) → List DeviceRecord → List DeviceRecord
heard_below address word zero devices = devices
heard_below address word (suc count) [] = []
heard_below address word (suc count) (d ∷ devices) = hearing address word d ∷ heard_below address word count devices

-- the word was given to some of the devices, from the first on, and not to all of them: the rest stands as it was
pub record IsHeardInPart (address word : ℕ) (before after : List DeviceRecord) : Type 0 where
  pub count : ℕ
  pub fewer : count < length before
  pub records : after ≡ heard_below address word count before
