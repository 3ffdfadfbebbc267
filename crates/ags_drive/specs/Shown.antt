-- What is told of a device, a line each.
use Rattle.std.specs.Prelude.{ℕ, List, [], ◌++◌, length, codes, Option, Some, None}
use Rattle.std.specs.Fmt.{decimal}
use Rattle.ags_device.specs.Record.{DeviceRecord, last_of}
use Rattle.ags_text.specs.Numeral.{octal6_text}

-- a word as six octal digits, and six hyphens where there is none
abbrev pub last_text : Option ℕ → List ℕ
last_text None = codes "------"
last_text (Some word) = octal6_text word

-- What is told of a device: what it is told for, its number, how many words it will still give, how many it has heard, and the last of
-- them.
abbrev pub device_text : (word : List ℕ) (number left heard : ℕ) (last : Option ℕ) → List ℕ
device_text word number left heard last = word ++ decimal number ++ codes " LEFT " ++ decimal left ++ codes " HEARD " ++ decimal heard ++ codes " LAST " ++ last_text last

-- the same of a device's record, with a line feed
abbrev pub device_line : (word : List ℕ) (number : ℕ) → DeviceRecord → List ℕ
device_line word number d = device_text word number (length d.plan) (length d.kept) (last_of d.kept) ++ codes "\n"

-- the line of a device that leaves, where there is one
abbrev pub detached_line : (number : ℕ) → Option DeviceRecord → List ℕ
detached_line number None = []
detached_line number (Some d) = device_line (codes "DETACHED ") number d

-- the line of a device that is left at the end, where there is one
abbrev pub left_line : (number : ℕ) → Option DeviceRecord → List ℕ
left_line number None = []
left_line number (Some d) = device_line (codes "DEVICE ") number d
