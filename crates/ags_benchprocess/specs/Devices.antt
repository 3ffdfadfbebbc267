-- The devices as they are before a run.
use Rattle.std.specs.Prelude.{List, [], ◌∷◌, Some, None}
use Rattle.ags_device.specs.Plan.{readings}
use Rattle.ags_device.specs.Record.{DeviceRecord}

-- a hundred times the word 001750 octal for the register at 2001 octal
abbrev pub sensor_record : DeviceRecord
sensor_record = record { feeds = Some 1025; hears = None; plan = readings 1000 0 0 100; kept = [] }

-- the words of the digits 0 4 7 15 15 15 15 15 15 for the register at 2200 octal; it hears the one at 6200
abbrev pub pad_record : DeviceRecord
pad_record = record { feeds = Some 1152; hears = Some 3200; plan = 16 ∷ 20 ∷ 23 ∷ 31 ∷ 31 ∷ 31 ∷ 31 ∷ 31 ∷ 31 ∷ []; kept = [] }

-- it hears the register at 6001 octal
abbrev pub recorder_record : DeviceRecord
recorder_record = record { feeds = None; hears = Some 3073; plan = []; kept = [] }

-- the three, in the order of their numbers
abbrev pub three_devices : List DeviceRecord
three_devices = sensor_record ∷ pad_record ∷ recorder_record ∷ []
