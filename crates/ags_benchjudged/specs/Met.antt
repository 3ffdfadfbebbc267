-- What a run of the bench met: its line and its status.
use Rattle.std.specs.Prelude.{ℕ, List, [], ◌++◌, codes}
use Rattle.std.specs.Fmt.{decimal}
use Rattle.ags_drive.specs.BenchRun.{Met, Nothing, OutsideStart, RefusedAct}
use Rattle.ags_drive.specs.Doing.{Refusal, NoDevice, NoFeed, OutsidePut}
use Rattle.ags_play.specs.OutsideText.{outside_text, put_text}
use Rattle.ags_program.specs.declared.status.Status.{Status}
use Rattle.ags_program.specs.declared.status.Status.TheVariants.{Done, No}

-- of an act that was refused: no device has that number, or the device with that number feeds no register, on that line of the
-- script; or the certificate doesn't declare the word
abbrev pub refusal_line : Refusal → List ℕ
refusal_line (NoDevice line number) = codes "NODEVICE LINE " ++ decimal line ++ codes " DEVICE " ++ decimal number ++ codes "\n"
refusal_line (NoFeed line number) = codes "NOFEED LINE " ++ decimal line ++ codes " DEVICE " ++ decimal number ++ codes "\n"
refusal_line (OutsidePut put) = put_text put ++ codes "\n"

-- what a run met, where it met something
abbrev pub met_line : Met → List ℕ
met_line Nothing = []
met_line (OutsideStart outside) = outside_text outside ++ codes "\n"
met_line (RefusedAct refusal) = refusal_line refusal

-- the status of a run by what it met
abbrev pub met_status : Met → Status
met_status Nothing = Done
met_status _ = No
