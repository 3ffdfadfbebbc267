-- The line that is printed of what a play met, without its line feed.
use Rattle.std.specs.Prelude.{ℕ, List, []}
use Rattle.ags_play.specs.OutsideText.{outside_text, put_text}
use Rattle.ags_run.specs.declared.play_error.PlayError.{PlayError}
use Rattle.ags_run.specs.declared.play_error.PlayError.TheVariants.{WriteFault, StartOutside, InputRange, NoMemory}
use Rattle.ags_run.specs.Play.{outside_of}

-- of a start or a word that the certificate doesn't declare, its line; of a fault of the output and of want of memory, nothing
abbrev pub error_text : PlayError → List ℕ
error_text (StartOutside outside) = outside_text (outside_of outside)
error_text (InputRange address word) = put_text (record { address = address; word = word })
error_text WriteFault = []
error_text NoMemory = []
