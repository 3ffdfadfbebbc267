-- How a run ends that isn't answered as asked, by the number of its status.
use Rattle.std.specs.Prelude.{ℕ, ◌==◌, if◌then◌else◌}
use Rattle.ags_advice.specs.declared.endings.Ending.{Ending}
use Rattle.ags_advice.specs.declared.endings.Ending.TheVariants.{Told, NoForm, NotText, Unread, Unwritten, NoMemory}
use Rattle.ags_advice.specs.declared.endings.Seen.{Seen}

-- 3 is that of words that are no form or no text, 5 that of a file that can't be read, 6 that of an output that can't be written, and 11
-- that of want of memory; for each other the output says it
abbrev pub ending_of : (status : ℕ) → Seen → Ending
ending_of status seen =
    if status == 3 then (if seen.is_text then NoForm else NotText)
    else if status == 5 then Unread seen.unread
    else if status == 6 then Unwritten seen.unwritten
    else if status == 11 then NoMemory
    else Told status seen.line
