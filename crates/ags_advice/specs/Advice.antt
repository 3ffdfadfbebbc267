-- What a person is told of a run, in one line.
use Rattle.std.specs.Prelude.{ℕ, ◌==◌, Bool, true, false, List, ◌++◌, Option, Some, None, codes, if◌then◌else◌}
use Rattle.std.specs.Fmt.{decimal}
use Rattle.std.specs.Option.{option_map}
use Rattle.std.specs.declared.io.ErrorKind.TheVariants.{BrokenPipe}
use Rattle.ags_advice.specs.Ending.{ending_of}
use Rattle.ags_advice.specs.Finding.{finding_text, name_of}
use Rattle.ags_advice.specs.Forms.{forms_of}
use Rattle.ags_advice.specs.Heading.{heading_of}
use Rattle.ags_advice.specs.Line.{first_line, first_word}
use Rattle.ags_advice.specs.Reason.{why_unread, why_unwritten}
use Rattle.ags_advice.specs.declared.endings.Ending.{Ending}
use Rattle.ags_advice.specs.declared.endings.Ending.TheVariants.{Told, NoForm, NotText, Unread, Unwritten, NoMemory}
use Rattle.ags_advice.specs.declared.endings.Seen.{Seen}
use Rattle.ags_advice.specs.declared.headings.Heading.{Heading}
use Rattle.ags_advice.specs.declared.headings.Heading.TheVariants.{Differs}
use Rattle.ags_advice.specs.declared.programs.Program.{Program}

-- of a line with a heading what is found in it, and of any other the status
abbrev pub found_text : Option Heading → (status : ℕ) (certificate file line : List ℕ) → List ℕ
found_text None status certificate file line = codes "the run ended with status " ++ decimal status ++ codes " (docs/COMMANDS.md)"
found_text (Some heading) status certificate file line = finding_text heading certificate file line

-- of a line by its first word
abbrev pub told_text : Program → (status : ℕ) (certificate file line : List ℕ) → List ℕ
told_text program status certificate file line = found_text (heading_of program (first_word line)) status certificate file line

-- What is told: of a last line what is found in its first, by its heading; the forms of a command line; the file that couldn't be
-- read, and why; that the output couldn't be written; and that memory ran out.
abbrev pub advice_text : Program → (certificate file : Option (List ℕ)) → Ending → List ℕ
advice_text program certificate file (Told status line) = told_text program status (name_of certificate) (name_of file) (first_line line.now)
advice_text program certificate file NoForm = forms_of program
advice_text program certificate file NotText = codes "a word of the command line isn't UTF-8"
advice_text program certificate file (Unread reason) = name_of file ++ codes ": " ++ why_unread reason
advice_text program certificate file (Unwritten reason) = why_unwritten reason
advice_text program certificate file NoMemory = codes "memory ran out"

-- whether a line with that heading is the answer that was asked for
abbrev pub is_answer : Option Heading → Bool
is_answer (Some Differs) = true
is_answer _ = false

-- whether nothing is said: the line is the answer that was asked for, or whoever reads the output has closed it
abbrev pub is_silent : Program → Ending → Bool
is_silent program (Told status line) = is_answer (heading_of program (first_word (first_line line.now)))
is_silent program (Unwritten (Some BrokenPipe)) = true
is_silent program _ = false

-- what is told of an ending, where something is
abbrev pub said_of : Program → Ending → (certificate file : Option (List ℕ)) → Option (List ℕ)
said_of program ending certificate file = if is_silent program ending then None else Some (advice_text program certificate file ending)

-- what is told of a run, by its status and what was seen of it, and nothing where it was answered as asked
abbrev pub said : Program → (status : ℕ) → Seen → Option (List ℕ)
said program status seen = if status == 0 then None else said_of program (ending_of status seen) (option_map (λ name. name.now) seen.certificate)
    (option_map (λ name. name.now) seen.file)
