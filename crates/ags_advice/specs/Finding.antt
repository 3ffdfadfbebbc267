-- What is found in the last line of an output, and how it is shown to a person.
use Rattle.std.specs.Prelude.{ℕ, ◌==◌, Bool, false, ◌&&◌, List, [], ◌++◌, Option, Some, None, unwrap_or, codes, if◌then◌else◌}
use Rattle.std.specs.Str.{bytes_eq}
use Rattle.std.specs.Fmt.{decimal}
use Rattle.ags_text.specs.Numeral.{number_of}
use Rattle.ags_advice.specs.Heading.{form_of, opening_of, wanted_of}
use Rattle.ags_advice.specs.Line.{first_word, after_words}
use Rattle.ags_advice.specs.declared.headings.Form.{Form}
use Rattle.ags_advice.specs.declared.headings.Form.TheVariants.{FaultOnLine, Fault, Item, Edit, OnLine, Topic, Name, File, Answer}
use Rattle.ags_advice.specs.declared.headings.Heading.{Heading}

-- the number of the line of a file that a line of output names, the third word of such a line
abbrev pub number_in : Form → (line : List ℕ) → Option ℕ
number_in FaultOnLine line = number_of 10 9 (first_word (after_words 2 line))
number_in OnLine line = number_of 10 9 (first_word (after_words 2 line))
number_in _ line = None

-- what is shown of it: of a fault and of a refusal its kind and what stands after it, and of an absent file its name
abbrev pub shown_in : Form → (line : List ℕ) → List ℕ
shown_in FaultOnLine line = after_words 5 line
shown_in Fault line = after_words 3 line
shown_in Item line = after_words 2 line
shown_in Name line = after_words 1 line
shown_in _ line = line

-- the kind that it tells
abbrev pub kind_in : Form → (line : List ℕ) → List ℕ
kind_in Edit line = first_word (after_words 4 line)
kind_in Topic line = first_word (after_words 1 line)
kind_in form line = first_word (shown_in form line)

-- the name of a file, where it is known
abbrev pub name_of : Option (List ℕ) → List ℕ
name_of (Some name) = name
name_of None = codes "a file"

-- where something is wrong: in a file, on a line of it where one is told
abbrev pub place_text : (file : List ℕ) (number : Option ℕ) → List ℕ
place_text file None = file ++ codes ": "
place_text file (Some number) = file ++ codes ":" ++ decimal number ++ codes ": "

-- whether a line of output tells that the first line of a text is none that it may have
abbrev pub is_bad_opening : (kind : List ℕ) (number : Option ℕ) → Bool
is_bad_opening kind None = false
is_bad_opening kind (Some number) = (number == 1) && bytes_eq kind (codes "BadLine")

-- what would be right: of a first line what the text begins with, and else what the kind wants
abbrev pub wanted_of_line : Heading → (kind : List ℕ) (number : Option ℕ) → List ℕ
wanted_of_line heading kind number = if is_bad_opening kind number then unwrap_or (opening_of heading) (wanted_of heading kind) else wanted_of heading kind

-- What is shown of a line, with its place and what is wanted. A refusal is of the certificate, and has the page of the verdict; an
-- absent file has its name, one that is too long its place alone, and an answer nothing.
abbrev pub shown_text : Form → (certificate file line wanted : List ℕ) → List ℕ
shown_text Answer certificate file line wanted = []
shown_text Item certificate file line wanted = place_text certificate None ++ shown_in Item line ++ codes ": " ++ wanted ++ codes " (docs/CHECKER.md, The verdict)"
shown_text Name certificate file line wanted = shown_in Name line ++ codes ": " ++ wanted
shown_text File certificate file line wanted = place_text file None ++ wanted
shown_text form certificate file line wanted = place_text file (number_in form line) ++ shown_in form line ++ codes ": " ++ wanted

-- what is found in a line with that heading
abbrev pub finding_text : Heading → (certificate file line : List ℕ) → List ℕ
finding_text heading certificate file line =
    shown_text (form_of heading) certificate file line (wanted_of_line heading (kind_in (form_of heading) line) (number_in (form_of heading) line))
