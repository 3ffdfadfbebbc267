-- The headings of lines.
use Rattle.std.specs.Prelude.{ℕ, List, [], ◌∷◌, Option, Some, None, codes, if◌then◌else◌}
use Rattle.std.specs.Str.{bytes_eq}
use Rattle.ags_advice.specs.Hint as hint
use Rattle.ags_advice.specs.Hint.{wanted_in}
use Rattle.ags_advice.specs.declared.headings.Form.{Form}
use Rattle.ags_advice.specs.declared.headings.Form.TheVariants as form
use Rattle.ags_advice.specs.declared.headings.Heading.{Heading}
use Rattle.ags_advice.specs.declared.headings.Heading.TheVariants.{Source, Machine, Certificate, Listing, Script, BenchScript, Times, Scales, Edits, Refused, Edit, Outside, BenchOutside, NoDevice, NoFeed, Over, StartMixed, Mixed, NotHeld, Absent, Long, Differs}
use Rattle.ags_advice.specs.declared.programs.Program.{Program}
use Rattle.ags_advice.specs.declared.programs.Program.TheVariants.{Ags, AgsBench}

-- A heading, by its word.
pub record Named : Type 0 where
  pub word : List ℕ
  pub heading : Heading

-- the words
abbrev pub headings : List Named
headings =
    record { word = codes "SOURCE"; heading = Source }
    ∷ record { word = codes "MACHINE"; heading = Machine }
    ∷ record { word = codes "CERTIFICATE"; heading = Certificate }
    ∷ record { word = codes "LISTING"; heading = Listing }
    ∷ record { word = codes "SCRIPT"; heading = Script }
    ∷ record { word = codes "TIMES"; heading = Times }
    ∷ record { word = codes "SCALES"; heading = Scales }
    ∷ record { word = codes "EDITS"; heading = Edits }
    ∷ record { word = codes "REFUSED"; heading = Refused }
    ∷ record { word = codes "EDIT"; heading = Edit }
    ∷ record { word = codes "OUTSIDE"; heading = Outside }
    ∷ record { word = codes "NODEVICE"; heading = NoDevice }
    ∷ record { word = codes "NOFEED"; heading = NoFeed }
    ∷ record { word = codes "OVER"; heading = Over }
    ∷ record { word = codes "STARTMIXED"; heading = StartMixed }
    ∷ record { word = codes "MIXED"; heading = Mixed }
    ∷ record { word = codes "NOTHELD"; heading = NotHeld }
    ∷ record { word = codes "ABSENT"; heading = Absent }
    ∷ record { word = codes "LONG"; heading = Long }
    ∷ record { word = codes "DIFFERS"; heading = Differs }
    ∷ []

-- the heading of a word
abbrev pub named : List Named → (word : List ℕ) → Option Heading
named [] word = None
named (row ∷ more) word = if bytes_eq word row.word then Some row.heading else named more word

-- what a heading means at the bench, whose scripts have other lines
abbrev pub at_bench : Option Heading → Option Heading
at_bench (Some Script) = Some BenchScript
at_bench (Some Outside) = Some BenchOutside
at_bench other = other

-- the heading of a word that a program prints
abbrev pub heading_of : Program → (word : List ℕ) → Option Heading
heading_of Ags word = named headings word
heading_of AgsBench word = at_bench (named headings word)

-- how a line goes on after a heading
abbrev pub form_of : Heading → Form
form_of Source = form.FaultOnLine
form_of Machine = form.Fault
form_of Certificate = form.FaultOnLine
form_of Listing = form.FaultOnLine
form_of Script = form.FaultOnLine
form_of BenchScript = form.FaultOnLine
form_of Times = form.FaultOnLine
form_of Scales = form.FaultOnLine
form_of Edits = form.FaultOnLine
form_of Refused = form.Item
form_of Edit = form.Edit
form_of Outside = form.Topic
form_of BenchOutside = form.Topic
form_of NoDevice = form.OnLine
form_of NoFeed = form.OnLine
form_of Over = form.Whole
form_of StartMixed = form.Whole
form_of Mixed = form.Whole
form_of NotHeld = form.Whole
form_of Absent = form.Name
form_of Long = form.File
form_of Differs = form.Answer

-- what a kind wants of a line with a heading
abbrev pub wanted_of : Heading → (kind : List ℕ) → List ℕ
wanted_of Source kind = wanted_in hint.source kind
wanted_of Machine kind = wanted_in hint.machine kind
wanted_of Certificate kind = wanted_in hint.certificate kind
wanted_of Listing kind = wanted_in hint.listing kind
wanted_of Script kind = wanted_in hint.script kind
wanted_of BenchScript kind = wanted_in hint.bench_script kind
wanted_of Times kind = wanted_in hint.times kind
wanted_of Scales kind = wanted_in hint.scales kind
wanted_of Edits kind = wanted_in hint.edits kind
wanted_of Refused kind = wanted_in hint.verdict kind
wanted_of Edit kind = wanted_in hint.edit kind
wanted_of Outside kind = wanted_in hint.outside kind
wanted_of BenchOutside kind = wanted_in hint.bench_outside kind
wanted_of NoDevice kind = codes "FEED and DETACH name a device that is there, from 1 on; after a DETACH the numbers close up"
wanted_of NoFeed kind = codes "FEED names a device that feeds an input register of the machine; a recorder feeds none"
wanted_of Over kind = codes "a row needs its order's time and, but at DLY, the least bound of a row that covers what is next; a row without a TIME line has 20,000; rows of a subroutine may be written once for each caller"
wanted_of StartMixed kind = codes "a row that holds the start has ANY or RAW for A and for Q, or no ROW line in the text of scales"
wanted_of Mixed kind = codes "two tags that meet have to be one scale, or both raw: mend the declaration or the ROW line, which bin/ags-explain -r shows, or shift the word first"
wanted_of NotHeld kind = codes "a row at NEXT that covers what this order leaves has to have its tags or ANY: mend the tags there, or of this row; docs/SCALES.md has what each order leaves; a cell without a CELL line is raw"
wanted_of Absent kind = codes "there is no file of this name"
wanted_of Long kind = codes "it is longer than is read: at most 65,536 bytes of a machine file, 67,108,864 of a certificate, 134,217,728 of a listing, 4,194,304 of any other"
wanted_of Differs kind = []

-- what its text begins with, for a text whose first line says what it is
abbrev pub opening_of : Heading → Option (List ℕ)
opening_of Certificate = Some (codes "this is read as a certificate, whose line 1 is AGSCERT 1 or AGSCERT 2")
opening_of Times = Some (codes "this is read as a text of times, whose line 1 is AGSTIME 1")
opening_of Scales = Some (codes "this is read as a text of scales, whose line 1 is AGSSCALE 1")
opening_of Edits = Some (codes "this is read as a text of edits, whose line 1 is AGSEDIT 1")
opening_of _ = None
