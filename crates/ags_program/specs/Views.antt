-- What clauses see of the program's own values.
use Rattle.std.specs.Prelude.{◌≡◌, ℕ, All, List, length}
use Rattle.ags_asm.specs.Source.{card_words}
use Rattle.ags_asm.specs.declared.assembling.Assembled.{Assembled}
use Rattle.ags_files.specs.declared.sources.SourceFile.{SourceFile}
pub use Rattle.ags_files.specs.Source.{HasImage, IsSourceRead}
use Rattle.ags_edits.specs.Text.{IsLawful}
use Rattle.ags_script.specs.Script.{IsReadFor}
use Rattle.ags_program.specs.declared.refusal.Refusal.{Refusal}
use Rattle.ags_program.specs.declared.refusal.Refusal.TheVariants as refusal
use Rattle.ags_program.specs.declared.status.Status.{Status}
use Rattle.ags_program.specs.declared.status.Status.TheVariants.{BadMachine, BadSource, BadCert, BadText}
use Rattle.ags_program.specs.declared.works.ReadPair.{ReadPair}
use Rattle.ags_program.specs.declared.works.Sequel.{Sequel}
use Rattle.ags_program.specs.declared.works.Sequel.TheVariants as loaded_sequel
use Rattle.ags_program.specs.declared.works.Work.{Work}
use Rattle.ags_program.specs.declared.works.Work.TheVariants as loaded
use Rattle.ags_program.specs.Files.{Assembly, Pair}
use Rattle.ags_program.specs.Text.{certificate_fault_line, edits_fault_line, fault_line, listing_fault_line, machine_fault_line, scales_fault_line, script_fault_line, times_fault_line}
use Rattle.ags_program.specs.Work as work

-- a source that was read, as its bytes and what its cards define
abbrev pub assembly_of : SourceFile → Assembly
assembly_of source = record { bytes = source.bytes.items; defined = card_words source.made }

-- a source and a certificate that were read for a machine, without where they lie in memory
abbrev pub pair_of : ReadPair → Pair
pair_of pair = record { machine = pair.machine; assembly = assembly_of pair.source; cert = pair.cert }

-- what stands with a verdict
abbrev pub sequel_of : Sequel → work.Sequel
sequel_of loaded_sequel.ListingBefore = work.ListingBefore
sequel_of (loaded_sequel.PlayBehind script) = work.PlayBehind script
sequel_of (loaded_sequel.CountsInstead size) = work.CountsInstead size
sequel_of (loaded_sequel.BudgetBehind budget) = work.BudgetBehind budget
sequel_of (loaded_sequel.ScalesBehind scales) = work.ScalesBehind scales
sequel_of (loaded_sequel.EditsBehind edits) = work.EditsBehind edits.items

-- a work without where it lies in memory
abbrev pub work_of : Work → work.Work
work_of loaded.NoForm = work.NoForm
work_of (loaded.WriteText text source) = work.WriteText text (assembly_of source)
work_of (loaded.CompareImages made listed) = work.CompareImages (card_words made) listed
work_of (loaded.JudgePair pair sequel) = work.JudgePair (pair_of pair) (sequel_of sequel)
work_of (loaded.PlayScript machine made script) = work.PlayScript machine (card_words made) script

-- a source that was read by some table of codes
abbrev pub IsReadSource : SourceFile → Type 0
IsReadSource source = (order_codes : List ℕ) × IsSourceRead order_codes source.bytes.items source.made

-- what was made of a source that was read by some table of codes
abbrev pub IsReadMade : Assembled → Type 0
IsReadMade made = (order_codes : List ℕ) × (bytes : List ℕ) × IsSourceRead order_codes bytes made

-- what is so of what stands with the verdict of a pair: a script is one for its machine, a budget has a bound for each of its rows,
-- scales have tags for each, and edits are of the memory
abbrev pub IsSequelReady : ReadPair → Sequel → Type 0
IsSequelReady pair loaded_sequel.ListingBefore = Unit {0}
IsSequelReady pair (loaded_sequel.PlayBehind script) = IsReadFor pair.machine script
IsSequelReady pair (loaded_sequel.CountsInstead size) = Unit {0}
IsSequelReady pair (loaded_sequel.BudgetBehind budget) = length budget ≡ length pair.cert.rows
IsSequelReady pair (loaded_sequel.ScalesBehind scales) = length scales.rows ≡ length pair.cert.rows
IsSequelReady pair (loaded_sequel.EditsBehind edits) = All IsLawful edits.items

-- what is so of a work that was loaded
abbrev pub IsReady : Work → Type 0
IsReady loaded.NoForm = Unit {0}
IsReady (loaded.WriteText text source) = IsReadSource source
IsReady (loaded.CompareImages made listed) = IsReadMade made
IsReady (loaded.JudgePair pair sequel) = IsReadSource pair.source × IsSequelReady pair sequel
IsReady (loaded.PlayScript machine made script) = IsReadMade made × IsReadFor machine script

-- the line of a refusal
abbrev pub line_of : Refusal → List ℕ
line_of (refusal.Machine error) = machine_fault_line error
line_of (refusal.Source error) = fault_line error
line_of (refusal.Listing error) = listing_fault_line error
line_of (refusal.Certificate error) = certificate_fault_line error
line_of (refusal.Script error) = script_fault_line error
line_of (refusal.Times error) = times_fault_line error
line_of (refusal.Scales error) = scales_fault_line error
line_of (refusal.Edits error) = edits_fault_line error

-- the status of a refusal
abbrev pub status_of : Refusal → Status
status_of (refusal.Machine error) = BadMachine
status_of (refusal.Source error) = BadSource
status_of (refusal.Listing error) = BadText
status_of (refusal.Certificate error) = BadCert
status_of (refusal.Script error) = BadText
status_of (refusal.Times error) = BadText
status_of (refusal.Scales error) = BadText
status_of (refusal.Edits error) = BadText
