use Rattle.ags_script.specs.Tally.{IsTally}
use Rattle.ags_script.proofs.ScriptLemmas.{SoFar}
use Rattle.ags_script.proofs.scripts.read_lines.Given as goal

-- what the lines so far gave
abbrev pub invariant-loop-line : goal.invariant-loop-line
invariant-loop-line l = record {
  so_far : SoFar l.machine l.bytes l.line-iterator l.reader.commands.items l.number;
  tally : IsTally l.reader;
}
