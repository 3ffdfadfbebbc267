use Rattle.ags_benchscript.specs.Tally.{IsTally}
use Rattle.ags_benchscript.proofs.ScriptLemmas.{SoFar}
use Rattle.ags_benchscript.proofs.scripts.read_lines.Given as goal

-- what the lines so far gave
abbrev pub invariant-loop-line : goal.invariant-loop-line
invariant-loop-line l = record {
  so_far : SoFar l.machine l.bytes l.line-iterator l.reader.asked.items l.number;
  tally : IsTally l.reader;
}
