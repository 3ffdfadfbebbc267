use Rattle.std.proofs.Common.{length}
use Rattle.ags_script.specs.Tally.{IsTally}
use Rattle.ags_script.proofs.KeyLemmas.{Pressing}
use Rattle.ags_script.proofs.reader.Reader.push_keys.Given as goal

abbrev pub invariant-loop-rest : goal.invariant-loop-rest
invariant-loop-rest l = record {
  pressing : Pressing l.names l.rest l.fn.self.commands.items l.self.commands.items;
  tally : IsTally l.self;
}

abbrev pub decreases-loop-rest : goal.decreases-loop-rest
decreases-loop-rest l = length l.rest
