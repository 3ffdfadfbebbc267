use Rattle.std.proofs.Common.{option_map}
use Rattle.ags_run.specs.Playing.{guard_in, put_of}
use Rattle.ags_run.proofs.PutLemmas.{set_met}
use Rattle.ags_run.proofs.players.Player.set.Goals as goal

pub returns : goal.returns
returns c = record {
  keeps = c.put.ensures.keeps;
  by_guard = set_met c.args.self.now.machine.now (guard_in c.args.self.now) c.args.address c.args.word c.args.self.now.bench c.put.new.self.bench (option_map put_of c.put.result) c.put.ensures.by_guard;
}
