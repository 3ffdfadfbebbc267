use Rattle.std.proofs.Common.{refl, ◌∙◌}
use Rattle.ags_run.proofs.ActLemmas.{seen_address, steps_made}
use Rattle.ags_run.proofs.players.Player.step.Goals as goal

pub returns : goal.returns
returns c = record {
  keeps = record { machine = refl; guard = refl };
  made = steps_made c.args.self.now.machine.now c.args.count c.args.self.now.bench _ c.args.self.now.address c.run_steps.ensures.run refl refl;
}

pub invariant_of-self-clause-address : goal.invariant_of-self-clause-address
invariant_of-self-clause-address c = seen_address c.run_steps.ensures.run.moments c.args.self.now.bench.listener c.run_steps.new.watcher c.run_steps.ensures.run.seen ∙ c.args.self.now.address
