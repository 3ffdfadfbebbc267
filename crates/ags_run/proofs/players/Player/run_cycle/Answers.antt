use Rattle.std.proofs.Common.{refl, ap, ◌∙◌, arith}
use Rattle.ags_ports.specs.declared.events.Phase.{Phase}
use Rattle.ags_play.specs.Doing.{carry_in, time_left}
use Rattle.ags_run.proofs.ActLemmas.{seen_address, cycle_made}
use Rattle.ags_run.proofs.players.Player.run_cycle.Goals as goal

pub returns : goal.returns
returns c =
    let before = c.args.self.now.bench in
    record {
      keeps = record { machine = refl; guard = refl };
      made = cycle_made c.args.self.now.machine.now c.run_for-spent.result before _ c.args.self.now.address c.run_for-spent.ensures.run
          (c.carry_in-bench.ensures.carry ∙ ap (λ (phase : Phase). carry_in phase (time_left before.carry) c.run_for-spent.result) c.phase.ensures.phase) refl;
    }

pub invariant_of-self-clause-address : goal.invariant_of-self-clause-address
invariant_of-self-clause-address c = seen_address c.run_for-spent.ensures.run.moments c.args.self.now.bench.listener c.run_for-spent.new.watcher c.run_for-spent.ensures.run.seen ∙ c.args.self.now.address

pub invariant_of-self-clause-carry : goal.invariant_of-self-clause-carry
invariant_of-self-clause-carry c = omega (arith, c.run_for-spent.ensures.most, c.carry_in-bench.ensures.most)
