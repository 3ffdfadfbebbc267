use Rattle.std.proofs.Common.{refl}
use Rattle.ags_run.proofs.ActLemmas.{pulse_made}
use Rattle.ags_run.proofs.players.Player.pulse.Goals as goal

pub returns : goal.returns
returns c = record {
  keeps = record { machine = refl; guard = refl };
  made = pulse_made c.args.self.now.machine.now c.act.result c.args.self.now.bench _ c.act.ensures.step refl refl refl;
}
