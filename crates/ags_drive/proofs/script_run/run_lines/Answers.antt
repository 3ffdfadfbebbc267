use Rattle.std.proofs.Common.{ℕ, refl, subst, ◌∙◌, arith}
use Rattle.std.specs.Prelude.{Err}
use Rattle.ags_benchscript.specs.declared.commands.BenchCommand.{BenchCommand}
use Rattle.ags_benchscript.specs.Suiting.{NamesLocation}
use Rattle.ags_certtype.specs.Cert.{certificate_of}
use Rattle.ags_outside.specs.Count.{HasCause}
use Rattle.ags_drive.specs.Drive.{is_drive_fault}
use Rattle.ags_drive.proofs.JoinLemmas.{none_made, unchanged}
use Rattle.ags_drive.proofs.ScriptLemmas.{line_located, lines_more, lines_unmade, lines_all}
use Rattle.ags_drive.proofs.script_run.run_lines.Goals as goal

pub loop-position-init : goal.loop-position-init
loop-position-init g c = record {
  fitted = c.requires.fitted;
  made = none_made c.args.machine.now (certificate_of c.args.cert.now) c.args.bench.now _ (g.K.Sink.told c.args.out.now) c.steps_fit.ensures;
  faults = refl;
}

pub run_command-requires-clause-located : goal.run_command-requires-clause-located
run_command-requires-clause-located g c =
    line_located (λ (line : ℕ × BenchCommand). NamesLocation line.1) c.args.script.now c.loop-position.position c.nth-asked.result c.requires.suits.locations c.nth-asked.ensures

pub run_command-requires-clause-fitted : goal.run_command-requires-clause-fitted
run_command-requires-clause-fitted g c = c.loop-position.invariant.fitted

pub returns-in-Err : goal.returns-in-Err
returns-in-Err g c = record {
  fitted = c.run_command.ensures.fitted;
  made = tt;
  unmade = lines_unmade c.args.machine.now (certificate_of c.args.cert.now) c.args.positions c.args.script.now c.loop-position.position c.nth-asked.result (g.K.Sink.told c.args.out.now) (g.K.Sink.told c.loop-position.out)
      (g.K.Sink.told c.run_command.new.out) c.args.bench.now c.loop-position.bench _ _ _ c.in-Err.error c.nth-asked.ensures c.loop-position.invariant.made c.in-Err.ensures.unmade;
  faults = subst (λ (faults : ℕ). HasCause faults (g.K.Sink.faults c.run_command.new.out) (is_drive_fault {T = Unit {0}} (Err c.in-Err.error))) c.loop-position.invariant.faults c.in-Err.ensures.faults;
}

pub loop-position-preserved : goal.loop-position-preserved
loop-position-preserved g c = record {
  fitted = c.run_command.ensures.fitted;
  made = lines_more c.args.machine.now (certificate_of c.args.cert.now) c.args.positions c.args.script.now c.loop-position.position c.nth-asked.result (g.K.Sink.told c.args.out.now) (g.K.Sink.told c.loop-position.out)
      (g.K.Sink.told c.run_command.new.out) c.args.bench.now c.loop-position.bench c.run_command.new.bench _ _ _ c.nth-asked.ensures c.loop-position.invariant.made c.in_default.ensures.made;
  faults = c.in_default.ensures.faults.clean refl ∙ c.loop-position.invariant.faults;
}

pub returns : goal.returns
returns g c = record {
  fitted = c.loop-position.invariant.fitted;
  made = lines_all c.args.machine.now (certificate_of c.args.cert.now) c.args.positions c.args.script.now c.loop-position.position (g.K.Sink.told c.args.out.now) (g.K.Sink.told c.loop-position.out) c.args.bench.now c.loop-position.bench _ _
      (omega (arith, c.loop-position-test.false, c.len-position-end.ensures)) c.loop-position.invariant.made;
  unmade = tt;
  faults = unchanged (g.K.Sink.faults c.args.out.now) (g.K.Sink.faults c.loop-position.out) c.loop-position.invariant.faults;
}
