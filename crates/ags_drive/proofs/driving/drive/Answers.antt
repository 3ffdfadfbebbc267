use Rattle.std.proofs.Common.{Bool, subst, ◌∙◌}
use Rattle.ags_certtype.specs.Cert.{certificate_of}
use Rattle.ags_outside.specs.Count.{HasCause}
use Rattle.ags_drive.specs.declared.benches.Bench.{Bench}
use Rattle.ags_drive.specs.declared.driving.Driven.{Driven}
use Rattle.ags_drive.specs.Standing.{bench_of}
use Rattle.ags_drive.proofs.DriveLemmas.{driven_whole, driven_less, not_begun, error_fault, rose_at}
use Rattle.ags_drive.proofs.JoinLemmas.{unfaulted}
use Rattle.ags_drive.proofs.driving.drive.Goals as goal

-- all acts were made

pub returns-in-Ok-run_script : goal.returns-in-Ok-run_script
returns-in-Ok-run_script g c = record {
  driven = driven_whole c.args.machine.now c.args.image.now (certificate_of c.args.cert.now) _ c.args.script.now c.in-Ok.bench c.run_script.new.bench _ (g.K.Sink.told c.args.out.now) (g.K.Sink.told c.run_script.new.out)
      c.types_are_kept.ensures.machine c.in-Ok.ensures.inside c.types_are_kept.ensures.suits.steps (c.in-Ok.ensures.stands _) c.in-Ok.ensures.none.0 c.in-Ok.ensures.none.1 c.in-Ok-run_script.ensures.made;
  declared = c.runs_are_sound.ensures.declared _ _;
  safe = c.runs_are_sound.ensures.safe _ _;
  write_fault = rose_at (g.K.Sink.faults c.args.out.now) (g.K.Sink.faults c.run_script.new.out) _ (c.in-Ok-run_script.ensures.faults);
  faults = c.in-Ok-run_script.ensures.faults;
}

-- they weren't

pub returns-in-Ok : goal.returns-in-Ok
returns-in-Ok g c = record {
  driven = driven_less c.args.machine.now c.args.image.now (certificate_of c.args.cert.now) _ c.args.script.now (bench_of c.in-Ok.bench _) (g.K.Sink.told c.args.out.now) (g.K.Sink.told c.run_script.new.out) _ c.in-Err-run_script.error
      c.in-Ok.ensures.inside (c.in-Ok.ensures.stands _) c.in-Err-run_script.ensures.unmade;
  declared = c.runs_are_sound.ensures.declared _ _;
  safe = c.runs_are_sound.ensures.safe _ _;
  write_fault = rose_at (g.K.Sink.faults c.args.out.now) (g.K.Sink.faults c.run_script.new.out) _ (subst (λ (fault : Bool). HasCause (g.K.Sink.faults c.args.out.now) (g.K.Sink.faults c.run_script.new.out) fault) (error_fault (Unit {0}) Driven c.in-Err-run_script.error) c.in-Err-run_script.ensures.faults);
  faults = subst (λ (fault : Bool). HasCause (g.K.Sink.faults c.args.out.now) (g.K.Sink.faults c.run_script.new.out) fault) (error_fault (Unit {0}) Driven c.in-Err-run_script.error) c.in-Err-run_script.ensures.faults;
}

-- the run wasn't begun

pub returns : goal.returns
returns g c = record {
  driven = not_begun c.args.machine.now c.args.image.now (certificate_of c.args.cert.now) _ c.args.script.now (g.K.Sink.told c.args.out.now) c.in-Err.error c.types_are_kept.ensures.machine c.in-Err.ensures.outside;
  declared = c.runs_are_sound.ensures.declared _ _;
  safe = c.runs_are_sound.ensures.safe _ _;
  write_fault = rose_at (g.K.Sink.faults c.args.out.now) (g.K.Sink.faults c.args.out.now) _ (unfaulted (g.K.Sink.faults c.args.out.now) _ (error_fault Driven Bench c.in-Err.error ∙ c.in-Err.ensures.no_fault));
  faults = unfaulted (g.K.Sink.faults c.args.out.now) _ (error_fault Driven Bench c.in-Err.error ∙ c.in-Err.ensures.no_fault);
}
