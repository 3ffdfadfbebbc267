use Rattle.std.proofs.Common.{refl}
use Rattle.std.proofs.lemmas.Result.{on_ok_weaker, MatchResult-weaker}
use Rattle.ags_drive.specs.Act.{Feeds, Pulses}
use Rattle.ags_benchscript.specs.declared.commands.BenchCommand.TheVariants.{Step, Pulse, Cycle, ShowReg, ShowCell, ShowOut, Feed, Detach}
use Rattle.ags_certtype.specs.Cert.{certificate_of}
use Rattle.ags_drive.specs.Standing.{bench_of}
use Rattle.ags_drive.proofs.JoinLemmas.{silent_made, unfaulted}
use Rattle.ags_drive.proofs.ScriptLemmas.{kind_made, kind_unmade}
use Rattle.ags_drive.proofs.commands.run_command.Goals as goal

pub show_cell-requires : goal.show_cell-requires
show_cell-requires g c = rw c.in-ShowCell.is at c.requires.located

pub show_out-requires-clause-address : goal.show_out-requires-clause-address
show_out-requires-clause-address g c = rw c.in-ShowOut.is at c.requires.located

pub returns-in-Step : goal.returns-in-Step
returns-in-Step g c =
    let told = g.K.Sink.told c.args.out.now in
    record {
      fitted = c.make_steps.ensures.fitted;
      made = on_ok_weaker c.make_steps.result (λ made. kind_made c.args.machine.now (certificate_of c.args.cert.now) c.args.positions c.args.line c.args.command (Step c.in-Step.count) c.in-Step.is told told c.args.bench.now c.make_steps.new.bench _ _ (made (certificate_of c.args.cert.now) told)) c.make_steps.ensures.made;
      unmade = MatchResult-weaker c.make_steps.result c.make_steps.ensures.unmade (λ x h. h) (λ met h. kind_unmade c.args.machine.now (certificate_of c.args.cert.now) c.args.positions c.args.line c.args.command (Step c.in-Step.count) c.in-Step.is (bench_of c.args.bench.now _) told told _ met (h (certificate_of c.args.cert.now) told));
      faults = unfaulted (g.K.Sink.faults c.args.out.now) _ c.make_steps.ensures.no_fault;
    }

pub returns-in-Pulse : goal.returns-in-Pulse
returns-in-Pulse g c =
    let told = g.K.Sink.told c.args.out.now in
    record {
      fitted = c.pulse.ensures.fitted;
      made = kind_made c.args.machine.now (certificate_of c.args.cert.now) c.args.positions c.args.line c.args.command Pulse c.in-Pulse.is told told c.args.bench.now c.pulse.new.bench _ _ (silent_made c.args.machine.now (certificate_of c.args.cert.now) Pulses c.args.bench.now c.pulse.new.bench _ _ refl (c.pulse.ensures.made (certificate_of c.args.cert.now) _) told);
      unmade = tt;
      faults = unfaulted (g.K.Sink.faults c.args.out.now) _ refl;
    }

pub returns-in-Cycle : goal.returns-in-Cycle
returns-in-Cycle g c =
    let told = g.K.Sink.told c.args.out.now in
    record {
      fitted = c.run_cycles.ensures.fitted;
      made = on_ok_weaker c.run_cycles.result (λ made. kind_made c.args.machine.now (certificate_of c.args.cert.now) c.args.positions c.args.line c.args.command (Cycle c.in-Cycle.count) c.in-Cycle.is told told c.args.bench.now c.run_cycles.new.bench _ _ (made told)) c.run_cycles.ensures.made;
      unmade = MatchResult-weaker c.run_cycles.result c.run_cycles.ensures.unmade (λ x h. h) (λ met h. kind_unmade c.args.machine.now (certificate_of c.args.cert.now) c.args.positions c.args.line c.args.command (Cycle c.in-Cycle.count) c.in-Cycle.is (bench_of c.args.bench.now _) told told _ met (h told));
      faults = unfaulted (g.K.Sink.faults c.args.out.now) _ c.run_cycles.ensures.no_fault;
    }

pub returns-in-ShowReg : goal.returns-in-ShowReg
returns-in-ShowReg g c =
    let told = g.K.Sink.told c.args.out.now in
    record {
      fitted = c.requires.fitted;
      made = on_ok_weaker c.show_reg.result (λ made. kind_made c.args.machine.now (certificate_of c.args.cert.now) c.args.positions c.args.line c.args.command ShowReg c.in-ShowReg.is told (g.K.Sink.told c.show_reg.new.out) c.args.bench.now c.args.bench.now _ _ (made c.args.machine.now (certificate_of c.args.cert.now) _)) c.show_reg.ensures.made;
      unmade = MatchResult-weaker c.show_reg.result c.show_reg.ensures.unmade (λ x h. h) (λ met h. kind_unmade c.args.machine.now (certificate_of c.args.cert.now) c.args.positions c.args.line c.args.command ShowReg c.in-ShowReg.is (bench_of c.args.bench.now _) told (g.K.Sink.told c.show_reg.new.out) _ met (h c.args.machine.now (certificate_of c.args.cert.now) _));
      faults = c.show_reg.ensures.faults;
    }

pub returns-in-ShowCell : goal.returns-in-ShowCell
returns-in-ShowCell g c =
    let told = g.K.Sink.told c.args.out.now in
    record {
      fitted = c.requires.fitted;
      made = on_ok_weaker c.show_cell.result (λ made. kind_made c.args.machine.now (certificate_of c.args.cert.now) c.args.positions c.args.line c.args.command (ShowCell c.in-ShowCell.address) c.in-ShowCell.is told (g.K.Sink.told c.show_cell.new.out) c.args.bench.now c.args.bench.now _ _ (made c.args.machine.now (certificate_of c.args.cert.now) _)) c.show_cell.ensures.made;
      unmade = MatchResult-weaker c.show_cell.result c.show_cell.ensures.unmade (λ x h. h) (λ met h. kind_unmade c.args.machine.now (certificate_of c.args.cert.now) c.args.positions c.args.line c.args.command (ShowCell c.in-ShowCell.address) c.in-ShowCell.is (bench_of c.args.bench.now _) told (g.K.Sink.told c.show_cell.new.out) _ met (h c.args.machine.now (certificate_of c.args.cert.now) _));
      faults = c.show_cell.ensures.faults;
    }

pub returns-in-ShowOut : goal.returns-in-ShowOut
returns-in-ShowOut g c =
    let told = g.K.Sink.told c.args.out.now in
    record {
      fitted = c.requires.fitted;
      made = on_ok_weaker c.show_out.result (λ made. kind_made c.args.machine.now (certificate_of c.args.cert.now) c.args.positions c.args.line c.args.command (ShowOut c.in-ShowOut.address) c.in-ShowOut.is told (g.K.Sink.told c.show_out.new.out) c.args.bench.now c.args.bench.now _ _ (made (certificate_of c.args.cert.now) _)) c.show_out.ensures.made;
      unmade = MatchResult-weaker c.show_out.result c.show_out.ensures.unmade (λ x h. h) (λ met h. kind_unmade c.args.machine.now (certificate_of c.args.cert.now) c.args.positions c.args.line c.args.command (ShowOut c.in-ShowOut.address) c.in-ShowOut.is (bench_of c.args.bench.now _) told (g.K.Sink.told c.show_out.new.out) _ met (h (certificate_of c.args.cert.now) _));
      faults = c.show_out.ensures.faults;
    }

pub returns-in-Detach : goal.returns-in-Detach
returns-in-Detach g c =
    let told = g.K.Sink.told c.args.out.now in
    record {
      fitted = c.requires.fitted;
      made = on_ok_weaker c.detach.result (λ made. kind_made c.args.machine.now (certificate_of c.args.cert.now) c.args.positions c.args.line c.args.command (Detach c.in-Detach.number) c.in-Detach.is told (g.K.Sink.told c.detach.new.out) c.args.bench.now c.args.bench.now _ _ (made c.args.machine.now (certificate_of c.args.cert.now))) c.detach.ensures.made;
      unmade = MatchResult-weaker c.detach.result c.detach.ensures.unmade (λ x h. h) (λ met h. kind_unmade c.args.machine.now (certificate_of c.args.cert.now) c.args.positions c.args.line c.args.command (Detach c.in-Detach.number) c.in-Detach.is (bench_of c.args.bench.now _) told (g.K.Sink.told c.detach.new.out) _ met (h c.args.machine.now (certificate_of c.args.cert.now)));
      faults = c.detach.ensures.faults;
    }

pub returns-in-Feed : goal.returns-in-Feed
returns-in-Feed g c =
    let told = g.K.Sink.told c.args.out.now in
    record {
      fitted = c.feed.ensures.fitted;
      made = on_ok_weaker c.feed.result (λ made. kind_made c.args.machine.now (certificate_of c.args.cert.now) c.args.positions c.args.line c.args.command (Feed c.in-Feed.number) c.in-Feed.is told told c.args.bench.now c.feed.new.bench _ _ (silent_made c.args.machine.now (certificate_of c.args.cert.now) (Feeds c.args.line c.in-Feed.number) c.args.bench.now c.feed.new.bench _ _ refl made told)) c.feed.ensures.made;
      unmade = MatchResult-weaker c.feed.result c.feed.ensures.unmade (λ x h. h) (λ met h. kind_unmade c.args.machine.now (certificate_of c.args.cert.now) c.args.positions c.args.line c.args.command (Feed c.in-Feed.number) c.in-Feed.is (bench_of c.args.bench.now _) told told _ met (h told));
      faults = unfaulted (g.K.Sink.faults c.args.out.now) _ c.feed.ensures.no_fault;
    }
