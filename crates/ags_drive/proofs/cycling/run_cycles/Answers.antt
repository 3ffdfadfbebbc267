use Rattle.std.proofs.Common.{◌≡◌, arith}
use Rattle.ags_drive.specs.Act.{cycles}
use Rattle.ags_certtype.specs.Cert.{certificate_of}
use Rattle.ags_drive.proofs.ScriptLemmas.{one_cycle, cycles_next, piece_more, piece_unmade, pieces_all}
use Rattle.ags_drive.proofs.cycling.run_cycles.Goals as goal

pub returns-in-Err-clause-unmade : goal.returns-in-Err-clause-unmade
returns-in-Err-clause-unmade g c = λ told.
    piece_unmade (cycles c.args.positions) (λ n. one_cycle c.args.positions) (cycles_next c.args.positions) c.args.machine.now (certificate_of c.args.cert.now) c.loop.counter c.args.count told told told c.args.bench.now c.loop.bench _ _ _ c.in-Err.error
    c.loop-test.true (c.loop.invariant.made told) (c.in-Err.ensures.unmade told)

pub loop-preserved : goal.loop-preserved
loop-preserved g c = record {
  fitted = c.run_one.ensures.fitted;
  made = λ told.
      piece_more (cycles c.args.positions) (λ n. one_cycle c.args.positions) (cycles_next c.args.positions) c.args.machine.now (certificate_of c.args.cert.now) c.loop.counter told told told c.args.bench.now c.loop.bench c.run_one.new.bench _ _ _
      (c.loop.invariant.made told) (c.in_default.ensures.made told);
}

pub returns-clause-made : goal.returns-clause-made
returns-clause-made g c = λ told.
    let all : c.loop.counter ≡ c.args.count = omega arith in
    pieces_all (cycles c.args.positions) (λ n. one_cycle c.args.positions) (cycles_next c.args.positions) c.args.machine.now (certificate_of c.args.cert.now) c.loop.counter c.args.count told told c.args.bench.now c.loop.bench _ _ all (c.loop.invariant.made told)
