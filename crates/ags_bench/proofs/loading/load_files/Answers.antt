use Rattle.std.proofs.Common.{[], Ok, Err}
use Rattle.std.proofs.lemmas.Result.{err_from_is_err_and}
use Rattle.ags_plan.specs.Loading.{end_of}
use Rattle.ags_program.proofs.ReadingLemmas.{counted_on}
use Rattle.ags_program.specs.Views.{pair_of}
use Rattle.ags_bench.specs.Loaded.{script_plan}
use Rattle.ags_bench.specs.Program.{program}
use Rattle.ags_bench.specs.Views.{line_of, status_of}
use Rattle.ags_bench.specs.Work.{DrivePair}
use Rattle.ags_bench.proofs.FilesLemmas.{script_loads, script_stops}
use Rattle.ags_bench.proofs.loading.load_files.Goals as goal

pub returns-in_err-pair-clause-loads : goal.returns-in_err-pair-clause-loads
returns-in_err-pair-clause-loads g c =
    let p = err_from_is_err_and c.from_residual.result c.from_residual.ensures.1 in
    rw (p.1, p.2) (c.in_err-pair.ensures.loads (script_plan c.args.asked.script.now))

pub returns-in_err-script-clause-loads : goal.returns-in_err-script-clause-loads
returns-in_err-script-clause-loads g c =
    let p = err_from_is_err_and c.from_residual-in_err-script.result c.from_residual-in_err-script.ensures.1 in
    let why = end_of (program []) line_of status_of c.in_err-script.field-0.0 in
    rw (p.1, p.2) (c.in_ok-pair.ensures.loads (script_plan c.args.asked.script.now) (Err why)
    (script_stops (g.S.Shelf.told c.args.shelf.now) (g.S.Shelf.told c.load_pair.new.shelf) (pair_of c.in_ok-pair.pair) c.args.asked.script.now c.in_ok-pair.ensures.same
    why c.in_err-script.ensures.loads))

pub returns-clause-loads : goal.returns-clause-loads
returns-clause-loads g c =
    let pair = pair_of c.in_ok-pair.pair in
    c.in_ok-pair.ensures.loads (script_plan c.args.asked.script.now) (Ok (DrivePair pair c.in_ok-script.script))
    (script_loads (g.S.Shelf.told c.args.shelf.now) (g.S.Shelf.told c.load_pair.new.shelf) pair c.args.asked.script.now c.in_ok-pair.ensures.same
    c.in_ok-script.script c.in_ok-script.ensures.loads)

pub returns-clause-ready : goal.returns-clause-ready
returns-clause-ready g c = (c.in_ok-pair.ensures.ready, c.in_ok-script.ensures.ready)

pub returns-in_err-script-clause-faults : goal.returns-in_err-script-clause-faults
returns-in_err-script-clause-faults g c =
    let p = err_from_is_err_and c.from_residual-in_err-script.result c.from_residual-in_err-script.ensures.1 in
    counted_on _ _ _ _ c.in_ok-pair.ensures.faults (rw (p.1, p.2) c.in_err-script.ensures.faults)

pub returns-in_err-script-clause-absences : goal.returns-in_err-script-clause-absences
returns-in_err-script-clause-absences g c =
    let p = err_from_is_err_and c.from_residual-in_err-script.result c.from_residual-in_err-script.ensures.1 in
    counted_on _ _ _ _ c.in_ok-pair.ensures.absences (rw (p.1, p.2) c.in_err-script.ensures.absences)

pub returns-clause-faults : goal.returns-clause-faults
returns-clause-faults g c = counted_on _ _ _ _ c.in_ok-pair.ensures.faults c.in_ok-script.ensures.faults

pub returns-clause-absences : goal.returns-clause-absences
returns-clause-absences g c = counted_on _ _ _ _ c.in_ok-pair.ensures.absences c.in_ok-script.ensures.absences
