use Rattle.std.proofs.Common.{subst, Ok, Err}
use Rattle.std.proofs.lemmas.Result.{err_from_is_err_and}
use Rattle.ags_plan.specs.Loading.{Loads, end_of}
use Rattle.ags_plan.specs.Walk.{Told}
use Rattle.ags_program.specs.Program.{program}
use Rattle.ags_program.specs.Views.{line_of, pair_of, sequel_of, status_of}
use Rattle.ags_program.specs.Work.{JudgePair}
use Rattle.ags_program.proofs.ReadingLemmas.{counted_on}
use Rattle.ags_asked.specs.Loaded.{behind_plan}
use Rattle.ags_asked.proofs.pairs.load_judged.Goals as goal

pub returns-in_err-pair-clause-loads : goal.returns-in_err-pair-clause-loads
returns-in_err-pair-clause-loads g c =
    let p = err_from_is_err_and c.from_residual.result c.from_residual.ensures.1 in
    rw (p.1, p.2) (c.in_err-pair.ensures.loads (behind_plan c.args.behind))

pub returns-in_err-sequel-clause-loads : goal.returns-in_err-sequel-clause-loads
returns-in_err-sequel-clause-loads g c =
    let p = err_from_is_err_and c.from_residual-in_err-sequel.result c.from_residual-in_err-sequel.ensures.1 in
    let pair = pair_of c.in_ok-pair.pair in
    let stops = Err (end_of program line_of status_of c.in_err-sequel.field-0.0) in
    rw (p.1, p.2) (c.in_ok-pair.ensures.loads (behind_plan c.args.behind) stops
    (subst (λ (t : Told). Loads program t (behind_plan c.args.behind pair) stops) c.in_ok-pair.ensures.same c.in_err-sequel.ensures.loads))

pub returns-clause-loads : goal.returns-clause-loads
returns-clause-loads g c =
    let pair = pair_of c.in_ok-pair.pair in
    let work = Ok (JudgePair pair (sequel_of c.in_ok-sequel.sequel)) in
    c.in_ok-pair.ensures.loads (behind_plan c.args.behind) work
    (subst (λ (t : Told). Loads program t (behind_plan c.args.behind pair) work) c.in_ok-pair.ensures.same c.in_ok-sequel.ensures.loads)

pub returns-clause-ready : goal.returns-clause-ready
returns-clause-ready g c = (c.in_ok-pair.ensures.ready, c.in_ok-sequel.ensures.ready)

pub returns-in_err-sequel-clause-faults : goal.returns-in_err-sequel-clause-faults
returns-in_err-sequel-clause-faults g c =
    let p = err_from_is_err_and c.from_residual-in_err-sequel.result c.from_residual-in_err-sequel.ensures.1 in
    counted_on _ _ _ _ c.in_ok-pair.ensures.faults (rw (p.1, p.2) c.in_err-sequel.ensures.faults)

pub returns-in_err-sequel-clause-absences : goal.returns-in_err-sequel-clause-absences
returns-in_err-sequel-clause-absences g c =
    let p = err_from_is_err_and c.from_residual-in_err-sequel.result c.from_residual-in_err-sequel.ensures.1 in
    counted_on _ _ _ _ c.in_ok-pair.ensures.absences (rw (p.1, p.2) c.in_err-sequel.ensures.absences)

pub returns-clause-faults : goal.returns-clause-faults
returns-clause-faults g c = counted_on _ _ _ _ c.in_ok-pair.ensures.faults c.in_ok-sequel.ensures.faults

pub returns-clause-absences : goal.returns-clause-absences
returns-clause-absences g c = counted_on _ _ _ _ c.in_ok-pair.ensures.absences c.in_ok-sequel.ensures.absences

pub returns-in_err-pair-clause-ready : goal.returns-in_err-pair-clause-ready
returns-in_err-pair-clause-ready g c = rw ((err_from_is_err_and c.from_residual.result c.from_residual.ensures.1).1) tt

pub returns-in_err-pair-clause-faults : goal.returns-in_err-pair-clause-faults
returns-in_err-pair-clause-faults g c =
    let p = err_from_is_err_and c.from_residual.result c.from_residual.ensures.1 in
    rw (p.1, p.2) c.in_err-pair.ensures.faults

pub returns-in_err-pair-clause-absences : goal.returns-in_err-pair-clause-absences
returns-in_err-pair-clause-absences g c =
    let p = err_from_is_err_and c.from_residual.result c.from_residual.ensures.1 in
    rw (p.1, p.2) c.in_err-pair.ensures.absences

pub returns-in_err-sequel-clause-ready : goal.returns-in_err-sequel-clause-ready
returns-in_err-sequel-clause-ready g c = rw ((err_from_is_err_and c.from_residual-in_err-sequel.result c.from_residual-in_err-sequel.ensures.1).1) tt
