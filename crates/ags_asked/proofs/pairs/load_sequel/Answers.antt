use Rattle.std.proofs.Common.{length, Ok, Err, refl, subst, sym}
use Rattle.std.proofs.lemmas.Result.{err_from_is_err_and}
use Rattle.ags_plan.specs.Loading.{Loads, end_of}
use Rattle.ags_plan.specs.Plan.{Do}
use Rattle.ags_plan.proofs.LoadingLemmas.{loads_on, loads_stop}
use Rattle.ags_program.specs.Files.{Script, Times, ScaleTags, EditList}
use Rattle.ags_program.specs.Program.{program}
use Rattle.ags_program.specs.Views.{line_of, pair_of, status_of}
use Rattle.ags_asked.specs.Loaded.{behind_plan}
use Rattle.ags_asked.specs.declared.pairs.Behind.{Behind}
use Rattle.ags_program.specs.Work.{JudgePair, PlayBehind, BudgetBehind, ScalesBehind, EditsBehind}
use Rattle.ags_asked.proofs.pairs.load_sequel.Goals as goal

pub returns-in_err-script-in-Script-clause-loads : goal.returns-in_err-script-in-Script-clause-loads
returns-in_err-script-in-Script-clause-loads g c =
    let p = err_from_is_err_and c.from_residual.result c.from_residual.ensures.1 in
    let pair = pair_of c.args.pair.now in
    let stops = Err (end_of program line_of status_of c.in_err-script-in-Script.field-0.0) in
    rw (p.1, p.2) (subst (λ (b : Behind). Loads program (g.S.Shelf.told c.args.shelf.now) (behind_plan b pair) stops) (sym c.in-Script.is)
    (loads_stop program (g.S.Shelf.told c.args.shelf.now) (Script pair.machine) c.in-Script.name.now
    (λ commands. Do (JudgePair pair (PlayBehind commands)))
    (end_of program line_of status_of c.in_err-script-in-Script.field-0.0) c.in_err-script-in-Script.ensures.loads))

pub returns-in_err-budget-in-Times-clause-loads : goal.returns-in_err-budget-in-Times-clause-loads
returns-in_err-budget-in-Times-clause-loads g c =
    let p = err_from_is_err_and c.from_residual-in_err-budget-in-Times.result c.from_residual-in_err-budget-in-Times.ensures.1 in
    let pair = pair_of c.args.pair.now in
    let stops = Err (end_of program line_of status_of c.in_err-budget-in-Times.field-0.0) in
    rw (p.1, p.2) (subst (λ (b : Behind). Loads program (g.S.Shelf.told c.args.shelf.now) (behind_plan b pair) stops) (sym c.in-Times.is)
    (loads_stop program (g.S.Shelf.told c.args.shelf.now) (Times (length pair.cert.rows)) c.in-Times.name.now
    (λ bounds. Do (JudgePair pair (BudgetBehind bounds)))
    (end_of program line_of status_of c.in_err-budget-in-Times.field-0.0) (rw c.row_count.ensures.count at c.in_err-budget-in-Times.ensures.loads)))

pub returns-in_err-scales-in-Scales-clause-loads : goal.returns-in_err-scales-in-Scales-clause-loads
returns-in_err-scales-in-Scales-clause-loads g c =
    let p = err_from_is_err_and c.from_residual-in_err-scales-in-Scales.result c.from_residual-in_err-scales-in-Scales.ensures.1 in
    let pair = pair_of c.args.pair.now in
    let stops = Err (end_of program line_of status_of c.in_err-scales-in-Scales.field-0.0) in
    rw (p.1, p.2) (subst (λ (b : Behind). Loads program (g.S.Shelf.told c.args.shelf.now) (behind_plan b pair) stops) (sym c.in-Scales.is)
    (loads_stop program (g.S.Shelf.told c.args.shelf.now) (ScaleTags pair.machine (length pair.cert.rows)) c.in-Scales.name.now
    (λ declared. Do (JudgePair pair (ScalesBehind declared)))
    (end_of program line_of status_of c.in_err-scales-in-Scales.field-0.0) (rw c.row_count-in-Scales.ensures.count at c.in_err-scales-in-Scales.ensures.loads)))

pub returns-in_err-edits-in-Edits-clause-loads : goal.returns-in_err-edits-in-Edits-clause-loads
returns-in_err-edits-in-Edits-clause-loads g c =
    let p = err_from_is_err_and c.from_residual-in_err-edits-in-Edits.result c.from_residual-in_err-edits-in-Edits.ensures.1 in
    let pair = pair_of c.args.pair.now in
    let stops = Err (end_of program line_of status_of c.in_err-edits-in-Edits.field-0.0) in
    rw (p.1, p.2) (subst (λ (b : Behind). Loads program (g.S.Shelf.told c.args.shelf.now) (behind_plan b pair) stops) (sym c.in-Edits.is)
    (loads_stop program (g.S.Shelf.told c.args.shelf.now) EditList c.in-Edits.name.now
    (λ made. Do (JudgePair pair (EditsBehind made)))
    (end_of program line_of status_of c.in_err-edits-in-Edits.field-0.0) c.in_err-edits-in-Edits.ensures.loads))

pub returns-in_err-script-in-Script-clause-faults : goal.returns-in_err-script-in-Script-clause-faults
returns-in_err-script-in-Script-clause-faults g c =
    let p = err_from_is_err_and c.from_residual.result c.from_residual.ensures.1 in
    rw (p.1, p.2) c.in_err-script-in-Script.ensures.faults

pub returns-in_err-script-in-Script-clause-absences : goal.returns-in_err-script-in-Script-clause-absences
returns-in_err-script-in-Script-clause-absences g c =
    let p = err_from_is_err_and c.from_residual.result c.from_residual.ensures.1 in
    rw (p.1, p.2) c.in_err-script-in-Script.ensures.absences

pub returns-in_ok-script-in-Script-clause-faults : goal.returns-in_ok-script-in-Script-clause-faults
returns-in_ok-script-in-Script-clause-faults g c = c.in_ok-script-in-Script.ensures.faults

pub returns-in_ok-script-in-Script-clause-absences : goal.returns-in_ok-script-in-Script-clause-absences
returns-in_ok-script-in-Script-clause-absences g c = c.in_ok-script-in-Script.ensures.absences

pub returns-in_err-script-in-Script-clause-ready : goal.returns-in_err-script-in-Script-clause-ready
returns-in_err-script-in-Script-clause-ready g c = rw ((err_from_is_err_and c.from_residual.result c.from_residual.ensures.1).1) tt

pub returns-in_ok-script-in-Script-clause-loads : goal.returns-in_ok-script-in-Script-clause-loads
returns-in_ok-script-in-Script-clause-loads g c =
    let pair = pair_of c.args.pair.now in
    let made = JudgePair pair (PlayBehind c.in_ok-script-in-Script.script) in
    subst (λ (b : Behind). Loads program (g.S.Shelf.told c.args.shelf.now) (behind_plan b pair) (Ok made)) (sym c.in-Script.is)
    (loads_on program (g.S.Shelf.told c.args.shelf.now) (Script pair.machine) c.in-Script.name.now (λ value. Do (JudgePair pair (PlayBehind value))) (c.in_ok-script-in-Script.script) (Ok made) c.in_ok-script-in-Script.ensures.loads refl)

pub returns-in_ok-script-in-Script-clause-ready : goal.returns-in_ok-script-in-Script-clause-ready
returns-in_ok-script-in-Script-clause-ready g c = c.in_ok-script-in-Script.ensures.ready

pub returns-in_err-budget-in-Times-clause-ready : goal.returns-in_err-budget-in-Times-clause-ready
returns-in_err-budget-in-Times-clause-ready g c = rw ((err_from_is_err_and c.from_residual-in_err-budget-in-Times.result c.from_residual-in_err-budget-in-Times.ensures.1).1) tt

pub returns-in_err-budget-in-Times-clause-faults : goal.returns-in_err-budget-in-Times-clause-faults
returns-in_err-budget-in-Times-clause-faults g c =
    let p = err_from_is_err_and c.from_residual-in_err-budget-in-Times.result c.from_residual-in_err-budget-in-Times.ensures.1 in
    rw (p.1, p.2) c.in_err-budget-in-Times.ensures.faults

pub returns-in_ok-budget-in-Times-clause-faults : goal.returns-in_ok-budget-in-Times-clause-faults
returns-in_ok-budget-in-Times-clause-faults g c = c.in_ok-budget-in-Times.ensures.faults

pub returns-in_err-budget-in-Times-clause-absences : goal.returns-in_err-budget-in-Times-clause-absences
returns-in_err-budget-in-Times-clause-absences g c =
    let p = err_from_is_err_and c.from_residual-in_err-budget-in-Times.result c.from_residual-in_err-budget-in-Times.ensures.1 in
    rw (p.1, p.2) c.in_err-budget-in-Times.ensures.absences

pub returns-in_ok-budget-in-Times-clause-absences : goal.returns-in_ok-budget-in-Times-clause-absences
returns-in_ok-budget-in-Times-clause-absences g c = c.in_ok-budget-in-Times.ensures.absences

pub returns-in_ok-budget-in-Times-clause-loads : goal.returns-in_ok-budget-in-Times-clause-loads
returns-in_ok-budget-in-Times-clause-loads g c =
    let pair = pair_of c.args.pair.now in
    let made = JudgePair pair (BudgetBehind c.in_ok-budget-in-Times.budget) in
    subst (λ (b : Behind). Loads program (g.S.Shelf.told c.args.shelf.now) (behind_plan b pair) (Ok made)) (sym c.in-Times.is)
    (loads_on program (g.S.Shelf.told c.args.shelf.now) (Times (length pair.cert.rows)) c.in-Times.name.now (λ value. Do (JudgePair pair (BudgetBehind value))) (c.in_ok-budget-in-Times.budget) (Ok made) (rw c.row_count.ensures.count at c.in_ok-budget-in-Times.ensures.loads) refl)

pub returns-in_ok-budget-in-Times-clause-ready : goal.returns-in_ok-budget-in-Times-clause-ready
returns-in_ok-budget-in-Times-clause-ready g c = rw c.row_count.ensures.count at c.in_ok-budget-in-Times.ensures.ready

pub returns-in_err-scales-in-Scales-clause-ready : goal.returns-in_err-scales-in-Scales-clause-ready
returns-in_err-scales-in-Scales-clause-ready g c = rw ((err_from_is_err_and c.from_residual-in_err-scales-in-Scales.result c.from_residual-in_err-scales-in-Scales.ensures.1).1) tt

pub returns-in_err-scales-in-Scales-clause-faults : goal.returns-in_err-scales-in-Scales-clause-faults
returns-in_err-scales-in-Scales-clause-faults g c =
    let p = err_from_is_err_and c.from_residual-in_err-scales-in-Scales.result c.from_residual-in_err-scales-in-Scales.ensures.1 in
    rw (p.1, p.2) c.in_err-scales-in-Scales.ensures.faults

pub returns-in_ok-scales-in-Scales-clause-faults : goal.returns-in_ok-scales-in-Scales-clause-faults
returns-in_ok-scales-in-Scales-clause-faults g c = c.in_ok-scales-in-Scales.ensures.faults

pub returns-in_err-scales-in-Scales-clause-absences : goal.returns-in_err-scales-in-Scales-clause-absences
returns-in_err-scales-in-Scales-clause-absences g c =
    let p = err_from_is_err_and c.from_residual-in_err-scales-in-Scales.result c.from_residual-in_err-scales-in-Scales.ensures.1 in
    rw (p.1, p.2) c.in_err-scales-in-Scales.ensures.absences

pub returns-in_ok-scales-in-Scales-clause-absences : goal.returns-in_ok-scales-in-Scales-clause-absences
returns-in_ok-scales-in-Scales-clause-absences g c = c.in_ok-scales-in-Scales.ensures.absences

pub returns-in_ok-scales-in-Scales-clause-loads : goal.returns-in_ok-scales-in-Scales-clause-loads
returns-in_ok-scales-in-Scales-clause-loads g c =
    let pair = pair_of c.args.pair.now in
    let made = JudgePair pair (ScalesBehind c.in_ok-scales-in-Scales.scales) in
    subst (λ (b : Behind). Loads program (g.S.Shelf.told c.args.shelf.now) (behind_plan b pair) (Ok made)) (sym c.in-Scales.is)
    (loads_on program (g.S.Shelf.told c.args.shelf.now) (ScaleTags pair.machine (length pair.cert.rows)) c.in-Scales.name.now (λ value. Do (JudgePair pair (ScalesBehind value))) (c.in_ok-scales-in-Scales.scales) (Ok made) (rw c.row_count-in-Scales.ensures.count at c.in_ok-scales-in-Scales.ensures.loads) refl)

pub returns-in_ok-scales-in-Scales-clause-ready : goal.returns-in_ok-scales-in-Scales-clause-ready
returns-in_ok-scales-in-Scales-clause-ready g c = rw c.row_count-in-Scales.ensures.count at c.in_ok-scales-in-Scales.ensures.ready

pub returns-in_err-edits-in-Edits-clause-ready : goal.returns-in_err-edits-in-Edits-clause-ready
returns-in_err-edits-in-Edits-clause-ready g c = rw ((err_from_is_err_and c.from_residual-in_err-edits-in-Edits.result c.from_residual-in_err-edits-in-Edits.ensures.1).1) tt

pub returns-in_err-edits-in-Edits-clause-faults : goal.returns-in_err-edits-in-Edits-clause-faults
returns-in_err-edits-in-Edits-clause-faults g c =
    let p = err_from_is_err_and c.from_residual-in_err-edits-in-Edits.result c.from_residual-in_err-edits-in-Edits.ensures.1 in
    rw (p.1, p.2) c.in_err-edits-in-Edits.ensures.faults

pub returns-in_ok-edits-in-Edits-clause-faults : goal.returns-in_ok-edits-in-Edits-clause-faults
returns-in_ok-edits-in-Edits-clause-faults g c = c.in_ok-edits-in-Edits.ensures.faults

pub returns-in_err-edits-in-Edits-clause-absences : goal.returns-in_err-edits-in-Edits-clause-absences
returns-in_err-edits-in-Edits-clause-absences g c =
    let p = err_from_is_err_and c.from_residual-in_err-edits-in-Edits.result c.from_residual-in_err-edits-in-Edits.ensures.1 in
    rw (p.1, p.2) c.in_err-edits-in-Edits.ensures.absences

pub returns-in_ok-edits-in-Edits-clause-absences : goal.returns-in_ok-edits-in-Edits-clause-absences
returns-in_ok-edits-in-Edits-clause-absences g c = c.in_ok-edits-in-Edits.ensures.absences

pub returns-in_ok-edits-in-Edits-clause-loads : goal.returns-in_ok-edits-in-Edits-clause-loads
returns-in_ok-edits-in-Edits-clause-loads g c =
    let pair = pair_of c.args.pair.now in
    let made = JudgePair pair (EditsBehind c.in_ok-edits-in-Edits.edits.items) in
    subst (λ (b : Behind). Loads program (g.S.Shelf.told c.args.shelf.now) (behind_plan b pair) (Ok made)) (sym c.in-Edits.is)
    (loads_on program (g.S.Shelf.told c.args.shelf.now) (EditList) c.in-Edits.name.now (λ value. Do (JudgePair pair (EditsBehind value))) (c.in_ok-edits-in-Edits.edits.items) (Ok made) c.in_ok-edits-in-Edits.ensures.loads refl)

pub returns-in_ok-edits-in-Edits-clause-ready : goal.returns-in_ok-edits-in-Edits-clause-ready
returns-in_ok-edits-in-Edits-clause-ready g c = c.in_ok-edits-in-Edits.ensures.ready
