use Rattle.std.proofs.Common.{◌≡◌, ◌∙◌, ap, sym, List, Option}
use Rattle.std.proofs.lemmas.Result.{IfOk-weaker}
use Rattle.ags_domain.specs.declared.values.Value.{Value}
use Rattle.ags_row.specs.declared.ats.At.{At as Cell_at}
use Rattle.ags_certtext.specs.declared.kinds.Table.{Table}
use Rattle.ags_certread.specs.Gathering.{gathering_of, with_entry, with_entry_in}
use Rattle.ags_certread.proofs.gatherer.Gatherer.enter.Goals as goal

pub returns-in-Cell : goal.returns-in-Cell
returns-in-Cell c =
    let g = gathering_of c.args.self.now in
    ap (λ (cells : List (Option Value)). record g { cells = cells }) c.put.ensures
    ∙ ap (λ (table : Table). with_entry_in g table c.args.entry.now) (sym c.in-Cell.is)

pub returns-in-Init : goal.returns-in-Init
returns-in-Init c =
    let g = gathering_of c.args.self.now in
    ap (λ (init : List (Option Value)). record g { init = init }) c.put-in-Init.ensures
    ∙ ap (λ (table : Table). with_entry_in g table c.args.entry.now) (sym c.in-Init.is)

pub returns-in-In : goal.returns-in-In
returns-in-In c =
    let g = gathering_of c.args.self.now in
    ap (λ (inputs : List (Option Value)). record g { inputs = inputs }) c.put-in-In.ensures
    ∙ ap (λ (table : Table). with_entry_in g table c.args.entry.now) (sym c.in-In.is)

pub returns-in-Out : goal.returns-in-Out
returns-in-Out c =
    let g = gathering_of c.args.self.now in
    ap (λ (outputs : List (Option Value)). record g { outputs = outputs }) c.put-in-Out.ensures
    ∙ ap (λ (table : Table). with_entry_in g table c.args.entry.now) (sym c.in-Out.is)

pub returns-in-At : goal.returns-in-At
returns-in-At c =
    let g = gathering_of c.args.self.now in
    IfOk-weaker c.add_cell.result (λ _. c.add_cell.new.cells.items ≡ with_entry c.args.entry.now c.args.entry.now.value c.args.self.now.row_cells.items)
    (λ _. record g { row_cells = c.add_cell.new.cells.items } ≡ with_entry_in g c.args.table c.args.entry.now)
    (λ _ added. ap (λ (cells : List (Cell_at Value)). record g { row_cells = cells }) added ∙ ap (λ (table : Table). with_entry_in g table c.args.entry.now) (sym c.in-At.is))
    c.add_cell.ensures.added
