-- An entry in its table.
use Rattle.std.proofs.Common.{◌≡◌, ℕ, ◌<◌, false, true, List, ◌∷◌, length, reverse, set, Option, sym, ap, ◌∙◌}
use Rattle.std.specs.Prelude.{is_some}
use Rattle.ags_domain.specs.declared.values.Value.{Value}
use Rattle.ags_certtext.specs.declared.statements.Entry.{Entry}
use Rattle.ags_certtext.specs.declared.statements.Statement.{Statement}
use Rattle.ags_certtext.specs.declared.statements.Statement.TheVariants.{Entry as EntryOf}
use Rattle.ags_certtext.specs.declared.kinds.Table.{Table}
use Rattle.ags_certtext.specs.declared.kinds.Table.TheVariants.{Cell, Init, In, Out, At}
use Rattle.ags_certtext.specs.Statement.{entries, entries_before, entry_in, has_address, value_at}
use Rattle.ags_certread.specs.Before.{AreEntered, Gathered, IsTable}
use Rattle.ags_certread.specs.Gathering.{Gathering, IsPlaced, IsSized, is_stated_in, stated, with_entry_in}
use Rattle.ags_certread.proofs.TableLemmas.{IsTable-more, chosen_reversed, value_reversed}

-- what is kept has an entry at the address where the statements before have one
pub stated_before : (before : List Statement) (g : Gathering) → Gathered before g → (table : Table) (address : ℕ)
    → is_stated_in g table address ≡ has_address (entries_before table before) address
stated_before before g is Cell address = is.tables.entered.cells.has address
stated_before before g is Init address = is.tables.entered.init.has address
stated_before before g is In address = is.tables.entered.inputs.has address
stated_before before g is Out address = is.tables.entered.outputs.has address
stated_before before g is At address = is.rows.cells.has address

-- an entry without a fault is added to its table
entered : {found : List Entry} {table : List (Option Value)} {entry : Entry} {count : ℕ} → IsTable found table → length table ≡ count → entry.address < count
    → is_some (stated table entry.address) ≡ false → is_some entry.value ≡ true → IsTable (entry ∷ found) (set table entry.address entry.value)
entered {found} {table} {entry} is sized inside once some = IsTable-more found table entry is (rw sized inside) once some

-- so are the tables as the statements have them, with the entry
module _ (before : List Statement) (m : Gathering) (entry : Entry) (are : AreEntered before m) (sized : IsSized m) (some : is_some entry.value ≡ true) where
  cells_more : (table : Table) → IsPlaced m.counts (EntryOf table entry) → is_stated_in m table entry.address ≡ false
      → IsTable (entries Cell (EntryOf table entry ∷ before)) (with_entry_in m table entry).cells
  cells_more Cell inside once = entered are.cells sized.cells inside once some
  cells_more _ inside once = are.cells

  init_more : (table : Table) → IsPlaced m.counts (EntryOf table entry) → is_stated_in m table entry.address ≡ false
      → IsTable (entries Init (EntryOf table entry ∷ before)) (with_entry_in m table entry).init
  init_more Init inside once = entered are.init sized.init inside once some
  init_more _ inside once = are.init

  inputs_more : (table : Table) → IsPlaced m.counts (EntryOf table entry) → is_stated_in m table entry.address ≡ false
      → IsTable (entries In (EntryOf table entry ∷ before)) (with_entry_in m table entry).inputs
  inputs_more In inside once = entered are.inputs sized.inputs inside once some
  inputs_more _ inside once = are.inputs

  outputs_more : (table : Table) → IsPlaced m.counts (EntryOf table entry) → is_stated_in m table entry.address ≡ false
      → IsTable (entries Out (EntryOf table entry ∷ before)) (with_entry_in m table entry).outputs
  outputs_more Out inside once = entered are.outputs sized.outputs inside once some
  outputs_more _ inside once = are.outputs

  pub entry_entered : (table : Table) → IsPlaced m.counts (EntryOf table entry) → is_stated_in m table entry.address ≡ false
      → AreEntered (EntryOf table entry ∷ before) (with_entry_in m table entry)
  entry_entered table inside once = record {
    cells = cells_more table inside once;
    init = init_more table inside once;
    inputs = inputs_more table inside once;
    outputs = outputs_more table inside once;
  }

-- ---- the same statements, told from the first

turned : (of_table : Table) (before : List Statement) (table : List (Option Value)) → IsTable (entries of_table before) table
    → (address : ℕ) → stated table address ≡ value_at (entries of_table (reverse before)) address
turned of_table before table is address =
    is.at address ∙ sym (value_reversed (entries of_table before) address is.distinct) ∙ ap (λ (l : List Entry). value_at l address) (sym (chosen_reversed (entry_in of_table) before))

pub record AreTurned (statements : List Statement) (g : Gathering) : Type 0 where
  pub cells : (address : ℕ) → stated g.cells address ≡ value_at (entries Cell statements) address
  pub init : (address : ℕ) → stated g.init address ≡ value_at (entries Init statements) address
  pub inputs : (address : ℕ) → stated g.inputs address ≡ value_at (entries In statements) address
  pub outputs : (address : ℕ) → stated g.outputs address ≡ value_at (entries Out statements) address

pub entered_turned : (before : List Statement) (g : Gathering) → AreEntered before g → AreTurned (reverse before) g
entered_turned before g are = record {
  cells = turned Cell before g.cells are.cells;
  init = turned Init before g.init are.init;
  inputs = turned In before g.inputs are.inputs;
  outputs = turned Out before g.outputs are.outputs;
}
