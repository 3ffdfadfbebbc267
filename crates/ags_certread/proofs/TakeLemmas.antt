-- A statement without a fault is taken: what is kept then stands for it too, and is sound.
use Rattle.std.proofs.Common.{◌≡◌, ℕ, true, refl, sym, ap, ◌∙◌, subst, List, [], ◌∷◌, ◌++◌, Option, Some, None}
use Rattle.ags_ports.specs.Port.{Registers}
use Rattle.ags_row.specs.Cell.{cells_ascend}
use Rattle.ags_row.specs.declared.links.Link.{Link}
use Rattle.ags_certtext.specs.declared.statements.Entry.{Entry}
use Rattle.ags_certtext.specs.declared.statements.RowLine.{RowLine}
use Rattle.ags_certtext.specs.declared.statements.Statement.{Statement}
use Rattle.ags_certtext.specs.declared.statements.Statement.TheVariants.{Entry as EntryOf, Linked}
use Rattle.ags_certtext.specs.declared.kinds.Table.TheVariants.{At}
use Rattle.ags_certtext.specs.Fault.{fault_after}
use Rattle.ags_certtext.specs.Statement.{IsStatement}
use Rattle.ags_certread.specs.Before.{Gathered, Stands}
use Rattle.ags_certread.specs.Gathering.{Gathering, Closes, ClosesBefore, IsPlaced, IsSized, Takes, with_statement}
use Rattle.ags_certread.proofs.FaultLemmas.{EndsRow, IsFine, fine, last_row, placed}
use Rattle.ags_certread.proofs.GatherLemmas.{Gathered-more, Gathered-at, Gathered-link, shut}
use Rattle.ags_certread.proofs.SoundLemmas.{counts_shut, fine_shut, line_gone, sized_beside, sound_at, sound_link, sound_more, sound_shut}

module _ (before : List Statement) (g : Gathering) (stands : Stands before g) where
  other_taken : (statement : Statement) (m : Gathering) → IsStatement statement → IsFine g statement → Closes g.line g m
      → EndsRow statement → Stands (statement ∷ before) (with_statement m statement)
  other_taken statement m is fine_g closes ends =
      let fine_m = fine_shut g m g.line refl closes statement ends fine_g in
      let sound_m = sound_shut g m g.line refl closes stands.sound in
      let placed_m = subst (λ (counts : List ℕ). IsPlaced counts statement) (sym (counts_shut g m g.line closes)) (placed g statement fine_g is) in
      record {
        gathered = Gathered-more before m (shut before g m g.line refl closes stands.gathered stands.sound.early.no_cells stands.sound.early.no_link) sound_m.sized statement fine_m placed_m ends;
        sound = sound_more m sound_m (line_gone g m g.line refl closes) statement fine_m is placed_m ends;
      }

  at_taken : (entry : Entry) (m : Gathering) → IsFine g (EntryOf At entry) → m ≡ g → Stands (EntryOf At entry ∷ before) (with_statement m (EntryOf At entry))
  at_taken entry m fine_g same =
      subst (λ (h : Gathering). Stands (EntryOf At entry ∷ before) (with_statement h (EntryOf At entry))) (sym same) (record {
        gathered = Gathered-at before g entry stands.gathered stands.sound.sized fine_g;
        sound = sound_at g entry stands.sound fine_g (λ gone. stands.gathered.some_line (last_row g.last fine_g.order) gone);
      })

  link_taken : (link : Link) (m : Gathering) → IsStatement (Linked link) → IsFine g (Linked link) → m ≡ g → Stands (Linked link ∷ before) (with_statement m (Linked link))
  link_taken link m is fine_g same =
      subst (λ (h : Gathering). Stands (Linked link ∷ before) (with_statement h (Linked link))) (sym same) (record {
        gathered = Gathered-link before g link stands.gathered stands.sound.sized fine_g;
        sound = sound_link g link stands.sound fine_g is (λ gone. stands.gathered.some_line (last_row g.last fine_g.order) gone);
      })

  by_kind : (statement : Statement) (m : Gathering) → IsStatement statement → IsFine g statement → ClosesBefore statement g m
      → Stands (statement ∷ before) (with_statement m statement)
  by_kind (EntryOf At entry) m is fine_g closes = at_taken entry m fine_g closes
  by_kind (Linked link) m is fine_g closes = link_taken link m is fine_g closes
  by_kind statement m is fine_g closes = other_taken statement m is fine_g closes tt

  pub taken : (ports : Registers) (statement : Statement) (h : Gathering) → IsStatement statement → fault_after ports before statement ≡ None → Takes g statement h
      → Stands (statement ∷ before) h
  taken ports statement h is none takes =
      subst (λ (k : Gathering). Stands (statement ∷ before) k) (sym takes.added)
      (by_kind statement takes.between is (fine ports before g stands.gathered statement none) takes.closed)

-- ---- what a statement asks once the row before it is closed

counts_before : (statement : Statement) (g m : Gathering) → ClosesBefore statement g m → m.counts ≡ g.counts
counts_before (EntryOf At entry) g m same = ap (λ (h : Gathering). h.counts) same
counts_before (Linked link) g m same = ap (λ (h : Gathering). h.counts) same
counts_before statement g m closes = counts_shut g m g.line closes

pub placed_behind : (ports : Registers) (before : List Statement) (g : Gathering) → Gathered before g → (statement : Statement) (m : Gathering) → IsStatement statement
    → fault_after ports before statement ≡ None → ClosesBefore statement g m → IsPlaced m.counts statement
placed_behind ports before g gathered statement m is none closes =
    subst (λ (counts : List ℕ). IsPlaced counts statement) (sym (counts_before statement g m closes)) (placed g statement (fine ports before g gathered statement none) is)

sized_closed : (g m : Gathering) (line : Option RowLine) → Closes line g m → IsSized g → IsSized m
sized_closed g m None same sized = subst (λ (h : Gathering). IsSized h) (sym same) sized
sized_closed g m (Some line) closes sized = subst (λ (h : Gathering). IsSized h) (sym closes.2) (sized_beside g (g.rows ++ closes.0 ∷ []) None [] None sized)

pub sized_behind : (statement : Statement) (g m : Gathering) → ClosesBefore statement g m → IsSized g → IsSized m
sized_behind (EntryOf At entry) g m same sized = subst (λ (h : Gathering). IsSized h) (sym same) sized
sized_behind (Linked link) g m same sized = subst (λ (h : Gathering). IsSized h) (sym same) sized
sized_behind statement g m closes sized = sized_closed g m g.line closes sized

ascending_closed : (g m : Gathering) (line : Option RowLine) → Closes line g m → cells_ascend 0 g.row_cells ≡ true → cells_ascend 0 m.row_cells ≡ true
ascending_closed g m None same ascending = subst (λ (h : Gathering). cells_ascend 0 h.row_cells ≡ true) (sym same) ascending
ascending_closed g m (Some line) closes ascending = subst (λ (h : Gathering). cells_ascend 0 h.row_cells ≡ true) (sym closes.2) refl

pub ascending_behind : (statement : Statement) (g m : Gathering) → ClosesBefore statement g m → cells_ascend 0 g.row_cells ≡ true → cells_ascend 0 m.row_cells ≡ true
ascending_behind (EntryOf At entry) g m same ascending = subst (λ (h : Gathering). cells_ascend 0 h.row_cells ≡ true) (sym same) ascending
ascending_behind (Linked link) g m same ascending = subst (λ (h : Gathering). cells_ascend 0 h.row_cells ≡ true) (sym same) ascending
ascending_behind statement g m closes ascending = ascending_closed g m g.line closes ascending

-- ---- the version stays

version_closed : (g m : Gathering) (line : Option RowLine) → Closes line g m → m.version ≡ g.version
version_closed g m None closes = ap (λ (h : Gathering). h.version) closes
version_closed g m (Some line) closes = ap (λ (h : Gathering). h.version) closes.2

version_before : (statement : Statement) (g m : Gathering) → ClosesBefore statement g m → m.version ≡ g.version
version_before (EntryOf At entry) g m same = ap (λ (h : Gathering). h.version) same
version_before (Linked link) g m same = ap (λ (h : Gathering). h.version) same
version_before statement g m closes = version_closed g m g.line closes

version_added : (m : Gathering) (statement : Statement) → (with_statement m statement).version ≡ m.version
version_added m (EntryOf At entry) = refl
version_added m _ = refl

pub version_taken : (g : Gathering) (statement : Statement) (h : Gathering) → Takes g statement h → h.version ≡ g.version
version_taken g statement h takes = ap (λ (k : Gathering). k.version) takes.added ∙ version_added takes.between statement ∙ version_before statement g takes.between takes.closed
