-- The rows that statements make, where the statements are told nearest first: those that are closed, and the one that is open.
use Rattle.std.proofs.Common.{◌≡◌, refl, sym, ap, ◌∙◌, subst, List, [], ◌∷◌, ◌++◌, reverse, Option, Some, None, append_assoc}
use Rattle.std.proofs.lemmas.List.{append-nil}
use Rattle.ags_domain.specs.declared.values.Value.{Value}
use Rattle.ags_row.specs.Cell.{value_among}
use Rattle.ags_row.specs.declared.ats.At.{At as Cell_at}
use Rattle.ags_row.specs.declared.links.Link.{Link}
use Rattle.ags_row.specs.declared.rows.Row.{Row as Row_of}
use Rattle.ags_certtext.specs.declared.statements.Entry.{Entry}
use Rattle.ags_certtext.specs.declared.statements.RowLine.{RowLine}
use Rattle.ags_certtext.specs.declared.statements.Statement.{Statement}
use Rattle.ags_certtext.specs.declared.statements.Statement.TheVariants.{Start, Entry as EntryOf, Row, Linked}
use Rattle.ags_certtext.specs.declared.kinds.Table.TheVariants.{At}
use Rattle.ags_certtext.specs.Statement.{row_entries, row_links, value_at}
use Rattle.ags_certtext.specs.Text.{RowOfLines, rows_of, IsLinkOf, IsRowOfLines, AreRowsOf, start_of}
use Rattle.ags_certread.specs.Before.{AreCells, AreGatheredRows, closed_rows, open_line, rows_back}
use Rattle.ags_certread.specs.Gathering.{IsClosed}
use Rattle.ags_certread.proofs.TableLemmas.{reverse-more, value_reversed}

-- ---- rows, nearest first

abbrev pub with_open : Option RowLine → List Entry → List Link → List RowOfLines → List RowOfLines
with_open None cells links rows = rows
with_open (Some line) cells links rows = record { line = line; cells = cells; links = links } ∷ rows

-- one thing more in a row, told from either end
turned : {X : Type 0} (x : X) (found xs : List X) → reverse found ++ x ∷ xs ≡ reverse (x ∷ found) ++ xs
turned {X} x found xs = sym (append_assoc (reverse found) (x ∷ []) xs) ∙ ap (λ (l : List X). l ++ xs) (sym (reverse-more x found))

pub rows_are : (cells : List Entry) (links : List Link) (before : List Statement)
    → rows_back cells links before ≡ with_open (open_line before) (reverse (row_entries before) ++ cells) (reverse (row_links before) ++ links) (closed_rows before)
rows_are cells links [] = refl
rows_are cells links (EntryOf At entry ∷ before) =
    rows_are (entry ∷ cells) links before
    ∙ ap (λ (l : List Entry). with_open (open_line before) l (reverse (row_links before) ++ links) (closed_rows before)) (turned entry (row_entries before) cells)
rows_are cells links (Linked link ∷ before) =
    rows_are cells (link ∷ links) before
    ∙ ap (λ (l : List Link). with_open (open_line before) (reverse (row_entries before) ++ cells) l (closed_rows before)) (turned link (row_links before) links)
rows_are cells links (_ ∷ before) = refl

-- ---- the same from the front

moved : {X : Type 0} (x : X) (xs tail : List X) → reverse (x ∷ xs) ++ tail ≡ reverse xs ++ x ∷ tail
moved {X} x xs tail = ap (λ (l : List X). l ++ tail) (reverse-more x xs) ∙ append_assoc (reverse xs) (x ∷ []) tail

pub rows_forward : (before tail : List Statement) → rows_of (reverse before ++ tail) ≡ reverse (rows_back (row_entries tail) (row_links tail) before) ++ rows_of tail
rows_forward [] tail = refl
rows_forward (EntryOf At entry ∷ before) tail = ap rows_of (moved (EntryOf At entry) before tail) ∙ rows_forward before (EntryOf At entry ∷ tail)
rows_forward (Linked link ∷ before) tail = ap rows_of (moved (Linked link) before tail) ∙ rows_forward before (Linked link ∷ tail)
rows_forward (Row line ∷ before) tail =
    ap rows_of (moved (Row line) before tail) ∙ rows_forward before (Row line ∷ tail)
    ∙ sym (moved (record { line = line; cells = row_entries tail; links = row_links tail }) (rows_back [] [] before) (rows_of tail))
rows_forward (statement ∷ before) tail = ap rows_of (moved statement before tail) ∙ rows_forward before (statement ∷ tail)

-- the rows of all statements
pub rows_of_reversed : (before : List Statement) → rows_of (reverse before) ≡ reverse (rows_back [] [] before)
rows_of_reversed before =
    ap rows_of (sym (append-nil (reverse before))) ∙ rows_forward before [] ∙ append-nil (reverse (rows_back [] [] before))

-- ---- one row more

pub rows-more : (lines : List RowOfLines) (rows : List (Row_of Value)) (last : RowOfLines) (row : Row_of Value)
    → AreRowsOf lines rows → IsRowOfLines last row → AreRowsOf (lines ++ last ∷ []) (rows ++ row ∷ [])
rows-more [] [] last row are is = (is, tt)
rows-more (lines ∷ others) (first ∷ rows) last row are is = (are.0, rows-more others rows last row are.1 is)
rows-more [] (first ∷ rows) last row are is = absurd are
rows-more (lines ∷ others) [] last row are is = absurd are

-- the same where no row is open
pub record AreShutRows (before : List Statement) (rows : List (Row_of Value)) (kept : Option RowLine) (kept_cells : List (Cell_at Value)) (kept_link : Option Link) : Type 0 where
  pub line : kept ≡ None
  pub cells : kept_cells ≡ []
  pub link : kept_link ≡ None
  pub closed : AreRowsOf (reverse (rows_back [] [] before)) rows

-- one link at most is the same from either end
link_turned : (links : List Link) (link : Option Link) → IsLinkOf links link → IsLinkOf (reverse links ++ []) link
link_turned [] link is = is
link_turned (only ∷ []) link is = is
link_turned (first ∷ second ∷ links) link is = absurd is

-- the row of the lines that are closed
closed_row : (line : RowLine) (found : List Entry) (cells : List (Cell_at Value)) (links : List Link) (link : Option Link) (row : Row_of Value)
    → AreCells found cells → IsLinkOf links link → IsClosed line cells link row
    → IsRowOfLines (record { line = line; cells = reverse found ++ []; links = reverse links ++ [] }) row
closed_row line found cells links link row are linked is = record {
  location = is.location;
  a = is.a;
  q = is.q;
  x = is.x;
  v = is.v;
  cells = λ address. ap (λ (l : List (Cell_at Value)). value_among l address) is.at ∙ are.at address ∙ sym (value_reversed found address are.distinct)
      ∙ ap (λ (l : List Entry). value_at l address) (sym (append-nil (reverse found)));
  link = subst (λ (its : Option Link). IsLinkOf (reverse links ++ []) its) (sym is.link) (link_turned links link linked);
}

pub shut_closed : (before : List Statement) (rows : List (Row_of Value)) (line : RowLine) (cells : List (Cell_at Value)) (link : Option Link) (row : Row_of Value)
    → AreGatheredRows before rows (Some line) cells link → IsClosed line cells link row → AreShutRows before (rows ++ row ∷ []) None [] None
shut_closed before rows line cells link row are is = record {
  line = refl;
  cells = refl;
  link = refl;
  closed =
      let last : RowOfLines = record { line = line; cells = reverse (row_entries before) ++ []; links = reverse (row_links before) ++ [] } in
      let all : rows_back [] [] before ≡ last ∷ closed_rows before =
      rows_are [] [] before
      ∙ ap (λ (l : Option RowLine). with_open l (reverse (row_entries before) ++ []) (reverse (row_links before) ++ []) (closed_rows before)) (sym are.line) in
      subst (λ (l : List RowOfLines). AreRowsOf l (rows ++ row ∷ [])) (sym (ap (λ (l : List RowOfLines). reverse l) all ∙ reverse-more last (closed_rows before)))
      (rows-more (reverse (closed_rows before)) rows last row are.closed (closed_row line (row_entries before) cells (row_links before) link row are.cells are.link is));
}

pub shut_open : (before : List Statement) (rows : List (Row_of Value)) (cells : List (Cell_at Value)) (link : Option Link)
    → AreGatheredRows before rows None cells link → cells ≡ [] → link ≡ None → AreShutRows before rows None cells link
shut_open before rows cells link are empty unlinked = record {
  line = refl;
  cells = empty;
  link = unlinked;
  closed = subst (λ (l : List RowOfLines). AreRowsOf (reverse l) rows)
      (sym (rows_are [] [] before
      ∙ ap (λ (l : Option RowLine). with_open l (reverse (row_entries before) ++ []) (reverse (row_links before) ++ []) (closed_rows before)) (sym are.line))) are.closed;
}

-- ---- where a run starts

pub start-more : (statements : List Statement) (last : Statement) → start_of (last ∷ []) ≡ 2048 → start_of (statements ++ last ∷ []) ≡ start_of statements
start-more [] last is = is
start-more (Start location ∷ statements) last is = refl
start-more (_ ∷ statements) last is = start-more statements last is

pub start_kept : (before : List Statement) (last : Statement) → start_of (last ∷ []) ≡ 2048 → start_of (reverse (last ∷ before)) ≡ start_of (reverse before)
start_kept before last is = ap start_of (reverse-more last before) ∙ start-more (reverse before) last is
