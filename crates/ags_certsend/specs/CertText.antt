-- The text of a certificate: what its lines state, in their order, and each as it is written.
use Rattle.std.specs.Prelude.{ℕ, Bool, false, List, [], ◌∷◌, ◌++◌, map, get_or, Option, Some, None, is_some, if◌then◌else◌, codes}
use Rattle.std.specs.List.{filter_map, flat_map, list_any, range_with_len}
use Rattle.ags_domain.specs.Range.{range_ends}
use Rattle.ags_domain.specs.ValueText.{are_full}
use Rattle.ags_domain.specs.declared.values.Value.{Value}
use Rattle.ags_domain.specs.declared.values.Value.TheVariants.{Range, Words}
use Rattle.ags_row.specs.Limit.{cell_limit, input_limit, output_limit, is_named}
use Rattle.ags_row.specs.declared.ats.At.{At}
use Rattle.ags_row.specs.declared.links.Link.{Link}
use Rattle.ags_row.specs.declared.rows.Row.{Row}
use Rattle.ags_certtype.specs.Cert.{Stated}
use Rattle.ags_certtext.specs.declared.statements.Entry.{Entry}
use Rattle.ags_certtext.specs.declared.statements.RowLine.{RowLine}
use Rattle.ags_certtext.specs.declared.statements.Statement.{Statement}
use Rattle.ags_certtext.specs.declared.statements.Statement.TheVariants.{Start, Entry as EntryOf, May, Row as RowOf, Linked, End}
use Rattle.ags_certtext.specs.declared.kinds.Table.{Table}
use Rattle.ags_certtext.specs.declared.kinds.Table.TheVariants.{Cell, Init, In, Out, At as InRow}
use Rattle.ags_certsend.specs.Spelled.{statement_line}

-- the value is the range of all words
abbrev pub is_full : Value → Bool
is_full (Range range) = are_full (range_ends range)
is_full (Words set) = false

-- what is stated of an address
abbrev pub entry_of : ℕ → Value → Entry
entry_of address value = record { address = address; value = Some value }

-- the entry of a limit: a full one has none
abbrev pub limited : ℕ → Value → Option Entry
limited address limit = if is_full limit then None else Some (entry_of address limit)

-- the statement of an entry of a table, where there is one
abbrev pub stating : Table → Option Entry → Option Statement
stating table None = None
stating table (Some entry) = Some (EntryOf table entry)

-- what the certificate states at an address, kind by kind: of a cell's limit, of a cell at the start, which is stated where it is full
-- too, of an input register and of an output register; and whether it names the location
unfoldable pub cell_statement : Stated → ℕ → Option Statement
cell_statement cert address = stating Cell (limited address (cell_limit cert.limits address))

abbrev pub start_entry : ℕ → Option Value → Option Entry
start_entry address None = None
start_entry address (Some value) = Some (entry_of address value)

unfoldable pub init_statement : Stated → ℕ → Option Statement
init_statement cert address = stating Init (start_entry address (get_or cert.init address None))

unfoldable pub input_statement : Stated → ℕ → Option Statement
input_statement cert address = stating In (limited address (input_limit cert.limits address))

unfoldable pub output_statement : Stated → ℕ → Option Statement
output_statement cert address = stating Out (limited address (output_limit cert.limits address))

unfoldable pub place_statement : Stated → ℕ → Option Statement
place_statement cert location = if is_named cert.limits location then Some (May location) else None

-- the statements at so many addresses, in ascending order
unfoldable pub ascending : (ℕ → Option Statement) → (count : ℕ) → List Statement
ascending stated count = filter_map stated (range_with_len 0 count)

-- a row's line
abbrev pub row_line_of : Row Value → RowLine
row_line_of row = record { location = row.location; a = Some row.a; q = Some row.q; x = row.x; v = row.v }

-- a cell of a row
abbrev pub at_statement : At Value → Statement
at_statement cell = EntryOf InRow (entry_of cell.address cell.value)

-- a row's link, if it has one
abbrev pub link_statements : Option Link → List Statement
link_statements None = []
link_statements (Some link) = Linked link ∷ []

-- a row, then its cells, and then its link
unfoldable pub row_statements : Row Value → List Statement
row_statements row = RowOf (row_line_of row) ∷ (map at_statement row.at ++ link_statements row.link)

-- All that the certificate states: where it starts, the kinds by address, the rows in order, and that it ends.
unfoldable pub statements_of : Stated → List Statement
statements_of cert = Start cert.start
    ∷ (ascending (cell_statement cert) 2048
    ++ (ascending (init_statement cert) 2048
    ++ (ascending (input_statement cert) 4096
    ++ (ascending (output_statement cert) 4096
    ++ (ascending (place_statement cert) 4096
    ++ (flat_map row_statements cert.rows ++ End ∷ []))))))

-- some row has a link
unfoldable pub has_links : List (Row Value) → Bool
has_links rows = list_any (λ (row : Row Value). is_some row.link) rows

-- the version of the text: 2 exactly where some row has a link, and else 1
abbrev pub version_with : (links : Bool) → ℕ
version_with links = if links then 2 else 1

abbrev pub text_version : Stated → ℕ
text_version cert = version_with (has_links cert.rows)

-- the first line, by whether there are links
abbrev pub first_line : (links : Bool) → List ℕ
first_line links = if links then codes "AGSCERT 2\n" else codes "AGSCERT 1\n"

-- The text of a certificate: its first line, and a line for each statement. Each ends with a line feed.
unfoldable pub cert_text : Stated → List ℕ
cert_text cert = first_line (has_links cert.rows) ++ flat_map statement_line (statements_of cert)
