-- How a statement is written: one blank between fields, values as they are printed.
use Rattle.std.specs.Prelude.{ℕ, List, ◌++◌, Option, Some, None, codes}
use Rattle.std.specs.Fmt.{signed_decimal}
use Rattle.ags_text.specs.Numeral.{octal4_text}
use Rattle.ags_domain.specs.ValueText.{value_text}
use Rattle.ags_domain.specs.declared.values.Value.{Value}
use Rattle.ags_row.specs.declared.links.Link.{Link}
use Rattle.ags_certtext.specs.Kind.{table_name}
use Rattle.ags_certtext.specs.Spelling.{flag_digits}
use Rattle.ags_certtext.specs.declared.statements.Entry.{Entry}
use Rattle.ags_certtext.specs.declared.statements.RowLine.{RowLine}
use Rattle.ags_certtext.specs.declared.statements.Statement.{Statement}
use Rattle.ags_certtext.specs.declared.statements.Statement.TheVariants.{Start, Entry as EntryOf, May, Row, Linked, End}

-- a value as it is printed; no certificate in hand states an empty range, which would be one from 1 to 0
abbrev pub stated_value : Option Value → List ℕ
stated_value (Some value) = value_text value
stated_value None = codes "RANGE 1 0"

-- an address and a value
abbrev pub entry_text : Entry → List ℕ
entry_text entry = octal4_text entry.address ++ codes " " ++ stated_value entry.value

-- an address and an offset
abbrev pub link_text : Link → List ℕ
link_text link = octal4_text link.address ++ codes " " ++ signed_decimal link.offset

-- a row, without its keyword: its location, A, Q, and the digits of the indices and of the indicators that may stand
abbrev pub row_text : RowLine → List ℕ
row_text row = octal4_text row.location ++ codes " A " ++ stated_value row.a ++ codes " Q " ++ stated_value row.q
    ++ codes " X " ++ flag_digits 48 row.x ++ codes " V " ++ flag_digits 48 row.v

-- the line of a statement, without its line feed
abbrev pub statement_text : Statement → List ℕ
statement_text (Start location) = codes "START " ++ octal4_text location
statement_text (EntryOf table entry) = table_name table ++ codes " " ++ entry_text entry
statement_text (May location) = codes "MAY " ++ octal4_text location
statement_text (Row row) = codes "ROW " ++ row_text row
statement_text (Linked link) = codes "LINK " ++ link_text link
statement_text End = codes "END"

-- the line of a statement, with its line feed
unfoldable pub statement_line : Statement → List ℕ
statement_line statement = statement_text statement ++ codes "\n"
