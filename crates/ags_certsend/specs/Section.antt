-- The text of a certificate in the parts that the writer makes.
use Rattle.std.specs.Prelude.{ℕ, List, ◌++◌, Option}
use Rattle.std.specs.List.{flat_map}
use Rattle.ags_domain.specs.declared.values.Value.{Value}
use Rattle.ags_row.specs.declared.ats.At.{At}
use Rattle.ags_row.specs.declared.links.Link.{Link}
use Rattle.ags_row.specs.declared.rows.Row.{Row}
use Rattle.ags_certtype.specs.Cert.{Stated}
use Rattle.ags_certtext.specs.declared.statements.Statement.{Statement}
use Rattle.ags_certsend.specs.Spelled.{statement_line}
use Rattle.ags_certsend.specs.CertText.{cell_statement, init_statement, input_statement, output_statement, place_statement, ascending, at_statement, link_statements, row_statements}
use Rattle.ags_certsend.specs.declared.sections.Section.{Section}
use Rattle.ags_certsend.specs.declared.sections.Section.TheVariants.{Cells, Starts, Inputs, Outputs, Places}

-- how many addresses a kind has
abbrev pub address_count : Section → ℕ
address_count Cells = 2048
address_count Starts = 2048
address_count Inputs = 4096
address_count Outputs = 4096
address_count Places = 4096

-- what a certificate states at an address
abbrev pub stated_at : Section → Stated → ℕ → Option Statement
stated_at Cells cert = cell_statement cert
stated_at Starts cert = init_statement cert
stated_at Inputs cert = input_statement cert
stated_at Outputs cert = output_statement cert
stated_at Places cert = place_statement cert

-- the lines of a kind
unfoldable pub section_text : Section → Stated → List ℕ
section_text section cert = flat_map statement_line (ascending (stated_at section cert) (address_count section))

-- the lines of all these kinds
unfoldable pub kinds_text : Stated → List ℕ
kinds_text cert = section_text Cells cert
    ++ (section_text Starts cert ++ (section_text Inputs cert ++ (section_text Outputs cert ++ section_text Places cert)))

-- the line of a cell of a row
abbrev pub cell_line : At Value → List ℕ
cell_line cell = statement_line (at_statement cell)

-- the line of a row's link, if it has one
abbrev pub link_lines : Option Link → List ℕ
link_lines link = flat_map statement_line (link_statements link)

-- the lines of a row
unfoldable pub row_lines : Row Value → List ℕ
row_lines row = flat_map statement_line (row_statements row)
