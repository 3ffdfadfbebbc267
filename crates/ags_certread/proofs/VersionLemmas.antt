-- A text of version 1 states no link, and what reads it reads none. Behind the law of `laws.rt` stands first_version.
use Rattle.std.proofs.Common.{◌≡◌, ℕ, Bool, true, false, not, refl, sym, ap, ◌∙◌, subst, List, [], ◌∷◌, ◌++◌, Option, None, arith}
use Rattle.std.specs.List.{All, filter_map}
use Rattle.std.proofs.lemmas.List.Elements.{All-nil, All-cons}
use Rattle.ags_text.specs.Fault.{first_fault}
use Rattle.ags_text.specs.Line.{LineAt, lines_of}
use Rattle.ags_text.specs.Reading.{AreReadingsBy}
use Rattle.ags_domain.specs.declared.values.Value.{Value}
use Rattle.ags_ports.specs.Port.{Registers}
use Rattle.ags_row.specs.declared.links.Link.{Link}
use Rattle.ags_row.specs.declared.rows.Row.{Row as Row_of}
use Rattle.ags_certtype.specs.Cert.{Stated as Cert_stated}
use Rattle.ags_frame.specs.Fault.{version_of}
use Rattle.ags_frame.specs.Reading.{Opening, Stated, Ended, statement_of}
use Rattle.ags_certtext.specs.declared.cert_error.CertKind.TheVariants.{BadLine}
use Rattle.ags_certtext.specs.declared.statements.Statement.{Statement}
use Rattle.ags_certtext.specs.declared.statements.Statement.TheVariants.{Entry as EntryOf, Row, Linked}
use Rattle.ags_certtext.specs.declared.kinds.Table.TheVariants.{Cell, At}
use Rattle.ags_certtext.specs.Fault.{fault_after, is_of_version, reading_fault}
use Rattle.ags_certtext.specs.Reading.{Reading, IsReading, AreLineReadings}
use Rattle.ags_certtext.specs.Statement.{row_links}
use Rattle.ags_certtext.specs.Text.{IsLinkOf, AreRowsOf, rows_of, IsCertOf}
use Rattle.ags_certtext.proofs.ReadingLaws.{one_first_reading}
use Rattle.ags_certread.specs.Version.{OpensFirstVersion, StatesNoLink}
use Rattle.ags_certread.proofs.FaultLemmas.{clear}
use Rattle.ags_certread.proofs.ReadLemmas.{opens_none}
use Rattle.ags_certread.proofs.SuitLemmas.{first_none}

not_false : (b : Bool) → not b ≡ false → b ≡ true
not_false true is = refl
not_false false is = let clash : true ≡ false = is in absurd cc

-- ---- the statements

of_version : (ports : Registers) (before : List Reading) (statement : Statement) → version_of before ≡ 1 → reading_fault ports before (Stated statement) ≡ None
    → is_of_version 1 statement ≡ true
of_version ports before statement first none =
    let clean = clear (not (is_of_version (version_of before) statement)) BadLine (fault_after ports (filter_map statement_of before) statement) none in
    ap (λ (version : ℕ). is_of_version version statement) (sym first) ∙ not_false (is_of_version (version_of before) statement) clean.0

more : (statement : Statement) (statements : List Statement) → is_of_version 1 statement ≡ true → StatesNoLink statements → StatesNoLink (statement ∷ statements)
more (Linked link) statements is rest = let clash : false ≡ true = is in absurd cc
more (EntryOf Cell entry) statements is rest = rest
more _ statements is rest = rest

further : (ports : Registers) (before : List Reading) (lines : List LineAt) (readings : List Reading) → version_of before ≡ 1 → AreReadingsBy IsReading lines readings
    → first_fault (reading_fault ports) before (readings ++ Ended ∷ []) ≡ None → StatesNoLink (filter_map statement_of (readings ++ Ended ∷ []))
further ports before [] [] first are none = tt
further ports before [] (reading ∷ readings) first are none = absurd are
further ports before (line ∷ lines) [] first are none = absurd are
further ports before (line ∷ lines) (Stated statement ∷ readings) first are none =
    let parts = first_none ports before (Stated statement) (readings ++ Ended ∷ []) none in
    more statement (filter_map statement_of (readings ++ Ended ∷ [])) (of_version ports before statement first parts.0)
    (further ports (Stated statement ∷ before) lines readings first are.1 parts.1)
further ports before (line ∷ lines) (reading ∷ readings) first are none =
    further ports (reading ∷ before) lines readings (opens_none line.bytes reading before are.0 ∙ first) are.1
    (first_none ports before reading (readings ++ Ended ∷ []) none).1

-- ---- the rows

no_links : (statements : List Statement) → StatesNoLink statements → row_links statements ≡ []
no_links [] none = refl
no_links (EntryOf At entry ∷ statements) none = no_links statements none
no_links (Linked link ∷ statements) none = absurd none
no_links (_ ∷ statements) none = refl

abbrev Unlinked : Row_of Value → Type 0
Unlinked row = row.link ≡ None

unlinked : (links : List Link) (link : Option Link) → links ≡ [] → IsLinkOf links link → link ≡ None
unlinked [] link none is = is
unlinked (first ∷ links) link none is = absurd cc

rows_unlinked : (statements : List Statement) (rows : List (Row_of Value)) → StatesNoLink statements → AreRowsOf (rows_of statements) rows → All Unlinked rows
rows_unlinked [] [] none are = All-nil Unlinked
rows_unlinked [] (row ∷ rows) none are = absurd are
rows_unlinked (Row line ∷ statements) [] none are = absurd are
rows_unlinked (Row line ∷ statements) (row ∷ rows) none are =
    All-cons Unlinked row rows (unlinked (row_links statements) row.link (no_links statements none) are.0.link) (rows_unlinked statements rows none are.1)
rows_unlinked (Linked link ∷ statements) rows none are = absurd none
rows_unlinked (EntryOf Cell entry ∷ statements) rows none are = rows_unlinked statements rows none are
rows_unlinked (_ ∷ statements) rows none are = rows_unlinked statements rows none are

-- ---- the text

of_lines : (ports : Registers) (lines : List LineAt) (readings : List Reading) → OpensFirstVersion lines → AreLineReadings lines readings
    → first_fault (reading_fault ports) [] (readings ++ Ended ∷ []) ≡ None → StatesNoLink (filter_map statement_of (readings ++ Ended ∷ []))
of_lines ports [] readings opens are none = absurd opens
of_lines ports (line ∷ lines) [] opens are none = absurd are
of_lines ports (line ∷ lines) (reading ∷ readings) opens are none =
    let same : reading ≡ Opening 1 = one_first_reading line.bytes reading (Opening 1) are.0 (record { first = omega arith; last = omega arith }, opens) in
    subst (λ (first : Reading). StatesNoLink (filter_map statement_of (first ∷ (readings ++ Ended ∷ [])))) (sym same)
    (further ports (Opening 1 ∷ []) lines readings refl are.1
    (first_none ports [] (Opening 1) (readings ++ Ended ∷ [])
    (subst (λ (first : Reading). first_fault (reading_fault ports) [] (first ∷ (readings ++ Ended ∷ [])) ≡ None) same none)).1)

pub first_version : (ports : Registers) (text : List ℕ) (cert : Cert_stated) → OpensFirstVersion (lines_of text) → IsCertOf ports text cert
    → All (λ (row : Row_of Value). row.link ≡ None) cert.rows
first_version ports text cert opens is =
    let whole = is.are_readings.whole in
    let none = subst (λ (readings : List Reading). first_fault (reading_fault ports) [] readings ≡ None) whole is.faultless in
    let states = of_lines ports (lines_of text) is.are_readings.of_lines opens is.are_readings.are none in
    rows_unlinked (filter_map statement_of is.readings) cert.rows
    (subst (λ (readings : List Reading). StatesNoLink (filter_map statement_of readings)) (sym whole) states) is.is_stated.rows
