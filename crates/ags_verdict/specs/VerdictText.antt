-- The line that a verdict is printed as. Words are six octal digits, locations and addresses four, other numbers plain decimals, and
-- an indicator is 0 or 1.
use Rattle.std.specs.Prelude.{ℕ, Bool, List, [], ◌++◌, codes, if◌then◌else◌}
use Rattle.std.specs.Fmt.{decimal}
use Rattle.ags_text.specs.Numeral.{octal4_text, octal6_text}
use Rattle.ags_domain.specs.ValueText.{value_text}
use Rattle.ags_domain.specs.declared.operands.Operands.{Operands}
use Rattle.ags_domain.specs.declared.values.Value.{Value}
use Rattle.ags_verdict.specs.declared.texts.Place.{Place}
use Rattle.ags_verdict.specs.declared.texts.Place.TheVariants.{Nowhere, Cell, Row, Case}
use Rattle.ags_verdict.specs.declared.texts.Rest.{Rest}
use Rattle.ags_verdict.specs.declared.texts.Rest.TheVariants.{Nothing, Address, Overflowing, Stored, Uncovered}
use Rattle.ags_verdict.specs.declared.verdicts.Refusal.{Refusal}
use Rattle.ags_verdict.specs.declared.verdicts.Refusal.TheVariants.{InitRange, StartUncovered, CodeUnknown, NoOrder, BadPort, FixedWrite, MayOverflow, CellRange, OutputRange, NotCovered}
use Rattle.ags_verdict.specs.declared.verdicts.Verdict.{Verdict}
use Rattle.ags_verdict.specs.declared.verdicts.Verdict.TheVariants.{Certified, Refused}

-- a row's number, with a case's word
abbrev pub at_text : (row word : ℕ) → List ℕ
at_text row word = codes " ROW " ++ decimal row ++ codes " WORD " ++ octal6_text word

-- operands
abbrev pub operands_text : Operands → List ℕ
operands_text o = codes " A " ++ octal6_text o.a ++ codes " Q " ++ octal6_text o.q ++ codes " M " ++ octal6_text o.m

-- an address, with a value
abbrev pub place_text : ℕ → Value → List ℕ
place_text address value = codes " AT " ++ octal4_text address ++ codes " VALUE " ++ value_text value

-- an index and an indicator before an order, and the location of a post
abbrev pub gap_text : ℕ → Bool → ℕ → List ℕ
gap_text x v next = codes " X " ++ decimal x ++ codes " V " ++ (if v then codes "1" else codes "0") ++ codes " NEXT " ++ octal4_text next

-- what a refusal tells after its place
abbrev pub rest_text : Rest → List ℕ
rest_text Nothing = []
rest_text (Address address) = codes " AT " ++ octal4_text address
rest_text (Overflowing operands) = operands_text operands
rest_text (Stored address value) = place_text address value
rest_text (Uncovered x v next) = gap_text x v next

-- where what is refused stands
abbrev pub where_text : Place → List ℕ
where_text Nowhere = []
where_text (Cell address word) = codes " " ++ octal4_text address ++ codes " " ++ octal6_text word
where_text (Row row) = codes " ROW " ++ decimal row
where_text (Case row word) = at_text row word

-- a refusal's number and its name, and what it tells
abbrev pub refusal_text : Refusal Value → List ℕ
refusal_text (InitRange address word) = codes "1 InitRange " ++ octal4_text address ++ codes " " ++ octal6_text word
refusal_text StartUncovered = codes "2 StartUncovered"
refusal_text (CodeUnknown row) = codes "3 CodeUnknown ROW " ++ decimal row
refusal_text (NoOrder row word) = codes "4 NoOrder" ++ at_text row word
refusal_text (BadPort row word) = codes "5 BadPort" ++ at_text row word
refusal_text (FixedWrite row word address) = codes "6 FixedWrite" ++ at_text row word ++ codes " AT " ++ octal4_text address
refusal_text (MayOverflow row word operands) = codes "7 MayOverflow" ++ at_text row word ++ operands_text operands
refusal_text (CellRange row word address value) = codes "8 CellRange" ++ at_text row word ++ place_text address value
refusal_text (OutputRange row word address value) = codes "9 OutputRange" ++ at_text row word ++ place_text address value
refusal_text (NotCovered row word x v next) = codes "10 NotCovered" ++ at_text row word ++ codes " X " ++ decimal x
    ++ codes " V " ++ (if v then codes "1" else codes "0") ++ codes " NEXT " ++ octal4_text next

-- its number and its name
abbrev pub refusal_name : Refusal Value → List ℕ
refusal_name (InitRange address word) = codes "1 InitRange"
refusal_name StartUncovered = codes "2 StartUncovered"
refusal_name (CodeUnknown row) = codes "3 CodeUnknown"
refusal_name (NoOrder row word) = codes "4 NoOrder"
refusal_name (BadPort row word) = codes "5 BadPort"
refusal_name (FixedWrite row word address) = codes "6 FixedWrite"
refusal_name (MayOverflow row word operands) = codes "7 MayOverflow"
refusal_name (CellRange row word address value) = codes "8 CellRange"
refusal_name (OutputRange row word address value) = codes "9 OutputRange"
refusal_name (NotCovered row word x v next) = codes "10 NotCovered"

-- its place
abbrev pub refusal_place : Refusal Value → Place
refusal_place (InitRange address word) = Cell address word
refusal_place StartUncovered = Nowhere
refusal_place (CodeUnknown row) = Row row
refusal_place (NoOrder row word) = Case row word
refusal_place (BadPort row word) = Case row word
refusal_place (FixedWrite row word address) = Case row word
refusal_place (MayOverflow row word operands) = Case row word
refusal_place (CellRange row word address value) = Case row word
refusal_place (OutputRange row word address value) = Case row word
refusal_place (NotCovered row word x v next) = Case row word

-- and what it tells after that
abbrev pub refusal_rest : Refusal Value → Rest
refusal_rest (FixedWrite row word address) = Address address
refusal_rest (MayOverflow row word operands) = Overflowing operands
refusal_rest (CellRange row word address value) = Stored address value
refusal_rest (OutputRange row word address value) = Stored address value
refusal_rest (NotCovered row word x v next) = Uncovered x v next
refusal_rest _ = Nothing

-- the line, without its line feed
abbrev pub verdict_text : Verdict Value → List ℕ
verdict_text (Certified rows cases) = codes "CERTIFIED ROWS " ++ decimal rows ++ codes " CASES " ++ decimal cases
verdict_text (Refused refusal) = codes "REFUSED " ++ refusal_text refusal
