-- All statements were gathered without a fault: what comes of them is the certificate that they state.
use Rattle.std.proofs.Common.{◌≡◌, ℕ, zero, suc, ◌+◌, ◌<◌, ◌≤◌, Bool, true, false, not, ◌&&◌, ◌==◌, refl, sym, ap, ◌∙◌, subst, List, [], ◌∷◌, ◌++◌, length, reverse, get_or, Option, Some, None, arith}
use Rattle.std.specs.Prelude.{nat_le, nat_lt, Result, Ok, Err, IfOk, IfSome, if◌then◌else◌}
use Rattle.std.specs.List.{All, list_any, filter_map}
use Rattle.std.proofs.lemmas.Bool.{eq-eqb}
use Rattle.std.proofs.lemmas.Bool.Decides.{nat_tests}
use Rattle.ags_domain.specs.Domain.{IsWithin}
use Rattle.ags_domain.specs.Value.{value_meaning}
use Rattle.ags_domain.specs.declared.values.Value.{Value}
use Rattle.ags_domain.specs.ListLaws.{and_left, and_right}
use Rattle.ags_row.specs.Cell.{cells_ascend, value_among}
use Rattle.ags_row.specs.Limit.{Limiting, cell_limit, input_limit, output_limit}
use Rattle.ags_row.specs.declared.ats.At.{At as Cell_at}
use Rattle.ags_row.specs.declared.rows.Row.{Row as Row_of}
use Rattle.ags_certtype.specs.Cert.{Stated, IsCert, rows_at}
use Rattle.ags_certtext.specs.declared.statements.RowLine.{RowLine}
use Rattle.ags_certtext.specs.declared.statements.Statement.{Statement}
use Rattle.ags_certtext.specs.declared.kinds.Kind.TheVariants as kind
use Rattle.ags_certtext.specs.Statement.{may_place, row_entries, row_links, is_within}
use Rattle.ags_certtext.specs.Fault.{is_outside}
use Rattle.ags_certtext.specs.Text.{IsLimit, RowOfLines, rows_of, AreRowsOf, IsWhatIsStated}
use Rattle.ags_certread.specs.Gathering.{Gathering, AreLimitsOf, IsCertOfGathering, IsFinished, stated}
use Rattle.ags_certread.proofs.CheckLemmas.{within_is}
use Rattle.ags_certread.proofs.TableLemmas.{apart, any_reversed, chosen_reversed}
use Rattle.ags_certread.proofs.EntryLemmas.{entered_turned}
use Rattle.ags_certread.proofs.RowLemmas.{rows_are, rows_of_reversed, with_open}
use Rattle.ags_certread.specs.Before.{Gathered, closed_rows, open_line}
use Rattle.ags_certread.specs.Sound.{IsSound, open_at}

-- ---- cells that ascend

least_is : (from address : ℕ) → nat_le from address ≡ true → from ≤ address
least_is from address h = grind (arith, nat_tests)

below_is : (address : ℕ) → nat_lt address 2048 ≡ true → address < 2048
below_is address h = grind (arith, nat_tests)

rest_ascends : (from : ℕ) (cell : Cell_at Value) (cells : List (Cell_at Value)) → cells_ascend from (cell ∷ cells) ≡ true → cells_ascend (cell.address + 1) cells ≡ true
rest_ascends from cell cells ascends = and_right (nat_lt cell.address 2048) (cells_ascend (cell.address + 1) cells)
    (and_right (nat_le from cell.address) (nat_lt cell.address 2048 && cells_ascend (cell.address + 1) cells) ascends)

first_below : (from : ℕ) (cell : Cell_at Value) (cells : List (Cell_at Value)) → cells_ascend from (cell ∷ cells) ≡ true → cell.address < 2048
first_below from cell cells ascends = below_is cell.address (and_left (nat_lt cell.address 2048) (cells_ascend (cell.address + 1) cells)
    (and_right (nat_le from cell.address) (nat_lt cell.address 2048 && cells_ascend (cell.address + 1) cells) ascends))

at_least : (from : ℕ) (cells : List (Cell_at Value)) → cells_ascend from cells ≡ true → (k : ℕ) (d : Cell_at Value) → k < length cells → from ≤ (get_or cells k d).address
at_least from [] ascends k d inside = absurd (omega (arith, inside))
at_least from (cell ∷ cells) ascends zero d inside =
    least_is from cell.address (and_left (nat_le from cell.address) (nat_lt cell.address 2048 && cells_ascend (cell.address + 1) cells) ascends)
at_least from (cell ∷ cells) ascends (suc k) d inside =
    let first = least_is from cell.address (and_left (nat_le from cell.address) (nat_lt cell.address 2048 && cells_ascend (cell.address + 1) cells) ascends) in
    let later = at_least (cell.address + 1) cells (rest_ascends from cell cells ascends) k d (omega (arith, inside)) in
    omega (arith, first, later)

all_below : (from : ℕ) (cells : List (Cell_at Value)) → cells_ascend from cells ≡ true → (k : ℕ) (d : Cell_at Value) → k < length cells → (get_or cells k d).address < 2048
all_below from [] ascends k d inside = absurd (omega (arith, inside))
all_below from (cell ∷ cells) ascends zero d inside = first_below from cell cells ascends
all_below from (cell ∷ cells) ascends (suc k) d inside = all_below (cell.address + 1) cells (rest_ascends from cell cells ascends) k d (omega (arith, inside))

taken : (b : Bool) (value : Value) (rest : Option Value) → b ≡ true → (if b then Some value else rest) ≡ Some value
taken b value rest is = rw is refl

left : (b : Bool) (value : Value) (rest : Option Value) → b ≡ false → (if b then Some value else rest) ≡ rest
left b value rest is = rw is refl

-- each cell is what stands at its address
pub found : (from : ℕ) (cells : List (Cell_at Value)) → cells_ascend from cells ≡ true → (k : ℕ) (d : Cell_at Value) → k < length cells
    → value_among cells (get_or cells k d).address ≡ Some ((get_or cells k d).value)
found from [] ascends k d inside = absurd (omega (arith, inside))
found from (cell ∷ cells) ascends zero d inside = taken (cell.address == cell.address) cell.value (value_among cells cell.address) (eq-eqb cell.address cell.address refl)
found from (cell ∷ cells) ascends (suc k) d inside =
    let later = at_least (cell.address + 1) cells (rest_ascends from cell cells ascends) k d (omega (arith, inside)) in
    left (cell.address == (get_or cells k d).address) cell.value (value_among cells (get_or cells k d).address)
    (apart cell.address (get_or cells k d).address (λ same. absurd (omega (arith, same, later))))
    ∙ found (cell.address + 1) cells (rest_ascends from cell cells ascends) k d (omega (arith, inside))

-- ---- a certificate comes of what is finished

not_false : (b : Bool) → not b ≡ false → b ≡ true
not_false true is = refl
not_false false is = let clash : true ≡ false = is in absurd cc

pub within_limit : (value : Value) (of_limit : Option Value) (limit : Value) → is_outside (Some value) of_limit ≡ false → IsLimit of_limit limit
    → IsWithin value_meaning value limit
within_limit value None limit inside is = λ w below held. is.every w below
within_limit value (Some bound) limit inside is =
    subst (λ (d : Value). IsWithin value_meaning value d) (sym is) (within_is value bound (not_false (is_within value bound) inside))

first_within : (value : Option Value) (of_limit : Option Value) (limit : Value) → is_outside value of_limit ≡ false → IsLimit of_limit limit
    → IfSome value (λ v. IsWithin value_meaning v limit)
first_within None of_limit limit inside is = tt
first_within (Some value) of_limit limit inside is = within_limit value of_limit limit inside is

cell_within : (g : Gathering) (limits : Limiting Value) (row : Row_of Value) → AreLimitsOf g limits
    → ((address : ℕ) → is_outside (value_among row.at address) (stated g.cells address) ≡ false)
    → All (λ (at : Cell_at Value). IsWithin value_meaning at.value (cell_limit limits at.address)) row.at
cell_within g limits row are inside k d within =
    let at = get_or row.at k d in
    within_limit at.value (stated g.cells at.address) (cell_limit limits at.address)
    (ap (λ (v : Option Value). is_outside v (stated g.cells at.address)) (sym (found 0 row.at row.ascending k d within)) ∙ inside at.address)
    (are.cells at.address (all_below 0 row.at row.ascending k d within))

pub cert_made : (g : Gathering) (limits : Limiting Value) → IsFinished g → AreLimitsOf g limits
    → IsCert (record { start = g.start; limits = limits; init = g.init; rows = g.rows })
cert_made g limits is are = record {
  limits = record { tables = are.tables; every = are.every };
  entries = is.sized.init;
  certificate = record {
    start = is.start;
    init = λ address below. first_within (stated g.init address) (stated g.cells address) (cell_limit limits address) (is.firsts address) (are.cells address below);
    cells = λ k d within. cell_within g limits (get_or g.rows k d) are (is.in_rows k d within);
    some_row = is.some_row;
  };
  few_rows = is.few_rows;
  few_at_one = is.few_at_one;
}

pub made_is : {E : Type 0} (g : Gathering) (limits : Limiting Value) (result : Result Stated E) → IsFinished g → AreLimitsOf g limits
    → IfOk result (λ cert. cert ≡ record { start = g.start; limits = limits; init = g.init; rows = g.rows }) → IfOk result (IsCertOfGathering g)
made_is g limits (Ok cert) is are same = subst (λ (made : Stated). IsCertOfGathering g made) (sym same)
    (record { is_cert = cert_made g limits is are; start = refl; limits = are; init = refl; rows = refl })
made_is g limits (Err error) is are same = tt

-- ---- what is sound and has its end is finished

few_each : (g : Gathering) → IsSound g → g.line ≡ None → (location : ℕ) → rows_at g.rows location ≤ 512
few_each g sound none location =
    let each : rows_at g.rows location + 0 ≡ get_or g.counts location 0 =
    ap (λ (l : Option RowLine). rows_at g.rows location + open_at l location) (sym none) ∙ sound.few.each location in
    let few = sound.few.few location in
    omega (arith, each, few)

pub finished : (g : Gathering) → IsSound g → g.last ≡ Some kind.End → IsFinished g
finished g sound end = record {
  sized = sound.sized;
  start = sound.start;
  some_row = sound.early.some_row end;
  few_rows = (let most = sound.few.most in omega (arith, most));
  few_at_one = few_each g sound (sound.early.ended end);
  firsts = sound.inside.firsts;
  in_rows = sound.inside.in_rows;
}

-- ---- what the statements say, told from the first

limit_turned : {stated_value entered : Option Value} (limit : Value) → stated_value ≡ entered → IsLimit stated_value limit → IsLimit entered limit
limit_turned limit same = subst (λ (v : Option Value). IsLimit v limit) same

place_turned : (before : List Statement) (location : ℕ) → list_any (λ (place : ℕ). place == location) (filter_map may_place before)
    ≡ list_any (λ (place : ℕ). place == location) (filter_map may_place (reverse before))
place_turned before location = sym (any_reversed (λ (place : ℕ). place == location) (filter_map may_place before))
    ∙ ap (λ (l : List ℕ). list_any (λ (place : ℕ). place == location) l) (sym (chosen_reversed may_place before))

all_rows : (before : List Statement) → open_line before ≡ None → reverse (closed_rows before) ≡ rows_of (reverse before)
all_rows before none =
    ap (λ (l : List RowOfLines). reverse l) (sym (rows_are [] [] before
    ∙ ap (λ (l : Option RowLine). with_open l (reverse (row_entries before) ++ []) (reverse (row_links before) ++ []) (closed_rows before)) none))
    ∙ sym (rows_of_reversed before)

pub what_is_stated : (before : List Statement) (g : Gathering) (cert : Stated) → Gathered before g → IsSound g → g.last ≡ Some kind.End → IsCertOfGathering g cert
    → IsWhatIsStated (reverse before) cert
what_is_stated before g cert gathered sound end is = let turned = entered_turned before g gathered.tables.entered in record {
  is_cert = is.is_cert;
  start = is.start ∙ gathered.tables.start;
  limits = record {
    tables = is.limits.tables;
    cells = λ address below. limit_turned (cell_limit cert.limits address) (turned.cells address) (is.limits.cells address below);
    inputs = λ address below. limit_turned (input_limit cert.limits address) (turned.inputs address) (is.limits.inputs address below);
    outputs = λ address below. limit_turned (output_limit cert.limits address) (turned.outputs address) (is.limits.outputs address below);
    places = λ location below. is.limits.places location below ∙ gathered.tables.places location ∙ place_turned before location;
    every = is.limits.every;
  };
  init = λ address below. ap (λ (l : List (Option Value)). get_or l address None) is.init ∙ turned.init address;
  rows = subst (λ (l : List RowOfLines). AreRowsOf l cert.rows) (all_rows before (sym gathered.rows.line ∙ sound.early.ended end))
      (subst (λ (rows : List (Row_of Value)). AreRowsOf (reverse (closed_rows before)) rows) (sym is.rows) gathered.rows.closed);
}
