-- What a certificate in hand states can be written: its addresses are below 4096, and no value is empty.
use Rattle.std.proofs.Common.{◌≡◌, ℕ, zero, suc, ◌+◌, ◌<◌, ◌≤◌, Bool, true, false, List, [], ◌∷◌, ◌++◌, map, get_or, Option, Some, None, refl, arith}
use Rattle.std.specs.Prelude.{nat_lt, if◌then◌else◌}
use Rattle.std.specs.List.{filter_map, flat_map, range_with_len, cons_option}
use Rattle.std.proofs.lemmas.Bool.{and_parts}
use Rattle.std.proofs.lemmas.Bool.Decides.{nat_tests}
use Rattle.ags_domain.specs.declared.values.Value.{Value}
use Rattle.ags_row.specs.Cell.{cells_ascend}
use Rattle.ags_row.specs.Limit.{cell_limit, input_limit, output_limit, is_named}
use Rattle.ags_row.specs.Link.{is_link}
use Rattle.ags_row.specs.declared.ats.At.{At}
use Rattle.ags_row.specs.declared.links.Link.{Link}
use Rattle.ags_row.specs.declared.rows.Row.{Row}
use Rattle.ags_certtype.specs.Cert.{Stated, IsCert}
use Rattle.ags_certtext.specs.declared.statements.Statement.{Statement}
use Rattle.ags_certtext.specs.declared.statements.Statement.TheVariants.{Entry as EntryOf, May, End}
use Rattle.ags_certtext.specs.declared.kinds.Table.{Table}
use Rattle.ags_certtext.specs.declared.kinds.Table.TheVariants.{Cell, In, Out}
use Rattle.ags_certtext.specs.Spelling.{is_offset}
use Rattle.ags_certsend.specs.CertText.{is_full, entry_of, stating, start_entry, cell_statement, init_statement, input_statement, output_statement, place_statement, ascending, at_statement, link_statements, row_statements, statements_of}
use Rattle.ags_certsend.proofs.LineLemmas.{IsGoodEntry, IsGood}

-- each of some statements can be written
pub AllGood : List Statement → Type 0
AllGood [] = Unit {0}
AllGood (statement ∷ statements) = IsGood statement × AllGood statements

pub good_head : (statement : Statement) (statements : List Statement) → AllGood (statement ∷ statements) → IsGood statement
unfolding AllGood
good_head statement statements good = good.0

pub good_tail : (statement : Statement) (statements : List Statement) → AllGood (statement ∷ statements) → AllGood statements
unfolding AllGood
good_tail statement statements good = good.1

good-append : (xs ys : List Statement) → AllGood xs → AllGood ys → AllGood (xs ++ ys)
unfolding AllGood
good-append [] ys first second = second
good-append (x ∷ xs) ys first second = (first.0, good-append xs ys first.1 second)

good_found : (found : Option Statement) (rest : List Statement) → ((statement : Statement) → found ≡ Some statement → IsGood statement) → AllGood rest → AllGood (cons_option found rest)
unfolding AllGood
good_found None rest good others = others
good_found (Some statement) rest good others = (good statement refl, others)

good_range : (stated : ℕ → Option Statement) → ((address : ℕ) → address < 4096 → (statement : Statement) → stated address ≡ Some statement → IsGood statement)
    → (from count : ℕ) → from + count ≤ 4096 → AllGood (filter_map stated (range_with_len from count))
unfolding AllGood
good_range stated each from zero short = tt
good_range stated each from (suc count) short =
    good_found (stated from) (filter_map stated (range_with_len (from + 1) count)) (each from (omega (arith, short))) (good_range stated each (from + 1) count (omega (arith, short)))

good_ascending : (stated : ℕ → Option Statement) → ((address : ℕ) → address < 4096 → (statement : Statement) → stated address ≡ Some statement → IsGood statement)
    → (count : ℕ) → count ≤ 4096 → AllGood (ascending stated count)
unfolding ascending
good_ascending stated each count short = good_range stated each 0 count (omega (arith, short))

good_entry : (address : ℕ) (value : Value) → address < 4096 → IsGoodEntry (entry_of address value)
good_entry address value below = record { below = below; value = value; stated = refl }

-- a limit, of each kind that takes an entry
good_limit : (table : Table) (address : ℕ) (limit : Value) (full : Bool) → address < 4096
    → (statement : Statement) → stating table (if full then None else Some (entry_of address limit)) ≡ Some statement → IsGood statement
good_limit table address limit true below statement is = absurd cc
good_limit table address limit false below statement is =
    let same : EntryOf table (entry_of address limit) ≡ statement = cc in
    rw (← same) (good_entry address limit below)

good_start : (table : Table) (address : ℕ) (value : Option Value) → address < 4096 → (statement : Statement) → stating table (start_entry address value) ≡ Some statement → IsGood statement
good_start table address None below statement is = absurd cc
good_start table address (Some value) below statement is =
    let same : EntryOf table (entry_of address value) ≡ statement = cc in
    rw (← same) (good_entry address value below)

good_place : (location : ℕ) (named : Bool) → location < 4096 → (statement : Statement) → (if named then Some (May location) else None) ≡ Some statement → IsGood statement
good_place location false below statement is = absurd cc
good_place location true below statement is =
    let same : May location ≡ statement = cc in
    rw (← same) below

cells_good : (cert : Stated) (address : ℕ) → address < 4096 → (statement : Statement) → cell_statement cert address ≡ Some statement → IsGood statement
unfolding cell_statement
cells_good cert address below statement is = good_limit Cell address (cell_limit cert.limits address) (is_full (cell_limit cert.limits address)) below statement is

inits_good : (cert : Stated) (address : ℕ) → address < 4096 → (statement : Statement) → init_statement cert address ≡ Some statement → IsGood statement
unfolding init_statement
inits_good cert address below statement is = good_start _ address (get_or cert.init address None) below statement is

inputs_good : (cert : Stated) (address : ℕ) → address < 4096 → (statement : Statement) → input_statement cert address ≡ Some statement → IsGood statement
unfolding input_statement
inputs_good cert address below statement is = good_limit In address (input_limit cert.limits address) (is_full (input_limit cert.limits address)) below statement is

outputs_good : (cert : Stated) (address : ℕ) → address < 4096 → (statement : Statement) → output_statement cert address ≡ Some statement → IsGood statement
unfolding output_statement
outputs_good cert address below statement is = good_limit Out address (output_limit cert.limits address) (is_full (output_limit cert.limits address)) below statement is

places_good : (cert : Stated) (address : ℕ) → address < 4096 → (statement : Statement) → place_statement cert address ≡ Some statement → IsGood statement
unfolding place_statement
places_good cert location below statement is = good_place location (is_named cert.limits location) below statement is

-- the cells of a row, and rows
pub cell_below : (from : ℕ) (cell : At Value) (cells : List (At Value)) → cells_ascend from (cell ∷ cells) ≡ true → (from ≤ cell.address) × (cell.address < 2048) × (cells_ascend (cell.address + 1) cells ≡ true)
cell_below from cell cells is = (grind (arith, nat_tests), grind (arith, nat_tests), grind (arith, nat_tests))

row_cells_good : (from : ℕ) (cells : List (At Value)) → cells_ascend from cells ≡ true → AllGood (map at_statement cells)
unfolding AllGood
row_cells_good from [] is = tt
row_cells_good from (cell ∷ cells) is =
    let parts = cell_below from cell cells is in
    (good_entry cell.address cell.value (omega (arith, parts.1)), row_cells_good (cell.address + 1) cells parts.2)

link_good : (link : Option Link) → is_link link ≡ true → AllGood (link_statements link)
unfolding AllGood
link_good None is = tt
link_good (Some link) is =
    let parts = and_parts (nat_lt link.address 2048) (is_offset link.offset) is in
    (record { below = below_four link.address parts.0; offset = parts.1 }, tt)
  where
    below_four : (address : ℕ) → nat_lt address 2048 ≡ true → address < 4096
    below_four address below = grind (arith, nat_tests)

row_good : (row : Row Value) → AllGood (row_statements row)
unfolding AllGood row_statements
row_good row = (
  record {
    below = row.below;
    a = row.a;
    q = row.q;
    a_is = refl;
    q_is = refl;
    indices = row.indices;
    indicators = row.indicators;
    some_index = row.some_index;
    some_indicator = row.some_indicator;
  },
  good-append (map at_statement row.at) (link_statements row.link) (row_cells_good 0 row.at row.ascending) (link_good row.link row.linked),
)

rows_good : (rows : List (Row Value)) → AllGood (flat_map row_statements rows)
unfolding AllGood
rows_good [] = tt
rows_good (row ∷ rows) = good-append (row_statements row) (flat_map row_statements rows) (row_good row) (rows_good rows)

pub statements_good : (cert : Stated) → IsCert cert → AllGood (statements_of cert)
unfolding AllGood statements_of
statements_good cert is = (
  is.certificate.start,
  good-append (ascending (cell_statement cert) 2048) _ (good_ascending (cell_statement cert) (cells_good cert) 2048 (omega arith))
      (good-append (ascending (init_statement cert) 2048) _ (good_ascending (init_statement cert) (inits_good cert) 2048 (omega arith))
      (good-append (ascending (input_statement cert) 4096) _ (good_ascending (input_statement cert) (inputs_good cert) 4096 (omega arith))
      (good-append (ascending (output_statement cert) 4096) _ (good_ascending (output_statement cert) (outputs_good cert) 4096 (omega arith))
      (good-append (ascending (place_statement cert) 4096) _ (good_ascending (place_statement cert) (places_good cert) 4096 (omega arith))
      (good-append (flat_map row_statements cert.rows) (End ∷ []) (rows_good cert.rows) (tt, tt)))))),
)
