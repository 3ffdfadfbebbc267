-- What the statements of a certificate say is one certificate.
use Rattle.std.proofs.Common.{◌≡◌, ◌≢◌, ℕ, ◌+◌, ◌<◌, ◌≤◌, Bool, true, false, ◌&&◌, ◌==◌, refl, sym, ap, ◌∙◌, subst, ⊎_elim, List, [], ◌∷◌, length, get_or, Option, Some, None, arith}
use Rattle.std.specs.Prelude.{nat_le, nat_lt, if◌then◌else◌}
use Rattle.std.specs.List.{filter_map}
use Rattle.std.proofs.Props.{props}
use Rattle.std.proofs.lemmas.Bool.{eq-eqb, cases_lt}
use Rattle.std.proofs.lemmas.Bool.Decides.{nat_tests}
use Rattle.std.proofs.lemmas.List.{same_lists, get_or_default}
use Rattle.ags_text.specs.Line.{lines_of}
use Rattle.ags_domain.specs.Domain.{IsFull}
use Rattle.ags_domain.specs.MeaningLaws.{value_lawful}
use Rattle.ags_domain.specs.Value.{value_meaning}
use Rattle.ags_domain.specs.declared.values.Value.{Value}
use Rattle.ags_domain.specs.ListLaws.{and_left, and_right}
use Rattle.ags_ports.specs.Port.{Registers}
use Rattle.ags_row.specs.Cell.{cells_ascend, value_among}
use Rattle.ags_row.specs.Flag.{some_flag}
use Rattle.ags_row.specs.Limit.{Limiting, cell_limit, input_limit, output_limit, is_named}
use Rattle.ags_row.specs.Link.{is_link}
use Rattle.ags_row.specs.declared.ats.At.{At as Cell_at}
use Rattle.ags_row.specs.declared.links.Link.{Link}
use Rattle.ags_row.specs.declared.rows.Row.{Row as Row_of}
use Rattle.ags_certtype.specs.Cert.{Stated as Cert_stated}
use Rattle.ags_certtext.specs.declared.statements.Statement.{Statement}
use Rattle.ags_frame.specs.Reading.{statement_of}
use Rattle.ags_certtext.specs.Reading.{Reading}
use Rattle.ags_certtext.specs.Text.{IsLimit, IsLinkOf, LimitsAreStated, RowOfLines, IsRowOfLines, AreRowsOf, rows_of, IsWhatIsStated, IsCertOf}
use Rattle.ags_certread.specs.OneMeaning.{HasNoTwoReadings}
use Rattle.ags_certread.proofs.TableLemmas.{apart}

-- ---- limits

full_one : (one other : Value) → IsFull value_meaning one → IsFull value_meaning other → one ≡ other
full_one one other is too = value_lawful.one one other (is.kept ∙ sym too.kept) (λ w below. is.every w below ∙ sym (too.every w below))

limit_one : (of_limit : Option Value) (one other : Value) → IsLimit of_limit one → IsLimit of_limit other → one ≡ other
limit_one (Some value) one other is too = is ∙ sym too
limit_one None one other is too = full_one one other is too

-- tables of one length with the same entries, whatever stands behind them
table_one : {E : Type 0} (count : ℕ) (one other : List E) (behind behind_other : E) → length one ≡ count → length other ≡ count
    → ((address : ℕ) → address < count → get_or one address behind ≡ get_or other address behind_other) → one ≡ other
table_one count one other behind behind_other long long_other same = same_lists one other (long ∙ sym long_other) (λ k d inside.
    get_or_default one k d behind inside
    ∙ same k (omega (arith, long, inside))
    ∙ get_or_default other k behind_other d (omega (arith, long, long_other, inside)))

module _ (statements : List Statement) (one other : Limiting Value) (is : LimitsAreStated statements one) (too : LimitsAreStated statements other) where
  cells_one : one.cells ≡ other.cells
  unfolding cell_limit
  cells_one = table_one 2048 one.cells other.cells one.every other.every is.tables.cells too.tables.cells
      (λ address below. limit_one _ (cell_limit one address) (cell_limit other address) (is.cells address below) (too.cells address below))

  inputs_one : one.inputs ≡ other.inputs
  unfolding input_limit
  inputs_one = table_one 4096 one.inputs other.inputs one.every other.every is.tables.inputs too.tables.inputs
      (λ address below. limit_one _ (input_limit one address) (input_limit other address) (is.inputs address below) (too.inputs address below))

  outputs_one : one.outputs ≡ other.outputs
  unfolding output_limit
  outputs_one = table_one 4096 one.outputs other.outputs one.every other.every is.tables.outputs too.tables.outputs
      (λ address below. limit_one _ (output_limit one address) (output_limit other address) (is.outputs address below) (too.outputs address below))

  places_one : one.places ≡ other.places
  unfolding is_named
  places_one = table_one 4096 one.places other.places false false is.tables.places too.tables.places
      (λ location below. is.places location below ∙ sym (too.places location below))

  pub limits_one : one ≡ other
  limits_one = λ k. record {
    cells = cells_one k;
    inputs = inputs_one k;
    outputs = outputs_one k;
    places = places_one k;
    every = full_one one.every other.every is.every too.every k;
  }

-- ---- cells that ascend

some_one : {X : Type 0} (one other : X) → Some one ≡ Some other → one ≡ other
some_one one other same = cc

not_some : {X : Type 0} (x : X) → ◌≡◌ {A = Option X} None (Some x) → ⊥
not_some x same = absurd cc

taken : (b : Bool) (value : Value) (rest : Option Value) → b ≡ true → (if b then Some value else rest) ≡ Some value
taken b value rest is = rw is refl

left : (b : Bool) (value : Value) (rest : Option Value) → b ≡ false → (if b then Some value else rest) ≡ rest
left b value rest is = rw is refl

least_is : (from address : ℕ) → nat_le from address ≡ true → from ≤ address
least_is from address h = grind (arith, nat_tests)

module _ (cell : Cell_at Value) (cells : List (Cell_at Value)) where
  -- what stands at the first cell's address
  here : value_among (cell ∷ cells) cell.address ≡ Some cell.value
  here = taken (cell.address == cell.address) cell.value (value_among cells cell.address) (eq-eqb cell.address cell.address refl)

  -- what stands at another address
  elsewhere : (address : ℕ) → cell.address ≢ address → value_among (cell ∷ cells) address ≡ value_among cells address
  elsewhere address other = left (cell.address == address) cell.value (value_among cells address) (apart cell.address address other)

  from_first : (from : ℕ) → cells_ascend from (cell ∷ cells) ≡ true → from ≤ cell.address
  from_first from ascends = least_is from cell.address (and_left (nat_le from cell.address) (nat_lt cell.address 2048 && cells_ascend (cell.address + 1) cells) ascends)

  rest_ascends : (from : ℕ) → cells_ascend from (cell ∷ cells) ≡ true → cells_ascend (cell.address + 1) cells ≡ true
  rest_ascends from ascends = and_right (nat_lt cell.address 2048) (cells_ascend (cell.address + 1) cells)
      (and_right (nat_le from cell.address) (nat_lt cell.address 2048 && cells_ascend (cell.address + 1) cells) ascends)

-- nothing stands below the address that the cells ascend from
none_below : (from : ℕ) (cells : List (Cell_at Value)) → cells_ascend from cells ≡ true → (address : ℕ) → address < from → value_among cells address ≡ None
none_below from [] ascends address below = refl
none_below from (cell ∷ cells) ascends address below =
    let least = from_first cell cells from ascends in
    elsewhere cell cells address (λ same. absurd (omega (arith, same, least, below)))
    ∙ none_below (cell.address + 1) cells (rest_ascends cell cells from ascends) address (omega (arith, least, below))

-- nothing stands below the first cell
none_before : (from : ℕ) (cell : Cell_at Value) (cells : List (Cell_at Value)) → cells_ascend from (cell ∷ cells) ≡ true
    → (address : ℕ) → address < cell.address → value_among (cell ∷ cells) address ≡ None
none_before from cell cells ascends address below =
    elsewhere cell cells address (λ same. absurd (omega (arith, same, below)))
    ∙ none_below (cell.address + 1) cells (rest_ascends cell cells from ascends) address (omega (arith, below))

abbrev SameAmong : (one other : List (Cell_at Value)) → Type 0
SameAmong one other = (address : ℕ) → value_among one address ≡ value_among other address

-- the first of the one cells doesn't stand below the first of the others
no_lower : (from : ℕ) (cell first : Cell_at Value) (cells firsts : List (Cell_at Value)) → cells_ascend from (first ∷ firsts) ≡ true
    → SameAmong (cell ∷ cells) (first ∷ firsts) → first.address ≤ cell.address
no_lower from cell first cells firsts ascends same = ⊎_elim
    (λ below. absurd (not_some cell.value (sym (none_before from first firsts ascends cell.address below) ∙ sym (same cell.address) ∙ here cell cells)))
    (λ least. least)
    (cases_lt cell.address first.address)

-- what stands after the first cells, which are at one address
rest_same : (cell first : Cell_at Value) (cells firsts : List (Cell_at Value)) → cell.address ≡ first.address
    → cells_ascend (cell.address + 1) cells ≡ true → cells_ascend (first.address + 1) firsts ≡ true
    → SameAmong (cell ∷ cells) (first ∷ firsts) → SameAmong cells firsts
rest_same cell first cells firsts one ascends too same address = ⊎_elim
    (λ below. none_below (cell.address + 1) cells ascends address below ∙ sym (none_below (first.address + 1) firsts too address (omega (arith, one, below))))
    (λ least. sym (elsewhere cell cells address (λ at. absurd (omega (arith, at, least)))) ∙ same address
    ∙ elsewhere first firsts address (λ at. absurd (omega (arith, at, one, least))))
    (cases_lt address (cell.address + 1))

cell_one : (cell first : Cell_at Value) (cells firsts : List (Cell_at Value)) → cell.address ≡ first.address → SameAmong (cell ∷ cells) (first ∷ firsts)
    → cell ≡ first
cell_one cell first cells firsts one same =
    let value : cell.value ≡ first.value = some_one cell.value first.value (sym (here cell cells) ∙ same cell.address
    ∙ ap (λ (a : ℕ). value_among (first ∷ firsts) a) one ∙ here first firsts) in
    λ k. record { address = one k; value = value k }

among_one : (from from_other : ℕ) (one other : List (Cell_at Value)) → cells_ascend from one ≡ true → cells_ascend from_other other ≡ true
    → SameAmong one other → one ≡ other
among_one from from_other [] [] ascends too same = refl
among_one from from_other [] (first ∷ firsts) ascends too same = absurd (not_some first.value (same first.address ∙ here first firsts))
among_one from from_other (cell ∷ cells) [] ascends too same = absurd (not_some cell.value (sym (same cell.address) ∙ here cell cells))
among_one from from_other (cell ∷ cells) (first ∷ firsts) ascends too same =
    let low = no_lower from_other cell first cells firsts too same in
    let high = no_lower from first cell firsts cells ascends (λ address. sym (same address)) in
    let at : cell.address ≡ first.address = omega (arith, low, high) in
    let rest = rest_ascends cell cells from ascends in
    let rest_too = rest_ascends first firsts from_other too in
    let firsts_one = cell_one cell first cells firsts at same in
    let rest_one = among_one (cell.address + 1) (first.address + 1) cells firsts rest rest_too (rest_same cell first cells firsts at rest rest_too same) in
    λ k. firsts_one k ∷ rest_one k

-- ---- rows

-- what a row holds
record Held : Type 0 where
  location : ℕ
  a : Value
  q : Value
  x : List Bool
  v : List Bool
  at : List (Cell_at Value)
  link : Option Link

-- what is known of what a row holds
record IsHeld (held : Held) : Type 0 where
  below : held.location < 4096
  some_index : some_flag held.x ≡ true
  some_indicator : some_flag held.v ≡ true
  indices : length held.x ≡ 8
  indicators : length held.v ≡ 2
  few : length held.at ≤ 64
  ascending : cells_ascend 0 held.at ≡ true
  linked : is_link held.link ≡ true

abbrev row_of : (held : Held) → IsHeld held → Row_of Value
row_of held is = record {
  location = held.location;
  a = held.a;
  q = held.q;
  x = held.x;
  v = held.v;
  at = held.at;
  link = held.link;
  below = is.below;
  some_index = is.some_index;
  some_indicator = is.some_indicator;
  indices = is.indices;
  indicators = is.indicators;
  few = is.few;
  ascending = is.ascending;
  linked = is.linked;
}

known_one : (held : Held) (is too : IsHeld held) → is ≡ too
known_one held is too =
    let below : IsProp (held.location < 4096) = hlevel props in
    let some_index : IsProp (some_flag held.x ≡ true) = hlevel props in
    let some_indicator : IsProp (some_flag held.v ≡ true) = hlevel props in
    let indices : IsProp (length held.x ≡ 8) = hlevel props in
    let indicators : IsProp (length held.v ≡ 2) = hlevel props in
    let few : IsProp (length held.at ≤ 64) = hlevel props in
    let ascending : IsProp (cells_ascend 0 held.at ≡ true) = hlevel props in
    let linked : IsProp (is_link held.link ≡ true) = hlevel props in
    λ k. record {
      below = below is.below too.below k;
      some_index = some_index is.some_index too.some_index k;
      some_indicator = some_indicator is.some_indicator too.some_indicator k;
      indices = indices is.indices too.indices k;
      indicators = indicators is.indicators too.indicators k;
      few = few is.few too.few k;
      ascending = ascending is.ascending too.ascending k;
      linked = linked is.linked too.linked k;
    }

held_one : (one other : Held) → one ≡ other → (is : IsHeld one) (too : IsHeld other) → row_of one is ≡ row_of other too
held_one one other same = subst (λ (other : Held). (is : IsHeld one) (too : IsHeld other) → row_of one is ≡ row_of other too) same
    (λ is too. ap (row_of one) (known_one one is too))

abbrev held_by : Row_of Value → Held
held_by row = record { location = row.location; a = row.a; q = row.q; x = row.x; v = row.v; at = row.at; link = row.link }

abbrev is_held : (row : Row_of Value) → IsHeld (held_by row)
is_held row = record {
  below = row.below;
  some_index = row.some_index;
  some_indicator = row.some_indicator;
  indices = row.indices;
  indicators = row.indicators;
  few = row.few;
  ascending = row.ascending;
  linked = row.linked;
}

-- there is one link of some lines
link_one : (links : List Link) (one other : Option Link) → IsLinkOf links one → IsLinkOf links other → one ≡ other
link_one [] one other is too = is ∙ sym too
link_one (only ∷ []) one other is too = is ∙ sym too
link_one (first ∷ second ∷ links) one other is too = absurd is

row_one : (lines : RowOfLines) (one other : Row_of Value) → IsRowOfLines lines one → IsRowOfLines lines other → one ≡ other
row_one lines one other is too =
    let location : one.location ≡ other.location = is.location ∙ sym too.location in
    let a : one.a ≡ other.a = some_one one.a other.a (is.a ∙ sym too.a) in
    let q : one.q ≡ other.q = some_one one.q other.q (is.q ∙ sym too.q) in
    let x : one.x ≡ other.x = is.x ∙ sym too.x in
    let v : one.v ≡ other.v = is.v ∙ sym too.v in
    let at : one.at ≡ other.at = among_one 0 0 one.at other.at one.ascending other.ascending (λ address. is.cells address ∙ sym (too.cells address)) in
    let link : one.link ≡ other.link = link_one lines.links one.link other.link is.link too.link in
    held_one (held_by one) (held_by other) (λ k. record { location = location k; a = a k; q = q k; x = x k; v = v k; at = at k; link = link k }) (is_held one) (is_held other)

pub rows_one : (lines : List RowOfLines) (one other : List (Row_of Value)) → AreRowsOf lines one → AreRowsOf lines other → one ≡ other
rows_one [] [] [] are too = refl
rows_one [] [] (row ∷ rows) are too = absurd too
rows_one [] (row ∷ rows) other are too = absurd are
rows_one (line ∷ lines) [] other are too = absurd are
rows_one (line ∷ lines) (row ∷ rows) [] are too = absurd too
rows_one (line ∷ lines) (row ∷ rows) (other ∷ others) are too =
    let first = row_one line row other are.0 too.0 in
    let rest = rows_one lines rows others are.1 too.1 in
    λ k. first k ∷ rest k

-- ---- the certificate

pub one_stated : (statements : List Statement) (one other : Cert_stated) → IsWhatIsStated statements one → IsWhatIsStated statements other → one ≡ other
one_stated statements one other is too =
    let start : one.start ≡ other.start = is.start ∙ sym too.start in
    let limits : one.limits ≡ other.limits = limits_one statements one.limits other.limits is.limits too.limits in
    let init : one.init ≡ other.init = table_one 2048 one.init other.init None None is.is_cert.entries too.is_cert.entries
    (λ address below. is.init address below ∙ sym (too.init address below)) in
    let rows : one.rows ≡ other.rows = rows_one (rows_of statements) one.rows other.rows is.rows too.rows in
    λ k. record { start = start k; limits = limits k; init = init k; rows = rows k }

pub one_cert : (text : List ℕ) → HasNoTwoReadings (lines_of text) → (ports : Registers) (one other : Cert_stated)
    → IsCertOf ports text one → IsCertOf ports text other → one ≡ other
one_cert text single ports one other is too =
    let same = single too.readings is.readings too.are_readings is.are_readings in
    one_stated (filter_map statement_of is.readings) one other is.is_stated
    (subst (λ (rs : List Reading). IsWhatIsStated (filter_map statement_of rs) other) same too.is_stated)
