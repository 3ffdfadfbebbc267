-- The kinds that stand by address have no fault, where the certificate suits the registers.
use Rattle.std.proofs.Common.{◌≡◌, ℕ, ◌<◌, ◌≤◌, ◌^◌, Bool, true, false, ◌==◌, ◌&&◌, ◌||◌, List, [], ◌∷◌, length, get_or, Option, Some, None, refl, sym, ap, ◌∙◌, inl, inr, arith}
use Rattle.std.specs.Prelude.{nat_le, nat_lt, All, if◌then◌else◌}
use Rattle.std.specs.Int.RustNames.{int_le}
use Rattle.std.specs.List.{list_any, filter_map, position_or_len}
use Rattle.std.proofs.lemmas.Bool.{cases_Bool, true≢false, and_parts, eqb-true}
use Rattle.std.proofs.lemmas.Bool.Decides.{nat_tests}
use Rattle.std.proofs.lemmas.Int.{ints}
use Rattle.std.proofs.lemmas.List.Elements.{All-weaker}
use Rattle.std.proofs.lemmas.List.Folds.{list_any_none}
use Rattle.ags_word.specs.Word.{val}
use Rattle.ags_domain.specs.Domain.{IsFull}
use Rattle.ags_domain.specs.LowBits.{all_ones}
use Rattle.ags_domain.specs.Value.{value_held, value_meaning}
use Rattle.ags_domain.specs.declared.values.Value.{Value}
use Rattle.ags_domain.specs.declared.values.Value.TheVariants.{Range, Words}
use Rattle.ags_ports.specs.Port.{Registers, position_of}
use Rattle.ags_ports.specs.declared.machines.Machine.{Machine}
use Rattle.ags_ports.specs.declared.registers.Port.{Port}
use Rattle.ags_row.specs.Limit.{cell_limit, input_limit, output_limit, is_named}
use Rattle.ags_safe.specs.Certificate.{Suits}
use Rattle.ags_certtype.specs.Cert.{Stated, IsCert, certificate_of}
use Rattle.ags_certtext.specs.Fault.{fault_in, has_register, lacks_zero, is_outside}
use Rattle.ags_certtext.specs.declared.kinds.Kind.TheVariants as kind
use Rattle.ags_certtext.specs.Statement.{entry_in, may_place, entries, has_address, value_at}
use Rattle.ags_certtext.specs.declared.statements.Entry.{Entry}
use Rattle.ags_certtext.specs.declared.statements.Statement.{Statement}
use Rattle.ags_certtext.specs.declared.statements.Statement.TheVariants.{Entry as EntryOf, May}
use Rattle.ags_certtext.specs.declared.kinds.Table.{Table}
use Rattle.ags_certtext.specs.declared.kinds.Table.TheVariants.{Cell, Init, In, Out}
use Rattle.ags_certsend.specs.CertText.{is_full, entry_of, stating, start_entry, cell_statement, init_statement, input_statement, output_statement, place_statement}
use Rattle.ags_certsend.proofs.PassLemmas.{in_order, kind_number, last_number, stand, lower_last, Chooses, fresh, cells_more, cells_other, not_outside, Keeps}

-- ---- full limits

least_is : (least : ℕ) → least < 2 ^ 18 → int_le (val least) (val (2 ^ 17)) ≡ true → least ≡ 2 ^ 17
unfolding val
least_is least below is = grind (arith, ints, nat_tests)

greatest_is : (greatest : ℕ) → greatest < 2 ^ 18 → int_le (val all_ones) (val greatest) ≡ true → greatest ≡ all_ones
unfolding val
greatest_is greatest below is = grind (arith, ints, nat_tests)

pub full_is_full : (value : Value) → IsFull value_meaning value → is_full value ≡ true
full_is_full (Words set) full = absurd (let kept = full.kept in cc)
full_is_full (Range range) full =
    let low = and_parts (int_le (val range.least) (val (2 ^ 17))) (int_le (val (2 ^ 17)) (val range.greatest)) (full.every (2 ^ 17) (omega arith)) in
    let high = and_parts (int_le (val range.least) (val all_ones)) (int_le (val all_ones) (val range.greatest)) (full.every all_ones (omega arith)) in
    rw (least_is range.least range.least_word low.0, greatest_is range.greatest range.greatest_word high.1) refl

-- ---- registers

or_false : (first second : Bool) → (first || second) ≡ false → (first ≡ false) × (second ≡ false)
or_false true second is = absurd (true≢false is)
or_false false second is = (refl, is)

no_place : (test : Port → Bool) (ports : List Port) → list_any test ports ≡ false → position_or_len test ports ≡ length ports
no_place test [] none = refl
no_place test (port ∷ ports) none =
    let parts = or_false (test port) (list_any test ports) none in
    let rest = no_place test ports parts.1 in
    rw parts.0 (omega (arith, rest))

not_less : (n : ℕ) → nat_lt n n ≡ false
not_less n = grind (arith, nat_tests)

no_register : (ports : List Port) (address : ℕ) → has_register ports address ≡ false → position_of ports address ≡ None
no_register ports address none = rw (no_place (λ (port : Port). port.address == address) ports none, not_less (length ports)) refl

pub registered : (ports : List Port) (address : ℕ) (limit : Value) → (position_of ports address ≡ None → IsFull value_meaning limit) → is_full limit ≡ false → has_register ports address ≡ true
registered ports address limit suits limited =
    elim (cases_Bool (has_register ports address)) [
      | inl is ↦ is
      | inr none ↦ absurd (true≢false (sym (full_is_full limit (suits (no_register ports address none))) ∙ limited))
    ]

held_zero : (cert : Stated) (address : ℕ) (port : Port) → (port.once ≡ true → value_held (input_limit cert.limits port.address) 0 ≡ true)
    → (port.address == address && lacks_zero (Some port) (Some (input_limit cert.limits address))) ≡ false
held_zero cert address port held =
    elim (cases_Bool (port.address == address)) [
      | inr other ↦ rw other refl
      | inl same ↦ elim (cases_Bool port.once) [
        | inr lasting ↦ rw (same, lasting) refl
        | inl once ↦
            let at : value_held (input_limit cert.limits address) 0 ≡ true = rw (eqb-true port.address address same) at (held once) in
            rw (same, once, at) refl
      ]
    ]

pub none_lacks : (ports : List Port) (cert : Stated) (address : ℕ) → All (λ (port : Port). port.once ≡ true → value_held (input_limit cert.limits port.address) 0 ≡ true) ports
    → list_any (λ (port : Port). port.address == address && lacks_zero (Some port) (Some (input_limit cert.limits address))) ports ≡ false
none_lacks ports cert address once = list_any_none (λ (port : Port). port.address == address && lacks_zero (Some port) (Some (input_limit cert.limits address))) ports
    (All-weaker (λ (port : Port). port.once ≡ true → value_held (input_limit cert.limits port.address) 0 ≡ true)
    (λ (port : Port). (port.address == address && lacks_zero (Some port) (Some (input_limit cert.limits address))) ≡ false) (held_zero cert address) ports once)

-- ---- the fault of a statement

pub not_fixed : (address : ℕ) → address < 2048 → nat_le 2048 address ≡ false
not_fixed address below = grind (arith, nat_tests)

module _ (ports : Registers) (version : ℕ) (before : List Statement) (address : ℕ) (value : Value) where
  cell_clear : last_number before ≤ 2 → address < 2048 → has_address (entries Cell before) address ≡ false → fault_in ports version before (EntryOf Cell (entry_of address value)) ≡ None
  cell_clear last below none = rw (in_order before kind.Cell 2 refl last (omega (arith, last)), not_fixed address below, none) refl

  init_clear : last_number before ≤ 3 → address < 2048 → has_address (entries Init before) address ≡ false
      → is_outside (Some value) (value_at (entries Cell before) address) ≡ false → fault_in ports version before (EntryOf Init (entry_of address value)) ≡ None
  init_clear last below none within = rw (in_order before kind.Init 3 refl last (omega (arith, last)), not_fixed address below, none, within) refl

  in_clear : last_number before ≤ 4 → has_register ports.inputs address ≡ true → has_address (entries In before) address ≡ false
      → list_any (λ (port : Port). port.address == address && lacks_zero (Some port) (Some value)) ports.inputs ≡ false → fault_in ports version before (EntryOf In (entry_of address value)) ≡ None
  in_clear last register none zero_held = rw (in_order before kind.In 4 refl last (omega (arith, last)), register, none, zero_held) refl

  out_clear : last_number before ≤ 5 → has_register ports.outputs address ≡ true → has_address (entries Out before) address ≡ false → fault_in ports version before (EntryOf Out (entry_of address value)) ≡ None
  out_clear last register none = rw (in_order before kind.Out 5 refl last (omega (arith, last)), register, none) refl

may_clear : (ports : Registers) (version : ℕ) (before : List Statement) (location : ℕ) → last_number before ≤ 6 → list_any (λ (other : ℕ). other == location) (filter_map may_place before) ≡ false
    → fault_in ports version before (May location) ≡ None
may_clear ports version before location last none = rw (in_order before kind.May 6 refl last (omega (arith, last)), none) refl

-- ---- what is chosen

same_address : (stated entry : Entry) → ◌≡◌ {A = Option Entry} (Some stated) (Some entry) → stated.address ≡ entry.address
same_address stated entry is = let same : stated ≡ entry = cc in ap (λ (e : Entry). e.address) same

pub chooses_cell : (statement : Statement) (entry : Entry) → entry_in Cell statement ≡ Some entry → (kind_number statement ≡ 2) × (stand statement ≡ entry.address)
unfolding stand
chooses_cell (EntryOf Cell stated) entry is = (refl, same_address stated entry is)
chooses_cell _ entry is = absurd cc

pub chooses_init : (statement : Statement) (entry : Entry) → entry_in Init statement ≡ Some entry → (kind_number statement ≡ 3) × (stand statement ≡ entry.address)
unfolding stand
chooses_init (EntryOf Init stated) entry is = (refl, same_address stated entry is)
chooses_init _ entry is = absurd cc

pub chooses_in : (statement : Statement) (entry : Entry) → entry_in In statement ≡ Some entry → (kind_number statement ≡ 4) × (stand statement ≡ entry.address)
unfolding stand
chooses_in (EntryOf In stated) entry is = (refl, same_address stated entry is)
chooses_in _ entry is = absurd cc

pub chooses_out : (statement : Statement) (entry : Entry) → entry_in Out statement ≡ Some entry → (kind_number statement ≡ 5) × (stand statement ≡ entry.address)
unfolding stand
chooses_out (EntryOf Out stated) entry is = (refl, same_address stated entry is)
chooses_out _ entry is = absurd cc

pub chooses_may : (statement : Statement) (place : ℕ) → may_place statement ≡ Some place → (kind_number statement ≡ 6) × (stand statement ≡ place)
unfolding stand
chooses_may (May location) place is = let same : location ≡ place = cc in (refl, same)
chooses_may _ place is = absurd cc

-- ---- what is stated at an address

pub limit_cases : (table : Table) (address : ℕ) (limit : Value) (full : Bool) (statement : Statement)
    → stating table (if full then None else Some (entry_of address limit)) ≡ Some statement → (full ≡ false) × (EntryOf table (entry_of address limit) ≡ statement)
limit_cases table address limit true statement is = absurd cc
limit_cases table address limit false statement is = (refl, cc)

pub start_cases : (address : ℕ) (value : Option Value) (statement : Statement) → stating Init (start_entry address value) ≡ Some statement
    → (stated : Value) × (value ≡ Some stated) × (EntryOf Init (entry_of address stated) ≡ statement)
start_cases address None statement is = absurd cc
start_cases address (Some value) statement is = (value, refl, cc)

pub place_cases : (location : ℕ) (named : Bool) (statement : Statement) → (if named then Some (May location) else None) ≡ Some statement → May location ≡ statement
place_cases location false statement is = absurd cc
place_cases location true statement is = cc

-- ---- the kinds

pub cell_keeps : (ports : Registers) (version : ℕ) (cert : Stated) → Keeps ports version cert 2 2048 (cell_statement cert)
unfolding Keeps Chooses cell_statement stand
cell_keeps ports version cert = λ before address statement below lower cells is.
    let limit = cell_limit cert.limits address in
    let parts = limit_cases Cell address limit (is_full limit) statement is in
    rw (← parts.1) (record {
      none = cell_clear ports version before address limit (lower_last 2 address before lower) below (fresh (entry_in Cell) (λ (entry : Entry). entry.address) 2 address chooses_cell before lower);
      kind_is = refl;
      place_is = refl;
      cells = cells_more cert address before cells;
    })

pub init_keeps : (ports : Registers) (version : ℕ) (cert : Stated) → IsCert cert → Keeps ports version cert 3 2048 (init_statement cert)
unfolding Keeps Chooses init_statement stand
init_keeps ports version cert good = λ before address statement below lower cells is.
    let parts = start_cases address (get_or cert.init address None) statement is in
    let within = rw parts.1 at (good.certificate.init address below) in
    rw (← parts.2) (record {
      none = init_clear ports version before address parts.0 (lower_last 3 address before lower) below (fresh (entry_in Init) (λ (entry : Entry). entry.address) 3 address chooses_init before lower)
          (not_outside cert before address parts.0 cells within);
      kind_is = refl;
      place_is = refl;
      cells = cells_other cert (EntryOf Init (entry_of address parts.0)) before refl cells;
    })

pub input_keeps : (machine : Machine) (version : ℕ) (cert : Stated) → Suits value_meaning machine (certificate_of cert) → Keeps machine.ports version cert 4 4096 (input_statement cert)
unfolding Keeps Chooses input_statement stand
input_keeps machine version cert suits = λ before address statement below lower cells is.
    let limit = input_limit cert.limits address in
    let parts = limit_cases In address limit (is_full limit) statement is in
    rw (← parts.1) (record {
      none = in_clear machine.ports version before address limit (lower_last 4 address before lower) (registered machine.ports.inputs address limit (suits.inputs address below) parts.0)
          (fresh (entry_in In) (λ (entry : Entry). entry.address) 4 address chooses_in before lower) (none_lacks machine.ports.inputs cert address suits.once);
      kind_is = refl;
      place_is = refl;
      cells = cells_other cert (EntryOf In (entry_of address limit)) before refl cells;
    })

pub output_keeps : (machine : Machine) (version : ℕ) (cert : Stated) → Suits value_meaning machine (certificate_of cert) → Keeps machine.ports version cert 5 4096 (output_statement cert)
unfolding Keeps Chooses output_statement stand
output_keeps machine version cert suits = λ before address statement below lower cells is.
    let limit = output_limit cert.limits address in
    let parts = limit_cases Out address limit (is_full limit) statement is in
    rw (← parts.1) (record {
      none = out_clear machine.ports version before address limit (lower_last 5 address before lower) (registered machine.ports.outputs address limit (suits.outputs address below) parts.0)
          (fresh (entry_in Out) (λ (entry : Entry). entry.address) 5 address chooses_out before lower);
      kind_is = refl;
      place_is = refl;
      cells = cells_other cert (EntryOf Out (entry_of address limit)) before refl cells;
    })

pub place_keeps : (ports : Registers) (version : ℕ) (cert : Stated) → Keeps ports version cert 6 4096 (place_statement cert)
unfolding Keeps Chooses place_statement stand
place_keeps ports version cert = λ before location statement below lower cells is.
    rw (← place_cases location (is_named cert.limits location) statement is) (record {
      none = may_clear ports version before location (lower_last 6 location before lower) (fresh may_place (λ (place : ℕ). place) 6 location chooses_may before lower);
      kind_is = refl;
      place_is = refl;
      cells = cells_other cert (May location) before refl cells;
    })
