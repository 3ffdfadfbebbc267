-- A certificate that was read suits the registers that it was read for.
use Rattle.std.proofs.Common.{◌≡◌, ℕ, ◌+◌, ◌<◌, ◌≤◌, Bool, true, false, not, ◌&&◌, ◌==◌, refl, sym, ◌∙◌, subst, ⊎_elim, List, [], ◌∷◌, length, get_or, Option, Some, None, arith}
use Rattle.std.specs.List.{AllByRecursion, cons_option, list_any, filter_map, position_or_len}
use Rattle.std.specs.Option.{IfSome}
use Rattle.std.proofs.lemmas.Bool.{eq-eqb, cases_lt, lt-ltb}
use Rattle.std.proofs.lemmas.List.{get_or_past}
use Rattle.std.proofs.lemmas.List.Folds.{list_any_at}
use Rattle.ags_text.specs.Fault.{first_fault, or_later}
use Rattle.ags_domain.specs.Domain.{IsFull}
use Rattle.ags_domain.specs.Value.{value_meaning, value_held}
use Rattle.ags_domain.specs.declared.values.Value.{Value}
use Rattle.ags_ports.specs.Port.{Registers, position_of}
use Rattle.ags_ports.specs.declared.machines.Machine.{Machine}
use Rattle.ags_ports.specs.declared.registers.Port.{Port}
use Rattle.ags_row.specs.Limit.{Limiting, AreLimits, input_limit, output_limit}
use Rattle.ags_safe.specs.Certificate.{Suits}
use Rattle.ags_certtype.specs.Cert.{Stated as Cert_stated, certificate_of}
use Rattle.ags_certtext.specs.declared.cert_error.CertKind.{CertKind}
use Rattle.ags_certtext.specs.declared.cert_error.CertKind.TheVariants.{BadLine, Twice}
use Rattle.ags_certtext.specs.declared.statements.Entry.{Entry}
use Rattle.ags_certtext.specs.declared.statements.Statement.{Statement}
use Rattle.ags_certtext.specs.declared.statements.Statement.TheVariants.{Entry as EntryOf}
use Rattle.ags_certtext.specs.declared.kinds.Table.{Table}
use Rattle.ags_certtext.specs.declared.kinds.Table.TheVariants.{In, Out}
use Rattle.ags_certtext.specs.Statement.{entry_in, entries, value_at}
use Rattle.ags_certtext.specs.Kind.{is_second_start, last_kind, stands_in_order}
use Rattle.ags_certtext.specs.Fault.{fault_if, has_register, is_unmet, lacks_zero, reading_fault, statement_fault, fault_after}
use Rattle.ags_frame.specs.Fault.{version_of}
use Rattle.ags_frame.specs.Reading.{Stated, statement_of}
use Rattle.ags_certtext.specs.Reading.{Reading}
use Rattle.ags_certtext.specs.Text.{IsCertOf, IsLimit}
use Rattle.ags_certread.proofs.FaultLemmas.{after_none, clear, no_fault}
use Rattle.ags_certread.proofs.CheckLemmas.{is_false}
use Rattle.ags_certread.proofs.TableLemmas.{same_of}

-- an entry is one of an input register, and holds 0 where that holds its word once
abbrev pub InputSuits : Registers → Entry → Type 0
InputSuits ports entry = (has_register ports.inputs entry.address ≡ true) × (is_unmet ports.inputs entry ≡ false)

-- an entry is one of an output register
abbrev pub OutputSuits : Registers → Entry → Type 0
OutputSuits ports entry = has_register ports.outputs entry.address ≡ true

here_none : (number : ℕ) (found : Option CertKind) (later : Option (ℕ × CertKind)) → or_later number found later ≡ None → (found ≡ None) × (later ≡ None)
here_none number None later none = (refl, none)
here_none number (Some kind) later none = let clash : ◌≡◌ {A = Option (ℕ × CertKind)} (Some (number, kind)) None = none in absurd cc

pub first_none : (ports : Registers) (before : List Reading) (reading : Reading) (rest : List Reading) → first_fault (reading_fault ports) before (reading ∷ rest) ≡ None
    → (reading_fault ports before reading ≡ None) × (first_fault (reading_fault ports) (reading ∷ before) rest ≡ None)
unfolding first_fault
first_none ports before reading rest none = here_none (length before + 1) (reading_fault ports before reading) (first_fault (reading_fault ports) (reading ∷ before) rest) none

part_none : (ports : Registers) (before : List Statement) (statement : Statement) → fault_after ports before statement ≡ None → statement_fault ports before statement ≡ None
part_none ports before statement none =
    let first = clear (is_second_start (last_kind before) statement) Twice
    (fault_if (not (stands_in_order (last_kind before) statement)) BadLine (statement_fault ports before statement)) none in
    (clear (not (stands_in_order (last_kind before) statement)) BadLine (statement_fault ports before statement) first.1).1

-- What holds of the entry of a statement without a fault, where the statement is of one kind, holds of all entries of that kind.
module _ (ports : Registers) (table : Table) (Holds : Entry → Type 0)
    (holds : (before : List Statement) (statement : Statement) → statement_fault ports before statement ≡ None → IfSome (entry_in table statement) Holds) where
  with_one : (found : Option Entry) (others : List Entry) → IfSome found Holds → AllByRecursion Holds others → AllByRecursion Holds (cons_option found others)
  with_one None others here all = all
  with_one (Some entry) others here all = (here, all)

  entries_hold : (before readings : List Reading) → first_fault (reading_fault ports) before readings ≡ None
      → AllByRecursion Holds (entries table (filter_map statement_of readings))
  entries_hold before [] none = tt
  entries_hold before (Stated statement ∷ rest) none =
      let parts = first_none ports before (Stated statement) rest none in
      let here = holds (filter_map statement_of before) statement (part_none ports (filter_map statement_of before) statement
      (after_none ports (version_of before) (filter_map statement_of before) statement parts.0)) in
      with_one (entry_in table statement) (entries table (filter_map statement_of rest)) here (entries_hold (Stated statement ∷ before) rest parts.1)
  entries_hold before (reading ∷ rest) none = entries_hold (reading ∷ before) rest (first_none ports before reading rest none).1

input_suits : (ports : Registers) (before : List Statement) (statement : Statement) → statement_fault ports before statement ≡ None
    → IfSome (entry_in In statement) (InputSuits ports)
input_suits ports before (EntryOf In entry) none = let its = no_fault ports before In entry none in (its.place, its.zero)
input_suits ports before _ none = tt

output_suits : (ports : Registers) (before : List Statement) (statement : Statement) → statement_fault ports before statement ≡ None
    → IfSome (entry_in Out statement) (OutputSuits ports)
output_suits ports before (EntryOf Out entry) none = (no_fault ports before Out entry none).place
output_suits ports before _ none = tt

-- ---- what is found at an address

-- what holds of an entry holds of the value that is found at its address
abbrev pub HoldsOfFound : (Entry → Type 0) → ℕ → Option Value → Type 0
HoldsOfFound Holds address None = Unit {0}
HoldsOfFound Holds address (Some value) = Holds (record { address = address; value = Some value })

found_here : (Holds : Entry → Type 0) (entry : Entry) (address : ℕ) (value : Option Value) → entry.address ≡ address → entry.value ≡ value → Holds entry
    → HoldsOfFound Holds address value
found_here Holds entry address None here is holds = tt
found_here Holds entry address (Some value) here is holds =
    subst (λ (a : ℕ). Holds (record { address = a; value = Some value })) here
    (subst (λ (v : Option Value). Holds (record { address = entry.address; value = v })) is holds)

found_hold : (Holds : Entry → Type 0) (found : List Entry) (address : ℕ) → AllByRecursion Holds found → HoldsOfFound Holds address (value_at found address)
found_hold Holds [] address all = tt
found_hold Holds (entry ∷ others) address all = by_test (found_hold Holds others address all.1) (entry.address == address) refl
  where
    by_test : HoldsOfFound Holds address (value_at others address) → (b : Bool) → (entry.address == address) ≡ b
        → HoldsOfFound Holds address (value_at (entry ∷ others) address)
    by_test again true is = rw is (found_here Holds entry address entry.value (same_of entry.address address is) refl all.0)
    by_test again false is = rw is again

-- ---- what that says of the limits

any_below : {X : Type 0} (p : X → Bool) (xs : List X) → list_any p xs ≡ true → position_or_len p xs < length xs
any_below p [] some = absurd cc
any_below {X} p (x ∷ xs) some = by_test (λ too. any_below p xs too) (p x) refl
  where
    by_test : (list_any p xs ≡ true → position_or_len p xs < length xs) → (b : Bool) → p x ≡ b → position_or_len p (x ∷ xs) < length (x ∷ xs)
    by_test again true is = rw is (omega arith)
    by_test again false is = let less = again (rw is at some) in rw is (omega (arith, less))

never_placed : (ports : List Port) (address : ℕ) → has_register ports address ≡ true → position_of ports address ≡ None → ⊥
never_placed ports address has none =
    let less = any_below (λ (port : Port). port.address == address) ports has in
    let found : ◌≡◌ {A = Option ℕ} (Some (position_or_len (λ (port : Port). port.address == address) ports)) None = rw (lt-ltb _ _ less) at none in
    absurd cc

full_input : (ports : Registers) (address : ℕ) (value : Option Value) (limit : Value) → HoldsOfFound (InputSuits ports) address value → IsLimit value limit
    → position_of ports.inputs address ≡ None → IsFull value_meaning limit
full_input ports address None limit suits is none = is
full_input ports address (Some value) limit suits is none = absurd (never_placed ports.inputs address suits.0 none)

full_output : (ports : Registers) (address : ℕ) (value : Option Value) (limit : Value) → HoldsOfFound (OutputSuits ports) address value → IsLimit value limit
    → position_of ports.outputs address ≡ None → IsFull value_meaning limit
full_output ports address None limit suits is none = is
full_output ports address (Some value) limit suits is none = absurd (never_placed ports.outputs address suits none)

met : (once same held : Bool) → same ≡ true → once ≡ true → (same && (once && not held)) ≡ false → held ≡ true
met true true true h o is = refl
met true true false h o is = let clash : true ≡ false = is in absurd cc
met false same held h o is = let clash : false ≡ true = o in absurd cc
met true false held h o is = let clash : false ≡ true = h in absurd cc

no_port : (p : Port → Bool) (ports : List Port) (k : ℕ) (d : Port) → k < length ports → list_any p ports ≡ false → p (get_or ports k d) ≡ false
no_port p ports k d within none = is_false (p (get_or ports k d)) (λ is. let clash : false ≡ true = sym none ∙ list_any_at p ports k d within is in absurd cc)

holds_zero : (ports : Registers) (value : Option Value) (limit : Value) (k : ℕ) (d : Port) → k < length ports.inputs
    → HoldsOfFound (InputSuits ports) (get_or ports.inputs k d).address value → IsLimit value limit → (get_or ports.inputs k d).once ≡ true → value_held limit 0 ≡ true
holds_zero ports None limit k d within suits is once = is.every 0 (omega arith)
holds_zero ports (Some value) limit k d within suits is once =
    let port = get_or ports.inputs k d in
    let none = no_port (λ (other : Port). other.address == port.address && lacks_zero (Some other) (Some value)) ports.inputs k d within suits.1 in
    subst (λ (v : Value). value_held v 0 ≡ true) (sym is) (met port.once (port.address == port.address) (value_held value 0) (eq-eqb port.address port.address refl) once none)

past_every : (limits : Limiting Value) → AreLimits limits → (address : ℕ) → 4096 ≤ address → input_limit limits address ≡ limits.every
unfolding input_limit
past_every limits tables address past = get_or_past limits.inputs address limits.every (rw tables.inputs past)

pub suits : (machine : Machine) (text : List ℕ) (cert : Cert_stated) → IsCertOf machine.ports text cert → Suits value_meaning machine (certificate_of cert)
suits machine text cert is =
    let statements : List Statement = filter_map statement_of is.readings in
    let inputs = entries_hold machine.ports In (InputSuits machine.ports) (input_suits machine.ports) [] is.readings is.faultless in
    let outputs = entries_hold machine.ports Out (OutputSuits machine.ports) (output_suits machine.ports) [] is.readings is.faultless in
    record {
      inputs = λ address below none. full_input machine.ports address (value_at (entries In statements) address) (input_limit cert.limits address)
          (found_hold (InputSuits machine.ports) (entries In statements) address inputs) (is.is_stated.limits.inputs address below) none;
      outputs = λ address below none. full_output machine.ports address (value_at (entries Out statements) address) (output_limit cert.limits address)
          (found_hold (OutputSuits machine.ports) (entries Out statements) address outputs) (is.is_stated.limits.outputs address below) none;
      once = λ k d within once.
          let port = get_or machine.ports.inputs k d in ⊎_elim
          (λ below. holds_zero machine.ports (value_at (entries In statements) port.address) (input_limit cert.limits port.address) k d within
          (found_hold (InputSuits machine.ports) (entries In statements) port.address inputs) (is.is_stated.limits.inputs port.address below) once)
          (λ past. rw (past_every cert.limits is.is_stated.limits.tables port.address past) (is.is_stated.limits.every.every 0 (omega arith)))
          (cases_lt port.address 4096);
    }
