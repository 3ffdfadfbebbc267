-- A machine file as a whole: what its document says is what the file says.
use Rattle.std.proofs.Common.{◌≡◌, ℕ, List, refl, inl, inr}
use Rattle.std.specs.Prelude.{codes, Some, None, Result, Ok, Err, IfErr, IfOk, IsUtf8}
use Rattle.std.specs.Str.{is_utf8}
use Rattle.std.proofs.lemmas.Bool.{cases_Bool}
use Rattle.std.proofs.lemmas.Str.{is_utf8-from_IsUtf8, IsUtf8-from_is_utf8}
use Rattle.toml.specs.Data.{Members, get_member}
use Rattle.toml.specs.Parse.{parse_document}
use Rattle.ags_ports.specs.declared.machines.Machine.{Machine}
use Rattle.ags_ports.specs.Port.{Registers}
use Rattle.ags_ports.specs.Machine.{standard_machine}
use Rattle.ags_machfile.specs.declared.mach_error.MachError.{MachError}
use Rattle.ags_machfile.specs.declared.mach_error.MachError.TheVariants.{NotToml, MissingKey, BadValue, SameCode, SamePort, NoMemory}
use Rattle.ags_machfile.specs.declared.keys.Key.TheVariants.{DedaIn, DedaOut}
use Rattle.ags_machfile.specs.OrderTable.{codes_in, times_in}
use Rattle.ags_machfile.specs.PortTable.{registers_in}
use Rattle.ags_machfile.specs.MachineFile.{document_of, machine_in, machine_of, address_in, IsRefused}

document_is : (bytes : List ℕ) (document : Members) → IsUtf8 bytes → parse_document bytes ≡ Some document → document_of bytes ≡ Some document
unfolding document_of
document_is bytes document utf8 is = rw (is_utf8-from_IsUtf8 bytes utf8) is

no_document : (bytes : List ℕ) → (IsUtf8 bytes → parse_document bytes ≡ None) → document_of bytes ≡ None
unfolding document_of
no_document bytes refused =
    elim (cases_Bool (is_utf8 bytes)) [
      | inl utf8 ↦ rw utf8 (refused (IsUtf8-from_is_utf8 bytes utf8))
      | inr other ↦ rw other refl
    ]

pub machine_of-document : (bytes : List ℕ) (document : Members) → IsUtf8 bytes → parse_document bytes ≡ Some document → machine_of bytes ≡ machine_in document
unfolding machine_of
machine_of-document bytes document utf8 is = rw (document_is bytes document utf8 is) refl

pub machine_of-none : (bytes : List ℕ) → (IsUtf8 bytes → parse_document bytes ≡ None) → machine_of bytes ≡ Err NotToml
unfolding machine_of
machine_of-none bytes refused = rw (no_document bytes refused) refl

-- the fault that the definition gives is why the file is refused
pub refused_for : (bytes : List ℕ) (error : MachError) → machine_of bytes ≡ Err error → IsRefused bytes error
refused_for bytes NotToml is = is
refused_for bytes (MissingKey which) is = is
refused_for bytes (BadValue which) is = is
refused_for bytes (SameCode first second) is = is
refused_for bytes (SamePort address) is = is
refused_for bytes NoMemory is = tt

pub read_ready : (bytes : List ℕ) (result : Result Machine MachError) → machine_of bytes ≡ result → IfOk result (λ machine. machine_of bytes ≡ Ok machine)
read_ready bytes (Ok machine) is = is
read_ready bytes (Err error) is = tt

pub read_refused : (bytes : List ℕ) (result : Result Machine MachError) → machine_of bytes ≡ result → IfErr result (IsRefused bytes)
read_refused bytes (Ok machine) is = tt
read_refused bytes (Err error) is = refused_for bytes error is

-- ---- the parts of a document, in the order in which they are read: the fault of one is the document's

pub codes_fault : (document : Members) (result : Result Machine MachError) (error fault : MachError) → result ≡ Err error → error ≡ fault
    → codes_in (get_member (codes "codes") document) ≡ Err fault → result ≡ machine_in document
unfolding machine_in
codes_fault document result error fault is same order_codes = rw (is, same, order_codes) refl

pub times_fault : (document : Members) (result : Result Machine MachError) (error fault : MachError) (table : List ℕ) → result ≡ Err error → error ≡ fault
    → codes_in (get_member (codes "codes") document) ≡ Ok table → times_in (get_member (codes "times") document) ≡ Err fault → result ≡ machine_in document
unfolding machine_in
times_fault document result error fault table is same order_codes order_times = rw (is, same, order_codes, order_times) refl

pub registers_fault : (document : Members) (result : Result Machine MachError) (error fault : MachError) (table times : List ℕ) → result ≡ Err error → error ≡ fault
    → codes_in (get_member (codes "codes") document) ≡ Ok table → times_in (get_member (codes "times") document) ≡ Ok times
    → registers_in document ≡ Err fault → result ≡ machine_in document
unfolding machine_in
registers_fault document result error fault table times is same order_codes order_times registers = rw (is, same, order_codes, order_times, registers) refl

-- the tables of a document
pub record HasTables (document : Members) (table times : List ℕ) (registers : Registers) : Type 0 where
  pub order_codes : codes_in (get_member (codes "codes") document) ≡ Ok table
  pub order_times : times_in (get_member (codes "times") document) ≡ Ok times
  pub in_registers : registers_in document ≡ Ok registers

pub deda_in_fault : (document : Members) (result : Result Machine MachError) (error fault : MachError) (table times : List ℕ) (registers : Registers) (usual : Machine)
    → result ≡ Err error → error ≡ fault → HasTables document table times registers → usual ≡ standard_machine
    → address_in DedaIn usual.deda_in (get_member (codes "deda_in") document) ≡ Err fault → result ≡ machine_in document
unfolding machine_in
deda_in_fault document result error fault table times registers usual is same has standard into =
    rw (is, same, has.order_codes, has.order_times, has.in_registers, rw standard at into) refl

pub deda_out_fault : (document : Members) (result : Result Machine MachError) (error fault : MachError) (table times : List ℕ) (registers : Registers) (usual : Machine) (deda_in : ℕ)
    → result ≡ Err error → error ≡ fault → HasTables document table times registers → usual ≡ standard_machine
    → address_in DedaIn usual.deda_in (get_member (codes "deda_in") document) ≡ Ok deda_in
    → address_in DedaOut usual.deda_out (get_member (codes "deda_out") document) ≡ Err fault → result ≡ machine_in document
unfolding machine_in
deda_out_fault document result error fault table times registers usual deda_in is same has standard into out =
    rw (is, same, has.order_codes, has.order_times, has.in_registers, rw standard at into, rw standard at out) refl

pub machine_made : (document : Members) (table times : List ℕ) (registers : Registers) (usual : Machine) (deda_in deda_out : ℕ)
    → HasTables document table times registers → usual ≡ standard_machine
    → address_in DedaIn usual.deda_in (get_member (codes "deda_in") document) ≡ Ok deda_in
    → address_in DedaOut usual.deda_out (get_member (codes "deda_out") document) ≡ Ok deda_out
    → Ok (record { codes = table; times = times; ports = registers; deda_in = deda_in; deda_out = deda_out }) ≡ machine_in document
unfolding machine_in
machine_made document table times registers usual deda_in deda_out has standard into out =
    rw (has.order_codes, has.order_times, has.in_registers, rw standard at into, rw standard at out) refl
