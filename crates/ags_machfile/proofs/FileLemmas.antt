-- A machine file as a whole: what it gives is a machine, and its fault is one of the file. The crates above cite:
--     machine_of-IsMachine    what a file gives is a machine
--     machine_of-fault        no file's fault is want of memory
use Rattle.std.proofs.Common.{◌≡◌, ◌≢◌, ℕ, List, [], ◌∷◌, true, length, get_or, codes, refl, sym, ap, ◌∙◌, inl, inr}
use Rattle.std.specs.Prelude.{Option, Some, None, option_map, Result, Ok, Err, Bool, nat_le}
use Rattle.std.specs.Option.{ok_or}
use Rattle.std.specs.Result.{result_err}
use Rattle.toml.specs.Data.{Data, boolean, Members, Items, no_members, get_member, as_table, as_array}
use Rattle.toml.specs.Parse.{parse_document}
use Rattle.toml.proofs.OnLiterals.{toml_on_literals}
use Rattle.std.proofs.lemmas.Bool.{cases_Bool}
use Rattle.ags_machfile.proofs.MachineFileLemmas.{machine_of-document}
use Rattle.ags_isa.specs.declared.orders.Order.{Order}
use Rattle.ags_isa.specs.Order.{order_name}
use Rattle.ags_ports.specs.declared.machines.Machine.{Machine}
use Rattle.ags_ports.specs.declared.registers.Port.{Port}
use Rattle.ags_ports.specs.Machine.{IsMachine, standard_machine}
use Rattle.ags_machfile.specs.declared.keys.Key.{Key}
use Rattle.ags_machfile.specs.declared.keys.Key.TheVariants.{Codes, Times, DedaIn, DedaOut, Code, Time}
use Rattle.ags_machfile.specs.declared.mach_error.MachError.{MachError}
use Rattle.ags_machfile.specs.declared.mach_error.MachError.TheVariants.{NotToml, BadValue, SamePort, NoMemory}
use Rattle.ags_machfile.specs.declared.port_tables.Direction.{Direction}
use Rattle.ags_machfile.specs.declared.port_tables.Direction.TheVariants.{Input, Output}
use Rattle.ags_machfile.specs.Value.{◌>>=◌, address_given, values_of}
use Rattle.ags_machfile.specs.OrderTable as table
use Rattle.ags_machfile.specs.OrderTable.{all_numbers, code_given, time_given, code_entry, time_entry, shared_pair, unshared, codes_in, times_in}
use Rattle.ags_machfile.specs.PortTable.{direction_key, entry_key, once_given, port_with, entry_port, ports_listed, ports_in}
use Rattle.ags_machfile.specs.MachineFile.{address_in, document_of, machine_in, machine_of}
use Rattle.ags_machfile.specs.Rule.{Fails, fault_of, first_of}
use Rattle.ags_machfile.proofs.NumbersLemmas.{all_numbers-err}
use Rattle.ags_machfile.proofs.PartLemmas.{err_not_ok, machine_in-gives, machine_in-fault}
use Rattle.ags_machfile.proofs.GivenLemmas.{codes_in-AreCodes, times_in-AreTimes}
use Rattle.ags_machfile.proofs.PortRuleLemmas.{ports_in-AreRegisters, ports_behind-err}

-- ---- what a file gives

pub machine_in-IsMachine : (document : Members) (machine : Machine) → machine_in document ≡ Ok machine → IsMachine machine
machine_in-IsMachine document machine is =
    let gives = machine_in-gives document machine is in
    record {
      codes = codes_in-AreCodes (get_member (codes "codes") document) machine.codes gives.order_codes;
      times = times_in-AreTimes (get_member (codes "times") document) machine.times gives.order_times;
      inputs = ports_in-AreRegisters Input (get_member (codes "input") document) machine.ports.inputs gives.inputs;
      outputs = ports_in-AreRegisters Output (get_member (codes "output") document) machine.ports.outputs gives.outputs;
    }

pub machine_of-IsMachine : (bytes : List ℕ) (machine : Machine) → machine_of bytes ≡ Ok machine → IsMachine machine
unfolding machine_of
machine_of-IsMachine bytes machine is = by_document (document_of bytes) is
  where
    by_document : (document : Option Members) → ok_or document NotToml >>= machine_in ≡ Ok machine → IsMachine machine
    by_document None h = absurd (err_not_ok NotToml machine h)
    by_document (Some document) h = machine_in-IsMachine document machine h

-- ---- its faults

number_at-fault : (given : Data → Option ℕ) (which : Key) (value : Option Data) → table.number_at given which value ≢ Err NoMemory
number_at-fault given which None h = cc
number_at-fault given which (Some value) h = by_given (given value) h
  where
    by_given : (found : Option ℕ) → ok_or found (BadValue which) ≡ Err NoMemory → ⊥
    by_given None h = cc
    by_given (Some n) h = cc

numbers-fault : (entry : Order → Result ℕ MachError) → ((order : Order) → entry order ≢ Err NoMemory) → all_numbers entry ≢ Err NoMemory
numbers-fault entry none h = let first = all_numbers-err entry NoMemory h in none first.order first.fails

code_numbers-fault : (document : Members) → all_numbers (code_entry document) ≢ Err NoMemory
code_numbers-fault document = numbers-fault (code_entry document) (λ order. number_at-fault code_given (Code order) (get_member (order_name order) document))

time_numbers-fault : (document : Members) → all_numbers (time_entry document) ≢ Err NoMemory
time_numbers-fault document = numbers-fault (time_entry document) (λ order. number_at-fault time_given (Time order) (get_member (order_name order) document))

codes-fault : (value : Option Data) → codes_in value ≢ Err NoMemory
codes-fault None h = cc
codes-fault (Some value) h = by_table (as_table value) h
  where
    by_pair : (numbers : List ℕ) (pair : Option (Order × Order)) → unshared numbers pair ≡ Err NoMemory → ⊥
    by_pair numbers None h = cc
    by_pair numbers (Some pair) h = cc

    by_numbers : (r : Result (List ℕ) MachError) → r ≢ Err NoMemory → r >>= (λ numbers. unshared numbers (shared_pair numbers)) ≡ Err NoMemory → ⊥
    by_numbers (Ok numbers) none h = by_pair numbers (shared_pair numbers) h
    by_numbers (Err fault) none h = none (same fault h)
      where
        same : (fault : MachError) → ◌≡◌ {A = Result (List ℕ) MachError} (Err fault) (Err NoMemory) → ◌≡◌ {A = Result (List ℕ) MachError} (Err fault) (Err NoMemory)
        same fault h = h

    by_table : (found : Option Members) → table.order_numbers Codes code_entry found >>= (λ numbers. unshared numbers (shared_pair numbers)) ≡ Err NoMemory → ⊥
    by_table None h = cc
    by_table (Some document) h = by_numbers (all_numbers (code_entry document)) (code_numbers-fault document) h

times-fault : (value : Option Data) → times_in value ≢ Err NoMemory
times-fault None h = cc
times-fault (Some value) h = by_table (as_table value) h
  where
    by_table : (found : Option Members) → table.order_numbers Times time_entry found ≡ Err NoMemory → ⊥
    by_table None h = cc
    by_table (Some document) h = time_numbers-fault document h

port_with-fault : (which : Key) (address : Option (Option ℕ)) (once : Option Bool) → port_with which address once ≢ Err NoMemory
port_with-fault which None None h = cc
port_with-fault which None (Some o) h = cc
port_with-fault which (Some None) once h = cc
port_with-fault which (Some (Some a)) None h = cc
port_with-fault which (Some (Some a)) (Some o) h = cc

entry_port-fault : (direction : Direction) (position : ℕ) (found : Option Members) → entry_port direction position found ≢ Err NoMemory
entry_port-fault direction position None h = cc
entry_port-fault direction position (Some document) h =
    port_with-fault (entry_key direction position) (option_map address_given (get_member (codes "address") document)) (once_given direction document) h

no_failure : (direction : Direction) (earlier : List Port) (entry : Data) → Fails direction earlier entry NoMemory → ⊥
no_failure direction earlier entry (inl own) = entry_port-fault direction _ (as_table entry) own
no_failure direction earlier entry (inr twice) = no_port twice.0.address twice.3
  where
    no_port : (address : ℕ) → NoMemory ≡ SamePort address → ⊥
    no_port address h = cc

ports-fault : (direction : Direction) (value : Option Data) → ports_in direction value ≢ Err NoMemory
ports-fault direction None h = cc
ports-fault direction (Some value) h = by_array (as_array value) h
  where
    too_many : ◌≡◌ {A = Result (List Port) MachError} (Err (BadValue (direction_key direction))) (Err NoMemory) → ⊥
    too_many h = cc

    by_array : (found : Option Items) → ports_listed direction found ≡ Err NoMemory → ⊥
    by_array None h = cc
    by_array (Some items) h =
        elim (cases_Bool (nat_le (length (values_of items)) 32)) [
          | inl few ↦
              let bad = ports_behind-err direction (values_of items) NoMemory (rw few at h) in
              no_failure direction bad.earlier (get_or (values_of items) bad.position (boolean true)) (bad.fails (boolean true))
          | inr many ↦ too_many (rw many at h)
        ]

address-fault : (which : Key) (usual : ℕ) (value : Option Data) → address_in which usual value ≢ Err NoMemory
address-fault which usual None h = cc
address-fault which usual (Some value) h = by_given (address_given value) h
  where
    by_given : (found : Option ℕ) → ok_or found (BadValue which) ≡ Err NoMemory → ⊥
    by_given None h = cc
    by_given (Some n) h = cc

-- the first of several faults is one of them
first_of-none : (fault : Option MachError) (faults : List (Option MachError)) → fault ≢ Some NoMemory → first_of faults ≢ Some NoMemory → first_of (fault ∷ faults) ≢ Some NoMemory
first_of-none None faults one others h = others h
first_of-none (Some fault) faults one others h = one h

first_of-six : (a b c d e f : Option MachError) → a ≢ Some NoMemory → b ≢ Some NoMemory → c ≢ Some NoMemory → d ≢ Some NoMemory → e ≢ Some NoMemory → f ≢ Some NoMemory
    → first_of (a ∷ b ∷ c ∷ d ∷ e ∷ f ∷ []) ≢ Some NoMemory
first_of-six a b c d e f na nb nc nd ne nf =
    first_of-none a (b ∷ c ∷ d ∷ e ∷ f ∷ []) na
    (first_of-none b (c ∷ d ∷ e ∷ f ∷ []) nb
    (first_of-none c (d ∷ e ∷ f ∷ []) nc (first_of-none d (e ∷ f ∷ []) nd (first_of-none e (f ∷ []) ne (first_of-none f [] nf nothing)))))
  where
    nothing : None ≡ Some NoMemory → ⊥
    nothing h = cc

fault_of-none : {A : Type 0} (r : Result A MachError) → r ≢ Err NoMemory → fault_of r ≢ Some NoMemory
fault_of-none (Ok x) none h = cc
fault_of-none (Err fault) none h = none (ap Err (same fault h))
  where
    same : (fault : MachError) → Some fault ≡ Some NoMemory → fault ≡ NoMemory
    same fault h = cc

document-fault : (document : Members) → machine_in document ≢ Err NoMemory
document-fault document h =
    let cs = codes_in (get_member (codes "codes") document) in
    let ts = times_in (get_member (codes "times") document) in
    let is = ports_in Input (get_member (codes "input") document) in
    let os = ports_in Output (get_member (codes "output") document) in
    let i = address_in DedaIn standard_machine.deda_in (get_member (codes "deda_in") document) in
    let o = address_in DedaOut standard_machine.deda_out (get_member (codes "deda_out") document) in
    first_of-six (fault_of cs) (fault_of ts) (fault_of is) (fault_of os) (fault_of i) (fault_of o)
    (fault_of-none cs (codes-fault (get_member (codes "codes") document)))
    (fault_of-none ts (times-fault (get_member (codes "times") document)))
    (fault_of-none is (ports-fault Input (get_member (codes "input") document)))
    (fault_of-none os (ports-fault Output (get_member (codes "output") document)))
    (fault_of-none i (address-fault DedaIn standard_machine.deda_in (get_member (codes "deda_in") document)))
    (fault_of-none o (address-fault DedaOut standard_machine.deda_out (get_member (codes "deda_out") document)))
    (sym (machine_in-fault document) ∙ ap result_err h)

pub machine_of-fault : (bytes : List ℕ) → machine_of bytes ≢ Err NoMemory
unfolding machine_of
machine_of-fault bytes h = by_document (document_of bytes) h
  where
    by_document : (document : Option Members) → ok_or document NotToml >>= machine_in ≡ Err NoMemory → ⊥
    by_document None h = cc
    by_document (Some document) h = document-fault document h

pub empty_document : machine_in no_members ≡ Ok standard_machine
unfolding machine_in
empty_document = refl

no_byte : parse_document [] ≡ Some no_members
unfolding toml_on_literals
no_byte = refl

pub empty_file : machine_of [] ≡ Ok standard_machine
empty_file = machine_of-document [] no_members ([], (refl, refl)) no_byte ∙ empty_document
