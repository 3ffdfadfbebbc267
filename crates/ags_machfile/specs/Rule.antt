-- What the rules of a machine file mean, for the laws: which of several faults is the first, and what stands in a table or an
-- array that has none.
use Rattle.std.specs.Prelude.{◌≡◌, ◌≢◌, ◌⊎◌, ℕ, ◌<◌, ◌≤◌, List, [], ◌∷◌, length, take, slice_index_or, Any, AllPairs, codes, Option, Some, None, Result, Ok, Err, IsOk}
use Rattle.toml.specs.Data.{Data, Members, get_member, as_table}
use Rattle.ags_isa.specs.declared.orders.Order.{Order}
use Rattle.ags_isa.specs.Order.{order_number}
use Rattle.ags_isa.specs.Code.{code_of}
use Rattle.ags_ports.specs.declared.machines.Machine.{Machine}
use Rattle.ags_ports.specs.declared.registers.Port.{Port}
use Rattle.ags_ports.specs.Machine.{standard_machine}
use Rattle.ags_machfile.specs.declared.keys.Key.TheVariants.{DedaIn, DedaOut}
use Rattle.ags_machfile.specs.declared.mach_error.MachError.{MachError}
use Rattle.ags_machfile.specs.declared.mach_error.MachError.TheVariants.{SamePort}
use Rattle.ags_machfile.specs.declared.port_tables.Direction.{Direction}
use Rattle.ags_machfile.specs.declared.port_tables.Direction.TheVariants.{Input, Output}
use Rattle.ags_machfile.specs.OrderTable.{codes_in, times_in}
use Rattle.ags_machfile.specs.PortTable.{entry_port, ports_in}
use Rattle.ags_machfile.specs.MachineFile.{address_in}

-- each order has its number in the list, which has 27
pub record AreNumbers (entry : Order → Result ℕ MachError) (numbers : List ℕ) : Type 0 where
  pub count : length numbers ≡ 27
  pub each : (order : Order) → entry order ≡ Ok (slice_index_or numbers (order_number order) 0)

-- the fault is that of an order, and no order before it in the alphabet has one
pub record IsFirstFault (entry : Order → Result ℕ MachError) (fault : MachError) : Type 0 where
  pub order : Order
  pub fails : entry order ≡ Err fault
  pub earlier : (other : Order) → order_number other < order_number order → IsOk (entry other)

-- the second order comes after the first in the alphabet, and has its code
pub record IsPair (table : List ℕ) (first second : Order) : Type 0 where
  pub before : order_number first < order_number second
  pub same : code_of table first ≡ code_of table second

-- such a pair, and of all such pairs the one with the least first order, and then with the least second one
pub record IsFirstPair (table : List ℕ) (first second : Order) : Type 0 where
  pub pair : IsPair table first second
  pub least_first : (order other : Order) → IsPair table order other → order_number first ≤ order_number order
  pub least_second : (other : Order) → IsPair table first other → order_number second ≤ order_number other

-- each entry has its register in the list, in the entries' order, and no two registers have one address
pub record ArePorts (direction : Direction) (entries : List Data) (ports : List Port) : Type 0 where
  pub count : length ports ≡ length entries
  pub each : (position : ℕ) (entry : Data) (port : Port) → position < length entries
      → entry_port direction position (as_table (slice_index_or entries position entry)) ≡ Ok (slice_index_or ports position port)
  pub distinct : AllPairs (λ one another. one.address ≢ another.address) ports

-- the fault of an entry after those with these registers: its own, or that one of these has its address
abbrev pub Fails : Direction → (earlier : List Port) → Data → MachError → Type 0
Fails direction earlier entry fault = (entry_port direction (length earlier) (as_table entry) ≡ Err fault)
    ⊎ ((port : Port) × (entry_port direction (length earlier) (as_table entry) ≡ Ok port) × Any (λ other. other.address ≡ port.address) earlier × (fault ≡ SamePort port.address))

-- the fault is that of an entry, and the entries before it have registers
pub record IsFirstBadEntry (direction : Direction) (entries : List Data) (fault : MachError) : Type 0 where
  pub position : ℕ
  pub within : position < length entries
  pub earlier : List Port
  pub before : ArePorts direction (take position entries) earlier
  pub fails : (entry : Data) → Fails direction earlier (slice_index_or entries position entry) fault

-- each part of a document gives its part of the machine
pub record GivesMachine (members : Members) (machine : Machine) : Type 0 where
  pub order_codes : codes_in (get_member (codes "codes") members) ≡ Ok machine.codes
  pub order_times : times_in (get_member (codes "times") members) ≡ Ok machine.times
  pub inputs : ports_in Input (get_member (codes "input") members) ≡ Ok machine.ports.inputs
  pub outputs : ports_in Output (get_member (codes "output") members) ≡ Ok machine.ports.outputs
  pub deda_in : address_in DedaIn standard_machine.deda_in (get_member (codes "deda_in") members) ≡ Ok machine.deda_in
  pub deda_out : address_in DedaOut standard_machine.deda_out (get_member (codes "deda_out") members) ≡ Ok machine.deda_out

-- the fault of a part, if it has one
abbrev pub fault_of : {A : Type 0} → Result A MachError → Option MachError
fault_of (Ok value) = None
fault_of (Err fault) = Some fault

-- the faults of a document's parts, in the order in which they are tested
abbrev pub part_faults : Members → List (Option MachError)
part_faults members = fault_of (codes_in (get_member (codes "codes") members))
    ∷ fault_of (times_in (get_member (codes "times") members))
    ∷ fault_of (ports_in Input (get_member (codes "input") members))
    ∷ fault_of (ports_in Output (get_member (codes "output") members))
    ∷ fault_of (address_in DedaIn standard_machine.deda_in (get_member (codes "deda_in") members))
    ∷ fault_of (address_in DedaOut standard_machine.deda_out (get_member (codes "deda_out") members))
    ∷ []

-- the first of several faults, if there is one
abbrev pub first_of : List (Option MachError) → Option MachError
first_of [] = None
first_of (Some fault ∷ faults) = Some fault
first_of (None ∷ faults) = first_of faults
