-- The registers of a machine file, in each direction.
use Rattle.std.specs.Prelude.{ℕ, ◌==◌, nat_le, Bool, false, List, [], ◌∷◌, ◌++◌, length, codes, Option, Some, None, option_map, Result, Ok, Err, if◌then◌else◌}
use Rattle.std.specs.List.{list_any}
use Rattle.toml.specs.Data.{Data, Members, Items, get_member, as_table, as_array, as_bool}
use Rattle.ags_ports.specs.declared.registers.Port.{Port}
use Rattle.ags_ports.specs.Port.{Registers, standard_inputs, standard_outputs}
use Rattle.ags_machfile.specs.declared.keys.Key.{Key}
use Rattle.ags_machfile.specs.declared.keys.Key.TheVariants as key
use Rattle.ags_machfile.specs.declared.mach_error.MachError.{MachError}
use Rattle.ags_machfile.specs.declared.mach_error.MachError.TheVariants.{MissingKey, BadValue, SamePort}
use Rattle.ags_machfile.specs.declared.port_tables.Direction.{Direction}
use Rattle.ags_machfile.specs.declared.port_tables.Direction.TheVariants.{Input, Output}
use Rattle.ags_machfile.specs.Value.{◌>>=◌, address_given, values_of}

-- the key of a direction's registers
abbrev pub direction_key : Direction → Key
direction_key Input = key.Input
direction_key Output = key.Output

-- the key of an entry, by its position from 0
abbrev pub entry_key : Direction → ℕ → Key
entry_key Input position = key.InputAt position
entry_key Output position = key.OutputAt position

-- the standard machine's registers of a direction
abbrev pub standard_ports : Direction → List Port
standard_ports Input = standard_inputs
standard_ports Output = standard_outputs

-- whether a register holds its word once, by the value at that key: it doesn't where there is none, and a value that is no truth
-- value says nothing
abbrev pub once_at : Option Data → Option Bool
once_at None = Some false
once_at (Some value) = as_bool value

-- so for an entry; an output register never does, whatever stands at the key
abbrev pub once_given : Direction → Members → Option Bool
once_given Input members = once_at (get_member (codes "once") members)
once_given Output _ = Some false

-- The register of an entry, by its address, where one stands there, and by whether it holds its word once. Where a value is
-- wrong that is told, and else where the address is missing.
abbrev pub port_with : (which : Key) (address : Option (Option ℕ)) (once : Option Bool) → Result Port MachError
port_with which (Some None) once = Err (BadValue which)
port_with which (Some (Some address)) None = Err (BadValue which)
port_with which None None = Err (BadValue which)
port_with which None (Some once) = Err (MissingKey which)
port_with which (Some (Some address)) (Some once) = Ok (record { address = address; once = once })

-- the register of an entry that is a table; one that isn't is a wrong value
abbrev pub entry_port : Direction → (position : ℕ) → Option Members → Result Port MachError
entry_port direction position None = Err (BadValue (entry_key direction position))
entry_port direction position (Some members) = port_with (entry_key direction position)
    (option_map address_given (get_member (codes "address") members))
    (once_given direction members)

-- a register that has none of these addresses, or that it has one
abbrev pub unlike : (earlier : List Port) → Port → Result Port MachError
unlike earlier port = if list_any (λ other. other.address == port.address) earlier then Err (SamePort port.address) else Ok port

-- The registers of entries, after those of the entries before them, or the first fault: that of an entry, or that an earlier
-- entry has its address.
abbrev pub ports_behind : Direction → (earlier : List Port) → List Data → Result (List Port) MachError
ports_behind direction earlier [] = Ok earlier
ports_behind direction earlier (entry ∷ entries) =
    (entry_port direction (length earlier) (as_table entry) >>= unlike earlier) >>= (λ port. ports_behind direction (earlier ++ port ∷ []) entries)

-- the registers of an array of at most 32 entries; a value that is none is a fault
abbrev pub ports_listed : Direction → Option Items → Result (List Port) MachError
ports_listed direction None = Err (BadValue (direction_key direction))
ports_listed direction (Some items) =
    if nat_le (length (values_of items)) 32 then ports_behind direction [] (values_of items) else Err (BadValue (direction_key direction))

-- the registers of a direction, by the value at their key: the standard ones where there is none
abbrev pub ports_in : Direction → Option Data → Result (List Port) MachError
ports_in direction None = Ok (standard_ports direction)
ports_in direction (Some value) = ports_listed direction (as_array value)

-- the registers of a file, first the input and then the output ones
abbrev pub registers_in : Members → Result Registers MachError
registers_in members = do
  inputs ← ports_in Input (get_member (codes "input") members)
  outputs ← ports_in Output (get_member (codes "output") members)
  Ok (record { inputs = inputs; outputs = outputs })
