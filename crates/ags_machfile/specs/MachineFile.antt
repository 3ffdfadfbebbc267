-- What a machine file says: the machine that it gives, or the first test that it fails (docs/MACHINE.md, Machine files).
use Rattle.std.specs.Prelude.{◌≡◌, ℕ, List, codes, Option, Some, None, Result, Ok, Err, if◌then◌else◌}
use Rattle.std.specs.Option.{ok_or}
use Rattle.std.specs.Str.{is_utf8}
use Rattle.toml.specs.Data.{Data, Members, get_member}
use Rattle.toml.specs.Parse.{parse_document}
use Rattle.ags_ports.specs.declared.machines.Machine.{Machine}
use Rattle.ags_ports.specs.Machine.{standard_machine}
use Rattle.ags_machfile.specs.declared.keys.Key.{Key}
use Rattle.ags_machfile.specs.declared.keys.Key.TheVariants.{DedaIn, DedaOut}
use Rattle.ags_machfile.specs.declared.mach_error.MachError.{MachError}
use Rattle.ags_machfile.specs.declared.mach_error.MachError.TheVariants.{NotToml, MissingKey, BadValue, SameCode, SamePort, NoMemory}
use Rattle.ags_machfile.specs.Value.{◌>>=◌, address_given}
use Rattle.ags_machfile.specs.OrderTable.{codes_in, times_in}
use Rattle.ags_machfile.specs.PortTable.{registers_in}

-- the document that bytes are: they are UTF-8, and a text of TOML
unfoldable pub document_of : List ℕ → Option Members
document_of bytes = if is_utf8 bytes then parse_document bytes else None

-- an address that the panel is connected to, by the value at its key: the usual one where there is none
abbrev pub address_in : Key → (usual : ℕ) → Option Data → Result ℕ MachError
address_in which usual None = Ok usual
address_in which usual (Some value) = ok_or (address_given value) (BadValue which)

-- the machine of a document: what a part says, in the order of the parts, or the first fault; what is absent is as in the
-- standard machine, and unknown keys say nothing
unfoldable pub machine_in : Members → Result Machine MachError
machine_in members = do
  order_codes ← codes_in (get_member (codes "codes") members)
  order_times ← times_in (get_member (codes "times") members)
  registers ← registers_in members
  deda_in ← address_in DedaIn standard_machine.deda_in (get_member (codes "deda_in") members)
  deda_out ← address_in DedaOut standard_machine.deda_out (get_member (codes "deda_out") members)
  Ok (record {
    codes = order_codes;
    times = order_times;
    ports = registers;
    deda_in = deda_in;
    deda_out = deda_out;
  })

-- The machine of a file, by its bytes, or the first test that it fails.
unfoldable pub machine_of : List ℕ → Result Machine MachError
machine_of bytes = ok_or (document_of bytes) NotToml >>= machine_in

-- why a file is not read: for its first fault, or for want of memory, which says nothing of it
abbrev pub IsRefused : List ℕ → MachError → Type 0
IsRefused bytes NotToml = machine_of bytes ≡ Err NotToml
IsRefused bytes (MissingKey which) = machine_of bytes ≡ Err (MissingKey which)
IsRefused bytes (BadValue which) = machine_of bytes ≡ Err (BadValue which)
IsRefused bytes (SameCode first second) = machine_of bytes ≡ Err (SameCode first second)
IsRefused bytes (SamePort address) = machine_of bytes ≡ Err (SamePort address)
IsRefused bytes NoMemory = Unit {0}
