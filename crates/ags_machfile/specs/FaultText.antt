-- The line that a machine file's fault is printed as.
use Rattle.std.specs.Prelude.{List, [], ◌++◌, ℕ, codes}
use Rattle.std.specs.Fmt.{decimal}
use Rattle.ags_text.specs.Numeral.{octal4_text}
use Rattle.ags_isa.specs.Order.{order_name}
use Rattle.ags_machfile.specs.declared.keys.Key.{Key}
use Rattle.ags_machfile.specs.declared.keys.Key.TheVariants.{Codes, Times, Input, Output, DedaIn, DedaOut, Code, Time, InputAt, OutputAt}
use Rattle.ags_machfile.specs.declared.mach_error.MachError.{MachError}
use Rattle.ags_machfile.specs.declared.mach_error.MachError.TheVariants.{NotToml, MissingKey, BadValue, SameCode, SamePort, NoMemory}

-- a key as a file's writer would find it: an order after its table, an entry's position, in decimal, after its array
abbrev pub key_text : Key → List ℕ
key_text Codes = codes "codes"
key_text Times = codes "times"
key_text Input = codes "input"
key_text Output = codes "output"
key_text DedaIn = codes "deda_in"
key_text DedaOut = codes "deda_out"
key_text (Code order) = codes "codes." ++ order_name order
key_text (Time order) = codes "times." ++ order_name order
key_text (InputAt position) = codes "input." ++ decimal position
key_text (OutputAt position) = codes "output." ++ decimal position

-- a fault's number and its name, with the key, the two orders, or the address in four octal digits; of want of memory, nothing
abbrev pub fault_text : MachError → List ℕ
fault_text NotToml = codes "MACHINE ERROR 1 NotToml"
fault_text (MissingKey which) = codes "MACHINE ERROR 2 MissingKey " ++ key_text which
fault_text (BadValue which) = codes "MACHINE ERROR 3 BadValue " ++ key_text which
fault_text (SameCode first second) = codes "MACHINE ERROR 4 SameCode " ++ order_name first ++ codes " " ++ order_name second
fault_text (SamePort address) = codes "MACHINE ERROR 5 SamePort " ++ octal4_text address
fault_text NoMemory = []
