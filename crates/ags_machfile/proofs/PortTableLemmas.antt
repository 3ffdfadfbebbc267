-- The registers of a direction: how they are listed, entry by entry.
use Rattle.std.proofs.Common.{◌≡◌, ◌≢◌, ℕ, zero, suc, ◌+◌, ◌<◌, ◌≤◌, ◌==◌, Bool, true, false, ◌||◌, List, [], ◌∷◌, ◌++◌, length, get_or, drop, map, refl, sym, ◌∙◌, arith}
use Rattle.std.specs.Prelude.{Ok, Err, Option, Some, nat_le}
use Rattle.std.specs.List.{list_any}
use Rattle.std.proofs.lemmas.Bool.Decides.{nat_tests}
use Rattle.std.proofs.lemmas.List.{drop_all, drop_more, length-append, length-map}
use Rattle.std.proofs.Common.{le-leb, true≢false}
use Rattle.std.proofs.lemmas.List.Elements.{All-push}
use Rattle.std.proofs.lemmas.List.Quantifiers.{all_pairs_push}
use Rattle.toml.specs.Data.{as_table}
use Rattle.toml.specs.View.{view, items_of}
use Rattle.toml.specs.Data.{Data, Items}
use Rattle.toml.specs.declared.value.Value.{Value}
use Rattle.ags_ports.specs.declared.registers.Port.{Port}
use Rattle.ags_ports.specs.Port.{AreRegisters}
use Rattle.ags_machfile.specs.declared.mach_error.MachError.{MachError}
use Rattle.ags_machfile.specs.declared.mach_error.MachError.TheVariants.{BadValue, SamePort}
use Rattle.ags_machfile.specs.declared.port_tables.Direction.{Direction}
use Rattle.ags_machfile.specs.Value.{values_of}
use Rattle.ags_machfile.specs.PortTable.{direction_key, entry_port, ports_behind, ports_listed}

pub values_of-items : (values : List Data) → values_of (items_of values) ≡ values
values_of-items [] = refl
values_of-items (value ∷ values) = rw (values_of-items values) refl

-- whether one of these registers has an address
abbrev pub has_address : List Port → ℕ → Bool
has_address ports address = list_any (λ other. other.address == address) ports

-- the registers of the entries before this position stand in the list, and those of the others are what is left to find
pub record AreListed (direction : Direction) (values : List Value) (ports : List Port) (position : ℕ) : Type 0 where
  pub long : length ports ≡ position
  pub rest : ports_behind direction [] (map view values) ≡ ports_behind direction ports (map view (drop position values))
  pub registers : AreRegisters ports

neither : (test rest : Bool) → (test || rest) ≡ false → (test ≡ false) × (rest ≡ false)
neither true rest none = absurd (true≢false none)
neither false rest none = (refl, none)

pub unlike_all : (ports : List Port) (address : ℕ) → has_address ports address ≡ false → (k : ℕ) (d : Port) → k < length ports → (get_or ports k d).address ≢ address
unlike_all [] address none k d within = absurd (omega (arith, within))
unlike_all (port ∷ ports) address none zero d within =
    λ same. true≢false (sym (rw same (same_is_true address)) ∙ (neither (port.address == address) (has_address ports address) none).0)
  where
    same_is_true : (n : ℕ) → (n == n) ≡ true
    same_is_true n = grind (arith, nat_tests)
unlike_all (port ∷ ports) address none (suc k) d within =
    unlike_all ports address (neither (port.address == address) (has_address ports address) none).1 k d (omega (arith, within))

more_registers : (ports : List Port) (port : Port) → length ports < 32 → port.address < 4096 → has_address ports port.address ≡ false → AreRegisters ports
    → AreRegisters (ports ++ port ∷ [])
more_registers ports port room below unlike registers = record {
  few = omega (arith, length-append ports (port ∷ []));
  below = All-push (λ one. one.address < 4096) ports port registers.below below;
  distinct = all_pairs_push (λ one another. one.address ≢ another.address) ports port registers.distinct (unlike_all ports port.address unlike);
}

listed_next : (direction : Direction) (ports : List Port) (values : List Value) (position : ℕ) (value : Value) (port : Port) → position < length values
    → value ≡ get_or values position value → entry_port direction (length ports) (as_table (view value)) ≡ Ok port → has_address ports port.address ≡ false
    → ports_behind direction ports (map view (drop position values)) ≡ ports_behind direction (ports ++ port ∷ []) (map view (drop (position + 1) values))
listed_next direction ports values position value port within at is unlike = rw (drop_more values position value within, ← at, is, unlike) refl

pub listed_more : (direction : Direction) (values : List Value) (ports : List Port) (position : ℕ) (value : Value) (port : Port) → position < length values → position < 32
    → value ≡ get_or values position value → entry_port direction (length ports) (as_table (view value)) ≡ Ok port → port.address < 4096
    → has_address ports port.address ≡ false → AreListed direction values ports position → AreListed direction values (ports ++ port ∷ []) (position + 1)
listed_more direction values ports position value port within room at is below unlike listed = record {
  long = omega (arith, length-append ports (port ∷ []), listed.long);
  rest = listed.rest ∙ listed_next direction ports values position value port within at is unlike;
  registers = more_registers ports port (rw listed.long room) below unlike listed.registers;
}

-- and so does one whose address an earlier entry has
pub listed_twice : (direction : Direction) (values : List Value) (ports : List Port) (position : ℕ) (value : Value) (port : Port) → position < length values
    → value ≡ get_or values position value → entry_port direction (length ports) (as_table (view value)) ≡ Ok port → has_address ports port.address ≡ true
    → AreListed direction values ports position → ports_behind direction [] (map view values) ≡ Err (SamePort port.address)
listed_twice direction values ports position value port within at is same listed =
    listed.rest ∙ rw (drop_more values position value within, ← at, is, same) refl

-- an entry's own fault decides
pub listed_fault : (direction : Direction) (values : List Value) (ports : List Port) (position : ℕ) (value : Value) (fault : MachError) → position < length values
    → value ≡ get_or values position value → entry_port direction (length ports) (as_table (view value)) ≡ Err fault
    → AreListed direction values ports position → ports_behind direction [] (map view values) ≡ Err fault
listed_fault direction values ports position value fault within at is listed = listed.rest ∙ rw (drop_more values position value within, ← at, is) refl

-- behind the last entry the list has them all
pub listed_all : (direction : Direction) (values : List Value) (ports : List Port) (position : ℕ) → length values ≤ position → AreListed direction values ports position
    → ports_behind direction [] (map view values) ≡ Ok ports
listed_all direction values ports position whole listed = listed.rest ∙ rw (drop_all position values whole) refl

-- ---- an array of entries

pub ports_listed-few : (direction : Direction) (items : Option Items) (values : List Value) → items ≡ Some (items_of (map view values)) → length values ≤ 32
    → ports_listed direction items ≡ ports_behind direction [] (map view values)
ports_listed-few direction items values is few =
    rw (is, values_of-items (map view values), le-leb (length (map view values)) 32 (rw (length-map values view) few)) refl

pub ports_listed-many : (direction : Direction) (items : Option Items) (values : List Value) → items ≡ Some (items_of (map view values)) → 32 < length values
    → ports_listed direction items ≡ Err (BadValue (direction_key direction))
ports_listed-many direction items values is many =
    rw (is, values_of-items (map view values), not_le (length (map view values)) (rw (length-map values view) many)) refl
  where
    not_le : (n : ℕ) → 32 < n → nat_le n 32 ≡ false
    not_le n above = grind (arith, nat_tests)
