-- The registers of an array: what is listed is what its entries give, and a fault is that of the first bad entry.
use Rattle.std.proofs.Common.{◌≡◌, ◌≢◌, ℕ, zero, suc, ◌+◌, ◌<◌, ◌≤◌, ◌==◌, Bool, true, false, List, [], ◌∷◌, ◌++◌, length, get_or, take, refl, sym, ap, subst, ◌∙◌, inl, inr, arith, append_assoc, AllPairs, codes}
use Rattle.std.specs.Prelude.{Result, Ok, Err, Option, Some, None, ⊤, Any, option_map, nat_le, if◌then◌else◌}
use Rattle.std.proofs.lemmas.Bool.{cases_Bool}
use Rattle.std.proofs.lemmas.Bool.Decides.{nat_tests}
use Rattle.std.proofs.lemmas.List.{length-append}
use Rattle.std.proofs.lemmas.List.Folds.{Any-from_list_any, list_any-from_Any}
use Rattle.std.proofs.lemmas.List.Quantifiers.{all_pairs_push}
use Rattle.toml.specs.Data.{Data, boolean, Members, Items, as_table, as_array, as_integer, get_member}
use Rattle.ags_ports.specs.declared.registers.Port.{Port}
use Rattle.ags_ports.specs.Port.{AreRegisters}
use Rattle.ags_ports.proofs.MachineLemmas.{IsMachine-standard}
use Rattle.ags_machfile.specs.declared.keys.Key.{Key}
use Rattle.ags_machfile.specs.declared.mach_error.MachError.{MachError}
use Rattle.ags_machfile.specs.declared.mach_error.MachError.TheVariants.{SamePort}
use Rattle.ags_machfile.specs.declared.port_tables.Direction.{Direction}
use Rattle.ags_machfile.specs.declared.port_tables.Direction.TheVariants.{Input, Output}
use Rattle.ags_machfile.specs.Value.{◌>>=◌, address_given, values_of}
use Rattle.ags_machfile.specs.PortTable.{entry_key, once_given, port_with, entry_port, unlike, ports_behind, ports_listed, ports_in}
use Rattle.ags_machfile.specs.Rule.{ArePorts, Fails, IsFirstBadEntry}
use Rattle.ags_machfile.proofs.NumbersLemmas.{ok_same, err_same, ok_not_err}
use Rattle.ags_machfile.proofs.PartLemmas.{err_not_ok}
use Rattle.ags_machfile.proofs.GivenLemmas.{within-limits}
use Rattle.ags_machfile.proofs.PortTableLemmas.{has_address, unlike_all}

append-nil : (xs : List Port) → xs ≡ xs ++ []
append-nil [] = refl
append-nil (x ∷ xs) = ap (λ ys. x ∷ ys) (append-nil xs)

-- no two registers have one address
abbrev Differ : List Port → Type 0
Differ ports = AllPairs (λ one another. one.address ≢ another.address) ports

differ-push : (ports : List Port) (port : Port) → has_address ports port.address ≡ false → Differ ports → Differ (ports ++ port ∷ [])
differ-push ports port unlike differ = all_pairs_push (λ one another. one.address ≢ another.address) ports port differ (unlike_all ports port.address unlike)

-- the registers that these entries have, one for each, from this position on
abbrev PortsGive : Direction → (position : ℕ) → List Data → List Port → Type 0
PortsGive direction position [] [] = ⊤
PortsGive direction position (entry ∷ entries) (port ∷ ports) = (entry_port direction position (as_table entry) ≡ Ok port) × PortsGive direction (position + 1) entries ports
PortsGive direction position [] (port ∷ ports) = ⊥
PortsGive direction position (entry ∷ entries) [] = ⊥

record AreBehind (direction : Direction) (earlier : List Port) (entries : List Data) (ports : List Port) : Type 0 where
  more : List Port
  whole : ports ≡ earlier ++ more
  give : PortsGive direction (length earlier) entries more
  differ : Differ earlier → Differ ports

-- how an entry is taken after those before it
abbrev taken : (earlier : List Port) → Bool → Port → Result Port MachError
taken earlier same port = if same then Err (SamePort port.address) else Ok port

behind-step : (direction : Direction) (earlier : List Port) (entry : Data) (entries : List Data) (ports : List Port) (r : Result Port MachError)
    → entry_port direction (length earlier) (as_table entry) ≡ r
    → ((port : Port) → ports_behind direction (earlier ++ port ∷ []) entries ≡ Ok ports → AreBehind direction (earlier ++ port ∷ []) entries ports)
    → ((r >>= unlike earlier) >>= (λ port. ports_behind direction (earlier ++ port ∷ []) entries)) ≡ Ok ports → AreBehind direction earlier (entry ∷ entries) ports
behind-step direction earlier entry entries ports (Err fault) here rest is = absurd (err_not_ok fault ports is)
behind-step direction earlier entry entries ports (Ok port) here rest is = by_test (has_address earlier port.address) refl is
  where
    by_test : (same : Bool) → has_address earlier port.address ≡ same
        → (taken earlier same port >>= (λ port. ports_behind direction (earlier ++ port ∷ []) entries)) ≡ Ok ports → AreBehind direction earlier (entry ∷ entries) ports
    by_test true same is = absurd (err_not_ok (SamePort port.address) ports is)
    by_test false unlike is =
        let all = rest port is in
        let P : ℕ → Type 0 = λ n. PortsGive direction n entries all.more in
        record {
          more = port ∷ all.more;
          whole = all.whole ∙ append_assoc earlier (port ∷ []) all.more;
          give = (here, subst P (length-append earlier (port ∷ [])) all.give);
          differ = λ differ. all.differ (differ-push earlier port unlike differ);
        }

behind-ok : (direction : Direction) (earlier : List Port) (entries : List Data) (ports : List Port) → ports_behind direction earlier entries ≡ Ok ports
    → AreBehind direction earlier entries ports
behind-ok direction earlier [] ports is =
    let same = ok_same earlier ports is in
    let P : List Port → Type 0 = λ ps. Differ ps in
    record { more = []; whole = sym same ∙ append-nil earlier; give = tt; differ = λ differ. subst P same differ }
behind-ok direction earlier (entry ∷ entries) ports is =
    behind-step direction earlier entry entries ports (entry_port direction (length earlier) (as_table entry)) refl (λ port. behind-ok direction (earlier ++ port ∷ []) entries ports) is

give_length : (direction : Direction) (position : ℕ) (entries : List Data) (ports : List Port) → PortsGive direction position entries ports → length ports ≡ length entries
give_length direction position [] [] give = refl
give_length direction position (entry ∷ entries) (port ∷ ports) give = ap suc (give_length direction (position + 1) entries ports give.1)
give_length direction position [] (port ∷ ports) give = absurd give
give_length direction position (entry ∷ entries) [] give = absurd give

give_at : (direction : Direction) (position : ℕ) (entries : List Data) (ports : List Port) → PortsGive direction position entries ports
    → (k : ℕ) (entry : Data) (port : Port) → k < length entries → entry_port direction (position + k) (as_table (get_or entries k entry)) ≡ Ok (get_or ports k port)
give_at direction position [] ports give k e p within = absurd (omega (arith, within))
give_at direction position (entry ∷ entries) [] give k e p within = absurd give
give_at direction position (entry ∷ entries) (port ∷ ports) give zero e p within = let same : position + 0 ≡ position = omega arith in rw same give.0
give_at direction position (entry ∷ entries) (port ∷ ports) give (suc k) e p within =
    let same : position + suc k ≡ position + 1 + k = omega arith in
    rw same (give_at direction (position + 1) entries ports give.1 k e p (omega (arith, within)))

give_first : (direction : Direction) (entries : List Data) (ports : List Port) → PortsGive direction 0 entries ports
    → (k : ℕ) (entry : Data) (port : Port) → k < length entries → entry_port direction k (as_table (get_or entries k entry)) ≡ Ok (get_or ports k port)
give_first direction entries ports give k entry port within =
    let same : 0 + k ≡ k = omega arith in rw same at (give_at direction 0 entries ports give k entry port within)

differ-none : Differ []
differ-none i j d before within = absurd (omega (arith, within))

-- the registers that are listed are those of the entries
pub ports_behind-ok : (direction : Direction) (entries : List Data) (ports : List Port) → ports_behind direction [] entries ≡ Ok ports → ArePorts direction entries ports
ports_behind-ok direction entries ports is =
    let all = behind-ok direction [] entries ports is in
    record {
      count = rw all.whole (give_length direction 0 entries all.more all.give);
      each = λ position entry port within. rw all.whole (give_first direction entries all.more all.give position entry port within);
      distinct = all.differ differ-none;
    }

-- ---- the first bad entry

record IsBad (direction : Direction) (earlier : List Port) (entries : List Data) (fault : MachError) : Type 0 where
  position : ℕ
  within : position < length entries
  more : List Port
  give : PortsGive direction (length earlier) (take position entries) more
  differ : Differ earlier → Differ (earlier ++ more)
  fails : (e : Data) → Fails direction (earlier ++ more) (get_or entries position e) fault

bad_here : (direction : Direction) (earlier : List Port) (entry : Data) (entries : List Data) (fault : MachError) → Fails direction earlier entry fault
    → IsBad direction earlier (entry ∷ entries) fault
bad_here direction earlier entry entries fault fails =
    let P : List Port → Type 0 = λ ps. Differ ps in
    let Q : List Port → Type 0 = λ ps. Fails direction ps entry fault in
    record {
      position = 0;
      within = omega arith;
      more = [];
      give = tt;
      differ = λ differ. subst P (append-nil earlier) differ;
      fails = λ e. subst Q (append-nil earlier) fails;
    }

bad-step : (direction : Direction) (earlier : List Port) (entry : Data) (entries : List Data) (fault : MachError) (r : Result Port MachError)
    → entry_port direction (length earlier) (as_table entry) ≡ r
    → ((port : Port) → ports_behind direction (earlier ++ port ∷ []) entries ≡ Err fault → IsBad direction (earlier ++ port ∷ []) entries fault)
    → ((r >>= unlike earlier) >>= (λ port. ports_behind direction (earlier ++ port ∷ []) entries)) ≡ Err fault → IsBad direction earlier (entry ∷ entries) fault
bad-step direction earlier entry entries fault (Err first) here rest is =
    bad_here direction earlier entry entries fault (inl (here ∙ ap Err (err_same {A = List Port} first fault is)))
bad-step direction earlier entry entries fault (Ok port) here rest is = by_test (has_address earlier port.address) refl is
  where
    same_address : Any (λ other. (other.address == port.address) ≡ true) earlier → Any (λ other. other.address ≡ port.address) earlier
    same_address (k, x, within, stands, test) = (k, x, within, stands, grind (arith, nat_tests))

    by_test : (same : Bool) → has_address earlier port.address ≡ same
        → (taken earlier same port >>= (λ port. ports_behind direction (earlier ++ port ∷ []) entries)) ≡ Err fault → IsBad direction earlier (entry ∷ entries) fault
    by_test true same is =
        bad_here direction earlier entry entries fault
        (inr (port, here, same_address (Any-from_list_any (λ other. other.address == port.address) earlier same), sym (err_same {A = List Port} (SamePort port.address) fault is)))
    by_test false unlike is =
        let later = rest port is in
        let P : ℕ → Type 0 = λ n. PortsGive direction n (take later.position entries) later.more in
        let together : (earlier ++ port ∷ []) ++ later.more ≡ earlier ++ port ∷ later.more = append_assoc earlier (port ∷ []) later.more in
        let Q : List Port → Type 0 = λ ps. Differ ps in
        record {
          position = suc later.position;
          within = omega (arith, later.within);
          more = port ∷ later.more;
          give = (here, subst P (length-append earlier (port ∷ [])) later.give);
          differ = λ differ. subst Q together (later.differ (differ-push earlier port unlike differ));
          fails = λ e. let R : List Port → Type 0 = λ ps. Fails direction ps (get_or entries later.position e) fault in subst R together (later.fails e);
        }

bad-err : (direction : Direction) (earlier : List Port) (entries : List Data) (fault : MachError) → ports_behind direction earlier entries ≡ Err fault
    → IsBad direction earlier entries fault
bad-err direction earlier [] fault is = absurd (ok_not_err earlier fault is)
bad-err direction earlier (entry ∷ entries) fault is =
    bad-step direction earlier entry entries fault (entry_port direction (length earlier) (as_table entry)) refl (λ port. bad-err direction (earlier ++ port ∷ []) entries fault) is

pub ports_behind-err : (direction : Direction) (entries : List Data) (fault : MachError) → ports_behind direction [] entries ≡ Err fault → IsFirstBadEntry direction entries fault
ports_behind-err direction entries fault is =
    let bad = bad-err direction [] entries fault is in
    record {
      position = bad.position;
      within = bad.within;
      earlier = bad.more;
      before = record {
        count = give_length direction 0 (take bad.position entries) bad.more bad.give;
        each = give_first direction (take bad.position entries) bad.more bad.give;
        distinct = bad.differ differ-none;
      };
      fails = bad.fails;
    }

-- ---- what is so is told

-- an entry of the list by its position
give_from : (direction : Direction) (position : ℕ) (entries : List Data) (ports : List Port) → length ports ≡ length entries
    → ((k : ℕ) (entry : Data) (port : Port) → k < length entries → entry_port direction (position + k) (as_table (get_or entries k entry)) ≡ Ok (get_or ports k port))
    → PortsGive direction position entries ports
give_from direction position [] [] same each = tt
give_from direction position [] (port ∷ ports) same each = absurd (omega (arith, same))
give_from direction position (entry ∷ entries) [] same each = absurd (omega (arith, same))
give_from direction position (entry ∷ entries) (port ∷ ports) same each =
    let first : position + 0 ≡ position = omega arith in (
      rw first at (each 0 entry port (omega arith)),
      give_from direction (position + 1) entries ports (omega (arith, same))
          (λ k e p within. let next : position + suc k ≡ position + 1 + k = omega arith in rw next at (each (suc k) e p (omega (arith, within)))),
    )

are_give : (direction : Direction) (entries : List Data) (ports : List Port) → ArePorts direction entries ports → PortsGive direction 0 entries ports
are_give direction entries ports are =
    give_from direction 0 entries ports are.count (λ k entry port within. let at : 0 + k ≡ k = omega arith in rw at (are.each k entry port within))

-- where no two have one address, none has that of a later one
differ_rest : (port : Port) (ports : List Port) → Differ (port ∷ ports) → Differ ports
differ_rest port ports differ i j d before within = differ (suc i) (suc j) d (omega (arith, before)) (omega (arith, within))

at_length : (earlier : List Port) (port d : Port) (more : List Port) → get_or (earlier ++ port ∷ more) (length earlier) d ≡ port
at_length [] port d more = refl
at_length (first ∷ earlier) port d more = at_length earlier port d more

alone : (m n : ℕ) → m ≢ n → (m == n) ≡ false
alone m n apart = grind (arith, nat_tests, apart)

unlike_later : (earlier : List Port) (port : Port) (more : List Port) → Differ (earlier ++ port ∷ more) → has_address earlier port.address ≡ false
unlike_later [] port more differ = refl
unlike_later (first ∷ earlier) port more differ =
    let apart : first.address ≢ port.address =
    λ same. differ 0 (suc (length earlier)) port (omega arith) (omega (arith, length-append earlier (port ∷ more))) (same ∙ ap (λ (p : Port). p.address) (sym (at_length earlier port port more))) in
    rw (alone first.address port.address apart, unlike_later earlier port more (differ_rest first (earlier ++ port ∷ more) differ)) refl

regroup : (earlier : List Port) (port : Port) (more : List Port) → (earlier ++ port ∷ []) ++ more ≡ earlier ++ port ∷ more
regroup earlier port more = append_assoc earlier (port ∷ []) more

-- an entry that gives a register of an address that no earlier one has
one_further : (direction : Direction) (earlier : List Port) (entry : Data) (entries : List Data) (port : Port) → entry_port direction (length earlier) (as_table entry) ≡ Ok port
    → has_address earlier port.address ≡ false → ports_behind direction earlier (entry ∷ entries) ≡ ports_behind direction (earlier ++ port ∷ []) entries
one_further direction earlier entry entries port here unlike = rw (here, unlike) refl

next_give : (direction : Direction) (earlier : List Port) (port : Port) (entries : List Data) (more : List Port) → PortsGive direction (length earlier + 1) entries more
    → PortsGive direction (length (earlier ++ port ∷ [])) entries more
next_give direction earlier port entries more give =
    let P : ℕ → Type 0 = λ n. PortsGive direction n entries more in
    subst P (sym (length-append earlier (port ∷ []))) give

give_ok : (direction : Direction) (earlier : List Port) (entries : List Data) (more : List Port) → PortsGive direction (length earlier) entries more → Differ (earlier ++ more)
    → ports_behind direction earlier entries ≡ Ok (earlier ++ more)
give_ok direction earlier [] [] give differ = ap Ok (append-nil earlier)
give_ok direction earlier [] (port ∷ more) give differ = absurd give
give_ok direction earlier (entry ∷ entries) [] give differ = absurd give
give_ok direction earlier (entry ∷ entries) (port ∷ more) give differ =
    let P : List Port → Type 0 = λ ps. Differ ps in
    one_further direction earlier entry entries port give.0 (unlike_later earlier port more differ)
    ∙ give_ok direction (earlier ++ port ∷ []) entries more (next_give direction earlier port entries more give.1) (subst P (sym (regroup earlier port more)) differ)
    ∙ ap Ok (regroup earlier port more)

pub ok-ports_behind : (direction : Direction) (entries : List Data) (ports : List Port) → ArePorts direction entries ports → ports_behind direction [] entries ≡ Ok ports
ok-ports_behind direction entries ports are = give_ok direction [] entries ports (are_give direction entries ports are) are.distinct

-- a bad entry
fails_here : (direction : Direction) (earlier : List Port) (entry : Data) (entries : List Data) (fault : MachError) → Fails direction earlier entry fault
    → ports_behind direction earlier (entry ∷ entries) ≡ Err fault
fails_here direction earlier entry entries fault (inl own) = rw own refl
fails_here direction earlier entry entries fault (inr (port, here, (k, other, within, stands, same), is)) =
    let tested : (other.address == port.address) ≡ true = same_test other.address port.address same in
    let taken : has_address earlier port.address ≡ true = list_any-from_Any (λ (other : Port). other.address == port.address) earlier (k, other, within, stands, tested) in
    rw (here, taken, is) refl
  where
    same_test : (m n : ℕ) → m ≡ n → (m == n) ≡ true
    same_test m n same = grind (arith, nat_tests, same)

give_err : (direction : Direction) (earlier : List Port) (entries : List Data) (position : ℕ) (more : List Port) (fault : MachError) → position < length entries
    → PortsGive direction (length earlier) (take position entries) more → Differ (earlier ++ more) → ((e : Data) → Fails direction (earlier ++ more) (get_or entries position e) fault)
    → ports_behind direction earlier entries ≡ Err fault
give_err direction earlier [] position more fault within give differ fails = absurd (omega (arith, within))
give_err direction earlier (entry ∷ entries) zero [] fault within give differ fails =
    let P : List Port → Type 0 = λ ps. Fails direction ps entry fault in
    fails_here direction earlier entry entries fault (subst P (sym (append-nil earlier)) (fails entry))
give_err direction earlier (entry ∷ entries) zero (port ∷ more) fault within give differ fails = absurd give
give_err direction earlier (entry ∷ entries) (suc position) [] fault within give differ fails = absurd give
give_err direction earlier (entry ∷ entries) (suc position) (port ∷ more) fault within give differ fails =
    let P : List Port → Type 0 = λ ps. Differ ps in
    one_further direction earlier entry entries port give.0 (unlike_later earlier port more differ)
    ∙ give_err direction (earlier ++ port ∷ []) entries position more fault (omega (arith, within))
    (next_give direction earlier port (take position entries) more give.1) (subst P (sym (regroup earlier port more)) differ)
    (λ e. let Q : List Port → Type 0 = λ ps. Fails direction ps (get_or entries position e) fault in subst Q (sym (regroup earlier port more)) (fails e))

pub err-ports_behind : (direction : Direction) (entries : List Data) (fault : MachError) → IsFirstBadEntry direction entries fault → ports_behind direction [] entries ≡ Err fault
err-ports_behind direction entries fault bad =
    give_err direction [] entries bad.position bad.earlier fault bad.within (are_give direction (take bad.position entries) bad.earlier bad.before) bad.before.distinct bad.fails

-- ---- registers

address_below : (which : Key) (value : Option Data) (once : Option Bool) (port : Port) → port_with which (option_map address_given value) once ≡ Ok port → port.address < 4096
address_below which None None port h = absurd (err_not_ok _ port h)
address_below which None (Some o) port h = absurd (err_not_ok _ port h)
address_below which (Some value) once port h = by_address (address_given value) once refl h
  where
    by_address : (address : Option ℕ) (once : Option Bool) → address_given value ≡ address → port_with which (Some address) once ≡ Ok port → port.address < 4096
    by_address None once is h = absurd (err_not_ok _ port h)
    by_address (Some a) None is h = absurd (err_not_ok _ port h)
    by_address (Some a) (Some o) is h =
        let limits = within-limits 0 4095 (as_integer value) a is in
        let same : a ≡ port.address = ap (λ (p : Port). p.address) (ok_same (record { address = a; once = o }) port h) in
        omega (arith, same, limits.1)

entry_below : (direction : Direction) (position : ℕ) (found : Option Members) (port : Port) → entry_port direction position found ≡ Ok port → port.address < 4096
entry_below direction position None port h = absurd (err_not_ok _ port h)
entry_below direction position (Some document) port h =
    address_below (entry_key direction position) (get_member (codes "address") document) (once_given direction document) port h

are_registers : (direction : Direction) (entries : List Data) (ports : List Port) → length entries ≤ 32 → ArePorts direction entries ports → AreRegisters ports
are_registers direction entries ports few are = record {
  few = omega (arith, few, are.count);
  below = λ k d within. let here : k < length entries = omega (arith, within, are.count) in entry_below direction k (as_table (get_or entries k (boolean true))) (get_or ports k d) (are.each k (boolean true) d here);
  distinct = are.distinct;
}

listed-AreRegisters : (direction : Direction) (found : Option Items) (ports : List Port) → ports_listed direction found ≡ Ok ports → AreRegisters ports
listed-AreRegisters direction None ports h = absurd (err_not_ok _ ports h)
listed-AreRegisters direction (Some items) ports h =
    elim (cases_Bool (nat_le (length (values_of items)) 32)) [
      | inl few ↦ are_registers direction (values_of items) ports (le_of_test _ few) (ports_behind-ok direction (values_of items) ports (rw few at h))
      | inr many ↦ absurd (err_not_ok _ ports (rw many at h))
    ]
  where
    le_of_test : (n : ℕ) → nat_le n 32 ≡ true → n ≤ 32
    le_of_test n test = grind (arith, nat_tests)

standard-AreRegisters : (direction : Direction) (ports : List Port) → ports_in direction None ≡ Ok ports → AreRegisters ports
standard-AreRegisters Input ports h = let P : List Port → Type 0 = λ ps. AreRegisters ps in subst P (ok_same _ ports h) IsMachine-standard.inputs
standard-AreRegisters Output ports h = let P : List Port → Type 0 = λ ps. AreRegisters ps in subst P (ok_same _ ports h) IsMachine-standard.outputs

pub ports_in-AreRegisters : (direction : Direction) (value : Option Data) (ports : List Port) → ports_in direction value ≡ Ok ports → AreRegisters ports
ports_in-AreRegisters direction None ports h = standard-AreRegisters direction ports h
ports_in-AreRegisters direction (Some value) ports h = listed-AreRegisters direction (as_array value) ports h
