-- The parts of a document together: each gives its part of the machine, and the first that has a fault decides.
use Rattle.std.proofs.Common.{◌≡◌, ℕ, List, [], ◌∷◌, codes, refl, ap}
use Rattle.std.specs.Prelude.{Result, Ok, Err}
use Rattle.std.specs.Result.{result_err}
use Rattle.toml.specs.Data.{Members, get_member}
use Rattle.ags_ports.specs.declared.machines.Machine.{Machine}
use Rattle.ags_ports.specs.declared.registers.Port.{Port}
use Rattle.ags_ports.specs.Machine.{standard_machine}
use Rattle.ags_machfile.specs.declared.keys.Key.TheVariants.{DedaIn, DedaOut}
use Rattle.ags_machfile.specs.declared.mach_error.MachError.{MachError}
use Rattle.ags_machfile.specs.declared.port_tables.Direction.TheVariants.{Input, Output}
use Rattle.ags_machfile.specs.Value.{◌>>=◌}
use Rattle.ags_machfile.specs.OrderTable.{codes_in, times_in}
use Rattle.ags_machfile.specs.PortTable.{ports_in}
use Rattle.ags_machfile.specs.MachineFile.{address_in, machine_in}
use Rattle.ags_machfile.specs.Rule.{GivesMachine, fault_of, part_faults, first_of}
use Rattle.ags_machfile.proofs.NumbersLemmas.{ok_same}

-- a machine of what its parts give
abbrev whole : (order_codes order_times : Result (List ℕ) MachError) (inputs outputs : Result (List Port) MachError) (into from : Result ℕ MachError) → Result Machine MachError
whole order_codes order_times inputs outputs into from = do
  cs ← order_codes
  ts ← order_times
  registers ← (inputs >>= (λ is. outputs >>= (λ os. Ok (record { inputs = is; outputs = os }))))
  i ← into
  o ← from
  Ok (record { codes = cs; times = ts; ports = registers; deda_in = i; deda_out = o })

abbrev the_parts : Members → Result Machine MachError
the_parts document = whole
    (codes_in (get_member (codes "codes") document))
    (times_in (get_member (codes "times") document))
    (ports_in Input (get_member (codes "input") document))
    (ports_in Output (get_member (codes "output") document))
    (address_in DedaIn standard_machine.deda_in (get_member (codes "deda_in") document))
    (address_in DedaOut standard_machine.deda_out (get_member (codes "deda_out") document))

are_parts : (document : Members) → machine_in document ≡ the_parts document
unfolding machine_in
are_parts document = refl

record Gives (machine : Machine) (cs ts : Result (List ℕ) MachError) (is os : Result (List Port) MachError) (i o : Result ℕ MachError) : Type 0 where
  order_codes : cs ≡ Ok machine.codes
  order_times : ts ≡ Ok machine.times
  inputs : is ≡ Ok machine.ports.inputs
  outputs : os ≡ Ok machine.ports.outputs
  into : i ≡ Ok machine.deda_in
  from : o ≡ Ok machine.deda_out

pub err_not_ok : {A : Type 0} (fault : MachError) (x : A) → ◌≡◌ {A = Result A MachError} (Err fault) (Ok x) → ⊥
err_not_ok fault x h = cc

whole-ok : (cs ts : Result (List ℕ) MachError) (is os : Result (List Port) MachError) (i o : Result ℕ MachError) (machine : Machine)
    → whole cs ts is os i o ≡ Ok machine → Gives machine cs ts is os i o
whole-ok (Err e) ts is os i o machine h = absurd (err_not_ok e machine h)
whole-ok (Ok cs) (Err e) is os i o machine h = absurd (err_not_ok e machine h)
whole-ok (Ok cs) (Ok ts) (Err e) os i o machine h = absurd (err_not_ok e machine h)
whole-ok (Ok cs) (Ok ts) (Ok is) (Err e) i o machine h = absurd (err_not_ok e machine h)
whole-ok (Ok cs) (Ok ts) (Ok is) (Ok os) (Err e) o machine h = absurd (err_not_ok e machine h)
whole-ok (Ok cs) (Ok ts) (Ok is) (Ok os) (Ok i) (Err e) machine h = absurd (err_not_ok e machine h)
whole-ok (Ok cs) (Ok ts) (Ok is) (Ok os) (Ok i) (Ok o) machine h =
    let same = ok_same {E = MachError} (record { codes = cs; times = ts; ports = record { inputs = is; outputs = os }; deda_in = i; deda_out = o }) machine h in
    record {
      order_codes = ap (λ (m : Machine). Ok m.codes) same;
      order_times = ap (λ (m : Machine). Ok m.times) same;
      inputs = ap (λ (m : Machine). Ok m.ports.inputs) same;
      outputs = ap (λ (m : Machine). Ok m.ports.outputs) same;
      into = ap (λ (m : Machine). Ok m.deda_in) same;
      from = ap (λ (m : Machine). Ok m.deda_out) same;
    }

whole-made : (cs ts : Result (List ℕ) MachError) (is os : Result (List Port) MachError) (i o : Result ℕ MachError) (machine : Machine)
    → Gives machine cs ts is os i o → whole cs ts is os i o ≡ Ok machine
whole-made cs ts is os i o machine gives = rw (gives.order_codes, gives.order_times, gives.inputs, gives.outputs, gives.into, gives.from) refl

whole-err : (cs ts : Result (List ℕ) MachError) (is os : Result (List Port) MachError) (i o : Result ℕ MachError)
    → result_err (whole cs ts is os i o) ≡ first_of (fault_of cs ∷ fault_of ts ∷ fault_of is ∷ fault_of os ∷ fault_of i ∷ fault_of o ∷ [])
whole-err (Err e) ts is os i o = refl
whole-err (Ok cs) (Err e) is os i o = refl
whole-err (Ok cs) (Ok ts) (Err e) os i o = refl
whole-err (Ok cs) (Ok ts) (Ok is) (Err e) i o = refl
whole-err (Ok cs) (Ok ts) (Ok is) (Ok os) (Err e) o = refl
whole-err (Ok cs) (Ok ts) (Ok is) (Ok os) (Ok i) (Err e) = refl
whole-err (Ok cs) (Ok ts) (Ok is) (Ok os) (Ok i) (Ok o) = refl

-- what is found is what each part gives
pub machine_in-gives : (document : Members) (machine : Machine) → machine_in document ≡ Ok machine → GivesMachine document machine
machine_in-gives document machine is =
    let gives = whole-ok
    (codes_in (get_member (codes "codes") document))
    (times_in (get_member (codes "times") document))
    (ports_in Input (get_member (codes "input") document))
    (ports_in Output (get_member (codes "output") document))
    (address_in DedaIn standard_machine.deda_in (get_member (codes "deda_in") document))
    (address_in DedaOut standard_machine.deda_out (get_member (codes "deda_out") document))
    machine (rw (are_parts document) at is) in
    record { order_codes = gives.order_codes; order_times = gives.order_times; inputs = gives.inputs; outputs = gives.outputs; deda_in = gives.into; deda_out = gives.from }

-- and what each part gives is found
pub gives-machine_in : (document : Members) (machine : Machine) → GivesMachine document machine → machine_in document ≡ Ok machine
gives-machine_in document machine gives =
    rw (are_parts document)
    (whole-made
    (codes_in (get_member (codes "codes") document))
    (times_in (get_member (codes "times") document))
    (ports_in Input (get_member (codes "input") document))
    (ports_in Output (get_member (codes "output") document))
    (address_in DedaIn standard_machine.deda_in (get_member (codes "deda_in") document))
    (address_in DedaOut standard_machine.deda_out (get_member (codes "deda_out") document))
    machine (record { order_codes = gives.order_codes; order_times = gives.order_times; inputs = gives.inputs; outputs = gives.outputs; into = gives.deda_in; from = gives.deda_out }))

-- the fault of a document is the first of its parts' faults
pub machine_in-fault : (document : Members) → result_err (machine_in document) ≡ first_of (part_faults document)
machine_in-fault document = rw (are_parts document) (whole-err
    (codes_in (get_member (codes "codes") document))
    (times_in (get_member (codes "times") document))
    (ports_in Input (get_member (codes "input") document))
    (ports_in Output (get_member (codes "output") document))
    (address_in DedaIn standard_machine.deda_in (get_member (codes "deda_in") document))
    (address_in DedaOut standard_machine.deda_out (get_member (codes "deda_out") document)))
