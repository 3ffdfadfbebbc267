-- The standard machine's tables are valid. The crates above cite:
--     IsMachine-standard    the standard machine is a machine
use Rattle.std.proofs.Common.{◌≡◌, ◌≢◌, ℕ, ◌<◌, ◌==◌, Bool, true, not, ◌&&◌, List, [], ◌∷◌, All, AllPairs, refl, rules, arith}
use Rattle.std.specs.Prelude.{nat_lt}
use Rattle.std.specs.List.{list_all}
use Rattle.std.proofs.lemmas.Bool.Decides.{nat_tests}
use Rattle.std.proofs.lemmas.List.Sums.{AllPass-from_list_all}
use Rattle.std.proofs.lemmas.List.Kept.{AllPairs-cons}
use Rattle.ags_isa.proofs.CodeLemmas.{standard_are_codes}
use Rattle.ags_ports.specs.declared.registers.Port.{Port}
use Rattle.ags_ports.specs.Port.{AreRegisters, standard_inputs, standard_outputs}
use Rattle.ags_ports.specs.Machine.{IsMachine, standard_machine}
use Rattle.ags_ports.proofs.TimeLemmas.{AreTimes-standard}

-- a test that computes: no address is equal to one after it
apart : List Port → Bool
apart [] = true
apart (port ∷ ports) = list_all (λ other. not (port.address == other.address)) ports && apart ports

unlike : (address other : ℕ) → not (address == other) ≡ true → address ≢ other
unlike address other test same = grind (rules, test, same)

low : (address : ℕ) → nat_lt address 4096 ≡ true → address < 4096
low address test = grind (arith, nat_tests)

and_left : (a b : Bool) → (a && b) ≡ true → a ≡ true
and_left a b both = search rules

and_right : (a b : Bool) → (a && b) ≡ true → b ≡ true
and_right a b both = search rules

apart-distinct : (ports : List Port) → apart ports ≡ true → AllPairs (λ one another. one.address ≢ another.address) ports
unfolding apart
apart-distinct [] test = λ i j d before within. absurd (omega arith)
apart-distinct (port ∷ ports) test =
    AllPairs-cons (λ one another. one.address ≢ another.address) port ports
    (λ k d within. unlike _ _ (AllPass-from_list_all _ ports (and_left _ _ test) k d within))
    (apart-distinct ports (and_right _ _ test))

all_low : (ports : List Port) → list_all (λ port. nat_lt port.address 4096) ports ≡ true → All (λ port. port.address < 4096) ports
all_low ports test k d within = low _ (AllPass-from_list_all (λ port. nat_lt port.address 4096) ports test k d within)

AreRegisters-standard_inputs : AreRegisters standard_inputs
unfolding apart
AreRegisters-standard_inputs =
    record { few = omega arith; below = all_low standard_inputs refl; distinct = apart-distinct standard_inputs refl }

AreRegisters-standard_outputs : AreRegisters standard_outputs
unfolding apart
AreRegisters-standard_outputs =
    record { few = omega arith; below = all_low standard_outputs refl; distinct = apart-distinct standard_outputs refl }

pub IsMachine-standard : IsMachine standard_machine
IsMachine-standard = record {
  codes = standard_are_codes;
  times = AreTimes-standard;
  inputs = AreRegisters-standard_inputs;
  outputs = AreRegisters-standard_outputs;
}
