-- Input registers that are inside, one more at a time, and the first that is outside.
use Rattle.std.proofs.Common.{◌≡◌, ℕ, ◌+◌, ◌<◌, List, length, get_or, sym, subst, ⊎_elim, arith}
use Rattle.std.specs.Prelude.{Option, Some}
use Rattle.std.proofs.lemmas.Bool.{cases_lt}
use Rattle.ags_domain.specs.declared.values.Value.{Value}
use Rattle.ags_play.specs.Guard.{AreCellsInside, AreInputsInside, IsInputInside, IsFirstPort}
use Rattle.ags_ports.specs.declared.machines.Machine.{Machine}
use Rattle.ags_ports.specs.declared.registers.Port.{Port}
use Rattle.ags_ports.specs.Port.{AreRegisters, held_port, register_at}
use Rattle.ags_ports.specs.State.{State}
use Rattle.ags_ports.proofs.PortLemmas.{position_of-some, position_of-register}
use Rattle.ags_safe.specs.Certificate.{Certificate}

pub one_more_input : (machine : Machine) (cert : Certificate Value) (s : State) (limit : ℕ) → AreInputsInside machine cert s limit
    → IsInputInside cert s ((get_or machine.ports.inputs limit (held_port 0)).address) limit → AreInputsInside machine cert s (limit + 1)
one_more_input machine cert s limit so_far here address position found below = ⊎_elim
    (λ less. so_far address position found less)
    (λ from.
    let same : limit ≡ position = omega (arith, below, from) in
    let at = position_of-some machine.ports.inputs address position (held_port 0) found in
    subst (λ (a : ℕ). IsInputInside cert s a position) at.1
    (subst (λ (p : ℕ). IsInputInside cert s ((get_or machine.ports.inputs p (held_port 0)).address) p) same here))
    (cases_lt position limit)

-- the register at a position is the first that is outside
pub first_port : (machine : Machine) (image : List (Option ℕ)) (cert : Certificate Value) (s : State) (ports : List Port) (position word : ℕ) → ports ≡ machine.ports.inputs
    → AreRegisters machine.ports.inputs → s.location ≡ cert.start → AreCellsInside machine image cert s 2048 → position < length machine.ports.inputs → AreInputsInside machine cert s position
    → ¬ IsInputInside cert s ((get_or machine.ports.inputs position (held_port 0)).address) position → word ≡ register_at s.inputs (Some position)
    → IsFirstPort machine image cert s ((get_or ports position (held_port 0)).address) word
first_port machine image cert s ports position word same registers here cells inside earlier outside word_is =
    subst (λ (ps : List Port). IsFirstPort machine image cert s ((get_or ps position (held_port 0)).address) word) (sym same)
    (record {
      location = here;
      cells = cells;
      position = position;
      found = position_of-register machine.ports.inputs position (held_port 0) registers inside;
      earlier = earlier;
      outside = outside;
      word_is = word_is;
    })
