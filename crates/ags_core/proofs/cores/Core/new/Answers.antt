use Rattle.std.proofs.Common.{◌≡◌, ◌<◌, ◌∙◌, arith, ℕ, List, Option, false, length, refl, replicate, rules}
use Rattle.std.specs.Prelude.{unwrap_or}
use Rattle.std.proofs.lemmas.List.{length-map}
use Rattle.std.proofs.lemmas.Result.{err_from_is_err_and}
use Rattle.ags_image.specs.Image.{IsImage}
use Rattle.ags_ports.specs.State.{State}
use Rattle.ags_ports.specs.declared.events.Phase.TheVariants.{Running}
use Rattle.ags_ports.specs.declared.machines.Machine.{Machine}
use Rattle.ags_core.specs.Core.{AreHeld, cells_of, start_state}
use Rattle.ags_core.proofs.StartLemmas.{start_keeps}
use Rattle.ags_core.proofs.cores.Core.new.Goals as goal

-- a core with these words and all else 0 is one that a machine begins with
begins : (machine : Machine) (image : List (Option ℕ)) (start : ℕ) (cells inputs outputs : List ℕ) → cells ≡ cells_of image
    → inputs ≡ replicate (length machine.ports.inputs) 0 → outputs ≡ replicate (length machine.ports.outputs) 0
    → ◌≡◌ {A = State} (record { a = 0; q = 0; index = 0; indicator = false; location = start; phase = Running; cells = cells; inputs = inputs; outputs = outputs })
    (start_state machine image start)
begins machine image start cells inputs outputs cells_are inputs_are outputs_are = rw (cells_are, inputs_are, outputs_are) refl

held : (image : List (Option ℕ)) (start : ℕ) (cells : List ℕ) → start < 4096 → IsImage image → cells ≡ cells_of image → AreHeld 0 start cells
held image start cells below is cells_are = record {
  index = omega arith;
  location = below;
  cells = rw cells_are (length-map image (λ entry. unwrap_or entry 0) ∙ is.whole);
}

pub invariant_of-result-3 : goal.invariant_of-result-3
invariant_of-result-3 c = held c.args.image.now c.args.start c.in_ok-cells.cells.items c.requires c.in_ok-cells.ensures.image c.in_ok-cells.ensures.cells

pub returns-in_err-cells : goal.returns-in_err-cells
returns-in_err-cells c =
    let p = err_from_is_err_and c.from_residual.result c.from_residual.ensures.1 in
    rw p.1 (record { start = tt; state = tt })

pub returns-in_err-inputs : goal.returns-in_err-inputs
returns-in_err-inputs c =
    let p = err_from_is_err_and c.from_residual-in_err-inputs.result c.from_residual-in_err-inputs.ensures.1 in
    rw p.1 (record { start = tt; state = tt })

pub returns-in_err-outputs : goal.returns-in_err-outputs
returns-in_err-outputs c =
    let p = err_from_is_err_and c.from_residual-in_err-outputs.result c.from_residual-in_err-outputs.ensures.1 in
    rw p.1 (record { start = tt; state = tt })

pub returns : goal.returns
returns c =
    let inputs : c.in_ok-inputs.inputs.items ≡ replicate (length c.args.machine.now.ports.inputs) 0 = search rules in
    let outputs : c.in_ok-outputs.outputs.items ≡ replicate (length c.args.machine.now.ports.outputs) 0 = search rules in
    let start = begins c.args.machine.now c.args.image.now c.args.start c.in_ok-cells.cells.items c.in_ok-inputs.inputs.items c.in_ok-outputs.outputs.items
    c.in_ok-cells.ensures.cells inputs outputs in
    record {
      start = start;
      state = start_keeps c.args.machine.now c.args.image.now c.args.start _ c.in_ok-cells.ensures.image c.requires start;
    }
