-- No order changes a fixed cell.
use Rattle.std.proofs.Common.{◌≡◌, ◌≢◌, ℕ, ◌≤◌, true, false, refl, ap, ◌∙◌, arith, List, get_or, set}
use Rattle.std.specs.Prelude.{Bool, Option, Some, None, nat_eq, nat_lt, int_lt, pos, if◌then◌else◌}
use Rattle.std.proofs.lemmas.Bool.Decides.{nat_tests}
use Rattle.std.proofs.lemmas.List.{get_or-set_other}
use Rattle.ags_word.specs.Word.{val}
use Rattle.ags_isa.specs.declared.orders.Order.{Order}
use Rattle.ags_isa.specs.declared.orders.Order.TheVariants.{Abs, Add, Adz, Als, Axt, Cla, Clz, Com, Dly, Dvp, Inp, Ldq, Lls, Lrs, Mpr, Mpy, Mpz, Out, Sto, Stq, Sub, Suz, Tix, Tmi, Tov, Tra, Tsq}
use Rattle.ags_isa.specs.declared.decoding.Decoded.{Decoded}
use Rattle.ags_ports.specs.declared.events.Phase.{Phase}
use Rattle.ags_ports.specs.declared.events.Phase.TheVariants.{Running, Waiting, Halted}
use Rattle.ags_ports.specs.declared.events.Event.{Event}
use Rattle.ags_ports.specs.declared.events.Event.TheVariants.{Step, Pulse, Put}
use Rattle.ags_ports.specs.declared.events.Done.{Done}
use Rattle.ags_ports.specs.declared.machines.Machine.{Machine}
use Rattle.ags_ports.specs.State.{State, cell, cells_with_word}
use Rattle.ags_ports.specs.Effect.{effect}
use Rattle.ags_ports.specs.Step.{Obeys, StepsIn, Steps}

fixed_choice : (low : Bool) (cells : List ℕ) (address word at : ℕ) → (low ≡ true → at ≢ address)
    → get_or (if low then set cells address word else cells) at 0 ≡ get_or cells at 0
fixed_choice true cells address word at differ = get_or-set_other cells address at word 0 (differ refl)
fixed_choice false cells address word at differ = refl

below_half : (address at : ℕ) → 2048 ≤ at → nat_lt address 2048 ≡ true → at ≢ address
below_half address at fixed low same = grind (arith, nat_tests)

pub written_fixed : (cells : List ℕ) (address word at : ℕ) → 2048 ≤ at → get_or (cells_with_word cells address word) at 0 ≡ get_or cells at 0
written_fixed cells address word at fixed = fixed_choice (nat_lt address 2048) cells address word at (below_half address at fixed)

chosen_cells : (b : Bool) (t u : State) (word at : ℕ) → cell t at ≡ word → cell u at ≡ word → cell (if b then t else u) at ≡ word
chosen_cells true t u word at p r = p
chosen_cells false t u word at p r = r

effect_fixed : (machine : Machine) (s : State) (order : Order) (e y at : ℕ) → 2048 ≤ at → cell ((effect machine s order e y).after) at ≡ cell s at
effect_fixed machine s Cla e y at fixed = refl
effect_fixed machine s Ldq e y at fixed = refl
effect_fixed machine s Sto e y at fixed = written_fixed s.cells e s.a at fixed
effect_fixed machine s Stq e y at fixed = written_fixed s.cells e s.q at fixed
effect_fixed machine s Add e y at fixed = refl
effect_fixed machine s Sub e y at fixed = refl
effect_fixed machine s Clz e y at fixed = written_fixed s.cells e 0 at fixed
effect_fixed machine s Adz e y at fixed = written_fixed s.cells e 0 at fixed
effect_fixed machine s Suz e y at fixed = written_fixed s.cells e 0 at fixed
effect_fixed machine s Com e y at fixed = refl
effect_fixed machine s Abs e y at fixed = refl
effect_fixed machine s Als e y at fixed = refl
effect_fixed machine s Mpy e y at fixed = refl
effect_fixed machine s Mpr e y at fixed = refl
effect_fixed machine s Mpz e y at fixed = written_fixed s.cells e 0 at fixed
effect_fixed machine s Dvp e y at fixed = refl
effect_fixed machine s Lrs e y at fixed = refl
effect_fixed machine s Lls e y at fixed = refl
effect_fixed machine s Tra e y at fixed = refl
effect_fixed machine s Tmi e y at fixed = chosen_cells (int_lt (val s.a) (pos 0)) _ _ _ at refl refl
effect_fixed machine s Tov e y at fixed = chosen_cells s.indicator _ _ _ at refl refl
effect_fixed machine s Tix e y at fixed = chosen_cells (nat_eq s.index 0) _ _ _ at refl refl
effect_fixed machine s Axt e y at fixed = refl
effect_fixed machine s Tsq e y at fixed = refl
effect_fixed machine s Inp e y at fixed = refl
effect_fixed machine s Out e y at fixed = refl
effect_fixed machine s Dly e y at fixed = refl

-- ---- and no event does

along : (t u : State) (at word : ℕ) → t ≡ u → cell u at ≡ word → cell t at ≡ word
along t u at word e is = ap (λ (v : State). cell v at) e ∙ is

module _ (machine : Machine) (s : State) where
  obeys_fixed : (named : Option Decoded) (report : Done) (after : State) (at : ℕ) → 2048 ≤ at → Obeys machine s named report after → cell after at ≡ cell s at
  obeys_fixed (Some d) report after at fixed p = along after _ at _ p.1 (effect_fixed machine s d.order _ d.address at fixed)
  obeys_fixed None report after at fixed p = along after _ at _ p.1 refl

  step_in_fixed : (phase : Phase) (report : Done) (after : State) (at : ℕ) → 2048 ≤ at → StepsIn phase machine s report after → cell after at ≡ cell s at
  step_in_fixed Running report after at fixed p = obeys_fixed p.0 report after at fixed p.2
  step_in_fixed Waiting report after at fixed p = along after s at _ p.1 refl
  step_in_fixed Halted report after at fixed p = along after s at _ p.1 refl

  pub step_fixed : (event : Event) (report : Done) (after : State) (at : ℕ) → 2048 ≤ at → Steps machine s event report after → cell after at ≡ cell s at
  step_fixed Step report after at fixed p = step_in_fixed s.phase report after at fixed p
  step_fixed Pulse report after at fixed p = along after _ at _ p.1 refl
  step_fixed (Put address word) report after at fixed p = along after _ at _ p.1 refl
