-- Limits that are set, one address after the other, to what is stated there.
use Rattle.std.proofs.Common.{◌≡◌, ℕ, Bool, false, sym, ap, ◌∙◌, subst, List, get_or, Option, Some, ◌+◌, arith, below_more}
use Rattle.std.proofs.lemmas.List.{get_or_past}
use Rattle.ags_domain.specs.Domain.{IsFull}
use Rattle.ags_domain.specs.Value.{value_meaning}
use Rattle.ags_domain.specs.declared.values.Value.{Value}
use Rattle.ags_row.specs.Limit.{Limiting, AreLimits, AreFullLimits, SetsOne, cell_limit, input_limit, output_limit, is_named}
use Rattle.ags_certtext.specs.Text.{IsLimit}
use Rattle.ags_certread.specs.Gathering.{Gathering, AreLimitsOf, IsSetUpTo, IsNamedUpTo, stated}

pub none_set : (table : List (Option Value)) (limit_at : ℕ → Value) → ((address : ℕ) → IsFull value_meaning (limit_at address)) → IsSetUpTo 0 table limit_at
none_set table limit_at full = record { below = λ address less. absurd (omega (arith, less)); above = λ address least. full address }

pub none_named : (places : List Bool) (limits : Limiting Value) → ((location : ℕ) → is_named limits location ≡ false) → IsNamedUpTo 0 places limits
none_named places limits none = record { below = λ location less. absurd (omega (arith, less)); above = λ location least. none location }

-- what stands where no other was set is full
pub full_every : (limits : Limiting Value) → AreLimits limits → IsFull value_meaning (cell_limit limits 2048) → IsFull value_meaning limits.every
unfolding cell_limit
full_every limits tables full = subst (λ (d : Value). IsFull value_meaning d) (get_or_past limits.cells 2048 limits.every (rw tables.cells (omega arith))) full

-- ---- all that is set

pub inputs_full : (g : Gathering) (first second : Limiting Value) → AreFullLimits value_meaning first → second ≡ record first { cells = second.cells }
    → IsSetUpTo 0 g.inputs (input_limit second)
unfolding input_limit
inputs_full g first second full cells = none_set g.inputs (input_limit second) (λ address.
    subst (λ (d : Value). IsFull value_meaning d) (sym (ap (λ (l : Limiting Value). get_or l.inputs address l.every) cells)) (full.inputs address))

pub outputs_full : (g : Gathering) (first second third : Limiting Value) → AreFullLimits value_meaning first → second ≡ record first { cells = second.cells }
    → third ≡ record second { inputs = third.inputs } → IsSetUpTo 0 g.outputs (output_limit third)
unfolding output_limit
outputs_full g first second third full cells inputs = none_set g.outputs (output_limit third) (λ address.
    subst (λ (d : Value). IsFull value_meaning d)
    (sym (ap (λ (l : Limiting Value). get_or l.outputs address l.every) inputs ∙ ap (λ (l : Limiting Value). get_or l.outputs address l.every) cells)) (full.outputs address))

pub none_so_far : (g : Gathering) (first second third fourth : Limiting Value) → AreFullLimits value_meaning first → second ≡ record first { cells = second.cells }
    → third ≡ record second { inputs = third.inputs } → fourth ≡ record third { outputs = fourth.outputs } → IsNamedUpTo 0 g.places fourth
unfolding is_named
none_so_far g first second third fourth full cells inputs outputs = none_named g.places fourth (λ location.
    ap (λ (l : Limiting Value). get_or l.places location false) outputs
    ∙ ap (λ (l : Limiting Value). get_or l.places location false) inputs
    ∙ ap (λ (l : Limiting Value). get_or l.places location false) cells ∙ full.places location)

module _ (g : Gathering) (second third fourth fifth : Limiting Value)
    (inputs : third ≡ record second { inputs = third.inputs })
    (outputs : fourth ≡ record third { outputs = fourth.outputs }) (places : fifth ≡ record fourth { places = fifth.places }) where
  cells_stay : (address : ℕ) → cell_limit fifth address ≡ cell_limit second address
  unfolding cell_limit
  cells_stay address = ap (λ (l : Limiting Value). get_or l.cells address l.every) places
      ∙ ap (λ (l : Limiting Value). get_or l.cells address l.every) outputs ∙ ap (λ (l : Limiting Value). get_or l.cells address l.every) inputs

  inputs_stay : (address : ℕ) → input_limit fifth address ≡ input_limit third address
  unfolding input_limit
  inputs_stay address = ap (λ (l : Limiting Value). get_or l.inputs address l.every) places ∙ ap (λ (l : Limiting Value). get_or l.inputs address l.every) outputs

  outputs_stay : (address : ℕ) → output_limit fifth address ≡ output_limit fourth address
  unfolding output_limit
  outputs_stay address = ap (λ (l : Limiting Value). get_or l.outputs address l.every) places

  pub all_set : IsSetUpTo 2048 g.cells (cell_limit second) → IsSetUpTo 4096 g.inputs (input_limit third) → IsSetUpTo 4096 g.outputs (output_limit fourth)
      → IsNamedUpTo 4096 g.places fifth → AreLimits fifth → AreLimitsOf g fifth
  all_set of_cells of_inputs of_outputs of_places tables = record {
    tables = tables;
    cells = λ address below. subst (λ (d : Value). IsLimit (stated g.cells address) d) (sym (cells_stay address)) (of_cells.below address below);
    inputs = λ address below. subst (λ (d : Value). IsLimit (stated g.inputs address) d) (sym (inputs_stay address)) (of_inputs.below address below);
    outputs = λ address below. subst (λ (d : Value). IsLimit (stated g.outputs address) d) (sym (outputs_stay address)) (of_outputs.below address below);
    places = of_places.below;
    every = full_every fifth tables (subst (λ (d : Value). IsFull value_meaning d) (sym (cells_stay 2048)) (of_cells.above 2048 (omega arith)));
  }

-- ---- one more that is set

pub set_more : (address : ℕ) (table : List (Option Value)) (value : Value) (limit_at set_at : ℕ → Value) → IsSetUpTo address table limit_at
    → stated table address ≡ Some value → SetsOne limit_at set_at address value → IsSetUpTo (address + 1) table set_at
set_more address table value limit_at set_at so_far is sets = record {
  below = below_more _ _
      (λ other less. subst (λ (limit : Value). IsLimit (stated table other) limit) (sym (sets.others other (omega (arith, less)))) (so_far.below other less))
      (subst (λ (value_there : Option Value). IsLimit value_there (set_at address)) (sym is) sets.set);
  above = λ other least. subst (λ (limit : Value). IsFull value_meaning limit) (sym (sets.others other (omega (arith, least)))) (so_far.above other (omega (arith, least)));
}
