-- What a change of one entry changes, and what the first limits say. The crates above cite:
--     each_same    a list of one entry has it at each place
use Rattle.std.proofs.Common.{◌≡◌, ◌∙◌, ap, ℕ, ◌<◌, List, length, get_or, set, refl, sym, subst, ⊎_elim, true, false, Bool}
use Rattle.std.specs.Prelude.{replicate}
use Rattle.std.proofs.lemmas.Bool.{cases_lt}
use Rattle.std.proofs.lemmas.List.{get_or_default, get_or-set_same, get_or-set_other, get_or_past, get_or-replicate, length-replicate}
use Rattle.ags_domain.specs.Domain.{Meaning, IsFull}
use Rattle.ags_row.specs.Limit.{Limiting, AreLimits, AreWholeLimits, cell_limit, input_limit, output_limit, is_named, SetsOne, SetsCell, SetsInput, SetsOutput, NamesPlace, AreFullLimits}

-- a list with one entry set, read at each place
pub entry_set : {E : Type 0} (list : List E) (place : ℕ) (entry default : E) → place < length list
    → SetsOne (λ other. get_or list other default) (λ other. get_or (set list place entry) other default) place entry
entry_set list place entry default inside = record {
  set = get_or-set_same list place entry default inside;
  others = λ other apart. get_or-set_other list place other entry default apart;
}

-- limits by their lists
abbrev pub view_of : {D : Type 0} → (cells inputs outputs : List D) → List Bool → D → Limiting D
view_of cells inputs outputs places every = record { cells = cells; inputs = inputs; outputs = outputs; places = places; every = every }

module _ {D : Type 0} (limits : Limiting D) (are : AreLimits limits) where
  pub cell_set : (address : ℕ) (value : D) → address < 2048 → SetsCell limits (record limits { cells = set limits.cells address value }) address value
  unfolding cell_limit
  cell_set address value below = record { cells = entry_set limits.cells address value limits.every (rw are.cells below); rest = refl }

  pub input_set : (address : ℕ) (value : D) → address < 4096 → SetsInput limits (record limits { inputs = set limits.inputs address value }) address value
  unfolding input_limit
  input_set address value below = record { inputs = entry_set limits.inputs address value limits.every (rw are.inputs below); rest = refl }

  pub output_set : (address : ℕ) (value : D) → address < 4096 → SetsOutput limits (record limits { outputs = set limits.outputs address value }) address value
  unfolding output_limit
  output_set address value below = record { outputs = entry_set limits.outputs address value limits.every (rw are.outputs below); rest = refl }

  pub place_named : (location : ℕ) → location < 4096 → NamesPlace limits (record limits { places = set limits.places location true }) location
  unfolding is_named
  place_named location below = record { places = entry_set limits.places location true false (rw are.places below); rest = refl }

-- a list of one entry has it at each place, and so has what stands for the places past its end
pub each_same : {E : Type 0} (count : ℕ) (entry : E) (place : ℕ) → get_or (replicate count entry) place entry ≡ entry
each_same count entry place = ⊎_elim
    (λ below. get_or-replicate count place entry entry below)
    (λ above. get_or_past (replicate count entry) place entry (rw (length-replicate count entry) above))
    (cases_lt place count)

pub full_limits : {D : Type 0} (meaning : Meaning D) (every : D) (limits : Limiting D) → IsFull meaning every
    → limits.every ≡ every → limits.cells ≡ replicate 2048 every → limits.inputs ≡ replicate 4096 every
    → limits.outputs ≡ replicate 4096 every → limits.places ≡ replicate 4096 false → AreFullLimits meaning limits
unfolding cell_limit input_limit output_limit is_named
full_limits {D} meaning every limits full is cells inputs outputs places = record {
  cells = λ address. subst (λ (d : D). IsFull meaning d) (sym (rw (cells, is) (each_same 2048 every address))) full;
  inputs = λ address. subst (λ (d : D). IsFull meaning d) (sym (rw (inputs, is) (each_same 4096 every address))) full;
  outputs = λ address. subst (λ (d : D). IsFull meaning d) (sym (rw (outputs, is) (each_same 4096 every address))) full;
  places = λ location. rw places (each_same 4096 false location);
}

pub whole_limits : {D : Type 0} (meaning : Meaning D) (every : D) (limits : Limiting D) → IsFull meaning every
    → limits.every ≡ every → limits.cells ≡ replicate 2048 every → limits.inputs ≡ replicate 4096 every
    → limits.outputs ≡ replicate 4096 every → limits.places ≡ replicate 4096 false → AreWholeLimits meaning limits
whole_limits {D} meaning every limits full is cells inputs outputs places = record {
  tables = record {
    cells = rw cells (length-replicate 2048 every);
    inputs = rw inputs (length-replicate 4096 every);
    outputs = rw outputs (length-replicate 4096 every);
    places = rw places (length-replicate 4096 false);
  };
  every = subst (λ (d : D). IsFull meaning d) (sym is) full;
}

-- ---- what is read at an address

pub cell_read : {D : Type 0} (inside now : Limiting D) (address : ℕ) (read : D) → inside ≡ now → AreLimits inside → address < 2048
    → read ≡ get_or inside.cells address read → read ≡ cell_limit now address
unfolding cell_limit
cell_read inside now address read same are within is =
    is ∙ get_or_default inside.cells address read inside.every (rw are.cells within) ∙ ap (λ (limits : Limiting _). get_or limits.cells address limits.every) same

pub input_read : {D : Type 0} (inside now : Limiting D) (address : ℕ) (read : D) → inside ≡ now → AreLimits inside → address < 4096
    → read ≡ get_or inside.inputs address read → read ≡ input_limit now address
unfolding input_limit
input_read inside now address read same are within is =
    is ∙ get_or_default inside.inputs address read inside.every (rw are.inputs within) ∙ ap (λ (limits : Limiting _). get_or limits.inputs address limits.every) same

pub output_read : {D : Type 0} (inside now : Limiting D) (address : ℕ) (read : D) → inside ≡ now → AreLimits inside → address < 4096
    → read ≡ get_or inside.outputs address read → read ≡ output_limit now address
unfolding output_limit
output_read inside now address read same are within is =
    is ∙ get_or_default inside.outputs address read inside.every (rw are.outputs within) ∙ ap (λ (limits : Limiting _). get_or limits.outputs address limits.every) same
