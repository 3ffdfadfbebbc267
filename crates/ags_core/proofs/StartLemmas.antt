-- The state that a machine begins in.
use Rattle.std.proofs.Common.{◌≡◌, refl, get_or, ℕ, zero, suc, ◌+◌, ◌<◌, ◌^◌, sym, subst, ◌∙◌, arith, List, [], ◌∷◌, ◌++◌, length, take, All}
use Rattle.std.specs.Prelude.{Option, None, unwrap_or}
use Rattle.std.proofs.lemmas.List.{map_more, length-map, length-replicate, get_or_default}
use Rattle.std.proofs.lemmas.List.Elements.{All-map, All-replicate}
use Rattle.ags_ports.specs.declared.machines.Machine.{Machine}
use Rattle.ags_ports.specs.State.{State, IsState, cell}
use Rattle.ags_image.specs.Image.{IsImage, entry_at, word_at}
use Rattle.ags_core.specs.Core.{cells_of, start_state}

-- one more cell
pub cells_more : (image : List (Option ℕ)) (location : ℕ) (cells : List ℕ) → location < length image → cells ≡ cells_of (take location image)
    → cells ++ word_at image location ∷ [] ≡ cells_of (take (location + 1) image)
unfolding word_at entry_at
cells_more image location cells inside so = rw so (sym (map_more (λ entry. unwrap_or entry 0) image location None inside))

cells_words : (image : List (Option ℕ)) → IsImage image → All (λ word. word < 2 ^ 18) (cells_of image)
unfolding word_at entry_at
cells_words image is = All-map (λ word. word < 2 ^ 18) (λ entry. unwrap_or entry 0) image
    (λ location entry inside. rw (get_or_default image location entry None inside) (is.words location))

word_from : (image : List (Option ℕ)) (address : ℕ) → get_or (cells_of image) address 0 ≡ unwrap_or (get_or image address None) 0
word_from [] address = refl
word_from (entry ∷ image) zero = refl
word_from (entry ∷ image) (suc address) = word_from image address

pub start_word : (machine : Machine) (image : List (Option ℕ)) (start address : ℕ) → cell (start_state machine image start) address ≡ word_at image address
unfolding word_at entry_at
start_word machine image start address = word_from image address

pub start_is : (machine : Machine) (image : List (Option ℕ)) (start : ℕ) → IsImage image → start < 4096 → IsState machine (start_state machine image start)
start_is machine image start is below = record {
  a = omega arith;
  q = omega arith;
  index = omega arith;
  location = below;
  cells_count = length-map image (λ entry. unwrap_or entry 0) ∙ is.whole;
  cells = cells_words image is;
  inputs_count = length-replicate {A = ℕ} (length machine.ports.inputs) 0;
  inputs = All-replicate (λ word. word < 2 ^ 18) (length machine.ports.inputs) 0 (omega arith);
  outputs_count = length-replicate {A = ℕ} (length machine.ports.outputs) 0;
  outputs = All-replicate (λ word. word < 2 ^ 18) (length machine.ports.outputs) 0 (omega arith);
}

-- a state that is the one that a machine begins in is a state of the machine
pub start_keeps : (machine : Machine) (image : List (Option ℕ)) (start : ℕ) (s : State) → IsImage image → start < 4096 → s ≡ start_state machine image start
    → IsState machine s
start_keeps machine image start s is below same = subst (λ (t : State). IsState machine t) (sym same) (start_is machine image start is below)
