-- Where nothing of the state that a script begins in is outside, that state is a start of the certificate. The crates above cite:
--     begun_is_start    it is one
use Rattle.std.proofs.Common.{◌≡◌, ℕ, ◌<◌, ◌≤◌, ◌^◌, Bool, true, false, List, [], ◌∷◌, length, get_or, set, refl, ◌∙◌, arith, All}
use Rattle.std.specs.Prelude.{Option, Some, None, nat_lt, if◌then◌else◌}
use Rattle.std.proofs.lemmas.Grind.{common_steps}
use Rattle.std.proofs.lemmas.List.{length-set}
use Rattle.std.proofs.lemmas.List.Elements.{All-head, All-tail, All-set, All-replicate}
use Rattle.ags_core.specs.Core.{start_state}
use Rattle.ags_core.proofs.StartLemmas.{start_is, start_word}
use Rattle.ags_domain.specs.Value.{value_meaning}
use Rattle.ags_domain.specs.declared.values.Value.{Value}
use Rattle.ags_image.specs.Image.{IsImage}
use Rattle.ags_ports.specs.declared.events.Phase.TheVariants.{Running}
use Rattle.ags_ports.specs.declared.machines.Machine.{Machine}
use Rattle.ags_ports.specs.Port.{position_of, set_at}
use Rattle.ags_ports.specs.State.{State, IsState, cells_with_word}
use Rattle.ags_safe.specs.InRow.{HasFixedWords}
use Rattle.ags_safe.specs.Certificate.{Certificate}
use Rattle.ags_safe.specs.Start.{IsStart}
use Rattle.ags_script.specs.declared.commands.Command.{Command}
use Rattle.ags_script.specs.declared.commands.Command.TheVariants.{Start, Cell, Port}
use Rattle.ags_script.specs.Suiting.{NamesLocation, NamesWord}
use Rattle.ags_play.specs.Bench.{with_setting, with_settings, begun_state}
use Rattle.ags_play.specs.Guard.{IsInside}
use Rattle.ags_play.specs.Begun.{AreSettable}

abbrev AreWords : List ℕ → Type 0
AreWords words = All (λ word. word < 2 ^ 18) words

abbrev AreZeros : List ℕ → Type 0
AreZeros words = All (λ word. word ≡ 0) words

-- what no setting changes
record IsFresh (machine : Machine) (image : List (Option ℕ)) (s : State) : Type 0 where
  state : IsState machine s
  running : s.phase ≡ Running
  a : s.a ≡ 0
  q : s.q ≡ 0
  index : s.index ≡ 0
  indicator : s.indicator ≡ false
  outputs : AreZeros s.outputs
  fixed : HasFixedWords image s

set_words : (words : List ℕ) (position : Option ℕ) (word : ℕ) → AreWords words → word < 2 ^ 18 → AreWords (set_at words position word)
set_words words None word are below = are
set_words words (Some position) word are below = All-set (λ w. w < 2 ^ 18) words position word below are

set_length : (words : List ℕ) (position : Option ℕ) (word : ℕ) → length (set_at words position word) ≡ length words
set_length words None word = refl
set_length words (Some position) word = length-set words position word

chosen_words : (b : Bool) (xs ys : List ℕ) → AreWords xs → AreWords ys → AreWords (if b then xs else ys)
chosen_words true xs ys p r = p
chosen_words false xs ys p r = r

chosen_length : (b : Bool) (xs ys : List ℕ) (n : ℕ) → length xs ≡ n → length ys ≡ n → length (if b then xs else ys) ≡ n
chosen_length true xs ys n p r = p
chosen_length false xs ys n p r = r

chosen_cell : (b : Bool) (xs ys : List ℕ) (n : ℕ) → get_or xs n 0 ≡ get_or ys n 0 → get_or (if b then xs else ys) n 0 ≡ get_or ys n 0
chosen_cell true xs ys n p = p
chosen_cell false xs ys n p = refl

set_other : (cells : List ℕ) (address word n : ℕ) → address < 2048 → 2048 ≤ n → get_or (set cells address word) n 0 ≡ get_or cells n 0
set_other cells address word n erasable fixed = grind (arith, common_steps)

-- a fixed cell stays
fixed_stays : (cells : List ℕ) (address word n : ℕ) → address < 2048 → 2048 ≤ n → get_or (cells_with_word cells address word) n 0 ≡ get_or cells n 0
fixed_stays cells address word n erasable fixed = chosen_cell (nat_lt address 2048) (set cells address word) cells n (set_other cells address word n erasable fixed)

-- a setting changes the location, a cell or an input register, and no more
module _ (machine : Machine) (image : List (Option ℕ)) (s : State) (p : IsFresh machine image s) where
  fresh_with : {location : ℕ} {cells inputs : List ℕ} → location < 4096 → length cells ≡ 4096 → AreWords cells
      → length inputs ≡ length machine.ports.inputs → AreWords inputs → HasFixedWords image (record s { cells = cells })
      → IsFresh machine image (record s { location = location; cells = cells; inputs = inputs })
  fresh_with below cells_count cells inputs_count inputs fixed = record {
    state = record {
      a = p.state.a;
      q = p.state.q;
      index = p.state.index;
      location = below;
      cells_count = cells_count;
      cells = cells;
      inputs_count = inputs_count;
      inputs = inputs;
      outputs_count = p.state.outputs_count;
      outputs = p.state.outputs;
    };
    running = p.running;
    a = p.a;
    q = p.q;
    index = p.index;
    indicator = p.indicator;
    outputs = p.outputs;
    fixed = fixed;
  }

  fresh_setting : (command : Command) → NamesLocation command → NamesWord command → IsFresh machine image (with_setting machine s command)
  fresh_setting (Start address) located word =
      fresh_with located p.state.cells_count p.state.cells p.state.inputs_count p.state.inputs p.fixed
  fresh_setting (Cell address word) located below = fresh_with p.state.location
      (chosen_length (nat_lt address 2048) (set s.cells address word) s.cells 4096 (length-set s.cells address word ∙ p.state.cells_count) p.state.cells_count)
      (chosen_words (nat_lt address 2048) (set s.cells address word) s.cells (All-set (λ w. w < 2 ^ 18) s.cells address word below p.state.cells) p.state.cells)
      p.state.inputs_count p.state.inputs
      (λ n from inside. fixed_stays s.cells address word n located from ∙ p.fixed n from inside)
  fresh_setting (Port address word) located below = fresh_with p.state.location p.state.cells_count p.state.cells
      (set_length s.inputs (position_of machine.ports.inputs address) word ∙ p.state.inputs_count)
      (set_words s.inputs (position_of machine.ports.inputs address) word p.state.inputs below)
      p.fixed
  fresh_setting _ located word = p

fresh_settings : (machine : Machine) (image : List (Option ℕ)) (s : State) (commands : List Command) → All NamesLocation commands → All NamesWord commands → IsFresh machine image s
    → IsFresh machine image (with_settings machine s commands)
fresh_settings machine image s [] located words p = p
fresh_settings machine image s (command ∷ commands) located words p =
    fresh_settings machine image (with_setting machine s command) commands (All-tail NamesLocation command commands located) (All-tail NamesWord command commands words)
    (fresh_setting machine image s p command (All-head NamesLocation command commands located) (All-head NamesWord command commands words))

fresh_start : (machine : Machine) (image : List (Option ℕ)) (start : ℕ) → IsImage image → start < 4096 → IsFresh machine image (start_state machine image start)
fresh_start machine image start is below = record {
  state = start_is machine image start is below;
  running = refl;
  a = refl;
  q = refl;
  index = refl;
  indicator = refl;
  outputs = All-replicate (λ word. word ≡ 0) (length machine.ports.outputs) 0 refl;
  fixed = λ address from inside. start_word machine image start address;
}

pub begun_is_start : (machine : Machine) (image : List (Option ℕ)) (cert : Certificate Value) (commands : List Command) → IsImage image → cert.start < 4096 → AreSettable commands
    → IsInside machine image cert (begun_state machine image (Some cert) commands) → IsStart value_meaning machine image cert (begun_state machine image (Some cert) commands)
begun_is_start machine image cert commands is below settable inside =
    let fresh = fresh_settings machine image (start_state machine image cert.start) commands settable.locations settable.words (fresh_start machine image cert.start is below) in
    record {
      state = fresh.state;
      location = inside.location;
      running = fresh.running;
      a = fresh.a;
      q = fresh.q;
      index = fresh.index;
      indicator = fresh.indicator;
      outputs = fresh.outputs;
      cells = inside.cells;
      fixed = fresh.fixed;
      inputs = inside.inputs;
    }
