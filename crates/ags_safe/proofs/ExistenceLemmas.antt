-- Each certificate has a start: what it says of runs is said of some.
use Rattle.std.proofs.Common.{◌≡◌, ℕ, ◌<◌, ◌≤◌, ◌^◌, Bool, true, false, refl, sym, ap, subst, ◌∙◌, arith, List, length, get_or, map, replicate, All}
use Rattle.std.specs.Prelude.{Option, Some, None, nat_lt, unwrap_or, if◌then◌else◌}
use Rattle.std.specs.List.{range_with_len}
use Rattle.std.proofs.lemmas.Bool.{lt-ltb}
use Rattle.std.proofs.lemmas.Bool.Decides.{nat_tests}
use Rattle.std.proofs.lemmas.List.{get_or-map, get_or-replicate, length-map, length-replicate}
use Rattle.std.proofs.lemmas.List.FromFn.{get_or-map-range_with_len, length-map-range_with_len}
use Rattle.ags_domain.specs.Domain.{Meaning, IsMeaning}
use Rattle.ags_image.specs.Image.{IsImage, entry_at, word_at}
use Rattle.ags_ports.specs.declared.registers.Port.{Port}
use Rattle.ags_ports.specs.declared.events.Phase.TheVariants.{Running}
use Rattle.ags_ports.specs.declared.machines.Machine.{Machine}
use Rattle.ags_ports.specs.Port.{position_of, held_port}
use Rattle.ags_ports.specs.State.{State}
use Rattle.ags_ports.proofs.PortLemmas.{position_of-some}
use Rattle.ags_row.specs.Limit.{input_limit}
use Rattle.ags_safe.specs.Certificate.{Certificate, IsCertificate}
use Rattle.ags_safe.specs.Start.{IsFirstWord, IsStart}

false_of : (address : ℕ) → 2048 ≤ address → nat_lt address 2048 ≡ false
false_of address from = grind (arith, nat_tests)

module _ {D : Type 0} (meaning : Meaning D) (lawful : IsMeaning D meaning) (machine : Machine) (image : List (Option ℕ)) (cert : Certificate D)
    (is_cert : IsCertificate meaning cert) (is_image : IsImage image) where
  -- ---- a word for each cell

  abbrev first_word : Option ℕ → Option D → ℕ
  first_word (Some assembled) stated = assembled
  first_word None (Some value) = (meaning.ends value).least
  first_word None None = 0

  is_first : (assembled : Option ℕ) (stated : Option D) → IsFirstWord meaning assembled stated (first_word assembled stated)
  is_first (Some assembled) stated = refl
  is_first None (Some value) = (lawful.least_word value, lawful.least_held value)
  is_first None None = refl

  first_below : (assembled : Option ℕ) (stated : Option D) → unwrap_or assembled 0 < 2 ^ 18 → first_word assembled stated < 2 ^ 18
  first_below (Some assembled) stated below = below
  first_below None (Some value) below = lawful.least_word value
  first_below None None below = below

  abbrev word_for : (low : Bool) (address : ℕ) → ℕ
  word_for low address = if low then first_word (entry_at image address) (cert.init address) else word_at image address

  word_below : (low : Bool) (address : ℕ) → word_for low address < 2 ^ 18
  unfolding word_at
  word_below true address = first_below (entry_at image address) (cert.init address) (is_image.words address)
  word_below false address = is_image.words address

  abbrev cell_word : ℕ → ℕ
  cell_word address = word_for (nat_lt address 2048) address

  -- ---- a word for each input

  abbrev input_word : Port → ℕ
  input_word port = (meaning.ends (input_limit cert.limits port.address)).least

  abbrev input_words : List ℕ
  input_words = map input_word machine.ports.inputs

  input_read : (position : ℕ) (d : ℕ) → position < length machine.ports.inputs → get_or input_words position d ≡ input_word (get_or machine.ports.inputs position (held_port 0))
  input_read position d inside = get_or-map input_word machine.ports.inputs position (held_port 0) d inside

  input_held : (address position : ℕ) → position_of machine.ports.inputs address ≡ Some position
      → meaning.held (input_limit cert.limits address) (get_or input_words position 0) ≡ true
  input_held address position found =
      let port = get_or machine.ports.inputs position (held_port 0) in
      let at = position_of-some machine.ports.inputs address position (held_port 0) found in
      subst (λ (w : ℕ). meaning.held (input_limit cert.limits address) w ≡ true) (sym (input_read position 0 at.0))
      (subst (λ (n : ℕ). meaning.held (input_limit cert.limits n) (input_word port) ≡ true) at.1 (lawful.least_held (input_limit cert.limits port.address)))

  input_below : All (λ word. word < 2 ^ 18) input_words
  input_below k d inside =
      let within : k < length machine.ports.inputs = omega (arith, length-map machine.ports.inputs input_word, inside) in
      let port = get_or machine.ports.inputs k (held_port 0) in
      subst (λ (w : ℕ). w < 2 ^ 18) (sym (input_read k d within)) (lawful.least_word (input_limit cert.limits port.address))

  -- ---- the state

  abbrev state_with : (cells inputs outputs : List ℕ) → State
  state_with cells inputs outputs = record {
    a = 0;
    q = 0;
    index = 0;
    indicator = false;
    location = cert.start;
    phase = Running;
    cells = cells;
    inputs = inputs;
    outputs = outputs;
  }

  -- with a word in each cell, and 0 in each output
  starts : (cells outputs : List ℕ) → length cells ≡ 4096 → ((address d : ℕ) → address < 4096 → get_or cells address d ≡ cell_word address)
      → length outputs ≡ length machine.ports.outputs → All (λ word. word ≡ 0) outputs
      → IsStart meaning machine image cert (state_with cells input_words outputs)
  starts cells outputs count each many zeros = record {
    state = record {
      a = omega arith;
      q = omega arith;
      index = omega arith;
      location = is_cert.start;
      cells_count = count;
      cells = λ k d inside. subst (λ (w : ℕ). w < 2 ^ 18) (sym (each k d (omega (arith, count, inside)))) (word_below (nat_lt k 2048) k);
      inputs_count = length-map machine.ports.inputs input_word;
      inputs = input_below;
      outputs_count = many;
      outputs = λ k d inside. subst (λ (w : ℕ). w < 2 ^ 18) (sym (zeros k d inside)) (omega arith);
    };
    location = refl;
    running = refl;
    a = refl;
    q = refl;
    index = refl;
    indicator = refl;
    outputs = zeros;
    cells = λ address below.
        let read : get_or cells address 0 ≡ first_word (entry_at image address) (cert.init address) =
        each address 0 (omega (arith, below)) ∙ ap (λ (b : Bool). word_for b address) (lt-ltb address 2048 below) in
        subst (λ (w : ℕ). IsFirstWord meaning (entry_at image address) (cert.init address) w) (sym read) (is_first (entry_at image address) (cert.init address));
    fixed = λ address from below. each address 0 below ∙ ap (λ (b : Bool). word_for b address) (false_of address from);
    inputs = input_held;
  }

  abbrev words_up_to : ℕ → List ℕ
  words_up_to n = map cell_word (range_with_len 0 n)

  read_word : (n address d : ℕ) → address < n → get_or (words_up_to n) address d ≡ cell_word address
  read_word n address d below = get_or-map-range_with_len cell_word 0 n address address d below (omega arith)

  pub some_start : (s : State) × IsStart meaning machine image cert s
  some_start =
      let zeros = replicate (length machine.ports.outputs) 0 in
      let many : length zeros ≡ length machine.ports.outputs = length-replicate (length machine.ports.outputs) 0 in (
        state_with (words_up_to 4096) input_words zeros,
        starts (words_up_to 4096) zeros (length-map-range_with_len cell_word 0 4096) (read_word 4096) many
            (λ k d inside. get_or-replicate (length machine.ports.outputs) k 0 d (omega (arith, many, inside))),
      )
