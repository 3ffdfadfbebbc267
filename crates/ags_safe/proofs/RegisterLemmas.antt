-- What holds of each register of a table, of its address and its word, holds again when one was set or read.
use Rattle.std.proofs.Common.{◌≡◌, ℕ, ◌<◌, Bool, true, false, refl, sym, ap, subst, ◌∙◌, arith, List, length, get_or, set, All, ⊎_elim}
use Rattle.std.specs.Prelude.{Option, Some, None, IsSome, slice_get, if◌then◌else◌}
use Rattle.std.proofs.lemmas.Bool.{cases_eq}
use Rattle.std.proofs.lemmas.List.{get_or-set_same, get_or-set_other}
use Rattle.std.proofs.lemmas.Option.{slice_get-get_or}
use Rattle.ags_ports.specs.declared.registers.Port.{Port}
use Rattle.ags_ports.specs.Port.{position_of, register_at, set_at, read_at, is_once, held_port}
use Rattle.ags_ports.proofs.PortLemmas.{position_of-some}

-- the fact holds of each register's address and word
abbrev pub HoldsOfEach : List Port → List ℕ → (ℕ → ℕ → Type 0) → Type 0
HoldsOfEach ports words P = (address position : ℕ) → position_of ports address ≡ Some position → P address (register_at words (Some position))

-- two addresses of one register are one
same_address : (ports : List Port) (one other position : ℕ) → position_of ports one ≡ Some position → position_of ports other ≡ Some position → one ≡ other
same_address ports one other position p r =
    sym (position_of-some ports one position (held_port 0) p).1 ∙ (position_of-some ports other position (held_port 0) r).1

module _ (ports : List Port) (words : List ℕ) (P : ℕ → ℕ → Type 0) (count : length words ≡ length ports) (before : HoldsOfEach ports words P) where
  set_here : (address position word at there : ℕ) → position_of ports address ≡ Some position → P address word → position_of ports at ≡ Some there
      → P at (get_or (set words position word) there 0)
  set_here address position word at there found is asked = ⊎_elim
      (λ same.
      let one : address ≡ at = same_address ports address at position found (asked ∙ ap (λ (n : ℕ). Some n) same) in
      let inside : position < length ports = (position_of-some ports address position (held_port 0) found).0 in
      let read : get_or (set words position word) there 0 ≡ word =
      ap (λ (n : ℕ). get_or (set words position word) n 0) same ∙ get_or-set_same words position word 0 (omega (arith, inside, count)) in
      subst (λ (n : ℕ). P n (get_or (set words position word) there 0)) one (subst (λ (w : ℕ). P address w) (sym read) is))
      (λ apart. subst (λ (w : ℕ). P at w) (sym (get_or-set_other words position there word 0 apart)) (before at there asked))
      (cases_eq there position)

  -- where a word is set
  pub set_each : (address word : ℕ) (position : Option ℕ) → position_of ports address ≡ position → (IsSome position → P address word)
      → HoldsOfEach ports (set_at words position word) P
  set_each address word None found is at there asked = before at there asked
  set_each address word (Some position) found is at there asked = set_here address position word at there found (is refl) asked

  read_here : (once : Bool) (address position at there : ℕ) → position_of ports address ≡ Some position → (once ≡ true → P address 0)
      → position_of ports at ≡ Some there → P at (get_or (if once then set words position 0 else words) there 0)
  read_here true address position at there found is asked = set_here address position 0 at there found (is refl) asked
  read_here false address position at there found is asked = before at there asked

  -- where one was read, if 0 is a word of each that holds its word once
  pub read_each : (address : ℕ) (position : Option ℕ) → position_of ports address ≡ position
      → ((p : ℕ) → position_of ports address ≡ Some p → is_once (slice_get ports p) ≡ true → P address 0)
      → HoldsOfEach ports (read_at ports words position) P
  read_each address None found is at there asked = before at there asked
  read_each address (Some position) found is at there asked =
      read_here (is_once (slice_get ports position)) address position at there found (λ once. is position found once) asked

-- what holds of the address of each register that holds its word once
pub once_address : (ports : List Port) (P : ℕ → Type 0) → All (λ port. port.once ≡ true → P port.address) ports
    → (address position : ℕ) → position_of ports address ≡ Some position → is_once (slice_get ports position) ≡ true → P address
once_address ports P each address position found once =
    let at = position_of-some ports address position (held_port 0) found in
    let got : slice_get ports position ≡ Some (get_or ports position (held_port 0)) = slice_get-get_or ports position (held_port 0) at.0 in
    subst P at.1 (each position (held_port 0) at.0 (sym (ap is_once got) ∙ once))
