-- The states that a run may start in, and the events that may come.
use Rattle.std.specs.Prelude.{◌≡◌, ℕ, ◌<◌, ◌^◌, false, true, List, [], ◌∷◌, All, Option, Some, None, IsSome, ⊤}
use Rattle.ags_domain.specs.Domain.{Meaning}
use Rattle.ags_image.specs.Image.{entry_at}
use Rattle.ags_ports.specs.declared.events.Phase.TheVariants.{Running}
use Rattle.ags_ports.specs.declared.events.Event.{Event}
use Rattle.ags_ports.specs.declared.events.Event.TheVariants.{Step, Pulse, Put}
use Rattle.ags_ports.specs.declared.machines.Machine.{Machine}
use Rattle.ags_ports.specs.Port.{position_of}
use Rattle.ags_ports.specs.State.{State, IsState, cell}
use Rattle.ags_row.specs.Limit.{input_limit}
use Rattle.ags_safe.specs.InRow.{HasFixedWords, AreInputsHeld}
use Rattle.ags_safe.specs.Certificate.{Certificate}

-- a word that a cell may hold at the start, by the image's word there and what is stated of the start: the image's word, else one of
-- those that are stated, else 0
abbrev pub IsFirstWord : {D : Type 0} → Meaning D → Option ℕ → Option D → ℕ → Type 0
IsFirstWord meaning (Some assembled) stated word = word ≡ assembled
IsFirstWord meaning None (Some value) word = (word < 2 ^ 18) × (meaning.held value word ≡ true)
IsFirstWord meaning None None word = word ≡ 0

-- a word that the erasable cell at an address may hold at the start
abbrev pub IsStartWord : {D : Type 0} → Meaning D → List (Option ℕ) → Certificate D → (address word : ℕ) → Type 0
IsStartWord meaning image cert address word = IsFirstWord meaning (entry_at image address) (cert.init address) word

-- A start: orders run from the certificate's location; A, Q, the index, the indicator and each output are 0; each erasable cell has a
-- word that it may hold at the start, each fixed one the image's, else 0; and each input has a word of its limit.
pub record IsStart {D : Type 0} (meaning : Meaning D) (machine : Machine) (image : List (Option ℕ)) (cert : Certificate D) (s : State) : Type 0 where
  pub state : IsState machine s
  pub location : s.location ≡ cert.start
  pub running : s.phase ≡ Running
  pub a : s.a ≡ 0
  pub q : s.q ≡ 0
  pub index : s.index ≡ 0
  pub indicator : s.indicator ≡ false
  pub outputs : All (λ word. word ≡ 0) s.outputs
  pub cells : (address : ℕ) → address < 2048 → IsStartWord meaning image cert address (cell s address)
  pub fixed : HasFixedWords image s
  pub inputs : AreInputsHeld meaning machine cert.limits s

-- an event that may come: a word that is put into an input register is one of the register's limit
abbrev pub IsDeclared : {D : Type 0} → Meaning D → Machine → Certificate D → Event → Type 0
IsDeclared meaning machine cert Step = ⊤
IsDeclared meaning machine cert Pulse = ⊤
IsDeclared meaning machine cert (Put address word) =
    IsSome (position_of machine.ports.inputs address) → meaning.held (input_limit cert.limits address) word ≡ true

-- each event is one that may come
abbrev pub AreDeclared : {D : Type 0} → Meaning D → Machine → Certificate D → List Event → Type 0
AreDeclared meaning machine cert [] = ⊤
AreDeclared meaning machine cert (event ∷ events) = IsDeclared meaning machine cert event × AreDeclared meaning machine cert events
