-- The first fault of a list, as a reader of cards or lines answers it.
--
-- The laws that a reader's loop cites: first_fault-faulty and first_fault-faultless, one element further, and first_fault-nil.
use Rattle.std.specs.Prelude.{◌≡◌, ℕ, ◌+◌, List, [], ◌∷◌, ◌++◌, length, Option, Some, None, reverse}
use Rattle.std.proofs.Common.{refl}

-- the number and the fault of an element that has one, and else another answer
abbrev pub or_later : {F : Type 0} → ℕ → Option F → Option (ℕ × F) → Option (ℕ × F)
or_later number (Some fault) later = Some (number, fault)
or_later number None later = later

-- The first faulty element of a list that goes on after the elements `before`, nearest first: its number
-- in the whole list, counted from 1, and its fault. Whether an element is faulty may depend on those before it.
unfoldable pub first_fault : {X F : Type 0} → (List X → X → Option F) → List X → List X → Option (ℕ × F)
first_fault fault before [] = None
first_fault fault before (x ∷ rest) = or_later (length before + 1) (fault before x) (first_fault fault (x ∷ before) rest)

-- no element is faulty after those before it
abbrev pub IsFaultless : {X F : Type 0} → (List X → X → Option F) → List X → List X → Type 0
IsFaultless {X} fault before xs = (front : List X) (x : X) (rest : List X) → xs ≡ front ++ x ∷ rest → fault (reverse front ++ before) x ≡ None

-- the element of that number has that fault, and no earlier one is faulty
pub record IsFirstFault {X F : Type 0} (fault : List X → X → Option F) (before xs : List X) (found : ℕ × F) : Type 0 where
  pub front : List X
  pub faulty : X
  pub rest : List X
  pub whole : xs ≡ front ++ faulty ∷ rest
  pub number : found.0 ≡ length before + length front + 1
  pub is_faulty : fault (reverse front ++ before) faulty ≡ Some found.1
  pub faultless : IsFaultless fault before front

-- a list of nothing has no fault
pub first_fault-nil : {X F : Type 0} (fault : List X → X → Option F) (before : List X) → first_fault fault before [] ≡ None
unfolding first_fault
first_fault-nil fault before = refl

-- the first element is faulty
pub first_fault-faulty : {X F : Type 0} (fault : List X → X → Option F) (before : List X) (x : X) (rest : List X) (f : F)
    → fault before x ≡ Some f → first_fault fault before (x ∷ rest) ≡ Some (length before + 1, f)
unfolding first_fault
first_fault-faulty fault before x rest f is = rw is refl

-- the first element is not
pub first_fault-faultless : {X F : Type 0} (fault : List X → X → Option F) (before : List X) (x : X) (rest : List X)
    → fault before x ≡ None → first_fault fault before (x ∷ rest) ≡ first_fault fault (x ∷ before) rest
unfolding first_fault
first_fault-faultless fault before x rest is = rw is refl
