-- The first fault is the first: by induction on the list.
use Rattle.std.proofs.Common.{◌≡◌, ℕ, ◌+◌, List, [], ◌∷◌, ◌++◌, length, reverse, Option, Some, None, refl, ap, subst, append_assoc, arith}
use mathlib.Core.List.{reverse-cons}
use Rattle.ags_text.specs.Fault.{or_later, first_fault, IsFaultless, IsFirstFault}

-- an element at the end of a front, or as the nearest of those before
turned : {X : Type 0} (x : X) (front before : List X) → reverse (x ∷ front) ++ before ≡ reverse front ++ (x ∷ before)
turned x front before = rw (reverse-cons, append_assoc) refl

faultless-nil : {X F : Type 0} (fault : List X → X → Option F) (before : List X) → IsFaultless fault before []
faultless-nil fault before [] y rest whole = absurd cc
faultless-nil fault before (z ∷ front) y rest whole = absurd cc

-- a list is faultless where its first element and the rest are
faultless-cons : {X F : Type 0} (fault : List X → X → Option F) (before : List X) (x : X) (xs : List X)
    → fault before x ≡ None → IsFaultless fault (x ∷ before) xs → IsFaultless fault before (x ∷ xs)
faultless-cons fault before x xs one others [] y rest whole = let same : x ≡ y = cc in rw (← same) one
faultless-cons fault before x xs one others (z ∷ front) y rest whole =
    let same : x ≡ z = cc in
    let behind : xs ≡ front ++ y ∷ rest = cc in
    rw (turned z front before, ← same) (others front y rest behind)

-- a first element without a fault, and no first fault after it
head_none : {X F : Type 0} (fault : List X → X → Option F) (before : List X) (x : X) (xs : List X) (head : Option F) → fault before x ≡ head
    → or_later (length before + 1) head (first_fault fault (x ∷ before) xs) ≡ None
    → (first_fault fault (x ∷ before) xs ≡ None → IsFaultless fault (x ∷ before) xs) → IsFaultless fault before (x ∷ xs)
head_none fault before x xs None is none later = faultless-cons fault before x xs is (later none)
head_none fault before x xs (Some f) is none later = absurd cc

pub faultless : {X F : Type 0} (fault : List X → X → Option F) (before xs : List X) → first_fault fault before xs ≡ None → IsFaultless fault before xs
unfolding first_fault
faultless fault before [] none = faultless-nil fault before
faultless fault before (x ∷ xs) none = head_none fault before x xs (fault before x) refl none (faultless fault (x ∷ before) xs)

-- the first fault is after a first element that has none
found_later : {X F : Type 0} (fault : List X → X → Option F) (before : List X) (x : X) (xs : List X) (f : ℕ × F)
    → fault before x ≡ None → IsFirstFault fault (x ∷ before) xs f → IsFirstFault fault before (x ∷ xs) f
found_later fault before x xs f one later = record {
  front = x ∷ later.front;
  faulty = later.faulty;
  rest = later.rest;
  whole = ap (λ (ys : List _). x ∷ ys) later.whole;
  number = omega (arith, later.number);
  is_faulty = rw (turned x later.front before) later.is_faulty;
  faultless = faultless-cons fault before x later.front one later.faultless;
}

head_found : {X F : Type 0} (fault : List X → X → Option F) (before : List X) (x : X) (xs : List X) (f : ℕ × F) (head : Option F) → fault before x ≡ head
    → or_later (length before + 1) head (first_fault fault (x ∷ before) xs) ≡ Some f
    → (first_fault fault (x ∷ before) xs ≡ Some f → IsFirstFault fault (x ∷ before) xs f) → IsFirstFault fault before (x ∷ xs) f
head_found fault before x xs f None is first later = found_later fault before x xs f is (later first)
head_found fault before x xs f (Some wrong) is first later =
    let same : (length before + 1, wrong) ≡ f = cc in
    subst (λ (g : ℕ × _). IsFirstFault fault before (x ∷ xs) g) same (record {
      front = [];
      faulty = x;
      rest = xs;
      whole = refl;
      number = omega arith;
      is_faulty = is;
      faultless = faultless-nil fault before;
    })

pub found : {X F : Type 0} (fault : List X → X → Option F) (before xs : List X) (f : ℕ × F) → first_fault fault before xs ≡ Some f → IsFirstFault fault before xs f
unfolding first_fault
found fault before [] f is = absurd cc
found fault before (x ∷ xs) f is = head_found fault before x xs f (fault before x) refl is (found fault (x ∷ before) xs f)
