-- What the tests' tiny program loads.
use Rattle.std.proofs.Common.{◌≡◌, ℕ, ◌<◌, ◌≤◌, List, [], ◌∷◌, length, get_or, map, Result, Ok, Err, Option, Some, None, refl, subst, inl, inr, arith}
use Rattle.ags_plan.specs.Loading.{Loads, LoadsFile}
use Rattle.ags_plan.specs.Plan.{Do, Read, End}
use Rattle.ags_source_tests.specs.Tiny.{TinyKind, Text, TinyValue, tiny}
use Rattle.ags_plan.specs.Walk.{Told}

-- a list of two elements is these
pub two_items : {X Y : Type 0} (f : X → Y) (xs : List X) (first second : X) → 2 ≤ length xs → length xs < 3 → first ≡ get_or xs 0 first → second ≡ get_or xs 1 second
    → map f xs ≡ f first ∷ f second ∷ []
two_items f [] first second least most is_first is_second = absurd (omega arith)
two_items f (x ∷ []) first second least most is_first is_second = absurd (omega arith)
two_items f (x ∷ y ∷ []) first second least most is_first is_second = rw (is_first, is_second) refl
two_items f (x ∷ y ∷ z ∷ xs) first second least most is_first is_second = absurd (omega arith)

-- what is loaded from a shelf that tells what it told before is loaded as from that
pub loads_as_before : (told now : Told) (kind : TinyKind) (name : List ℕ) (result : Result (TinyValue kind) (Option (End tiny))) → now ≡ told → LoadsFile tiny now kind name result
    → LoadsFile tiny told kind name result
loads_as_before told now kind name result same loads = subst (λ (t : Told). LoadsFile tiny t kind name result) same loads

-- a text that was loaded is the work
pub text_loads : (told : Told) (name : List ℕ) (result : Result (List ℕ) (Option (End tiny))) → LoadsFile tiny told Text name result → Loads tiny told (Read Text name (λ bytes. Do bytes)) result
text_loads told name (Ok bytes) loads = inr (bytes, loads, refl)
text_loads told name (Err None) loads = tt
text_loads told name (Err (Some end)) loads = inl (loads (λ bytes. Do bytes))
