-- What holds of each element, by recursion, over the lists that the cases of a row are made of. The crates above cite:
--     append_each, map_each, flat_each    it holds of each of a list that was made where it holds of each of what it was made of
--     each_of, each_if                    what holds of all holds of each, and so does what follows from it
use Rattle.std.proofs.Common.{List, [], ◌∷◌, ◌++◌, map}
use Rattle.std.specs.List.{AllByRecursion, flat_map}

module _ {X : Type 0} (P : X → Type 0) where
  pub append_each : (xs ys : List X) → AllByRecursion P xs → AllByRecursion P ys → AllByRecursion P (xs ++ ys)
  append_each [] ys left right = right
  append_each (x ∷ xs) ys left right = (left.0, append_each xs ys left.1 right)

  pub left_each : (xs ys : List X) → AllByRecursion P (xs ++ ys) → AllByRecursion P xs
  left_each [] ys each = tt
  left_each (x ∷ xs) ys each = (each.0, left_each xs ys each.1)

  pub right_each : (xs ys : List X) → AllByRecursion P (xs ++ ys) → AllByRecursion P ys
  right_each [] ys each = each
  right_each (x ∷ xs) ys each = right_each xs ys each.1

module _ {X Y : Type 0} (P : Y → Type 0) where
  pub map_each : (f : X → Y) (xs : List X) → AllByRecursion (λ x. P (f x)) xs → AllByRecursion P (map f xs)
  map_each f [] each = tt
  map_each f (x ∷ xs) each = (each.0, map_each f xs each.1)

  pub each_map : (f : X → Y) (xs : List X) → AllByRecursion P (map f xs) → AllByRecursion (λ x. P (f x)) xs
  each_map f [] each = tt
  each_map f (x ∷ xs) each = (each.0, each_map f xs each.1)

  pub flat_each : (f : X → List Y) (xs : List X) → AllByRecursion (λ x. AllByRecursion P (f x)) xs → AllByRecursion P (flat_map f xs)
  flat_each f [] each = tt
  flat_each f (x ∷ xs) each = append_each P (f x) (flat_map f xs) each.0 (flat_each f xs each.1)

  pub each_flat : (f : X → List Y) (xs : List X) → AllByRecursion P (flat_map f xs) → AllByRecursion (λ x. AllByRecursion P (f x)) xs
  each_flat f [] each = tt
  each_flat f (x ∷ xs) each = (left_each P (f x) (flat_map f xs) each, each_flat f xs (right_each P (f x) (flat_map f xs) each))

-- ---- where it follows from what held

module _ {X : Type 0} (P : X → Type 0) where
  pub each_of : ((x : X) → P x) → (xs : List X) → AllByRecursion P xs
  each_of each [] = tt
  each_of each (x ∷ xs) = (each x, each_of each xs)

  pub each_if : (Q : X → Type 0) → ((x : X) → Q x → P x) → (xs : List X) → AllByRecursion Q xs → AllByRecursion P xs
  each_if Q each [] all = tt
  each_if Q each (x ∷ xs) all = (each x all.0, each_if Q each xs all.1)

module _ {X Y : Type 0} (P : Y → Type 0) (Q : X → Type 0) where
  pub map_if : (f : X → Y) → ((x : X) → Q x → P (f x)) → (xs : List X) → AllByRecursion Q xs → AllByRecursion P (map f xs)
  map_if f each xs all = map_each P f xs (each_if (λ x. P (f x)) Q each xs all)

  pub flat_if : (f : X → List Y) → ((x : X) → Q x → AllByRecursion P (f x)) → (xs : List X) → AllByRecursion Q xs → AllByRecursion P (flat_map f xs)
  flat_if f each xs all = flat_each P f xs (each_if (λ x. AllByRecursion P (f x)) Q each xs all)
