-- Looking up a file by its name, in a list of things that each have a name and bytes.
use Rattle.std.proofs.Common.{◌≡◌, ◌≢◌, ℕ, ◌<◌, ◌≤◌, Bool, true, false, List, [], ◌∷◌, ◌++◌, length, get_or, set, map, Some, None, refl, sym, ◌∙◌, ap, arith, get_or-set_same, get_or-set_other, length-set, length-append}
use Rattle.std.proofs.lemmas.Grind.{common_steps}
use Rattle.std.proofs.lemmas.Bool.Decides.{nat_tests}
use Rattle.std.specs.List.{position, position_or_len}
use Rattle.std.specs.Str.{bytes_eq}
use Rattle.std.proofs.lemmas.List.Quantifiers.{position-Some}
use Rattle.std.proofs.lemmas.List.Recursion.{found_at, found_nowhere, found_set_other, found_push_other}
use Rattle.std.proofs.lemmas.List.Sums.{fails_before_first}
use Rattle.std.proofs.lemmas.Slice.Eq.{bytes_eq-Decides}
use Rattle.ags_outside.specs.Files.{bytes_of, Puts}

-- a test that passes nowhere stops at no position
pub long_where_none : {X : Type 0} (p : X → Bool) (xs : List X) → position p xs ≡ None → length xs ≤ position_or_len p xs
long_where_none p xs none = grind (arith, common_steps, nat_tests)

-- no name but this one is equal to it
pub other_name : (mine name other : List ℕ) → bytes_eq mine name ≡ true → other ≢ name → bytes_eq mine other ≡ false
other_name mine name other same differs =
    let mine_is : mine ≡ name = (bytes_eq-Decides mine name).0 same in
    elim (bytes_eq mine other) as (λ r. (r ≡ true → mine ≡ other) → r ≡ false) [
      | true ↦ λ equal. absurd (differs (sym (equal refl) ∙ mine_is))
      | false ↦ λ equal. refl
    ] (bytes_eq-Decides mine other).0

-- the file at the first position that has the name
pub bytes_at_position : {X : Type 0} (key value : X → List ℕ) (xs : List X) (name : List ℕ) (i : ℕ) (d : X) →
    position (λ x. bytes_eq (key x) name) xs ≡ Some i →
    bytes_of (map (λ x. (key x, value x)) xs) name ≡ Some (value (get_or xs i d))
bytes_at_position key value xs name i d at =
    let here = position-Some (λ x. bytes_eq (key x) name) xs i d at in
    found_at (λ ys. bytes_of (map (λ x. (key x, value x)) ys) name) (λ x. bytes_eq (key x) name) (λ x. Some (value x)) None
    refl (λ _ _. refl) xs i d here.0 here.2 here.1

-- no file where no position has the name
pub bytes_nowhere : {X : Type 0} (key value : X → List ℕ) (xs : List X) (name : List ℕ) →
    position (λ x. bytes_eq (key x) name) xs ≡ None → bytes_of (map (λ x. (key x, value x)) xs) name ≡ None
bytes_nowhere key value [] name none = refl
bytes_nowhere key value (x ∷ xs) name none =
    let long : length (x ∷ xs) ≤ position_or_len (λ x. bytes_eq (key x) name) (x ∷ xs) =
    long_where_none (λ y. bytes_eq (key y) name) (x ∷ xs) none in
    found_nowhere (λ ys. bytes_of (map (λ x. (key x, value x)) ys) name) (λ x. bytes_eq (key x) name) (λ x. Some (value x)) None
    refl (λ _ _. refl) (x ∷ xs) x (λ k below. fails_before_first (λ x. bytes_eq (key x) name) (x ∷ xs) k x (omega arith))

-- a new thing with the name, at the first position that has it
pub puts_at_position : {X : Type 0} (key value : X → List ℕ) (xs : List X) (name : List ℕ) (i : ℕ) (y d : X) →
    position (λ x. bytes_eq (key x) name) xs ≡ Some i → key y ≡ key (get_or xs i d) →
    Puts (map (λ x. (key x, value x)) xs) (map (λ x. (key x, value x)) (set xs i y)) name (value y)
puts_at_position {X} key value xs name i y d at same_key =
    let here = position-Some (λ x. bytes_eq (key x) name) xs i d at in
    let within : i < length (set xs i y) = omega (arith, length-set xs i y, here.0) in
    let same : bytes_eq (key y) name ≡ true = ap (λ mine. bytes_eq mine name) same_key ∙ here.1 in
    let put : get_or (set xs i y) i d ≡ y = get_or-set_same xs i y d here.0 in
    record {
      named =
          found_at (λ ys. bytes_of (map (λ x. (key x, value x)) ys) name) (λ x. bytes_eq (key x) name) (λ x. Some (value x)) None
          refl (λ _ _. refl) (set xs i y) i d within
          (λ k below. let apart : k ≢ i = omega arith in rw get_or-set_other (here.2 k below))
          (ap (λ x. bytes_eq (key x) name) put ∙ same)
          ∙ ap (λ x. Some (value x)) put;
      others = λ other differs.
          found_set_other (λ ys. bytes_of (map (λ x. (key x, value x)) ys) other) (λ x. bytes_eq (key x) other) (λ x. Some (value x)) None
          refl (λ _ _. refl) xs i y d (other_name _ name other here.1 differs) (other_name _ name other same differs);
    }

-- a new thing with the name, after things of which none has it
pub puts_behind : {X : Type 0} (key value : X → List ℕ) (xs : List X) (name : List ℕ) (y : X) →
    position (λ x. bytes_eq (key x) name) xs ≡ None → key y ≡ name →
    Puts (map (λ x. (key x, value x)) xs) (map (λ x. (key x, value x)) (xs ++ y ∷ [])) name (value y)
puts_behind {X} key value xs name y none mine =
    let same : bytes_eq (key y) name ≡ true = (bytes_eq-Decides (key y) name).1 mine in
    let last : get_or (xs ++ y ∷ []) (length xs) y ≡ y = grind (arith, common_steps) in
    let long : length xs ≤ position_or_len (λ x. bytes_eq (key x) name) xs = long_where_none _ _ none in
    record {
      named =
          found_at (λ ys. bytes_of (map (λ x. (key x, value x)) ys) name) (λ x. bytes_eq (key x) name) (λ x. Some (value x)) None
          refl (λ _ _. refl) (xs ++ y ∷ []) (length xs) y (omega (arith, length-append xs (y ∷ [])))
          (λ k below.
          let before : get_or (xs ++ y ∷ []) k y ≡ get_or xs k y = grind (arith, common_steps) in
          rw before (fails_before_first (λ x. bytes_eq (key x) name) xs k y (omega arith)))
          (ap (λ x. bytes_eq (key x) name) last ∙ same)
          ∙ ap (λ x. Some (value x)) last;
      others = λ other differs.
          found_push_other (λ ys. bytes_of (map (λ x. (key x, value x)) ys) other) (λ x. bytes_eq (key x) other) (λ x. Some (value x)) None
          refl (λ _ _. refl) xs y (other_name _ name other same differs);
    }
