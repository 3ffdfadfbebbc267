-- Keys in nine columns.
use Rattle.std.proofs.Common.{◌≡◌, ℕ, ◌<◌, ◌≤◌, zero, suc, List, [], ◌∷◌, ◌++◌, length, map, reverse, set, refl, sym, ap, ◌∙◌, arith}
use Rattle.std.proofs.lemmas.List.{reverse-append, length-reverse, length-map, map-append}
use Rattle.ags_deda.specs.declared.keys.Key.{Key}
use Rattle.ags_deda.specs.Panel.{padded, spelled}

padded-set : (width blank x : ℕ) (xs : List ℕ) → length xs < width → set (padded width blank xs) (length xs) x ≡ padded width blank (xs ++ x ∷ [])
unfolding padded
padded-set zero blank x xs lt = absurd (omega arith)
padded-set (suc width) blank x [] lt = refl
padded-set (suc width) blank x (y ∷ xs) lt = ap (λ (rest : List ℕ). y ∷ rest) (padded-set width blank x xs (omega arith))

padded-far : (width blank x : ℕ) (xs : List ℕ) → width ≤ length xs → padded width blank (xs ++ x ∷ []) ≡ padded width blank xs
unfolding padded
padded-far zero blank x xs far = refl
padded-far (suc width) blank x [] far = absurd (omega arith)
padded-far (suc width) blank x (y ∷ xs) far = ap (λ (rest : List ℕ). y ∷ rest) (padded-far width blank x xs (omega arith))

length-padded : (width blank : ℕ) (xs : List ℕ) → length (padded width blank xs) ≡ width
unfolding padded
length-padded zero blank xs = refl
length-padded (suc width) blank [] = ap suc (length-padded width blank [])
length-padded (suc width) blank (x ∷ xs) = ap suc (length-padded width blank xs)

spelled_keys : (spell : Key → ℕ) (key : Key) (keys : List Key) → map spell (reverse (key ∷ keys)) ≡ map spell (reverse keys) ++ spell key ∷ []
spelled_keys spell key keys = ap (λ (all : List Key). map spell all) (reverse-append (key ∷ []) keys) ∙ map-append spell (reverse keys) (key ∷ [])

many_keys : (spell : Key → ℕ) (keys : List Key) → length (map spell (reverse keys)) ≡ length keys
many_keys spell keys = length-map (reverse keys) spell ∙ length-reverse keys

-- a key in its column
pub spelled-set : (spell : Key → ℕ) (blank column : ℕ) (key : Key) (keys : List Key) → column ≡ length keys → column < 9
    → set (spelled spell blank keys) column (spell key) ≡ spelled spell blank (key ∷ keys)
unfolding spelled
spelled-set spell blank column key keys is lt =
    let many : length (map spell (reverse keys)) ≡ column = many_keys spell keys ∙ sym is in
    ap (λ (n : ℕ). set (padded 9 blank (map spell (reverse keys))) n (spell key)) (sym many)
    ∙ padded-set 9 blank (spell key) (map spell (reverse keys)) (omega arith)
    ∙ ap (λ (all : List ℕ). padded 9 blank all) (sym (spelled_keys spell key keys))

-- a key after the last column
pub spelled-far : (spell : Key → ℕ) (blank : ℕ) (key : Key) (keys : List Key) → 9 ≤ length keys → spelled spell blank keys ≡ spelled spell blank (key ∷ keys)
unfolding spelled
spelled-far spell blank key keys far =
    sym (padded-far 9 blank (spell key) (map spell (reverse keys)) (omega (arith, many_keys spell keys)))
    ∙ ap (λ (all : List ℕ). padded 9 blank all) (sym (spelled_keys spell key keys))

pub length-spelled : (spell : Key → ℕ) (blank : ℕ) (keys : List Key) → length (spelled spell blank keys) ≡ 9
unfolding spelled
length-spelled spell blank keys = length-padded 9 blank (map spell (reverse keys))
