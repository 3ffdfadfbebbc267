-- What a read leaves of the file that it was of, by how many bytes it gave: none at the file's end, and nothing is said of
-- a read that failed. `remaining` is what a file has left, where that is known.
use Rattle.std.specs.Prelude.{◌≡◌, ◌⊎◌, ℕ, ◌+◌, ◌-◌, ◌^◌, List, take, min, Option, Some, IfSome, IsSomeAnd}
use Rattle.std.specs.Io.KnownBytes.{Consumes, IsAtEnd, Keeps}
use Rattle.std.specs.String.{string_bytes}
use Rattle.ags_edge.specs.declared.file_shelf.OpenFile.{OpenFile}

-- the file of that name stays open, at the place after the bytes, which begin at `from`
abbrev pub StaysOpen : {F : Type 0} → (held : Option (OpenFile F)) (name : List ℕ) (from : ℕ) (count : Option ℕ) → Type 0
StaysOpen held name from count =
    IfSome count (λ given. IsSomeAnd held (λ file. (string_bytes file.name ≡ name) × (file.at ≡ min (from + given) (2 ^ 64 - 1))))

-- where no byte was given, the file that stays open has none left
abbrev pub IsAtItsEnd : {F : Type 0} → (remaining : F → Option (List ℕ)) (held : Option (OpenFile F)) (count : Option ℕ) → Type 0
IsAtItsEnd remaining held count = count ≡ Some 0 → IsSomeAnd held (λ file. IsAtEnd (remaining file.file))

-- a file of that name that stood open at that place gave the first of the bytes that it had left, and has the others left
abbrev pub ReadsOn : {F : Type 0} → (remaining : F → Option (List ℕ)) (before now : Option (OpenFile F)) (name : List ℕ) (from : ℕ) (into : List ℕ) (count : Option ℕ) → Type 0
ReadsOn remaining before now name from into count = IfSome before (λ old. string_bytes old.name ≡ name → old.at ≡ from
    → IfSome count (λ given. IsSomeAnd now (λ new. Consumes (remaining old.file) (remaining new.file) (take given into))))

-- A file that was opened stands at a place now: it was sought there, and where that is its start it is as it was opened. `position`
-- and `contents` are where it stands and all its bytes, where they are known.
pub record IsBroughtTo {F : Type 0} (position : F → Option ℕ) (contents : F → Option (List ℕ)) (opened : F) (from : ℕ) (there : F) : Type 0 where
  pub start : from ≡ 0 → there ≡ opened
  pub place : position opened ≡ Some 0 → position there ≡ Some from
  pub kept : Keeps (contents opened) (contents there)

-- the file of that name stood at the place: it was held there, or it was opened and brought there
abbrev pub StoodAt : {F : Type 0} → (position : F → Option ℕ) (contents : F → Option (List ℕ)) (before : Option (OpenFile F)) (name : List ℕ) (from : ℕ) (there : F) → Type 0
StoodAt {F} position contents before name from there =
    IsSomeAnd before (λ held. (string_bytes held.name ≡ name) × (held.at ≡ from) × (held.file ≡ there)) ⊎ ((opened : F) × IsBroughtTo position contents opened from there)

-- bytes that were given are those that a file had left which stood at the place, held or newly opened; it stays open
abbrev pub ReadsWhatStood : {F : Type 0} → (remaining : F → Option (List ℕ)) (position : F → Option ℕ) (contents : F → Option (List ℕ)) (before now : Option (OpenFile F)) (name : List ℕ) (from : ℕ) (into : List ℕ) (count : Option ℕ) → Type 0
ReadsWhatStood {F} remaining position contents before now name from into count =
    IfSome count (λ given. IsSomeAnd now (λ new. (there : F) × StoodAt position contents before name from there × Consumes (remaining there) (remaining new.file) (take given into)))
