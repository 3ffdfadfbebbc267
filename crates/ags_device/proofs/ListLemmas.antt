-- Changes of lists of boxes, as changes of the lists of their records. The crates above cite:
--     heard_by_all    to be given to as many as there are is to be given to all
use Rattle.std.proofs.Common.{◌≡◌, ◌<◌, ◌≤◌, ◌+◌, ℕ, zero, suc, List, [], ◌∷◌, map, length, get_or, set, refl, ap, sym, ◌∙◌, arith, add-one, subst, IsSome}
use Rattle.std.proofs.lemmas.List.{length-map}
use Rattle.std.proofs.lemmas.Option.{slice_get-map, slice_get_read}
use Rattle.std.specs.List.{remove}
use Rattle.std.specs.Option.{option_map}
use Rattle.std.specs.Prelude.{Option, Some, slice_get}
use Rattle.ags_device.specs.Record.{DeviceRecord}
use Rattle.ags_device.specs.Devices.{changed_at, without, hearing, heard_below, all_heard}

-- ---- the image of the member at a position

pub get_mapped : {A B : Type 0} (f : A → B) (xs : List A) (position : ℕ) (x : A) → position < length xs → x ≡ get_or xs position x → slice_get (map f xs) position ≡ Some (f x)
get_mapped f xs position x below found = slice_get-map f xs position ∙ ap (λ o. option_map f o) (slice_get_read xs (length xs) position x refl below found)

pub some_there : {A : Type 0} (o : Option A) (d : A) → o ≡ Some d → IsSome o
some_there {A} o d e = let P : Option A → Type 0 = λ p. IsSome p in subst P (sym e) refl

-- ---- one member is changed

-- a member x is replaced by y, whose image is that of x changed
pub map_set_at : {A B : Type 0} (f : A → B) (h : B → B) (xs : List A) (position : ℕ) (x y : A) → position < length xs → x ≡ get_or xs position x → f y ≡ h (f x) → map f (set xs position y) ≡ changed_at h (map f xs) position
map_set_at f h [] position x y below found e = grind arith
map_set_at f h (z ∷ xs) zero x y below found e = ap (λ w. w ∷ map f xs) (e ∙ ap (λ w. h (f w)) found)
map_set_at f h (z ∷ xs) (suc position) x y below found e = ap (λ ys. f z ∷ ys) (map_set_at f h xs position x y (grind arith) found e)

-- a member is replaced by one with the same image
pub map_set_same : {A B : Type 0} (f : A → B) (xs : List A) (position : ℕ) (x y : A) → position < length xs → x ≡ get_or xs position x → f y ≡ f x → map f (set xs position y) ≡ map f xs
map_set_same f [] position x y below found e = grind arith
map_set_same f (z ∷ xs) zero x y below found e = ap (λ w. w ∷ map f xs) (e ∙ ap (λ w. f w) found)
map_set_same f (z ∷ xs) (suc position) x y below found e = ap (λ ys. f z ∷ ys) (map_set_same f xs position x y (grind arith) found e)

-- ---- one member leaves

map_removed : {A B : Type 0} (f : A → B) (xs : List A) (position : ℕ) → map f (remove xs position) ≡ without (map f xs) position
map_removed f [] zero = refl
map_removed f [] (suc position) = refl
map_removed f (x ∷ xs) zero = refl
map_removed f (x ∷ xs) (suc position) = ap (λ ys. f x ∷ ys) (map_removed f xs position)

-- the same, of a list that the code made
pub map_removed_to : {A B : Type 0} (f : A → B) (xs ys : List A) (position : ℕ) → ys ≡ remove xs position → map f ys ≡ without (map f xs) position
map_removed_to f xs ys position e = ap (λ zs. map f zs) e ∙ map_removed f xs position

-- ---- a word is heard, by one device after another

heard_one_more : (address word position : ℕ) (devices : List DeviceRecord) → changed_at (hearing address word) (heard_below address word position devices) position ≡ heard_below address word (suc position) devices
heard_one_more address word zero [] = refl
heard_one_more address word zero (d ∷ devices) = refl
heard_one_more address word (suc position) [] = refl
heard_one_more address word (suc position) (d ∷ devices) = ap (λ ys. hearing address word d ∷ ys) (heard_one_more address word position devices)

pub heard_on : (address word position : ℕ) (devices now next : List DeviceRecord) → now ≡ heard_below address word position devices → next ≡ changed_at (hearing address word) now position → next ≡ heard_below address word (position + 1) devices
heard_on address word position devices now next e f =
    f ∙ ap (λ ds. changed_at (hearing address word) ds position) e ∙ heard_one_more address word position devices ∙ ap (λ n. heard_below address word n devices) (sym (add-one position))

heard_past_all : (address word count : ℕ) (devices : List DeviceRecord) → length devices ≤ count → heard_below address word count devices ≡ all_heard address word devices
heard_past_all address word zero [] within = refl
heard_past_all address word (suc count) [] within = refl
heard_past_all address word zero (d ∷ devices) within = grind arith
heard_past_all address word (suc count) (d ∷ devices) within = ap (λ ys. hearing address word d ∷ ys) (heard_past_all address word count devices (grind arith))

pub heard_by_all : (address word : ℕ) (devices : List DeviceRecord) → heard_below address word (length devices) devices ≡ all_heard address word devices
heard_by_all address word devices = heard_past_all address word (length devices) devices (omega arith)

-- the same, of the records of a list, once the loop along it is past its end
pub heard_whole : {A : Type 0} (f : A → DeviceRecord) (address word count : ℕ) (xs : List A) (now : List DeviceRecord) → now ≡ heard_below address word count (map f xs) → length xs ≤ count → now ≡ all_heard address word (map f xs)
heard_whole f address word count xs now e within = e ∙ heard_past_all address word count (map f xs) (let l = length-map xs f in grind arith)
