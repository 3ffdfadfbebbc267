-- Lists of which one thing is sought.
use Rattle.std.proofs.Common.{◌≡◌, ℕ, ◌+◌, ◌<◌, Bool, true, false, refl, sym, ap, subst, ◌∙◌, ⊎_elim, arith, List, length, get_or}
use Rattle.std.specs.Prelude.{Any, IsTrue}
use Rattle.std.proofs.lemmas.Bool.{cases_lt}
use Rattle.std.proofs.lemmas.List.{get_or_default}

-- a test that fails
pub never : {P : Type 0} (b : Bool) → (P → IsTrue b) → b ≡ false → P → ⊥
never b says is p = let both : true ≡ false = sym (says p) ∙ is in cc

-- where one has it, a test that holds says so
pub found : {X : Type 0} (P : X → Type 0) (xs : List X) (position : ℕ) (x : X) → position < length xs → x ≡ get_or xs position x → P x
    → (IsTrue true → Any P xs) × (Any P xs → IsTrue true)
found P xs position x inside is p = (λ h. (position, x, inside, sym is, p), λ some. refl)

-- where none of those before has it, and the next hasn't, none of those up to it has
pub none_further : {X : Type 0} (P : X → Type 0) (xs : List X) (position : ℕ) (x : X) → position < length xs → x ≡ get_or xs position x
    → ((i : ℕ) (d : X) → i < position → P (get_or xs i d) → ⊥) → (P x → ⊥) → (i : ℕ) (d : X) → i < position + 1 → P (get_or xs i d) → ⊥
none_further {X} P xs position x inside is before not_x i d near p = ⊎_elim
    (λ less. before i d less p)
    (λ more.
    let same : i ≡ position = omega arith in
    not_x (subst P (ap (λ (n : ℕ). get_or xs n d) same ∙ get_or_default xs position d x inside ∙ sym is) p))
    (cases_lt i position)
