use Rattle.std.proofs.Common.{◌≡◌, Ok, Err, IsErrOf, Result, inl, inr, refl}
use Rattle.std.proofs.lemmas.Result.{err_from_is_err_and}
use Rattle.ags_places.specs.declared.source_error.AssembleError.{AssembleError}
use Rattle.ags_places.specs.declared.source_error.AssembleError.TheVariants.{Source, NoMemory}
use Rattle.ags_asm.proofs.building.Building.finish.Goals as goal

pub assemble-requires : goal.assemble-requires
assemble-requires c = rw c.deref.ensures.value (rw (← c.self.view_is) at c.requires)

pub returns-in_err-made-clause-bytes : goal.returns-in_err-made-clause-bytes
returns-in_err-made-clause-bytes c = rw ((err_from_is_err_and c.from_residual.result c.from_residual.ensures.1).1) tt

pub returns-in_err-made-clause-assembled : goal.returns-in_err-made-clause-assembled
returns-in_err-made-clause-assembled c = rw ((err_from_is_err_and c.from_residual.result c.from_residual.ensures.1).1) tt

pub returns-in_err-made-clause-defines : goal.returns-in_err-made-clause-defines
returns-in_err-made-clause-defines c = rw ((err_from_is_err_and c.from_residual.result c.from_residual.ensures.1).1) tt

pub returns-in_err-made-clause-image : goal.returns-in_err-made-clause-image
returns-in_err-made-clause-image c = rw ((err_from_is_err_and c.from_residual.result c.from_residual.ensures.1).1) tt

pub returns-in_err-made-clause-one_each : goal.returns-in_err-made-clause-one_each
returns-in_err-made-clause-one_each c = rw ((err_from_is_err_and c.from_residual.result c.from_residual.ensures.1).1) tt

pub returns-in_err-made-clause-within : goal.returns-in_err-made-clause-within
returns-in_err-made-clause-within c = rw ((err_from_is_err_and c.from_residual.result c.from_residual.ensures.1).1) tt

pub returns-in_err-made-clause-spans : goal.returns-in_err-made-clause-spans
returns-in_err-made-clause-spans c = rw ((err_from_is_err_and c.from_residual.result c.from_residual.ensures.1).1) tt

pub returns-in_err-made-clause-refused : goal.returns-in_err-made-clause-refused
returns-in_err-made-clause-refused c =
    let p = err_from_is_err_and c.from_residual.result c.from_residual.ensures.1 in
    rw (p.1, p.2, ← c.self.view_is, ← c.deref.ensures.value) c.in_err-made.ensures.refused

pub returns-clause-bytes : goal.returns-clause-bytes
returns-clause-bytes c = rw (← c.self.view_is) refl

pub returns-clause-assembled : goal.returns-clause-assembled
returns-clause-assembled c = rw (← c.self.view_is, ← c.deref.ensures.value) c.in_ok-made.ensures.assembled

pub returns-clause-defines : goal.returns-clause-defines
returns-clause-defines c = rw (← c.self.view_is, ← c.deref.ensures.value) c.in_ok-made.ensures.defines

pub returns-clause-one_each : goal.returns-clause-one_each
returns-clause-one_each c = rw (← c.self.view_is, ← c.deref.ensures.value) c.in_ok-made.ensures.one_each

pub returns-clause-spans : goal.returns-clause-spans
returns-clause-spans c = rw (← c.self.view_is, ← c.deref.ensures.value) c.in_ok-made.ensures.spans

pub returns-clause-image : goal.returns-clause-image
returns-clause-image c = c.in_ok-made.ensures.image

pub returns-clause-refused : goal.returns-clause-refused
returns-clause-refused c = tt

pub returns-clause-within : goal.returns-clause-within
returns-clause-within c = c.in_ok-made.ensures.within

-- what was made is no error
not_error : {T : Type 0} (made : T) (error : AssembleError) → ◌≡◌ {A = Result T AssembleError} (Ok made) (Err error) → ⊥
not_error made error is = cc

pub returns-clause-faultless : goal.returns-clause-faultless
returns-clause-faultless c = let told = rw c.deref.ensures.value at c.in_ok-made.ensures.faultless in rw (← c.self.view_is) (λ words defines. elim (told words defines) [
  | inl same ↦ inl same
  | inr wanting ↦ absurd (not_error c.in_ok-made.made NoMemory wanting)
])

pub returns-clause-faulty : goal.returns-clause-faulty
returns-clause-faulty c = let told = rw c.deref.ensures.value at c.in_ok-made.ensures.faulty in rw (← c.self.view_is) (λ error faulty. elim (told error faulty) [
  | inl refused ↦ absurd (not_error c.in_ok-made.made (Source error) refused)
  | inr wanting ↦ absurd (not_error c.in_ok-made.made NoMemory wanting)
])

-- want of memory, and a fault, are handed on
handed : {T U : Type 0} {mid error other : AssembleError} {result : Result U AssembleError} → result ≡ Err mid → mid ≡ error → ◌≡◌ {A = Result T AssembleError} (Err error) (Err other)
    → IsErrOf result other
handed {error = error} {other = other} is own same = let it : error ≡ other = cc in rw (is, own, it) refl

pub returns-in_err-made-clause-faultless : goal.returns-in_err-made-clause-faultless
returns-in_err-made-clause-faultless c = let p = err_from_is_err_and c.from_residual.result c.from_residual.ensures.1 in rw (← c.self.view_is, ← c.deref.ensures.value) (λ words defines. elim (c.in_err-made.ensures.faultless words defines) [
  | inl none ↦ absurd none
  | inr wanting ↦ inr (handed p.1 p.2 wanting)
])

pub returns-in_err-made-clause-faulty : goal.returns-in_err-made-clause-faulty
returns-in_err-made-clause-faulty c = let p = err_from_is_err_and c.from_residual.result c.from_residual.ensures.1 in rw (← c.self.view_is, ← c.deref.ensures.value) (λ error faulty. elim (c.in_err-made.ensures.faulty error faulty) [
  | inl refused ↦ inl (handed p.1 p.2 refused)
  | inr wanting ↦ inr (handed p.1 p.2 wanting)
])
