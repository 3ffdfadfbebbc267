use Rattle.std.proofs.Common.{◌≡◌, ℕ, List, Bool, true, false, true≢false, Option, Result, Ok, Err, IfOk, inl, inr, refl, sym, ◌∙◌}
use Rattle.std.specs.Str.{bytes_eq}
use Rattle.std.proofs.lemmas.Slice.Eq.{bytes_eq-Decides}
use Rattle.ags_edge.specs.declared.file_shelf.OpenFile.{OpenFile}
use Rattle.ags_edge.specs.Held.{IsBroughtTo, StoodAt}
use Rattle.ags_edge.proofs.file_shelf.file_at.Goals.{in_default-via-in-Some+then-held-from+else-eq, in_default-via-in-Some+else-held-from, in_default-via-in_default}
use Rattle.ags_edge.proofs.file_shelf.file_at.Goals as goal

-- what a comparison of names says
same_name : (mine name : List ℕ) (same : Bool) → same ≡ bytes_eq mine name → same ≡ true → mine ≡ name
same_name mine name same is so = (bytes_eq-Decides mine name).0 (sym is ∙ so)

other_name : (mine name : List ℕ) (same : Bool) → same ≡ bytes_eq mine name → same ≡ false → mine ≡ name → ⊥
other_name mine name same is not so = true≢false (sym (is ∙ (bytes_eq-Decides mine name).1 so) ∙ not)

-- what was opened stood at the place
opened_stood : {F E : Type 0} (position : F → Option ℕ) (contents : F → Option (List ℕ)) (before : Option (OpenFile F)) (name : List ℕ) (from : ℕ) (found : Result (OpenFile F) E)
    → IfOk found (λ file. (opened : F) × IsBroughtTo position contents opened from file.file) → IfOk found (λ file. StoodAt position contents before name from file.file)
opened_stood position contents before name from (Ok file) opened = inr opened
opened_stood position contents before name from (Err error) opened = tt

pub returns-in-Some : goal.returns-in-Some
returns-in-Some g c =
    let name = sym c.as_str.ensures.value ∙ same_name c.as_str.result.now c.args.name.now c.eq.result c.eq.ensures c.if-eq.true in
    record {
      name = name;
      place = c.if-held-from.true;
      kept = rw c.in-Some.is (λ _ _. refl);
      stood = rw c.in-Some.is (inl (name, c.if-held-from.true, refl));
    }

pub returns-in_default : goal.returns-in_default
returns-in_default g c = record {
  name = c.open_at.ensures.name;
  place = c.open_at.ensures.place;
  kept = elim c.in_default.branch [
    | in_default-via-in-Some+then-held-from+else-eq w ↦ rw w.in-Some.is
        (λ _ name. absurd (other_name w.as_str.result.now c.args.name.now w.eq.result w.eq.ensures w.if-eq.false (w.as_str.ensures.value ∙ name)))
    | in_default-via-in-Some+else-held-from w ↦ rw w.in-Some.is (λ at _. absurd (w.if-held-from.false at))
    | in_default-via-in_default w ↦ rw w.in_default.is tt
  ];
  stood = opened_stood g.R.File.Seek.stream_position g.R.File.Seek.stream_bytes c.args.held c.args.name.now c.args.from c.open_at.result c.open_at.ensures.opened;
}
