use Rattle.std.proofs.Common.{◌≡◌, List, map, take, drop, ◌++◌, ◌+◌, ◌<◌, ◌≤◌, ◌-◌, ℕ, min, sym, ap, refl, ◌∙◌, arith, length, le_refl}
use Rattle.std.proofs.lemmas.Grind.{common_steps}
use Rattle.std.specs.Option.{option_copied}
use Rattle.ags_outside.specs.Files.{bytes_of}
use Rattle.ags_outside.specs.StoredFile.{file_of}
use Rattle.ags_outside.specs.declared.steady_shelf.StoredFile.{StoredFile}
use Rattle.ags_outside.proofs.steady_shelf.SteadyShelfShelf.pull.Goals as goal

-- what was copied stands in the room's front
copied_tells : (from count room : ℕ) (bytes copied behind : List ℕ) → count ≡ min room (length bytes - from) → from < length bytes
    → copied ≡ take (from + count - from) (drop from bytes)
    → (from + count ≤ length bytes) × (take count (copied ++ behind) ≡ take count (drop from bytes))
copied_tells from count room bytes copied behind few inside copy = (omega (arith, few, inside), grind (arith, common_steps))

got_some : (from count room long : ℕ) → count ≡ min room (long - from) → from < long → 0 < room → (0 < count) × (count ≤ room)
got_some from count room long few inside some = (omega (arith, few, inside, some), omega (arith, few))

pub returns-in_default : goal.returns-in_default
returns-in_default c =
    let none = sym (ap (λ (files : List StoredFile). bytes_of (map file_of files) c.args.name.now) c.deref.ensures.value) ∙ sym c.find.ensures ∙ ap option_copied c.in_default.is in
    rw (← c.self.view_is) (record {
      files = refl;
      absences = c.saturating_add-self-inside.ensures;
      absences_stay = omega arith;
      got = tt;
      tells = rw none tt;
      steady = rw none tt;
    })

pub returns-then-bytes-from : goal.returns-then-bytes-from
returns-then-bytes-from c =
    let some = sym (ap (λ (files : List StoredFile). bytes_of (map file_of files) c.args.name.now) c.deref.ensures.value) ∙ sym c.find.ensures ∙ ap option_copied c.in-Some.is in
    rw (← c.self.view_is) (record {
      files = refl;
      absences = refl;
      absences_stay = le_refl _;
      got = tt;
      tells = rw some c.if-bytes-from.true;
      steady = rw some c.if-bytes-from.true;
    })

pub returns : goal.returns
returns c =
    let some = sym (ap (λ (files : List StoredFile). bytes_of (map file_of files) c.args.name.now) c.deref.ensures.value) ∙ sym c.find.ensures ∙ ap option_copied c.in-Some.is in
    rw (← c.self.view_is) (record {
      files = refl;
      absences = refl;
      absences_stay = le_refl _;
      got = got_some c.args.from c.min-count.result _ _ c.min-count.ensures c.if-bytes-from.false c.requires;
      tells = rw some (copied_tells c.args.from c.min-count.result _ c.in-Some.bytes.now c.copy_from_slice.new.self _
          c.min-count.ensures c.if-bytes-from.false c.copy_from_slice.ensures.after);
      steady = rw some c.min-count.ensures;
    })
