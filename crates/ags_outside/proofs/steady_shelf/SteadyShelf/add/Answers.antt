use Rattle.std.proofs.Common.{◌≡◌, List, map, None, Some, ap, sym, refl, ◌∙◌}
use Rattle.std.proofs.lemmas.Result.{err_from_is_err_and}
use Rattle.std.specs.List.{position}
use Rattle.std.specs.Str.{bytes_eq}
use Rattle.std.specs.String.{string_bytes}
use Rattle.ags_outside.specs.ShelfState.{ShelfState}
use Rattle.ags_outside.specs.StoredFile.{file_of}
use Rattle.ags_outside.specs.declared.steady_shelf.StoredFile.{StoredFile}
use Rattle.ags_outside.proofs.Stored.{puts_at_position, puts_behind}
use Rattle.ags_outside.proofs.steady_shelf.SteadyShelf.add.Goals as goal

pub returns-in_err-copy : goal.returns-in_err-copy
returns-in_err-copy c =
    let p = err_from_is_err_and c.from_residual.result c.from_residual.ensures.1 in
    rw p.1 (record { added = tt; kept = refl; absences = refl })

pub returns-in-Some : goal.returns-in-Some
returns-in-Some c =
    let at : position (λ file. bytes_eq (string_bytes file.name) c.args.name.now) c.self.inside.files.items
    ≡ Some c.in-Some.position =
    sym (ap (λ (files : List StoredFile). position (λ file. bytes_eq (string_bytes file.name) c.args.name.now) files) c.deref.ensures.value)
    ∙ sym c.position_of.ensures ∙ c.in-Some.is in
    record {
      added = rw (← c.self.view_is, ← c.in_ok-copy.ensures.items)
          (puts_at_position {X = StoredFile} (λ file. string_bytes file.name) (λ file. file.bytes.items) c.self.inside.files.items
          c.args.name.now c.in-Some.position _ c.index_mut-file.result.now at
          (ap (λ (file : StoredFile). string_bytes file.name) c.index_mut-file.ensures.value));
      kept = tt;
      absences = ap (λ s. s.absences) c.self.view_is;
    }

pub returns-in_err-name : goal.returns-in_err-name
returns-in_err-name c =
    let p = err_from_is_err_and c.from_residual-in_err-name.result c.from_residual-in_err-name.ensures.1 in
    rw p.1 (record { added = tt; kept = refl; absences = refl })

pub returns-in_err-push : goal.returns-in_err-push
returns-in_err-push c =
    let p = err_from_is_err_and c.from_residual-in_err-push.result c.from_residual-in_err-push.ensures.1 in
    let kept : ◌≡◌ {A = ShelfState} (record { files = map file_of c.push.new.self.items; absences = c.self.inside.absences }) c.args.self.now =
    ap (λ (items : List StoredFile). record { files = map file_of items; absences = c.self.inside.absences }) c.in_err-push.ensures.items ∙ c.self.view_is in
    rw p.1 (record { added = tt; kept = kept; absences = ap (λ s. s.absences) c.self.view_is })

pub returns : goal.returns
returns c =
    let none : position (λ file. bytes_eq (string_bytes file.name) c.args.name.now) c.self.inside.files.items ≡ None =
    sym (ap (λ (files : List StoredFile). position (λ file. bytes_eq (string_bytes file.name) c.args.name.now) files) c.deref.ensures.value)
    ∙ sym c.position_of.ensures ∙ c.in_default.is in
    record {
      added = rw (c.in_ok-push.ensures.items, ← c.self.view_is, ← c.in_ok-copy.ensures.items)
          (puts_behind {X = StoredFile} (λ file. string_bytes file.name) (λ file. file.bytes.items) c.self.inside.files.items
          c.args.name.now _ none c.in_ok-name.ensures.ok);
      kept = tt;
      absences = ap (λ s. s.absences) c.self.view_is;
    }
