use Rattle.std.proofs.Common.{sym, ◌∙◌, ap, Some}
use Rattle.std.specs.Option.{option_copied}
use Rattle.std.specs.String.{string_bytes}
use Rattle.ags_outside.specs.declared.steady_shelf.StoredFile.{StoredFile}
use Rattle.ags_outside.proofs.Stored.{bytes_at_position, bytes_nowhere}
use Rattle.ags_outside.proofs.steady_shelf.find.Goals as goal

pub returns-in_err-position : goal.returns-in_err-position
returns-in_err-position c =
    ap option_copied c.from_residual.ensures
    ∙ sym (bytes_nowhere {X = StoredFile} (λ file. string_bytes file.name) (λ file. file.bytes.items) c.args.files.now
    c.args.name.now (sym c.in_err-position.ensures))

pub returns : goal.returns
returns c =
    ap Some c.as_slice.ensures.value
    ∙ sym (bytes_at_position {X = StoredFile} (λ file. string_bytes file.name) (λ file. file.bytes.items) c.args.files.now
    c.args.name.now c.in_ok-position.position c.index-files-position.result (sym c.in_ok-position.ensures))
