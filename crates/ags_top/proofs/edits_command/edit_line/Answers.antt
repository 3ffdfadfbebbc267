use Rattle.std.proofs.Common.{◌≡◌, ◌++◌, append_assoc}
use Rattle.std.specs.String.{string_bytes}
use Rattle.std.specs.Prelude.{codes}
use Rattle.std.specs.Fmt.{decimal}
use Rattle.std.proofs.lemmas.Result.{IfOk-weaker}
use Rattle.ags_recheck.specs.ToldText.{told_text}
use Rattle.ags_top.proofs.edits_command.edit_line.Goals as goal

pub returns : goal.returns
returns c = IfOk-weaker c.format.result _ (λ text. string_bytes text ≡ codes "EDIT " ++ decimal c.args.number ++ codes " " ++ told_text c.args.told.now ++ codes "\n") (λ text is.
    let e : string_bytes text ≡ codes "EDIT " ++ (decimal c.args.number ++ (codes " " ++ (told_text c.args.told.now ++ codes "\n"))) = is in
    simp append_assoc e) c.format.ensures.ok
