use Rattle.std.proofs.Common.{◌≡◌, ◌++◌, append_assoc}
use Rattle.std.specs.String.{string_bytes}
use Rattle.std.specs.Prelude.{codes}
use Rattle.std.specs.Fmt.{decimal}
use Rattle.std.proofs.lemmas.Result.{IfOk-weaker}
use Rattle.ags_plan.specs.Plan.{long_line}
use Rattle.ags_plan.proofs.saying.long_text.Goals as goal

pub returns : goal.returns
returns c = IfOk-weaker c.format.result _ (λ text. string_bytes text ≡ long_line c.args.name.now c.args.limit) (λ text is.
    let e : string_bytes text ≡ codes "LONG " ++ (c.args.name.now ++ (codes " " ++ (decimal c.args.limit ++ codes "\n"))) = is in
    simp append_assoc e) c.format.ensures.ok
