use Rattle.std.proofs.Common.{◌∙◌, nat_eq, rules, tests}
use Rattle.std.specs.Cmp.Lexicographic.{pointwise}
use Rattle.std.proofs.lemmas.Iterator.{YieldsList-from_slice}
use Rattle.std.proofs.lemmas.Iterator.Search.{find_from_yields_List}
use Rattle.ags_card.specs.Operation.{operation_name}
use Rattle.ags_card.proofs.operations.first_named.Goals as goal

pub returns : goal.returns
returns c = c.copied.ensures
    ∙ find_from_yields_List (λ operation. pointwise nat_eq (operation_name operation) c.args.text.now) _ _ _ c.find.ensures.ran (YieldsList-from_slice c.args.operations.now cc)
    (λ x b q k. search (rules, tests))
