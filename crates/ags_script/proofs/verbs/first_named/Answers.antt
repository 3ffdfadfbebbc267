use Rattle.std.proofs.Common.{◌∙◌, rules, tests, nat_eq}
use Rattle.std.specs.Cmp.Lexicographic.{pointwise}
use Rattle.std.proofs.lemmas.Iterator.{YieldsList-from_slice}
use Rattle.std.proofs.lemmas.Iterator.Search.{find_from_yields_List}
use Rattle.ags_script.specs.Operand.{verb_name}
use Rattle.ags_script.proofs.verbs.first_named.Goals as goal

pub returns : goal.returns
returns c = c.copied.ensures
    ∙ find_from_yields_List (λ verb. pointwise nat_eq (verb_name verb) c.args.text.now) _ _ _ c.find.ensures.ran (YieldsList-from_slice c.args.verbs.now cc)
    (λ x b q k. search (rules, tests))
