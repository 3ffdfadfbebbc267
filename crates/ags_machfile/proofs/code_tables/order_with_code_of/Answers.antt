use Rattle.std.proofs.Common.{◌==◌, ◌∙◌, rules, tests}
use Rattle.std.proofs.lemmas.Iterator.{YieldsList-from_slice}
use Rattle.std.proofs.lemmas.Iterator.Search.{find_from_yields_List}
use Rattle.ags_isa.specs.Code.{code_of}
use Rattle.ags_machfile.proofs.code_tables.order_with_code_of.Goals as goal

pub returns : goal.returns
returns c = c.copied.ensures
    ∙ find_from_yields_List (λ other. code_of c.args.codes.now other == code_of c.args.codes.now c.args.order) _ _ _ c.find.ensures.ran (YieldsList-from_slice c.args.others.now cc)
    (λ x b q k. search (rules, tests))
