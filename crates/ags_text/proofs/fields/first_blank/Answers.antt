use Rattle.std.proofs.Common.{rules, tests}
use Rattle.std.proofs.lemmas.Iterator.{YieldsList-from_slice}
use Rattle.std.proofs.lemmas.Iterator.Search.{position_from_yields_List}
use Rattle.ags_text.specs.Field.{is_blank}
use Rattle.ags_text.proofs.fields.first_blank.Goals as goal

pub returns : goal.returns
returns c =
    position_from_yields_List is_blank _ _ c.position.result c.position.ensures.ran (YieldsList-from_slice c.args.text.now cc) (λ x b q k. search (rules, tests))
