use Rattle.std.proofs.Common.{◌∙◌, sym, rules}
use Rattle.ags_machfile.proofs.TableLemmas.{unshared_are_codes}
use Rattle.ags_machfile.proofs.code_tables.codes_of.Goals as goal

pub unwrap-requires : goal.unwrap-requires
unwrap-requires c =
    let are = unshared_are_codes c.in_ok-codes.codes c.in_ok-codes.ensures.long c.in_ok-codes.ensures.below (sym c.shared_pair.ensures ∙ c.in-None.is) in
    rw (c.of.ensures.some are) (search rules)
