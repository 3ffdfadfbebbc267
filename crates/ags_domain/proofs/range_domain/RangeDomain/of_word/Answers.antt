use Rattle.std.proofs.Common.{ℕ, ◌<◌, ◌^◌, subst}
use Rattle.ags_domain.proofs.PartLaws.{alone}
use Rattle.ags_domain.proofs.range_domain.RangeDomain.of_word.Goals as goal

pub returns : goal.returns
returns c = alone c.args.word (subst (λ (w : ℕ). w < 2 ^ 18) c.number-number.ensures.same c.number-number.ensures.below) c.spanning.result c.spanning.ensures
