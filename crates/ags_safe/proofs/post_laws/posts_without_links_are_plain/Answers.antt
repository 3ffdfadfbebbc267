use Rattle.ags_safe.proofs.PlainCaseLemmas.{plain_case, back_case}
use Rattle.ags_safe.proofs.GoingLemmas.{not_narrowed}
use Rattle.ags_safe.proofs.post_laws.posts_without_links_are_plain.Goals as goal

pub returns-clause-plain : goal.returns-clause-plain
returns-clause-plain g c = λ case outcome none is. plain_case g.D.Domain.meaning case none outcome is

pub returns-clause-each : goal.returns-clause-each
returns-clause-each g c = λ case outcome none is. back_case g.D.Domain.meaning case none outcome is

pub returns-clause-narrowed : goal.returns-clause-narrowed
returns-clause-narrowed g c = λ case pair index none is. not_narrowed g.D.Domain.meaning case pair index none is
