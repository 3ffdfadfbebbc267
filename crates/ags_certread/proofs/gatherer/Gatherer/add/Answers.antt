use Rattle.std.proofs.Common.{◌∙◌, ap, Some}
use Rattle.ags_certtext.specs.declared.kinds.Kind.{Kind}
use Rattle.ags_certread.specs.Gathering.{Gathering, gathering_of, with_part}
use Rattle.ags_certread.proofs.gatherer.Gatherer.add.Goals as goal

pub returns : goal.returns
returns c =
    ap (λ (g : Gathering). record g { last = Some c.kind.result }) c.in_ok-add_part.ensures
    ∙ ap (λ (kind : Kind). record (with_part (gathering_of c.args.self.now) c.args.statement.now) { last = Some kind }) c.kind.ensures
