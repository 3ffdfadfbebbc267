use Rattle.std.proofs.Common.{sym, ap, ◌∙◌}
use Rattle.ags_certread.specs.Gathering.{gathering_of}
use Rattle.ags_certread.specs.Kept.{KeptLines}
use Rattle.ags_certread.specs.NextState.{is_open}
use Rattle.ags_certread.proofs.StandLemmas.{went_on}
use Rattle.ags_certread.proofs.ended_lines.EndedLines.take.Goals as goal

pub returns-in-Ok-clause-taken : goal.returns-in-Ok-clause-taken
returns-in-Ok-clause-taken c =
    let opened = ap (λ (lines : KeptLines). is_open lines.state) c.self.view_is ∙ (sym c.are_open.ensures ∙ c.if-not-are_open.false) in
    rw (← c.self.view_is)
    (went_on c.self.inside.ports c.self.inside.number (gathering_of c.self.inside.gatherer) c.self.inside.state _ c.args.line.now opened
    c.in-Ok.ensures.next c.saturating_add-self-inside.ensures)
