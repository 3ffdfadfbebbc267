use Rattle.std.proofs.Common.{◌∙◌, ap, sym}
use Rattle.ags_certtext.specs.declared.statements.Statement.{Statement}
use Rattle.ags_certread.specs.Gathering.{gathering_of, with_part}
use Rattle.ags_certread.proofs.gatherer.Gatherer.add_part.Goals as goal

pub returns-in_ok-enter-in-Entry : goal.returns-in_ok-enter-in-Entry
returns-in_ok-enter-in-Entry c =
    c.in_ok-enter-in-Entry.ensures ∙ ap (λ (statement : Statement). with_part (gathering_of c.args.self.now) statement) (sym c.in-Entry.is)

pub returns-in-Row : goal.returns-in-Row
returns-in-Row c = c.open.ensures ∙ ap (λ (statement : Statement). with_part (gathering_of c.args.self.now) statement) (sym c.in-Row.is)

pub returns-in-May : goal.returns-in-May
returns-in-May c = ap (λ (statement : Statement). with_part (gathering_of c.args.self.now) statement) (sym c.in-May.is)

pub returns-in-Linked : goal.returns-in-Linked
returns-in-Linked c = ap (λ (statement : Statement). with_part (gathering_of c.args.self.now) statement) (sym c.in-Linked.is)

pub returns-in-Start : goal.returns-in-Start
returns-in-Start c = ap (λ (statement : Statement). with_part (gathering_of c.args.self.now) statement) (sym c.in-Start.is)

pub returns-in-End : goal.returns-in-End
returns-in-End c = ap (λ (statement : Statement). with_part (gathering_of c.args.self.now) statement) (sym c.in-End.is)
