use Rattle.std.proofs.Common.{ap, length, ◌∙◌, ℕ, List, rules}
use Rattle.ags_certtype.proofs.EditLemmas.{counted, others_here, others_elsewhere}
use Rattle.ags_certtype.proofs.certs.Cert.others_at.Goals as goal

pub overflow_sub-result : goal.overflow_sub-result
overflow_sub-result c = (others_here c.args.self.now.rows c.args.number c.args.location (length c.at_location-there.result.now) c.index.result.now c.requires.first c.requires.last
    (search rules) (search rules)
    (ap (λ (numbers : List ℕ). length numbers) c.at_location-there.ensures ∙ counted c.args.self.now.rows c.args.location)).0

pub returns-then-location : goal.returns-then-location
returns-then-location c = (others_here c.args.self.now.rows c.args.number c.args.location (length c.at_location-there.result.now) c.index.result.now c.requires.first c.requires.last
    (search rules) (search rules)
    (ap (λ (numbers : List ℕ). length numbers) c.at_location-there.ensures ∙ counted c.args.self.now.rows c.args.location)).1

pub returns-else-location : goal.returns-else-location
returns-else-location c = others_elsewhere c.args.self.now.rows c.args.number c.args.location (length c.at_location-there.result.now) c.index.result.now c.requires.first c.requires.last
    (search rules) (λ same. c.if-location.false (c.location.ensures ∙ same))
    (ap (λ (numbers : List ℕ). length numbers) c.at_location-there.ensures ∙ counted c.args.self.now.rows c.args.location)
