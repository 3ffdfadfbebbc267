use Rattle.std.proofs.Common.{◌∙◌, ◌+◌, ap, arith, set, Some, ℕ}
use Rattle.std.proofs.lemmas.Grind.{get_or_default_zero}
use Rattle.ags_certread.specs.Gathering.{gathering_of}
use Rattle.ags_certread.proofs.gatherer.Gatherer.open.Goals as goal

pub overflow_add-count : goal.overflow_add-count
overflow_add-count c =
    let count = c.index-count.ensures ∙ get_or_default_zero c.args.self.now.counts.items c.args.row.location c.index-count.result.now c.requires.place in
    omega (arith, count, c.requires.room)

pub returns : goal.returns
returns c =
    let g = gathering_of c.args.self.now in
    let count = c.index-count.ensures ∙ get_or_default_zero c.args.self.now.counts.items c.args.row.location c.index-count.result.now c.requires.place in
    ap (λ (n : ℕ). record g { counts = set g.counts c.args.row.location (n + 1); line = Some c.args.row }) count
