use Rattle.std.proofs.Common.{rules, sym, subst, List, ℕ}
use Rattle.ags_certtype.specs.Index.{IsIndex}
use Rattle.ags_certtype.proofs.EditLemmas.{row_put_in, locations_kept}
use Rattle.ags_certtype.proofs.certs.Cert.put_row.Goals as goal

pub invariant_of-self : goal.invariant_of-self
invariant_of-self c = (row_put_in _ c.args.self.now c.args.position c.args.new c.self.view_is c.self.invariant.0 c.requires.inside c.requires.within c.requires.room, search rules)

pub invariant_of-self-else-moves : goal.invariant_of-self-else-moves
invariant_of-self-else-moves c = (
  row_put_in _ c.args.self.now c.args.position c.args.new c.self.view_is c.self.invariant.0 c.requires.inside c.requires.within c.requires.room,
  subst (λ (locations : List ℕ). IsIndex locations c.self.inside.starts.items c.self.inside.numbers.items)
      (sym (locations_kept c.self.inside.rows.items c.args.position c.args.new c.index.result.now (search rules) (search rules))) c.self.invariant.1,
)
