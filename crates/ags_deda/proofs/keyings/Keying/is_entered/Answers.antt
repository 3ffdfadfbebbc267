use Rattle.std.proofs.Common.{◌≡◌, true, sym, ◌∙◌}
use Rattle.ags_deda.specs.Form.{entry_has, fits}
use Rattle.ags_deda.proofs.KeyLemmas.{entered_count}
use Rattle.ags_deda.proofs.keyings.Keying.is_entered.Goals as goal

pub returns-then-self : goal.returns-then-self
returns-then-self c = λ keys is.
    let entry : fits entry_has keys ≡ true = sym is.entry ∙ c.if-self.true in
    rw entry (entered_count c.args.self.count keys is.count entry)
