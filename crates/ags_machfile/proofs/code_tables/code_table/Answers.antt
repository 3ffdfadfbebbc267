use Rattle.std.proofs.Common.{rules, ◌∙◌, ◌<◌, sym, refl}
use Rattle.std.proofs.lemmas.Result.{err_from_is_err_and}
use Rattle.std.proofs.lemmas.List.Elements.{All-set, All-replicate}
use Rattle.ags_machfile.proofs.TableLemmas.{filled_none, filled_more, filled_fault, filled_whole}
use Rattle.ags_machfile.proofs.code_tables.code_table.Goals as goal

pub loop-position-init : goal.loop-position-init
loop-position-init c = (filled_none _ _ refl, All-replicate (λ code. code < 32) 27 0 (search rules))

pub returns-in_err-codes-clause-codes : goal.returns-in_err-codes-clause-codes
returns-in_err-codes-clause-codes c =
    let p = err_from_is_err_and c.from_residual.result c.from_residual.ensures.1 in
    rw (p.1, p.2) (sym (filled_fault _ c.loop-position.codes c.loop-position.position _ _ c.loop-position-test.true c.at.ensures (sym c.code_entry.ensures.code ∙ c.in_err-codes.was) c.loop-position.invariant.0))

pub loop-position-preserved : goal.loop-position-preserved
loop-position-preserved c = (
  filled_more _ c.loop-position.codes c.loop-position.position _ _ c.loop-position-test.true c.at.ensures (sym c.code_entry.ensures.code ∙ c.in_ok-codes.was) c.loop-position.invariant.0,
  All-set (λ code. code < 32) _ _ _ c.in_ok-codes.ensures.below c.loop-position.invariant.1,
)

pub returns-clause-codes : goal.returns-clause-codes
returns-clause-codes c = sym (filled_whole _ c.loop-position.codes c.loop-position.position c.loop-position-test.false c.loop-position.invariant.0)
