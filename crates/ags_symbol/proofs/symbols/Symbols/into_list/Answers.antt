use Rattle.std.proofs.Common.{◌≡◌, ◌∙◌, map, refl, arith}
use Rattle.std.proofs.lemmas.List.{take_all}
use Rattle.std.proofs.lemmas.Result.{err_from_is_err_and}
use Rattle.ags_symbol.specs.View.{entry_of}
use Rattle.ags_symbol.proofs.SymbolLemmas.{listed_more}
use Rattle.ags_symbol.proofs.symbols.Symbols.into_list.Goals as goal

pub loop-position-init : goal.loop-position-init
loop-position-init c = rw c.new-entries.ensures.items refl

pub loop-position-preserved : goal.loop-position-preserved
loop-position-preserved c =
    rw c.in_ok-push.ensures.items (listed_more c.loop-position.entries.items c.nth.result c.args.self c.loop-position.position c.loop-position.invariant
    (omega (arith, c.loop-position-test.true, c.len-position-end.ensures.many)) c.nth.ensures)

pub nth-requires : goal.nth-requires
nth-requires c = omega (arith, c.loop-position-test.true, c.len-position-end.ensures.many)

-- at the end all are taken
whole : (c : goal.After-loop-position) → map entry_of c.loop-position.entries.items ≡ c.args.self
whole c = c.loop-position.invariant ∙ take_all c.loop-position.position c.args.self (omega (arith, c.loop-position-test.false, c.len-position-end.ensures.many))

pub invariant_of-result : goal.invariant_of-result
invariant_of-result c = rw (whole c) (record { once = c.len-position-end.ensures.once; values = c.len-position-end.ensures.values })

pub returns-in_err-push : goal.returns-in_err-push
returns-in_err-push c = rw ((err_from_is_err_and c.from_residual.result c.from_residual.ensures.1).1) tt

pub returns : goal.returns
returns c =
    c.loop-position.invariant ∙ take_all c.loop-position.position c.args.self (omega (arith, c.loop-position-test.false, c.len-position-end.ensures.many))
