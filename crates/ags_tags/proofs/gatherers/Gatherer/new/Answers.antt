use Rattle.std.proofs.lemmas.Result.{IfOk-from_err}
use Rattle.ags_tags.proofs.TagLemmas.{nothing_gathered}
use Rattle.ags_tags.proofs.gatherers.Gatherer.new.Goals as goal

pub returns-in_err-new : goal.returns-in_err-new
returns-in_err-new c = record {
  nothing = IfOk-from_err _ _ c.from_residual.ensures.0;
  ports = IfOk-from_err _ _ c.from_residual.ensures.0;
  rows = IfOk-from_err _ _ c.from_residual.ensures.0;
}

pub returns-in_err-new-2 : goal.returns-in_err-new-2
returns-in_err-new-2 c = record {
  nothing = IfOk-from_err _ _ c.from_residual-in_err-new-2.ensures.0;
  ports = IfOk-from_err _ _ c.from_residual-in_err-new-2.ensures.0;
  rows = IfOk-from_err _ _ c.from_residual-in_err-new-2.ensures.0;
}

pub returns-in_err-new-3 : goal.returns-in_err-new-3
returns-in_err-new-3 c = record {
  nothing = IfOk-from_err _ _ c.from_residual-in_err-new-3.ensures.0;
  ports = IfOk-from_err _ _ c.from_residual-in_err-new-3.ensures.0;
  rows = IfOk-from_err _ _ c.from_residual-in_err-new-3.ensures.0;
}

pub returns-in_err-no_tags : goal.returns-in_err-no_tags
returns-in_err-no_tags c = record {
  nothing = IfOk-from_err _ _ c.from_residual-in_err-no_tags.ensures.0;
  ports = IfOk-from_err _ _ c.from_residual-in_err-no_tags.ensures.0;
  rows = IfOk-from_err _ _ c.from_residual-in_err-no_tags.ensures.0;
}

pub returns-clause-nothing : goal.returns-clause-nothing
returns-clause-nothing c = rw (c.in_ok-new.ensures, c.in_ok-new-2.ensures, c.in_ok-new-3.ensures, c.in_ok-no_tags.ensures) (nothing_gathered c.args.rows)
