use Rattle.std.proofs.Common.{refl}
use Rattle.std.proofs.lemmas.Result.{err_from_is_err_and}
use Rattle.ags_edge.proofs.file_shelf.open_at.Goals as goal

pub returns-in_err-name : goal.returns-in_err-name
returns-in_err-name g c =
    let p = err_from_is_err_and c.from_residual.result c.from_residual.ensures.1 in
    rw p.1 (record { name = tt; place = tt; opened = tt })

pub returns-in_err-open : goal.returns-in_err-open
returns-in_err-open g c =
    let p = err_from_is_err_and c.from_residual-in_err-open.result c.from_residual-in_err-open.ensures.1 in
    rw p.1 (record { name = tt; place = tt; opened = tt })

pub returns-in_err-file : goal.returns-in_err-file
returns-in_err-file g c =
    let p = err_from_is_err_and c.from_residual-in_err-file.result c.from_residual-in_err-file.ensures.1 in
    rw p.1 (record { name = tt; place = tt; opened = tt })

pub returns : goal.returns
returns g c = record {
  name = c.in_ok-name.ensures.ok;
  place = refl;
  opened = (c.in_ok-open.field-0, c.in_ok-file.ensures.brought);
}
