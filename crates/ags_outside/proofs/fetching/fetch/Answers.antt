use Rattle.std.proofs.Common.{◌≤◌, length, sym, subst, List, [], ℕ, Ok, Err}
use Rattle.std.proofs.lemmas.Result.{err_from_is_err_and}
use Rattle.ags_outside.specs.Fetch.{FetchTells}
use Rattle.ags_outside.proofs.SoFar.{absence_rose, fault_rose}
use Rattle.ags_outside.proofs.fetching.fetch.Goals as goal

pub returns-in_err-fetch_into : goal.returns-in_err-fetch_into
returns-in_err-fetch_into g c =
    let p = err_from_is_err_and c.from_residual.result c.from_residual.ensures.1 in
    rw (p.1, p.2) (record {
      same = c.in_err-fetch_into.ensures.same;
      within = tt;
      tells = c.in_err-fetch_into.ensures.tells;
      absent = absence_rose (Err c.in_err-fetch_into.field-0.0) _ _ c.in_err-fetch_into.ensures.absences;
      read_fault = fault_rose (Err c.in_err-fetch_into.field-0.0) _ _ c.in_err-fetch_into.ensures.faults;
      faults = c.in_err-fetch_into.ensures.faults;
      absences = c.in_err-fetch_into.ensures.absences;
    })

pub returns : goal.returns
returns g c =
    let took = c.in_ok-fetch_into.ensures.took in
    let whole = took.more [] (sym c.new-bytes.ensures.items) in
    record {
      same = c.in_ok-fetch_into.ensures.same;
      within = subst (λ (bytes : List ℕ). length bytes ≤ c.args.limit) whole took.within;
      tells = subst (λ (bytes : List ℕ). FetchTells (g.S.Shelf.told c.args.shelf.now c.args.name.now) c.args.limit (Ok bytes)) whole took.tells;
      absent = absence_rose (Ok c.fetch_into.new.taker) _ _ c.in_ok-fetch_into.ensures.absences;
      read_fault = fault_rose (Ok c.fetch_into.new.taker) _ _ c.in_ok-fetch_into.ensures.faults;
      faults = c.in_ok-fetch_into.ensures.faults;
      absences = c.in_ok-fetch_into.ensures.absences;
    }
