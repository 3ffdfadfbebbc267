use Rattle.std.proofs.Common.{◌≤◌, ℕ, List, [], Some, length, subst, sym}
use Rattle.std.proofs.lemmas.Result.{err_from_is_err_and}
use Rattle.ags_plan.specs.Walk.{Agrees}
use Rattle.ags_plan.proofs.loading.fetch_file.Goals as goal

pub returns-in_err-fetch_file_into : goal.returns-in_err-fetch_file_into
returns-in_err-fetch_file_into g c =
    let p = err_from_is_err_and c.from_residual.result c.from_residual.ensures.1 in
    rw (p.1, p.2) (record {
      same = c.in_err-fetch_file_into.ensures.same;
      within = tt;
      fetches = c.in_err-fetch_file_into.ensures.fetches;
      faults = c.in_err-fetch_file_into.ensures.faults;
      absences = c.in_err-fetch_file_into.ensures.absences;
    })

pub returns : goal.returns
returns g c =
    let took = c.in_ok-fetch_file_into.ensures.took in
    let whole = took.more [] (sym c.new-bytes.ensures.items) in
    record {
      same = c.in_ok-fetch_file_into.ensures.same;
      within = subst (λ (bytes : List ℕ). length bytes ≤ c.args.limit) whole took.within;
      fetches = subst (λ (bytes : List ℕ). Agrees (g.S.Shelf.told c.args.shelf.now c.args.name.now) (Some bytes) × (length bytes ≤ c.args.limit)) whole
          (took.agrees, took.within);
      faults = c.in_ok-fetch_file_into.ensures.faults;
      absences = c.in_ok-fetch_file_into.ensures.absences;
    }
