use Rattle.std.proofs.Common.{refl}
use Rattle.ags_bench.specs.Views.{work_of}
use Rattle.ags_bench.proofs.PromiseLemmas.{promises_done, promises_early}
use Rattle.ags_bench.proofs.main_call.bench_main.Goals as goal

pub returns-in-Ok : goal.returns-in-Ok
returns-in-Ok g c =
    promises_done _ _ c.perform.result c.settle.ensures c.in-Ok.ensures.no_fault c.in-Ok.ensures.no_absence (rw c.in-Ok.ensures.untouched at c.perform.ensures.faults) (work_of c.in-Ok.work) c.in-Ok.ensures.ends
    (rw c.in-Ok.ensures.untouched at c.perform.ensures.does)

pub returns-in-Err : goal.returns-in-Err
returns-in-Err g c = promises_early _ _ refl c.in-Err.ensures.early c.in-Err.ensures.shelf c.in-Err.ensures.sink
