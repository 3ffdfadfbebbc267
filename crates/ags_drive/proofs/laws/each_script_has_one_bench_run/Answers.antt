use Rattle.ags_drive.proofs.OneBenchRunLemmas.{some_bench_run, one_bench_run}
use Rattle.ags_drive.proofs.laws.each_script_has_one_bench_run.Goals as goal

pub returns-clause-some : goal.returns-clause-some
returns-clause-some c = λ machine image cert devices lines is. some_bench_run machine image cert devices lines is

pub returns-clause-one : goal.returns-clause-one
returns-clause-one c = λ machine image cert devices lines events others text other now then met unmet is p q. one_bench_run machine image cert devices lines is events others text other now then met unmet p q
