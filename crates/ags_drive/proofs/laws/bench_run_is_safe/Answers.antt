use Rattle.ags_drive.proofs.RunOfLemmas.{bench_is_safe, safe_where_cut}
use Rattle.ags_drive.proofs.laws.bench_run_is_safe.Goals as goal

pub returns-clause-steps : goal.returns-clause-steps
returns-clause-steps c = λ machine image cert devices lines events text now met moments is below words p unmet safe run. bench_is_safe machine image cert devices is below lines events text now met words p unmet safe moments run

pub returns-clause-cuts : goal.returns-clause-cuts
returns-clause-cuts c = λ machine image cert devices acts is below inside safe. safe_where_cut machine image cert devices is below acts inside safe
