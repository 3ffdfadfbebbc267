use Rattle.ags_drive.proofs.RunOfLemmas.{run_of_bench, run_where_cut, nothing_is_run}
use Rattle.ags_drive.proofs.laws.bench_run_is_a_run_of_its_certificate.Goals as goal

pub returns-clause-run : goal.returns-clause-run
returns-clause-run c = λ machine image cert devices lines events text now met is below words p unmet. run_of_bench machine image cert devices is below lines events text now met words p unmet

pub returns-clause-cuts : goal.returns-clause-cuts
returns-clause-cuts c = λ machine image cert devices acts is below inside. run_where_cut machine image cert devices is below acts inside

pub returns-clause-none : goal.returns-clause-none
returns-clause-none c = λ machine image cert devices lines events text now outside p. nothing_is_run machine image cert devices lines events text now outside p
