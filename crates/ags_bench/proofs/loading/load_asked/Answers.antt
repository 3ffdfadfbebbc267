use Rattle.ags_bench.proofs.loading.load_asked.Goals as goal

pub returns-in-None-clause-loads : goal.returns-in-None-clause-loads
returns-in-None-clause-loads g c = rw c.in-None.is (rw c.standard.ensures.standard at c.load_files.ensures.loads)
