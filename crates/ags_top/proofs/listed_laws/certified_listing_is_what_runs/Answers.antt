use Rattle.ags_top.proofs.ListedLemmas.{listing_reads, run_stands, printed_order}
use Rattle.ags_top.proofs.listed_laws.certified_listing_is_what_runs.Goals as goal

pub returns-clause-reads : goal.returns-clause-reads
returns-clause-reads c = listing_reads

pub returns-clause-runs : goal.returns-clause-runs
returns-clause-runs c = run_stands

pub returns-clause-orders : goal.returns-clause-orders
returns-clause-orders c = printed_order
