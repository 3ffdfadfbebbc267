use Rattle.std.proofs.lemmas.Result.{on_ok_weaker}
use Rattle.ags_load.specs.Printed.{q_text}
use Rattle.ags_load.specs.Workload.{row_line}
use Rattle.ags_load.proofs.TextLemmas.{text_one}
use Rattle.ags_load.proofs.certificates.add_row.Goals as goal

pub returns : goal.returns
returns c = on_ok_weaker c.write.result (λ whole. rw (text_one (row_line c.args.location c.args.a.now (q_text c.args.q))) whole) c.write.ensures.bytes
