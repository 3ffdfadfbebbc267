use Rattle.ags_certread.specs.Gathering.{IsSetUpTo}
use Rattle.ags_certread.specs.LimitTable.{KeepsOthers, limit_in}
use Rattle.ags_certread.proofs.limits.Table.set_all.Given as goal

abbrev pub invariant-loop-address : goal.invariant-loop-address
invariant-loop-address l = record {
  set : IsSetUpTo l.address l.stated (limit_in l.fn.self l.limits);
  rest : KeepsOthers l.fn.self l.fn.limits l.limits;
}
