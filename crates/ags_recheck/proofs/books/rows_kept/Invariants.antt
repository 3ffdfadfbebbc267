use Rattle.std.proofs.Common.{◌≡◌, ◌≤◌, ◌*◌, take}
use Rattle.std.specs.Prelude.{Ok}
use Rattle.ags_domain.specs.Value.{value_meaning}
use Rattle.ags_verdict.specs.InOrder.{InOrder}
use Rattle.ags_verdict.specs.Fault.{IsRowJudgedAt}
use Rattle.ags_certtype.specs.Cert.{certificate_of}
use Rattle.ags_recheck.proofs.books.rows_kept.Given as goal

-- the rows so far are judged
abbrev pub invariant-loop-item : goal.invariant-loop-item
invariant-loop-item l = InOrder (λ n r o. IsRowJudgedAt value_meaning (certificate_of l.cert) l.machine l.image n r o) 1 (take l.item-index l.cert.rows) (Ok l.count)
    × (l.number ≡ l.item-index)
    × (l.count ≤ 256 * l.item-index)
