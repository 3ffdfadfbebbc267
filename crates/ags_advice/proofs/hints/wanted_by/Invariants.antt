use Rattle.std.proofs.Common.{◌≡◌, drop, map}
use Rattle.ags_advice.specs.Hint as hint
use Rattle.ags_advice.proofs.hints.wanted_by.Given as goal

abbrev pub invariant-loop-named : goal.invariant-loop-named
invariant-loop-named l = hint.wanted_by (map (λ row. record { kind = row.0.now; wanted = row.1.now }) l.hints) l.otherwise l.kind
    ≡ hint.wanted_by (map (λ row. record { kind = row.0.now; wanted = row.1.now }) (drop l.named-index l.hints)) l.otherwise l.kind
