use Rattle.std.proofs.Common.{◌≡◌, drop, map}
use Rattle.ags_advice.specs.Heading as heading
use Rattle.ags_advice.proofs.headings.named.Given as goal

abbrev pub invariant-loop-named : goal.invariant-loop-named
invariant-loop-named l = heading.named (map (λ row. record { word = row.0.now; heading = row.1 }) l.rows) l.word
    ≡ heading.named (map (λ row. record { word = row.0.now; heading = row.1 }) (drop l.named-index l.rows)) l.word
