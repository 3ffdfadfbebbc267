use Rattle.std.proofs.Common.{rules, ◌≡◌}
use Rattle.std.specs.Prelude.{codes}
use Rattle.ags_times.proofs.LineLemmas.{no_bound}
use Rattle.ags_times.proofs.lines.read_named.Goals as goal

pub returns-in_err-read_bound-clause-only : goal.returns-in_err-read_bound-clause-only
returns-in_err-read_bound-clause-only c = λ its are.
    let named : c.args.name.now ≡ codes "TIME" = search rules in
    let only = c.in_err-read_bound.ensures.only in
    absurd (no_bound c.args.behind.now its (λ bound is. (let clash = only bound is in absurd cc)) (rw named at are))
