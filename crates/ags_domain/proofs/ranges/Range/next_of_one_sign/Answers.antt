use Rattle.std.proofs.Common.{ℕ, sym, subst, arith, Option}
use Rattle.ags_domain.specs.Range.{range_ends, lies_between}
use Rattle.ags_domain.specs.SetOf.{IsNext}
use Rattle.ags_domain.proofs.PartLaws.{found_next, none_next}
use Rattle.ags_domain.proofs.ranges.Range.next_of_one_sign.Goals as goal

pub returns-then-found-number : goal.returns-then-found-number
returns-then-found-number c =
    let r = c.args.self.now in
    let found = c.max-found.result in
    let next = found_next r c.args.from c.requires found (omega arith) (omega arith) (omega arith) (λ v h k. omega arith) in
    subst (λ (o : Option ℕ). IsNext (lies_between (range_ends r)) c.args.from o) (sym (c.of.ensures.fits (omega arith))) next

pub returns-else-found-number : goal.returns-else-found-number
returns-else-found-number c =
    let r = c.args.self.now in
    let found = c.max-found.result in
    none_next r c.args.from c.requires found (λ v h k. omega arith) (omega arith)
