use Rattle.std.proofs.Common.{◌≡◌, ℕ, List, get_or, subst, None}
use Rattle.std.specs.Prelude.{IfSome}
use Rattle.ags_isa.specs.Code.{code_of}
use Rattle.ags_isa.proofs.CodeLemmas.{order_found, order_only}
use Rattle.ags_isa.proofs.code_tables.Codes.order_of.Goals as goal

pub returns-then-code-lt32-clause-found : goal.returns-then-code-lt32-clause-found
returns-then-code-lt32-clause-found c =
    subst (λ (table : List ℕ). IfSome (get_or c.self.inside.orders c.args.code None) (λ order. code_of table order ≡ c.args.code)) c.self.view_is
    (order_found c.self.inside.table c.self.inside.orders c.args.code c.self.invariant.1 c.if-code-lt32.true)

pub returns-then-code-lt32-clause-only : goal.returns-then-code-lt32-clause-only
returns-then-code-lt32-clause-only c = λ order same.
    order_only c.self.inside.table c.self.inside.orders c.args.code c.self.invariant.0 c.self.invariant.1 c.if-code-lt32.true order (rw c.self.view_is same)
