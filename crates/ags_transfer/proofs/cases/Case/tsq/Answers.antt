use Rattle.std.proofs.Common.{ℕ, false, refl, subst}
use Rattle.ags_domain.specs.Domain.{IsAlone}
use Rattle.ags_isa.specs.Naming.{order_word}
use Rattle.ags_isa.specs.declared.orders.Order.TheVariants.{Tra}
use Rattle.ags_safe.specs.Case.{Case, next_of_row}
use Rattle.ags_transfer.proofs.cases.Case.tsq.Goals as goal

pub returns : goal.returns
returns g c = λ y.
    let post = c.requires.moves_on in
    let back = c.of_word-post.result in (
      record {
        next = refl;
        a = post.a;
        q = subst (λ (x : Case _). IsAlone g.D.Domain.meaning (order_word x.machine.codes Tra false (next_of_row c.args.self.now.row)) back) c.self.view_is
            (subst (λ (next : ℕ). IsAlone g.D.Domain.meaning (order_word c.self.inside.machine.now.codes Tra false next) back) {y = next_of_row c.args.self.now.row} c.next.ensures.next
            (subst (λ (word : ℕ). IsAlone g.D.Domain.meaning word back) c.encode-back.ensures c.of_word-post.ensures));
        x = post.x;
        v0 = post.v0;
        v1 = post.v1;
        stored = post.stored;
        code = post.code;
        narrowed = post.narrowed;
        link = post.link;
      },
      refl,
    )
