use Rattle.std.proofs.Common.{◌≡◌, ◌∙◌, false, true, ap, refl, subst, sym}
use Rattle.ags_domain.specs.Domain.{IsWithin}
use Rattle.ags_safe.specs.Case.{Case}
use Rattle.ags_row.specs.Limit.{cell_limit}
use Rattle.ags_transfer.proofs.cases.Case.stored.Goals as goal

pub returns-then-not-within : goal.returns-then-not-within
returns-then-not-within g c = λ line told is_told is_post.
    let limit = c.cell.ensures ∙ ap (λ (x : Case _). cell_limit x.limits c.args.e) c.self.view_is in (
      c.args.value,
      is_told,
      λ within.
          let clash : false ≡ true = c.if-not-within.ensures.1 (subst (λ d. IsWithin g.D.Domain.meaning c.args.value d) (sym limit) within) in absurd cc,
      refl,
    )

pub returns : goal.returns
returns g c = λ line told is_told is_post.
    let limit = c.cell.ensures ∙ ap (λ (x : Case _). cell_limit x.limits c.args.e) c.self.view_is in (
      c.args.value,
      is_told,
      subst (λ d. IsWithin g.D.Domain.meaning c.args.value d) limit (c.if-not-within.ensures.0 refl),
      (
        record {
          next = is_post.next;
          a = is_post.a;
          q = is_post.q;
          x = is_post.x;
          v0 = is_post.v0;
          v1 = is_post.v1;
          stored = (refl, is_told);
          code = is_post.code;
          narrowed = is_post.narrowed;
          link = is_post.link;
        },
        refl,
      ),
    )
