-- What is decided is what the table of posts says of a line.
use Rattle.std.proofs.Common.{◌≡◌, ℕ, ◌<◌, Bool, true, false, refl, ap, ◌∙◌, arith}
use Rattle.std.specs.Prelude.{None, Result, Ok, Err, ◌||◌, MatchBool, if◌then◌else◌}
use Rattle.std.proofs.lemmas.Bool.Decides.{nat_tests}
use Rattle.ags_domain.specs.Domain.{Meaning}
use Rattle.ags_domain.specs.declared.operands.Operands.{Operands}
use Rattle.ags_row.specs.Limit.{is_named}
use Rattle.ags_row.specs.declared.posts.Post.{Post}
use Rattle.ags_safe.specs.Case.{Case, is_erasable}
use Rattle.ags_safe.specs.Told.{These, EveryWord}
use Rattle.ags_safe.specs.Line.{Line, IsPostOf}
use Rattle.ags_safe.specs.Posts.{Outcome, Decides}
use Rattle.ags_transfer.specs.declared.deciding.NewA.{NewA}
use Rattle.ags_transfer.specs.Decision.{IsDecided}

where_true : (b : Bool) (P Q : Type 0) → b ≡ true → P → MatchBool b P Q
where_true true P Q is p = p
where_true false P Q is p = absurd cc

erasable : (e : ℕ) → e < 2048 → is_erasable e ≡ true
erasable e below = grind (arith, nat_tests)

-- a store to an erasable cell goes on
pub store_goes_on : (e : ℕ) (P Q : Type 0) → e < 2048 → P → MatchBool (is_erasable e) P Q
store_goes_on e P Q below p = where_true (is_erasable e) P Q (erasable e below) p

or_false : (b : Bool) → (b || false) ≡ b
or_false true = refl
or_false false = refl

or_true : (b : Bool) → (b || true) ≡ true
or_true true = refl
or_true false = refl

-- a post with the new A
abbrev with_new : {D : Type 0} → Post D → NewA D → Post D
with_new post new = record post { a = new.a; v1 = post.v1 || new.may_set; link = if new.may_set then None else post.link }

-- what was decided goes on, in its line
pub decides_from : {D : Type 0} (meaning : Meaning D) (c : Case D) (answer : Result D Operands) (post : Post D) (new : NewA D) (line : Line D)
    (follows : Line D → Outcome D → Type 0) (outcome : Outcome D) → IsDecided meaning c answer (Ok new) → IsPostOf meaning c line post
    → ((next : Line D) → IsPostOf meaning c next (with_new post new) → follows next outcome) → Decides meaning c line follows answer outcome
decides_from meaning c (Ok a) post new line follows outcome is is_post goes =
    goes (record line { a = These a }) (record {
      next = is_post.next;
      a = ap (λ (n : NewA _). n.a) is;
      q = is_post.q;
      x = is_post.x;
      v0 = is_post.v0;
      v1 = ap (λ (n : NewA _). post.v1 || n.may_set) is ∙ or_false post.v1 ∙ is_post.v1;
      stored = is_post.stored;
      code = is_post.code;
      narrowed = is_post.narrowed;
      link = ap (λ (n : NewA _). if n.may_set then None else post.link) is ∙ is_post.link;
    })
decides_from meaning c (Err o) post new line follows outcome is is_post goes =
    where_true (is_named c.limits c.row.location) _ _ is.named
    (goes (record line { a = EveryWord; v1 = true; link = None }) (record {
      next = is_post.next;
      a = is.full;
      q = is_post.q;
      x = is_post.x;
      v0 = is_post.v0;
      v1 = ap (λ (b : Bool). post.v1 || b) is.may_set ∙ or_true post.v1;
      stored = is_post.stored;
      code = is_post.code;
      narrowed = is_post.narrowed;
      link = ap (λ (b : Bool). if b then None else post.link) is.may_set;
    }))
