use Rattle.std.proofs.Common.{◌≡◌, [], ◌∷◌, length-append, arith}
use Rattle.std.proofs.lemmas.List.Elements.{All-push}
use Rattle.ags_xref.proofs.gathering.no_numbers.Goals as goal

pub loop-preserved : goal.loop-preserved
loop-preserved c = record {
  long = rw c.in_ok-push.ensures.items (omega (arith, length-append c.loop.naming.items (c.new.result ∷ []), c.loop.invariant.long));
  empty = rw c.in_ok-push.ensures.items (All-push (λ numbers. numbers.items ≡ []) c.loop.naming.items _ c.loop.invariant.empty c.new.ensures.items);
}
