use Rattle.std.proofs.Common.{ℕ, List, ◌++◌, take, ap, ◌∙◌, arith, refl, true}
use Rattle.std.proofs.lemmas.Grind.{put_two}
use Rattle.std.proofs.lemmas.Fmt.{decimal_digit}
use Rattle.ags_certtext.specs.Spelling.{flag_digits}
use Rattle.ags_certsend.proofs.FlagLemmas.{digits_set, digits_clear}
use Rattle.ags_certsend.proofs.spelling.IndicesDisplay.fmt.Goals as goal
use Rattle.ags_certsend.proofs.spelling.IndicesDisplay.fmt.Goals.{then-self-index+in_ok-write, else-self-index}

pub loop-index-preserved : goal.loop-index-preserved
loop-index-preserved g c = λ plain.
    let so_far = c.loop-index.invariant plain in
    elim c.if-self-index.branch [
      | then-self-index+in_ok-write w ↦
          rw w.f-is (put_two _ _ _ _ _ _ _ so_far (w.in_ok-write.ensures.writes so_far.plain (refl {a = true}))
          (ap (λ (digits : List ℕ). flag_digits 48 (take c.loop-index.index-counter c.args.self.now.0) ++ digits) (decimal_digit c.loop-index.index-counter (omega arith))
          ∙ digits_set c.args.self.now.0 c.loop-index.index-counter w.if-self-index.true))
      | else-self-index w ↦ rw (w.f-is, ← digits_clear c.args.self.now.0 c.loop-index.index-counter w.if-self-index.false) so_far
    ]
