use Rattle.std.proofs.Common.{sym, arith, rules}
use Rattle.std.proofs.lemmas.Grind.{put_two}
use Rattle.ags_domain.proofs.TextLaws.{words_more}
use Rattle.ags_domain.proofs.texts.BlankedDisplay.fmt.Goals as goal

pub loop-word-preserved : goal.loop-word-preserved
loop-word-preserved g c = λ plain.
    let so_far = c.loop-word.invariant plain in
    put_two _ _ _ _ _ _ _ so_far (search rules) (sym (words_more c.args.self.now.0.now c.loop-word.word-index c.word-item.result (omega arith) c.word-item.is))
