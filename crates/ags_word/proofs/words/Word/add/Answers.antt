use Rattle.std.proofs.Common.{◌+ℤ◌}
use Rattle.std.specs.Int.{w128}
use Rattle.std.proofs.lemmas.Int.{to_z-of_z}
use Rattle.ags_word.proofs.SumLemmas.{widened, sum_fits}
use Rattle.ags_word.proofs.words.Word.add.Goals as goal

pub overflow_add-from : goal.overflow_add-from
overflow_add-from c =
    let a = c.value.ensures in
    let m = c.value-2.ensures in
    rw (widened c.value.result c.from.result c.from.ensures a.least a.most, widened c.value-2.result c.from-2.result c.from-2.ensures m.least m.most)
    (sum_fits c.value.result c.value-2.result a.least a.most m.least m.most)

pub returns : goal.returns
returns c =
    let a = c.value.ensures in
    let m = c.value-2.ensures in
    let fit = sum_fits c.value.result c.value-2.result a.least a.most m.least m.most in
    let told = rw (
      widened c.value.result c.from.result c.from.ensures a.least a.most,
      widened c.value-2.result c.from-2.result c.from-2.ensures m.least m.most,
      to_z-of_z w128 (c.value.result +ℤ c.value-2.result) fit,
      a.same,
      m.same,
    ) at c.settled.ensures in
    record { word = told.word; over = told.over }
