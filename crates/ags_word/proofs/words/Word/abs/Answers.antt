use Rattle.std.proofs.Common.{refl}
use Rattle.std.specs.Int.{w32, w128}
use Rattle.std.proofs.lemmas.Int.{to_z-of_z}
use Rattle.ags_word.proofs.words.Word.abs.Goals as goal

pub returns-clause-over : goal.returns-clause-over
returns-clause-over c = rw (
  c.settled.ensures.over,
  to_z-of_z w128 c.abs.result (record { sfits = c.abs.type_inv }),
  c.abs.ensures.value,
  to_z-of_z w128 c.from.result (record { sfits = c.from.type_inv }),
  c.from.ensures,
  to_z-of_z w32 c.value.result (record { sfits = c.value.type_inv }),
  c.value.ensures.same,
) refl
