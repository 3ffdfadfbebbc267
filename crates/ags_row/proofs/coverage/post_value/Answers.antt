use Rattle.std.proofs.Common.{refl}
use Rattle.ags_row.specs.Cover.{post_value}
use Rattle.ags_row.proofs.coverage.post_value.Goals as goal

pub returns-in-Some : goal.returns-in-Some
unfolding post_value
returns-in-Some g c = rw (← c.value_if.ensures, c.in-Some.is) refl

pub returns-in-Some-value_if : goal.returns-in-Some-value_if
unfolding post_value
returns-in-Some-value_if g c = rw (← c.value_if.ensures, c.in_default.is, ← c.value_if-2.ensures, c.in-Some-value_if.is) refl

pub returns-in-Some-value_if-2 : goal.returns-in-Some-value_if-2
unfolding post_value
returns-in-Some-value_if-2 g c = rw (← c.value_if.ensures, c.in_default.is, ← c.value_if-2.ensures, c.in_default-value_if.is, ← c.value_if-3.ensures, c.in-Some-value_if-2.is) refl

pub returns : goal.returns
unfolding post_value
returns g c = rw (← c.value_if.ensures, c.in_default.is, ← c.value_if-2.ensures, c.in_default-value_if.is, ← c.value_if-3.ensures, c.in_default-value_if-2.is) c.cell_from.ensures
