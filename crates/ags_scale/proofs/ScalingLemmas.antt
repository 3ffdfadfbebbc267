-- Sums and differences of scales, which a word of 16 bits holds.
use Rattle.std.proofs.Common.{◌≡◌, ap, ◌∙◌, arith}
use Rattle.std.specs.Prelude.{ℤ, ◌+ℤ◌, ◌-ℤ◌, FitsSigned}
use Rattle.std.specs.Int.{w8, w16, cast_signed, cast_unsigned}
use Rattle.std.proofs.lemmas.Int.{ints, to_z-of_z}
use Rattle.ags_tags.specs.declared.tags.Tag.{Tag}
use Rattle.ags_tags.specs.declared.tags.Tag.TheVariants.{Scale}
use Rattle.ags_tags.specs.declared.tags.RowTag.{RowTag}
use Rattle.ags_tags.specs.declared.tags.RowTag.TheVariants.{Known}
use Rattle.ags_scale.specs.Change.{tag_of}
use Rattle.ags_scale.specs.RowChange.{row_more, row_less}

abbrev wide : ℤ → ℤ
wide z = cast_signed w16 (cast_unsigned w16 z)

wide_same : (z : ℤ) → FitsSigned w8 z → wide z ≡ z
wide_same z fits = to_z-of_z w16 z (omega (arith, ints))

module _ (scale by left right : ℤ) (scale_fits : FitsSigned w8 scale) (by_fits : FitsSigned w8 by)
    (left_is : left ≡ cast_signed w8 (cast_unsigned w8 scale)) (right_is : right ≡ cast_signed w8 (cast_unsigned w8 by)) where
  left_same : left ≡ scale
  left_same = left_is ∙ to_z-of_z w8 scale scale_fits

  right_same : right ≡ by
  right_same = right_is ∙ to_z-of_z w8 by by_fits

  sum_same : wide (wide left +ℤ wide right) ≡ scale +ℤ by
  sum_same = rw (left_same, right_same, wide_same scale scale_fits, wide_same by by_fits) (to_z-of_z w16 (scale +ℤ by) (omega (arith, ints)))

  difference_same : wide (wide left -ℤ wide right) ≡ scale -ℤ by
  difference_same = rw (left_same, right_same, wide_same scale scale_fits, wide_same by by_fits) (to_z-of_z w16 (scale -ℤ by) (omega (arith, ints)))

  module _ (tag : RowTag) (known : Tag) (tag_is : tag ≡ Known known) (known_is : known ≡ Scale scale) (new : Tag) where
    pub more_is : new ≡ tag_of (wide (wide left +ℤ wide right)) → Known new ≡ row_more tag by
    more_is new_is = rw (tag_is, known_is) (ap (λ (t : Tag). Known t) (new_is ∙ ap tag_of sum_same))

    pub less_is : new ≡ tag_of (wide (wide left -ℤ wide right)) → Known new ≡ row_less tag by
    less_is new_is = rw (tag_is, known_is) (ap (λ (t : Tag). Known t) (new_is ∙ ap tag_of difference_same))
