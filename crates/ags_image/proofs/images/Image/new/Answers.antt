use Rattle.std.proofs.Common.{sym, subst, rules}
use Rattle.ags_image.specs.Image.{no_words, IsImage}
use Rattle.ags_image.proofs.ImageLaws.{IsImage-no_words}
use Rattle.ags_image.proofs.images.Image.new.Goals as goal

-- a clone of None is None
pub returns-clause-empty : goal.returns-clause-empty
unfolding no_words
returns-clause-empty c = c.in_ok-vec.ensures.items_if_clones_equal (λ y clone. search rules)

made_image : (c : goal.In_ok-vec) → IsImage c.in_ok-vec.field-0.items
made_image c = subst IsImage (sym (returns-clause-empty c)) IsImage-no_words

pub returns-clause-image : goal.returns-clause-image
returns-clause-image = made_image

pub invariant_of-result : goal.invariant_of-result
invariant_of-result = made_image
