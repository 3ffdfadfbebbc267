use Rattle.std.proofs.Common.{◌≡◌, drop}
use Rattle.ags_image.specs.Image.{IsImage}
use Rattle.ags_asm.specs.Waiting.{closing_fault}
use Rattle.ags_asm.specs.HalfMade.{closed_into}
use Rattle.ags_asm.proofs.closing.close_all.Given as goal

abbrev pub invariant-loop-fix_up : goal.invariant-loop-fix_up
invariant-loop-fix_up l = record {
  fault : closing_fault l.symbols l.waiting ≡ closing_fault l.symbols (drop l.fix_up-index l.waiting);
  image : closed_into l.codes l.symbols l.fn.image l.waiting ≡ closed_into l.codes l.symbols l.image (drop l.fix_up-index l.waiting);
  is_image : IsImage l.fn.image → IsImage l.image;
}
