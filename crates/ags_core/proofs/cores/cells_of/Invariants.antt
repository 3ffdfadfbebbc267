use Rattle.std.proofs.Common.{◌≡◌, ◌<◌, take, map}
use Rattle.std.specs.Prelude.{unwrap_or}
use Rattle.ags_image.specs.Image.{IsImage}
use Rattle.ags_core.proofs.cores.cells_of.Given as goal

-- the cells of the first locations; once one was read, the image is known for one
abbrev pub invariant-loop-location : goal.invariant-loop-location
invariant-loop-location l = (l.cells.items ≡ map (λ entry. unwrap_or entry 0) (take l.location l.image)) × (0 < l.location → IsImage l.image)
