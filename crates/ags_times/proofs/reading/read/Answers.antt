use Rattle.std.proofs.Common.{◌≡◌, length, ◌∙◌}
use Rattle.ags_times.proofs.BoundLemmas.{all_stated}
use Rattle.ags_times.proofs.reading.read.Goals as goal

pub returns-in-Ok-read_text-clause-read : goal.returns-in-Ok-read_text-clause-read
returns-in-Ok-read_text-clause-read c =
    let all = c.in-Ok-read_text.gathered in
    let read = c.in-Ok-read_text.ensures.read in
    let rows : length c.in-Ok.gatherer.bounds.items ≡ c.args.rows = c.in-Ok.ensures.rows in
    let kept : length all.bounds.items ≡ c.args.rows = c.in-Ok-read_text.ensures.stays ∙ rows in
    rw c.of.ensures (record { lines = read.0; is_text = rw rows at read.1; are_bounds = rw kept at (all_stated all.bounds.items all.ended read.0 read.2) })
