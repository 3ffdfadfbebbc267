use Rattle.std.proofs.Common.{◌≡◌, length, ◌∙◌}
use Rattle.ags_tags.proofs.TagLemmas.{all_gathered}
use Rattle.ags_tags.proofs.reading.read.Goals as goal

pub returns-in-Ok-read_text-clause-read : goal.returns-in-Ok-read_text-clause-read
returns-in-Ok-read_text-clause-read c =
    let all = c.in-Ok-read_text.all in
    let read = c.in-Ok-read_text.ensures.read in
    let kept : length all.rows.items ≡ c.args.rows = c.in-Ok-read_text.ensures.stays.1 ∙ c.in-Ok.ensures.rows in
    rw c.of.ensures (record { lines = read.0; is_text = rw (c.in-Ok.ensures.ports, c.in-Ok.ensures.rows) at read.1; are_scales = rw kept at (all_gathered all read.0 read.2) })
