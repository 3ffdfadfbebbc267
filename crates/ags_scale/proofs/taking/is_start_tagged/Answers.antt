use Rattle.std.proofs.Common.{ℕ}
use Rattle.ags_domain.specs.Value.{value_meaning}
use Rattle.ags_certtype.specs.Cert.{certificate_of}
use Rattle.ags_check.specs.Finding.{IsStartRow}
use Rattle.ags_tags.specs.Tag.{tags_of_row}
use Rattle.ags_scale.specs.RowChange.{HoldsRaw}
use Rattle.ags_check.proofs.FoundLemmas.{found_exactly}
use Rattle.ags_scale.proofs.taking.is_start_tagged.Goals as goal

pub returns : goal.returns
returns c =
    let both = found_exactly
    (IsStartRow value_meaning c.args.image.now (certificate_of c.args.cert.now) (λ (n : ℕ). HoldsRaw (tags_of_row c.args.scales.now n)))
    c.args.cert.now.rows c.start_row.result c.start_row.ensures in
    (λ yes. both.0 (rw (← c.is_some.ensures) yes), λ some. rw c.is_some.ensures (both.1 some))
