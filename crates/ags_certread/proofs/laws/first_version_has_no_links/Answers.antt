use Rattle.ags_certread.proofs.VersionLemmas.{first_version}
use Rattle.ags_certread.proofs.laws.first_version_has_no_links.Goals as goal

pub returns : goal.returns
returns c = first_version
