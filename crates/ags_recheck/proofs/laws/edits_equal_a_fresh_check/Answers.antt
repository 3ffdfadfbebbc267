use Rattle.std.proofs.Common.{subst}
use Rattle.ags_domain.specs.Value.{value_meaning}
use Rattle.ags_domain.specs.MeaningLaws.{value_lawful}
use Rattle.ags_ports.specs.declared.machines.Machine.{Machine}
use Rattle.ags_verdict.specs.Verdict.{IsVerdict}
use Rattle.ags_verdict.proofs.VerdictLemmas.{verdict_one}
use Rattle.ags_certtype.specs.Cert.{certificate_of}
use Rattle.ags_recheck.proofs.LawLemmas.{machine_stays, refused_stays}
use Rattle.ags_recheck.proofs.laws.edits_equal_a_fresh_check.Goals as goal

pub returns-clause-machine : goal.returns-clause-machine
returns-clause-machine c = machine_stays

pub returns-clause-verdict : goal.returns-clause-verdict
returns-clause-verdict c = λ start after edits outcomes told fresh machine edited is_told is_fresh.
    verdict_one value_meaning start.machine after.image (certificate_of after.cert) value_lawful machine told fresh
    (subst (λ (m : Machine). IsVerdict value_meaning m after.image (certificate_of after.cert) told) (machine_stays start after edits outcomes edited) is_told) is_fresh

pub returns-clause-refused : goal.returns-clause-refused
returns-clause-refused c = refused_stays
