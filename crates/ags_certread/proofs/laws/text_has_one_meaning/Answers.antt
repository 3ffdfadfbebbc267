use Rattle.ags_certread.proofs.TextLaws.{each_text_means, one_cert_of, one_fault_of, never_both}
use Rattle.ags_certread.proofs.laws.text_has_one_meaning.Goals as goal

pub returns-clause-some : goal.returns-clause-some
returns-clause-some c = each_text_means

pub returns-clause-cert : goal.returns-clause-cert
returns-clause-cert c = one_cert_of

pub returns-clause-fault : goal.returns-clause-fault
returns-clause-fault c = one_fault_of

pub returns-clause-not_both : goal.returns-clause-not_both
returns-clause-not_both c = never_both
