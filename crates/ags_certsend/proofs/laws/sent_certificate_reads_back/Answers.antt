use Rattle.ags_certsend.specs.CertText.{statements_of}
use Rattle.ags_certsend.proofs.ReadLemmas.{readings_of, text_read}
use Rattle.ags_certsend.proofs.RowLemmas.{text_faultless}
use Rattle.ags_certsend.proofs.StatedLemmas.{statements_read, certificate_stated}
use Rattle.ags_certsend.proofs.laws.sent_certificate_reads_back.Goals as goal

pub returns : goal.returns
unfolding readings_of
returns c = λ machine cert good suits. record {
  readings = readings_of cert;
  are_readings = text_read cert good;
  faultless = text_faultless machine cert good suits;
  is_stated = rw (statements_read (statements_of cert)) (certificate_stated cert good);
}
