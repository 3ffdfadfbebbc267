use Rattle.ags_domain.specs.Value.{value_meaning}
use Rattle.ags_domain.specs.MeaningLaws.{value_lawful}
use Rattle.ags_verdict.proofs.VerdictLemmas.{verdict_one}
use Rattle.ags_certtype.specs.Cert.{certificate_of}
use Rattle.ags_recheck.proofs.books.Book.verdict.Goals as goal

pub returns : goal.returns
returns c = rw (← c.self.view_is) (record {
  verdict = c.verdict_kept.ensures;
  alone = λ other is. verdict_one value_meaning c.self.inside.machine c.self.inside.image (certificate_of c.self.inside.cert) value_lawful
      c.machine_is_made_of_tables.ensures other c.verdict_kept.result is c.verdict_kept.ensures;
})
