use Rattle.ags_safe.proofs.ExistenceLemmas.{some_start}
use Rattle.ags_safe.proofs.laws.each_certificate_has_a_start.Goals as goal

pub returns : goal.returns
returns g c = λ machine image cert is_image is_cert. some_start g.D.Domain.meaning g.met.D.Domain.lawful machine image cert is_cert is_image
