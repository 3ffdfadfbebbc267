use Rattle.ags_certtype.specs.Cert.{certificate_of}
use Rattle.ags_drive.proofs.driving.runs_are_sound.Goals as goal

pub returns-clause-declared : goal.returns-clause-declared
returns-clause-declared c = λ devices acts inside.
    c.bench_run_is_a_run_of_its_certificate.ensures.cuts c.args.machine.now c.args.image.now (certificate_of c.args.cert.now) devices acts c.types_are_kept.ensures.image c.types_are_kept.ensures.location inside

pub returns-clause-safe : goal.returns-clause-safe
returns-clause-safe c = λ devices acts inside safe.
    c.bench_run_is_safe.ensures.cuts c.args.machine.now c.args.image.now (certificate_of c.args.cert.now) devices acts c.types_are_kept.ensures.image c.types_are_kept.ensures.location inside safe
