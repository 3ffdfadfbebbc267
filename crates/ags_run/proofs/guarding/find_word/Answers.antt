use Rattle.ags_certtype.specs.Cert.{certificate_of}
use Rattle.ags_run.proofs.GuardingLemmas.{first_port}
use Rattle.ags_run.proofs.guarding.find_word.Goals as goal

pub returns : goal.returns
returns c = first_port c.args.machine.now c.args.image.now (certificate_of c.args.cert.now) c.args.core.now c.inputs.result.now c.in-Some-find_input.position c.input-word.result
    c.inputs.ensures.same c.inputs.ensures.registers c.requires.location (c.find_cell.ensures.none c.in_default.is) c.in-Some-find_input.ensures.inside
    c.in-Some-find_input.ensures.earlier c.in-Some-find_input.ensures.outside c.input-word.ensures.word
