use Rattle.ags_asm.proofs.AssembleLemmas.{words_exactly, faulty_exactly, defines_made, image_made, each_made, spans_made}
use Rattle.ags_asm.proofs.assembling.assemble.Goals as goal

pub returns-clause-defines : goal.returns-clause-defines
returns-clause-defines c = defines_made c.args.codes.now c.args.bytes.now c.assemble_once.result c.assemble_once.ensures.assembled

pub returns-clause-image : goal.returns-clause-image
returns-clause-image c = image_made c.args.codes.now c.args.bytes.now c.assemble_once.result c.assemble_once.ensures.assembled

pub returns-clause-faultless : goal.returns-clause-faultless
returns-clause-faultless c = words_exactly c.args.codes.now c.args.bytes.now c.assemble_once.result c.assemble_once.ensures.assembled c.assemble_once.ensures.refused

pub returns-clause-faulty : goal.returns-clause-faulty
returns-clause-faulty c = faulty_exactly c.args.codes.now c.args.bytes.now c.assemble_once.result c.assemble_once.ensures.assembled c.assemble_once.ensures.refused

pub returns-clause-one_each : goal.returns-clause-one_each
returns-clause-one_each c = each_made c.args.codes.now c.args.bytes.now c.assemble_once.result c.assemble_once.ensures.assembled

pub returns-clause-spans : goal.returns-clause-spans
returns-clause-spans c = spans_made c.args.codes.now c.args.bytes.now c.assemble_once.result c.assemble_once.ensures.assembled
