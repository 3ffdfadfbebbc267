use Rattle.std.proofs.Common.{refl, rules}
use Rattle.ags_certtype.specs.Cert.{certificate_of}
use Rattle.ags_drive.proofs.GiveLemmas.{word_given}
use Rattle.ags_drive.proofs.feeding.put.Goals as goal

pub returns-clause-given : goal.returns-clause-given
returns-clause-given c =
    let before = c.args.bench.now in
    word_given c.args.machine.now (certificate_of c.args.cert.now) before (record before { core = c.act.new.self; puts = c.args.puts }) c.args.address c.args.word _ c.act.result refl (search rules) (search rules)
    c.act.ensures.step refl refl c.requires.counted
