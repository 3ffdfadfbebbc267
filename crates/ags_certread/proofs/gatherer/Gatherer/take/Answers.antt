use Rattle.std.proofs.Common.{sym, ◌∙◌}
use Rattle.ags_certread.specs.Gathering.{gathering_of}
use Rattle.ags_certread.proofs.ReadLemmas.{sound_keeps}
use Rattle.ags_certread.proofs.FaultLemmas.{after_none}
use Rattle.ags_certread.proofs.TakeLemmas.{ascending_behind, placed_behind, sized_behind, taken, version_taken}
use Rattle.ags_certread.proofs.gatherer.Gatherer.take.Goals as goal

pub fault_in-requires-clause-sized : goal.fault_in-requires-clause-sized
fault_in-requires-clause-sized c = (sound_keeps (gathering_of c.args.self.now) c.requires.stands.1.sound).0

pub fault_in-requires-clause-counting : goal.fault_in-requires-clause-counting
fault_in-requires-clause-counting c = (sound_keeps (gathering_of c.args.self.now) c.requires.stands.1.sound).1

pub fault_in-requires-clause-ascending : goal.fault_in-requires-clause-ascending
fault_in-requires-clause-ascending c = c.requires.stands.1.sound.closable.ascending

pub close_before-requires : goal.close_before-requires
close_before-requires c = (sound_keeps (gathering_of c.args.self.now) c.requires.stands.1.sound).2

pub add-requires-clause-placed : goal.add-requires-clause-placed
add-requires-clause-placed c =
    let (before, stands) = c.requires.stands in
    placed_behind c.args.ports.now before (gathering_of c.args.self.now) stands.gathered c.args.statement.now (gathering_of c.close_before.new.self) c.requires.statement
    (after_none c.args.ports.now c.args.self.now.version before c.args.statement.now (sym (c.fault_in.ensures before stands.gathered) ∙ c.in-None.is)) c.in_ok-close_before-in-None.ensures

pub add-requires-clause-sized : goal.add-requires-clause-sized
add-requires-clause-sized c =
    sized_behind c.args.statement.now (gathering_of c.args.self.now) (gathering_of c.close_before.new.self) c.in_ok-close_before-in-None.ensures
    c.requires.stands.1.sound.sized

pub add-requires-clause-ascending : goal.add-requires-clause-ascending
add-requires-clause-ascending c =
    ascending_behind c.args.statement.now (gathering_of c.args.self.now) (gathering_of c.close_before.new.self) c.in_ok-close_before-in-None.ensures
    c.requires.stands.1.sound.closable.ascending

pub returns-in_ok-add-in-None-clause-taken : goal.returns-in_ok-add-in-None-clause-taken
returns-in_ok-add-in-None-clause-taken c = λ ok before stands.
    taken before (gathering_of c.args.self.now) stands c.args.ports.now c.args.statement.now (gathering_of c.add.new.self) c.requires.statement
    (after_none c.args.ports.now c.args.self.now.version before c.args.statement.now (sym (c.fault_in.ensures before stands.gathered) ∙ c.in-None.is))
    (record { between = gathering_of c.close_before.new.self; closed = c.in_ok-close_before-in-None.ensures; added = c.in_ok-add-in-None.ensures })

pub returns-in_ok-add-in-None-clause-version : goal.returns-in_ok-add-in-None-clause-version
returns-in_ok-add-in-None-clause-version c = λ ok.
    version_taken (gathering_of c.args.self.now) c.args.statement.now (gathering_of c.add.new.self)
    (record { between = gathering_of c.close_before.new.self; closed = c.in_ok-close_before-in-None.ensures; added = c.in_ok-add-in-None.ensures })
