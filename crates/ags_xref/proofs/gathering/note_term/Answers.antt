use Rattle.std.proofs.lemmas.Result.{on_ok_weaker}
use Rattle.ags_xref.proofs.NamingLemmas.{changes_one}
use Rattle.ags_xref.proofs.gathering.note_term.Goals as goal

pub returns : goal.returns
returns c =
    on_ok_weaker c.push_once.result (λ pushed. changes_one c.args.rows.now c.args.number c.in-Some.position c.in-Symbol.name c.args.term.now c.args.naming.now.items
    c.index_mut.result.now c.push_once.new.numbers c.requires.rows c.requires.long c.in-Some.ensures.within c.in-Some.ensures.found c.in-Symbol.is c.index_mut.ensures.value pushed) c.push_once.ensures
