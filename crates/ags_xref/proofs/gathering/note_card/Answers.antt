use Rattle.std.proofs.Common.{refl}
use Rattle.ags_xref.proofs.NamingLemmas.{changes_nothing}
use Rattle.ags_xref.proofs.gathering.note_card.Goals as goal

pub returns-in-Err : goal.returns-in-Err
returns-in-Err c =
    let misread = c.in-Err.ensures.fault in
    changes_nothing c.args.rows.now c.args.number _ c.args.naming.now.items (rw misread refl)
