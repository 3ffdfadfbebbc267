use Rattle.std.proofs.lemmas.Result.{on_ok_weaker}
use Rattle.ags_xref.proofs.NamingLemmas.{changes_nothing, changes_more, cut_first, no_terms}
use Rattle.ags_xref.proofs.gathering.+note_terms.Goals as goal

pub returns-in_default : goal.returns-in_default
returns-in_default t c = changes_nothing c.args.rows.now c.args.number c.args.terms.now c.args.naming.now.items (no_terms c.args.terms.now c.in_default.len_below)

pub returns : goal.returns
returns t c =
    on_ok_weaker c.note_terms.result (λ more. changes_more c.args.rows.now c.args.number c.first-item.result _ c.args.terms.now c.args.naming.now.items _ _
    (cut_first c.args.terms.now c.first-item.result c.in-len1-up.len_at_least c.first-item.is) c.in_ok-note_term.ensures more) c.note_terms.ensures
