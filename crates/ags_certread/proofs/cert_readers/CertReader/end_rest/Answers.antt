use Rattle.std.proofs.Common.{◌++◌, ◌∷◌, [], List, ℕ, ap, refl, sym, subst, ◌∙◌}
use Rattle.std.specs.Str.Lines.{strip_carriage_return}
use Rattle.ags_certread.specs.Kept.{Kept}
use Rattle.ags_certread.specs.NextState.{GoesOn}
use Rattle.ags_certread.specs.Pieces.{TookCert, took_cert}
use Rattle.ags_certread.proofs.StandLemmas.{rest_ended}
use Rattle.ags_certread.proofs.cert_readers.CertReader.end_rest.Goals as goal

pub returns-clause-took : goal.returns-clause-took
returns-clause-took c = λ before took.
    let r = c.self.inside in
    let new = c.take.new.self in
    let line = c.strip_return.ensures ∙ ap strip_carriage_return c.as_slice.ensures.value in
    let goes = subst (λ (l : List ℕ). GoesOn r.lines.state r.lines l new) line c.in_ok-take.ensures.taken in
    subst (λ (rest : List ℕ). TookCert new.ports rest new.number new.gathered new.state (before ++ 10 ∷ [])) (sym c.clear.ensures.items)
    (rest_ended r.lines.state r.lines new r.rest.items before refl (subst (λ (k : Kept). took_cert k before) (sym c.self.view_is) took) goes c.in_ok-take.ensures.ports)
