use Rattle.std.proofs.Common.{◌≡◌, ◌++◌, ◌∷◌, [], List, ℕ, length, arith, sym, subst, ◌∙◌}
use Rattle.std.specs.Prelude.{vec_len}
use Rattle.ags_outside.specs.Taken.{took_both}
use Rattle.ags_certread.specs.Kept.{Kept}
use Rattle.ags_certread.specs.NextState.{GoesOn}
use Rattle.ags_certread.specs.Pieces.{TookCert, took_cert}
use Rattle.ags_certread.specs.declared.states.State.TheVariants as state
use Rattle.ags_certread.proofs.TableLemmas.{same_of}
use Rattle.ags_certread.proofs.StandLemmas.{empty_of, on_ok, whole_ended}
use Rattle.ags_certread.proofs.cert_readers.CertReader.end_line.Goals as goal

pub returns-then-is_empty-clause-took : goal.returns-then-is_empty-clause-took
returns-then-is_empty-clause-took c =
    let r = c.self.inside in
    let new = c.take.new.self in
    let bytes = c.args.bytes.now in
    let faultless = subst (λ (k : Kept). k.state ≡ state.Open) (sym c.self.view_is) c.requires.faultless in
    let zero = same_of (vec_len r.rest) 0 (sym c.is_empty.ensures ∙ c.if-is_empty.true) in
    let none : length r.rest.items ≡ 0 = omega (arith, zero) in
    let empty = empty_of r.rest.items none in
    on_ok c.take.result (λ goes before took.
    subst (λ (rest : List ℕ). TookCert new.ports rest new.number new.gathered new.state (before ++ (bytes ++ 10 ∷ []))) (sym empty)
    (whole_ended r.lines new before bytes faultless
    (subst (λ (rest : List ℕ). TookCert r.lines.ports rest r.lines.number r.lines.gathered r.lines.state before) empty
    (subst (λ (k : Kept). took_cert k before) (sym c.self.view_is) took)) c.requires.unbroken
    (subst (λ (l : List ℕ). GoesOn r.lines.state r.lines l new) c.strip_return.ensures goes) c.take.ensures.ports)) c.take.ensures.taken

pub returns-clause-took : goal.returns-clause-took
returns-clause-took c =
    on_ok c.end_rest.result
    (took_both took_cert c.args.self.now c.hold.new.self c.end_rest.new.self c.args.bytes.now (10 ∷ []) c.in_ok-hold.ensures.took)
    c.end_rest.ensures.took
