use Rattle.std.proofs.Common.{◌≡◌, ◌<◌, ◌++◌, List, ℕ, length, arith, length-append, sym, subst}
use Rattle.ags_certread.specs.Kept.{Kept}
use Rattle.ags_certread.specs.Pieces.{TookCert, took_cert}
use Rattle.ags_certread.specs.declared.states.State.TheVariants as state
use Rattle.ags_certread.proofs.StandLemmas.{bytes_held, bytes_refused}
use Rattle.ags_certread.proofs.cert_readers.CertReader.hold.Goals as goal

pub returns-then-bytes-len-clause-took : goal.returns-then-bytes-len-clause-took
returns-then-bytes-len-clause-took c = λ before took.
    let r = c.self.inside in
    let faultless = subst (λ (k : Kept). k.state ≡ state.Open) (sym c.self.view_is) c.requires.faultless in
    let over : 513 < length (r.rest.items ++ c.args.bytes.now) = omega (arith, length-append r.rest.items c.args.bytes.now, c.self.invariant) in
    bytes_refused r.lines c.refuse_long_line.new.self r.rest.items before c.args.bytes.now faultless (subst (λ (k : Kept). took_cert k before) (sym c.self.view_is) took)
    c.requires.unbroken over c.refuse_long_line.ensures

pub returns-in-Ok-clause-took : goal.returns-in-Ok-clause-took
returns-in-Ok-clause-took c = λ before took.
    let r = c.self.inside in
    let faultless = subst (λ (k : Kept). k.state ≡ state.Open) (sym c.self.view_is) c.requires.faultless in
    subst (λ (rest : List ℕ). TookCert r.lines.ports rest r.lines.number r.lines.gathered r.lines.state (before ++ c.args.bytes.now)) (sym c.in-Ok.ensures.items)
    (bytes_held r.lines r.rest.items before c.args.bytes.now faultless (subst (λ (k : Kept). took_cert k before) (sym c.self.view_is) took) c.requires.unbroken)
