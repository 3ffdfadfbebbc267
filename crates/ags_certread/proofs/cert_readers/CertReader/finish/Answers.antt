use Rattle.std.proofs.Common.{◌≡◌, List, ℕ, length, eqb, true, false, ap, refl, sym, subst, ◌∙◌}
use Rattle.std.specs.Str.Lines.{strip_carriage_return}
use Rattle.ags_certread.specs.Kept.{Kept}
use Rattle.ags_certread.specs.NextState.{GoesOn}
use Rattle.ags_certread.specs.Pieces.{took_cert}
use Rattle.ags_certread.proofs.StandLemmas.{ok_moved, err_moved, all_read, last_read}
use Rattle.ags_certread.proofs.cert_readers.CertReader.finish.Goals as goal

pub returns-then-is_empty-clause-read : goal.returns-then-is_empty-clause-read
returns-then-is_empty-clause-read c =
    let r = c.self.inside in
    let line = c.strip_return-line.ensures ∙ ap strip_carriage_return c.as_slice.ensures.value in
    let none : eqb (length (strip_carriage_return r.rest.items)) 0 ≡ true = ap (λ (l : List ℕ). eqb (length l) 0) (sym line) ∙ sym c.is_empty.ensures ∙ c.if-is_empty.true in
    ok_moved c.args.self.ports r.lines (took_cert c.args.self) (ap (λ (k : Kept). k.ports) c.self.view_is)
    (λ text took short. all_read r.lines.state r.lines r.rest.items text (subst (λ (k : Kept). took_cert k text) (sym c.self.view_is) took) short none)
    c.finish.result c.finish.ensures.read

pub returns-then-is_empty-clause-refused : goal.returns-then-is_empty-clause-refused
returns-then-is_empty-clause-refused c =
    let r = c.self.inside in
    let line = c.strip_return-line.ensures ∙ ap strip_carriage_return c.as_slice.ensures.value in
    let none : eqb (length (strip_carriage_return r.rest.items)) 0 ≡ true = ap (λ (l : List ℕ). eqb (length l) 0) (sym line) ∙ sym c.is_empty.ensures ∙ c.if-is_empty.true in
    err_moved c.args.self.ports r.lines (took_cert c.args.self) (ap (λ (k : Kept). k.ports) c.self.view_is)
    (λ text took short. all_read r.lines.state r.lines r.rest.items text (subst (λ (k : Kept). took_cert k text) (sym c.self.view_is) took) short none)
    c.finish.result c.finish.ensures.refused

pub returns-in-Ok-clause-read : goal.returns-in-Ok-clause-read
returns-in-Ok-clause-read c =
    let r = c.self.inside in
    let line = c.strip_return-line.ensures ∙ ap strip_carriage_return c.as_slice.ensures.value in
    let some : eqb (length (strip_carriage_return r.rest.items)) 0 ≡ false = ap (λ (l : List ℕ). eqb (length l) 0) (sym line) ∙ sym c.is_empty.ensures ∙ c.if-is_empty.false in
    let goes = subst (λ (l : List ℕ). GoesOn r.lines.state r.lines l c.take.new.self) line c.in-Ok.ensures.taken in
    ok_moved c.args.self.ports c.take.new.self (took_cert c.args.self) (c.take.ensures.ports ∙ ap (λ (k : Kept). k.ports) c.self.view_is)
    (λ text took short. last_read r.lines.state r.lines c.take.new.self r.rest.items text refl (subst (λ (k : Kept). took_cert k text) (sym c.self.view_is) took) short some goes
    c.take.ensures.ports) c.finish-in-Ok.result c.finish-in-Ok.ensures.read

pub returns-in-Ok-clause-refused : goal.returns-in-Ok-clause-refused
returns-in-Ok-clause-refused c =
    let r = c.self.inside in
    let line = c.strip_return-line.ensures ∙ ap strip_carriage_return c.as_slice.ensures.value in
    let some : eqb (length (strip_carriage_return r.rest.items)) 0 ≡ false = ap (λ (l : List ℕ). eqb (length l) 0) (sym line) ∙ sym c.is_empty.ensures ∙ c.if-is_empty.false in
    let goes = subst (λ (l : List ℕ). GoesOn r.lines.state r.lines l c.take.new.self) line c.in-Ok.ensures.taken in
    err_moved c.args.self.ports c.take.new.self (took_cert c.args.self) (c.take.ensures.ports ∙ ap (λ (k : Kept). k.ports) c.self.view_is)
    (λ text took short. last_read r.lines.state r.lines c.take.new.self r.rest.items text refl (subst (λ (k : Kept). took_cert k text) (sym c.self.view_is) took) short some goes
    c.take.ensures.ports) c.finish-in-Ok.result c.finish-in-Ok.ensures.refused

pub returns-then-is_empty-clause-spent : goal.returns-then-is_empty-clause-spent
returns-then-is_empty-clause-spent c = λ spent. c.finish.ensures.spent (ap (λ (k : Kept). k.state) c.self.view_is ∙ spent)

pub returns-in-Ok-clause-spent : goal.returns-in-Ok-clause-spent
returns-in-Ok-clause-spent c = λ spent. c.finish-in-Ok.ensures.spent (c.take.ensures.stays_spent (ap (λ (k : Kept). k.state) c.self.view_is ∙ spent))
