use Rattle.std.proofs.Common.{◌∙◌, refl, ap, subst}
use Rattle.std.proofs.lemmas.Result.{on_ok_weaker, on_err_weaker}
use Rattle.ags_outside.specs.Sink.{appended, WroteFront, front_of_wrote, wrote_nothing}
use Rattle.ags_xref.specs.Xref.{xref_text}
use Rattle.ags_xref.proofs.SendingLemmas.{spans_of, cards_of, reference_is, unfailed}
use Rattle.ags_xref.proofs.sending.send_reference.Goals as goal

pub returns-in_default-clause-front : goal.returns-in_default-clause-front
returns-in_default-clause-front g c = front_of_wrote (wrote_nothing (g.K.Sink.told c.args.out.now) (xref_text c.args.bytes.now c.args.made.now.symbols))

pub gather_naming-requires-clause-spans : goal.gather_naming-requires-clause-spans
gather_naming-requires-clause-spans g c = rw c.deref.ensures.value (spans_of c.args.bytes.now c.args.made.now c.requires)

pub returns-in_default-gather_naming-clause-front : goal.returns-in_default-gather_naming-clause-front
returns-in_default-gather_naming-clause-front g c = front_of_wrote (wrote_nothing (g.K.Sink.told c.args.out.now) (xref_text c.args.bytes.now c.args.made.now.symbols))

pub returns-clause-sent : goal.returns-clause-sent
returns-clause-sent g c =
    let gathered = rw (c.deref.ensures.value, c.deref-2.ensures.value, cards_of c.args.bytes.now c.args.made.now c.requires) at c.in-Ok-gather_naming.ensures in
    let text = reference_is c.args.bytes.now c.args.made.now.symbols c.in-Ok.rows.items c.in-Ok-gather_naming.naming.items c.in-Ok.ensures.symbols gathered in
    on_ok_weaker c.send_lines.result (λ sent. sent ∙ ap (appended (g.K.Sink.told c.args.out.now)) text) (rw (c.deref-3.ensures.value, c.deref-4.ensures.value) at c.send_lines.ensures.sent)

pub returns-clause-front : goal.returns-clause-front
returns-clause-front g c =
    let gathered = rw (c.deref.ensures.value, c.deref-2.ensures.value, cards_of c.args.bytes.now c.args.made.now c.requires) at c.in-Ok-gather_naming.ensures in
    let text = reference_is c.args.bytes.now c.args.made.now.symbols c.in-Ok.rows.items c.in-Ok-gather_naming.naming.items c.in-Ok.ensures.symbols gathered in
    on_err_weaker c.send_lines.result (λ front. subst (WroteFront (g.K.Sink.told c.args.out.now) (g.K.Sink.told c.send_lines.new.out)) text front)
    (rw (c.deref-3.ensures.value, c.deref-4.ensures.value) at c.send_lines.ensures.front)

pub returns-in_default-clause-faults : goal.returns-in_default-clause-faults
returns-in_default-clause-faults g c = unfailed (g.K.Sink.faults c.args.out.now) (g.K.Sink.faults c.args.out.now) refl

pub returns-in_default-gather_naming-clause-faults : goal.returns-in_default-gather_naming-clause-faults
returns-in_default-gather_naming-clause-faults g c = unfailed (g.K.Sink.faults c.args.out.now) (g.K.Sink.faults c.args.out.now) refl

pub returns-clause-faults : goal.returns-clause-faults
returns-clause-faults g c = c.send_lines.ensures.faults
