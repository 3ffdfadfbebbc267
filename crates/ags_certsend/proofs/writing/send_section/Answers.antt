use Rattle.std.proofs.Common.{◌∙◌, refl, sym, arith}
use Rattle.std.proofs.lemmas.Result.{err_from_is_err_and}
use Rattle.ags_certsend.specs.Section.{stated_at, address_count, section_text}
use Rattle.ags_certsend.proofs.SendLemmas.{ascending_none, ascending_skip, ascending_more, ascending_front, ascending_all}
use Rattle.ags_certsend.proofs.writing.send_section.Goals as goal

pub loop-address-init : goal.loop-address-init
loop-address-init g c = record { sending = ascending_none (stated_at c.args.section c.args.cert.now) (address_count c.args.section) (g.K.Sink.told c.args.out.now); faults = refl }

pub loop-address-preserved-in_default : goal.loop-address-preserved-in_default
loop-address-preserved-in_default g c = record {
  sending = ascending_skip (stated_at c.args.section c.args.cert.now) (address_count c.args.section) c.loop-address.address c.loop-address.invariant.sending
      (omega (arith, c.loop-address-test.true, c.count-address-end.ensures.count)) (sym c.in_default.ensures);
  faults = c.loop-address.invariant.faults;
}

pub returns-in_err-send_statement-clause-front : goal.returns-in_err-send_statement-clause-front
unfolding section_text
returns-in_err-send_statement-clause-front g c =
    let p = err_from_is_err_and c.from_residual.result c.from_residual.ensures.1 in
    rw p.1 (ascending_front (stated_at c.args.section c.args.cert.now) (address_count c.args.section) c.loop-address.address c.in-Some.statement c.loop-address.invariant.sending
    (omega (arith, c.loop-address-test.true, c.count-address-end.ensures.count)) (sym c.in-Some.ensures) c.in_err-send_statement.ensures.front)

pub loop-address-preserved : goal.loop-address-preserved
loop-address-preserved g c = record {
  sending = ascending_more (stated_at c.args.section c.args.cert.now) (address_count c.args.section) c.loop-address.address c.in-Some.statement c.loop-address.invariant.sending
      (omega (arith, c.loop-address-test.true, c.count-address-end.ensures.count)) (sym c.in-Some.ensures) c.in_ok-send_statement.ensures.sent;
  faults = c.in_ok-send_statement.ensures.faults.clean refl ∙ c.loop-address.invariant.faults;
}

pub returns-clause-sent : goal.returns-clause-sent
unfolding section_text
returns-clause-sent g c = ascending_all (stated_at c.args.section c.args.cert.now) (address_count c.args.section) c.loop-address.address c.loop-address.invariant.sending
    (omega (arith, c.loop-address-test.false, c.count-address-end.ensures.count))
