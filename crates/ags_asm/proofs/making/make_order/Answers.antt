use Rattle.std.proofs.Common.{ap, sym, ◌∙◌}
use Rattle.std.specs.Int.{w32}
use Rattle.std.proofs.lemmas.Int.{to_z-of_z}
use Rattle.ags_isa.specs.Naming.{order_word}
use Rattle.ags_symbol.specs.Symbol.{sum_of}
use Rattle.ags_asm.proofs.MakingLemmas.{made_waits, made_known, made_fault, sum_fits, value_fits}
use Rattle.ags_asm.proofs.making.make_order.Goals as goal

pub returns-clause-made : goal.returns-clause-made
returns-clause-made c = λ later.
    rw (to_z-of_z w32 c.split-sum.result.0 (sum_fits c.split-sum.result.0 c.split-sum.ensures.small))
    (made_waits c.args.codes.now c.args.symbols.now later c.args.number c.args.place c.args.order c.args.terms.now c.args.indexed c.split-sum.result.0 c.split-sum.result.1 c.split-sum.ensures.sum c.split-sum.ensures.open)

pub returns-in-Ok-clause-made : goal.returns-in-Ok-clause-made
returns-in-Ok-clause-made c = λ later.
    let back = to_z-of_z w32 c.in-Some.value (value_fits c.in-Some.value c.items.result.now c.items.ensures.terms c.in-Some.ensures.small) in
    made_known c.args.codes.now c.args.symbols.now later c.args.number c.args.place c.args.order c.args.terms.now c.args.indexed c.in-Some.value c.encode.result
    (ap (sum_of c.args.symbols.now c.args.place) (sym c.items.ensures.same) ∙ sym c.in-Some.ensures.value)
    (rw back at c.in-Ok.ensures.faultless) (c.encode.ensures ∙ ap (order_word c.args.codes.now c.args.order c.args.indexed) (rw back at c.in-Ok.ensures.address))

pub returns-in-Err-clause-made : goal.returns-in-Err-clause-made
returns-in-Err-clause-made c = λ later.
    let back = to_z-of_z w32 c.in-Some.value (value_fits c.in-Some.value c.items.result.now c.items.ensures.terms c.in-Some.ensures.small) in
    made_fault c.args.codes.now c.args.symbols.now later c.args.number c.args.place c.args.order c.args.terms.now c.args.indexed c.in-Some.value c.in-Err.fault
    (ap (sum_of c.args.symbols.now c.args.place) (sym c.items.ensures.same) ∙ sym c.in-Some.ensures.value) (rw back at c.in-Err.ensures.fault)
