use Rattle.std.proofs.Common.{arith, rules}
use Rattle.ags_certtext.proofs.FrontLemmas.{no_word_name}
use Rattle.ags_certtext.proofs.StatementLemmas.{row_same}
use Rattle.ags_certtext.proofs.operands.read_row.Goals as goal

pub returns-in_default-read_named_value-clause-only : goal.returns-in_default-read_named_value-clause-only
returns-in_default-read_named_value-clause-only c = λ row is.
    absurd (c.in_default-read_named_value.ensures.only row.a is.behind_a (rw c.split_field.ensures.behind is.a_is) (no_word_name is.behind_a _ is.q_is.named (omega arith)))

pub returns-in_default-read_named_value-2-clause-only : goal.returns-in_default-read_named_value-2-clause-only
returns-in_default-read_named_value-2-clause-only c = λ row is.
    let a = c.in-Some-read_named_value.ensures.only row.a is.behind_a (rw c.split_field.ensures.behind is.a_is) (no_word_name is.behind_a _ is.q_is.named (omega arith)) in
    absurd (c.in_default-read_named_value-2.ensures.only row.q is.behind_q (rw a.1 is.q_is) (no_word_name is.behind_q _ is.flags_are.x_is.named (omega arith)))

pub returns-in_default-read_flags-clause-only : goal.returns-in_default-read_flags-clause-only
returns-in_default-read_flags-clause-only c = λ row is.
    let a = c.in-Some-read_named_value.ensures.only row.a is.behind_a (rw c.split_field.ensures.behind is.a_is) (no_word_name is.behind_a _ is.q_is.named (omega arith)) in
    let q = c.in-Some-read_named_value-2.ensures.only row.q is.behind_q (rw a.1 is.q_is) (no_word_name is.behind_q _ is.flags_are.x_is.named (omega arith)) in
    absurd (c.in_default-read_flags.ensures.only row.x row.v (rw q.1 is.flags_are))

pub returns-clause-only : goal.returns-clause-only
returns-clause-only c = λ row is.
    let a = c.in-Some-read_named_value.ensures.only row.a is.behind_a (rw c.split_field.ensures.behind is.a_is) (no_word_name is.behind_a _ is.q_is.named (omega arith)) in
    let q = c.in-Some-read_named_value-2.ensures.only row.q is.behind_q (rw a.1 is.q_is) (no_word_name is.behind_q _ is.flags_are.x_is.named (omega arith)) in
    let flags = c.in-Some-read_flags.ensures.only row.x row.v (rw q.1 is.flags_are) in
    row_same row c.in-Some.location c.in-Some-read_named_value.a c.in-Some-read_named_value-2.q c.in-Some-read_flags.flags.0 c.in-Some-read_flags.flags.1
    (c.in-Some.ensures.only row.location (rw c.split_field.ensures.field is.location_is)) a.0 q.0 flags.0 flags.1

pub returns-clause-found : goal.returns-clause-found
returns-clause-found c = search rules
