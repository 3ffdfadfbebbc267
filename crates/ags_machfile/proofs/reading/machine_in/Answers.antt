use Rattle.std.proofs.Common.{◌∙◌, sym}
use Rattle.std.proofs.lemmas.Result.{err_from_is_err_and}
use Rattle.ags_machfile.proofs.MachineFileLemmas.{codes_fault, times_fault, registers_fault, deda_in_fault, deda_out_fault, machine_made}
use Rattle.ags_machfile.proofs.reading.machine_in.Goals as goal

pub returns-in_err-codes_in-clause-machine : goal.returns-in_err-codes_in-clause-machine
returns-in_err-codes_in-clause-machine c =
    let p = err_from_is_err_and c.from_residual.result c.from_residual.ensures.1 in
    codes_fault _ _ _ _ p.1 p.2 (sym c.codes_in.ensures ∙ c.in_err-codes_in.was)

pub returns-in_err-codes_in-clause-tables : goal.returns-in_err-codes_in-clause-tables
returns-in_err-codes_in-clause-tables c = rw ((err_from_is_err_and c.from_residual.result c.from_residual.ensures.1).1) tt

pub returns-in_err-times_in-clause-machine : goal.returns-in_err-times_in-clause-machine
returns-in_err-times_in-clause-machine c =
    let p = err_from_is_err_and c.from_residual-in_err-times_in.result c.from_residual-in_err-times_in.ensures.1 in
    times_fault _ _ _ _ _ p.1 p.2 (sym c.codes_in.ensures ∙ c.in_ok-codes_in.was) (sym c.times_in.ensures ∙ c.in_err-times_in.was)

pub returns-in_err-times_in-clause-tables : goal.returns-in_err-times_in-clause-tables
returns-in_err-times_in-clause-tables c = rw ((err_from_is_err_and c.from_residual-in_err-times_in.result c.from_residual-in_err-times_in.ensures.1).1) tt

pub returns-in_err-registers_in-clause-machine : goal.returns-in_err-registers_in-clause-machine
returns-in_err-registers_in-clause-machine c =
    let p = err_from_is_err_and c.from_residual-in_err-registers_in.result c.from_residual-in_err-registers_in.ensures.1 in
    registers_fault _ _ _ _ _ _ p.1 p.2 (sym c.codes_in.ensures ∙ c.in_ok-codes_in.was) (sym c.times_in.ensures ∙ c.in_ok-times_in.was) (sym c.registers_in.ensures ∙ c.in_err-registers_in.was)

pub returns-in_err-registers_in-clause-tables : goal.returns-in_err-registers_in-clause-tables
returns-in_err-registers_in-clause-tables c = rw ((err_from_is_err_and c.from_residual-in_err-registers_in.result c.from_residual-in_err-registers_in.ensures.1).1) tt

pub returns-in_err-address_in-clause-machine : goal.returns-in_err-address_in-clause-machine
returns-in_err-address_in-clause-machine c =
    let p = err_from_is_err_and c.from_residual-in_err-address_in.result c.from_residual-in_err-address_in.ensures.1 in
    deda_in_fault _ _ _ _ _ _ _ _ p.1 p.2
    (record { order_codes = sym c.codes_in.ensures ∙ c.in_ok-codes_in.was; order_times = sym c.times_in.ensures ∙ c.in_ok-times_in.was; in_registers = sym c.registers_in.ensures ∙ c.in_ok-registers_in.was })
    c.standard-usual.ensures.standard (sym c.address_in.ensures ∙ c.in_err-address_in.was)

pub returns-in_err-address_in-clause-tables : goal.returns-in_err-address_in-clause-tables
returns-in_err-address_in-clause-tables c = rw ((err_from_is_err_and c.from_residual-in_err-address_in.result c.from_residual-in_err-address_in.ensures.1).1) tt

pub returns-in_err-address_in-2-clause-machine : goal.returns-in_err-address_in-2-clause-machine
returns-in_err-address_in-2-clause-machine c =
    let p = err_from_is_err_and c.from_residual-in_err-address_in-2.result c.from_residual-in_err-address_in-2.ensures.1 in
    deda_out_fault _ _ _ _ _ _ _ _ _ p.1 p.2
    (record { order_codes = sym c.codes_in.ensures ∙ c.in_ok-codes_in.was; order_times = sym c.times_in.ensures ∙ c.in_ok-times_in.was; in_registers = sym c.registers_in.ensures ∙ c.in_ok-registers_in.was })
    c.standard-usual.ensures.standard (sym c.address_in.ensures ∙ c.in_ok-address_in.was) (sym c.address_in-2.ensures ∙ c.in_err-address_in-2.was)

pub returns-in_err-address_in-2-clause-tables : goal.returns-in_err-address_in-2-clause-tables
returns-in_err-address_in-2-clause-tables c = rw ((err_from_is_err_and c.from_residual-in_err-address_in-2.result c.from_residual-in_err-address_in-2.ensures.1).1) tt

pub returns-clause-machine : goal.returns-clause-machine
returns-clause-machine c =
    machine_made _ _ _ _ _ _ _
    (record { order_codes = sym c.codes_in.ensures ∙ c.in_ok-codes_in.was; order_times = sym c.times_in.ensures ∙ c.in_ok-times_in.was; in_registers = sym c.registers_in.ensures ∙ c.in_ok-registers_in.was })
    c.standard-usual.ensures.standard (sym c.address_in.ensures ∙ c.in_ok-address_in.was) (sym c.address_in-2.ensures ∙ c.in_ok-address_in-2.was)

pub returns-clause-tables : goal.returns-clause-tables
returns-clause-tables c = c.machine_is_made_of_tables.ensures
