use Rattle.std.proofs.Common.{◌≡◌, ◌∙◌, ap, length, refl, Option}
use Rattle.ags_domain.specs.declared.values.Value.{Value}
use Rattle.ags_certtext.specs.Fault.{is_full_with, leaves_limit}
use Rattle.ags_certtext.specs.Statement.{entries_before}
use Rattle.ags_certread.specs.Gathering.{gathering_of, stated}
use Rattle.ags_certread.proofs.EntryLemmas.{stated_before}
use Rattle.ags_certread.proofs.FaultLemmas.{full_before}
use Rattle.ags_certread.proofs.gatherer.Gatherer.entry_fault.Goals as goal

pub returns : goal.returns
returns c = λ before is.
    let g = gathering_of c.args.self.now in
    let table = c.args.table in
    let entry = c.args.entry.now in
    let twice = c.is_stated-twice.ensures ∙ stated_before before g is table entry.address in
    let leaves : c.leaves_limit-outside.result ≡ leaves_limit table entry.value (stated g.cells entry.address) = rw c.as_slice.ensures.value at c.leaves_limit-outside.ensures in
    let outside = leaves ∙ ap (λ (l : Option Value). leaves_limit table entry.value l) (is.tables.entered.cells.at entry.address) in
    let full : c.is_full-full.result ≡ is_full_with (length (entries_before table before)) table = rw c.as_slice-2.ensures.value at c.is_full-full.ensures ∙ full_before before g is table in
    rw (c.fault_if.ensures, c.fault_if-fault-5.ensures, c.fault_if-fault-4.ensures, c.fault_if-fault-3.ensures, c.fault_if-fault-2.ensures, c.fault_if-fault.ensures)
    (rw (c.may_stand-misplaced.ensures, twice, outside, c.lacks_word-unmet.ensures, full, c.is_empty.ensures) refl)
