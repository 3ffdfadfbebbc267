use Rattle.std.proofs.Common.{◌≡◌, Bool, true, false, sym, ◌∙◌}
use Rattle.std.specs.Prelude.{IsTrue}
use Rattle.ags_row.proofs.CellLemmas.{cells_below}
use Rattle.ags_row.proofs.coverage.covers.Goals as goal

-- a test that fails
refused : {P : Type 0} (b : Bool) → (P → IsTrue b) → b ≡ false → (IsTrue false → P) × (P → IsTrue false)
refused b says fails = (λ h. absurd (let both : true ≡ false = sym h in cc), λ p. sym fails ∙ says p)

pub covers_cells-requires : goal.covers_cells-requires
covers_cells-requires g c = rw c.at.ensures (cells_below 0 c.args.target.now.at c.args.target.now.ascending)

pub returns : goal.returns
returns g c =
    let registers = c.covers_registers.ensures in
    let met = c.if-not-covers_registers.false in
    let indicator = c.covers_indicator.ensures in
    let clear_or_set = c.if-not-covers_indicator.false in
    let linked = c.covers_link.ensures.0 c.if-not-covers_link.false in (
      λ holds. record {
        location = registers.location met;
        a = registers.a met;
        q = registers.q met;
        index = registers.index met;
        clear = indicator.clear clear_or_set;
        set = indicator.set clear_or_set;
        cells = rw (← c.at.ensures) (c.covers_cells.ensures.0 holds);
        link = rw (← c.link.ensures) linked;
      },
      λ covers. c.covers_cells.ensures.1 (rw c.at.ensures covers.cells),
    )

pub returns-then-not-covers_registers : goal.returns-then-not-covers_registers
returns-then-not-covers_registers g c = refused c.covers_registers.result
    (λ covers. c.covers_registers.ensures.all covers.location covers.a covers.q covers.index) c.if-not-covers_registers.true

pub returns-then-not-covers_indicator : goal.returns-then-not-covers_indicator
returns-then-not-covers_indicator g c = refused c.covers_indicator.result
    (λ covers. c.covers_indicator.ensures.all covers.clear covers.set) c.if-not-covers_indicator.true

pub returns-then-not-covers_link : goal.returns-then-not-covers_link
returns-then-not-covers_link g c = refused c.covers_link.result
    (λ covers. c.covers_link.ensures.1 (rw c.link.ensures covers.link)) c.if-not-covers_link.true
