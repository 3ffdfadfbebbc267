-- Links: when one holds, and what an order leaves of it.
use Rattle.std.specs.Prelude.{◌≡◌, ◌==◌, ℕ, ℤ, pos, ◌+ℤ◌, ◌-ℤ◌, Option, Some, None, if◌then◌else◌}
use Rattle.ags_word.specs.Word.{val}
use Rattle.ags_domain.specs.Domain.{Ends}
use Rattle.ags_ports.specs.State.{State, cell}
use Rattle.ags_row.specs.Link.{is_link}
use Rattle.ags_row.specs.declared.links.Link.{Link}
use Rattle.ags_safe.specs.Case.{is_erasable}

-- the value of A and the link's offset make the value of its cell
abbrev pub LinkHolds : State → Link → Type 0
LinkHolds s link = val s.a +ℤ link.offset ≡ val (cell s link.address)

-- the link of an A that has the value of the cell: there is one to an erasable cell
abbrev pub link_to : ℕ → Option Link
link_to e = if is_erasable e then Some (record { address = e; offset = pos 0 }) else None

-- the link to a cell with this offset; there is none where the offset is too large
abbrev pub link_of : ℕ → ℤ → Option Link
link_of address offset =
    if is_link (Some (record { address = address; offset = offset })) then Some (record { address = address; offset = offset }) else None

-- the link after A has grown by a number
abbrev pub link_grown : Option Link → ℤ → Option Link
link_grown None n = None
link_grown (Some link) n = link_of link.address (link.offset -ℤ n)

-- the link after A has grown by a number that the one word between two ends gives; there is none where they are two
abbrev pub link_with : Option Link → (ℤ → ℤ) → Ends → Option Link
link_with link grows ends = if ends.least == ends.greatest then link_grown link (grows (val ends.least)) else None

-- the link where a cell is written: it is gone where the cell is the link's
abbrev pub link_beside : Option Link → ℕ → Option Link
link_beside None e = None
link_beside (Some link) e = if link.address == e then None else Some link
