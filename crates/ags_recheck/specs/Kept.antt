-- What a book keeps of each row of a certificate.
use Rattle.std.specs.Prelude.{◌≡◌, ◌≢◌, ◌↔◌, ℕ, ◌<◌, ◌≤◌, true, false, List, length, Option, Result, IfOk, slice_index_or}
use Rattle.ags_domain.specs.Value.{value_meaning}
use Rattle.ags_domain.specs.declared.values.Value.{Value}
use Rattle.ags_ports.specs.declared.machines.Machine.{Machine}
use Rattle.ags_row.specs.declared.rows.Row.{Row}
use Rattle.ags_verdict.specs.Fault.{IsRowJudged}
use Rattle.ags_verdict.specs.Locality.{HasPostAt}
use Rattle.ags_verdict.specs.declared.verdicts.RowFault.{RowFault}
use Rattle.ags_certtype.specs.Cert.{Stated, certificate_of}
use Rattle.ags_recheck.specs.Locations.{has_location}
use Rattle.ags_recheck.specs.declared.items.Item.{Item}

module _ (machine : Machine) (image : List (Option ℕ)) (stated : Stated) where
  -- What is kept of a row: how many cases it has, or what fails first in it; and the set of the locations that its posts go to.
  pub record IsRowKept (row : Row Value) (outcome : Result ℕ (RowFault Value)) (set : List ℕ) : Type 0 where
    pub judged : IsRowJudged value_meaning (certificate_of stated) machine image row outcome
    pub noted : (location : ℕ) → (has_location set location ≡ true) ↔ HasPostAt value_meaning machine image stated.limits row location
    pub few : IfOk outcome (λ count. count ≤ 256)

  -- an item is what is kept of a row
  abbrev pub IsItemKept : Row Value → Item → Type 0
  IsItemKept row item = IsRowKept row item.outcome item.locations

  -- so is each item of the row at its position
  abbrev pub AreItemsKept : List Item → Type 0
  AreItemsKept items = (position : ℕ) (row : Row Value) (item : Item) → position < length stated.rows → slice_index_or stated.rows position row ≡ row
      → slice_index_or items position item ≡ item → IsItemKept row item

  -- so is each, but for one position, and for those whose set has one of two locations
  abbrev pub AreOthersKept : (edited one other : ℕ) → List Item → Type 0
  AreOthersKept edited one other items = (position : ℕ) (row : Row Value) (item : Item) → position < length stated.rows
      → slice_index_or stated.rows position row ≡ row
      → slice_index_or items position item ≡ item → position ≢ edited → has_location item.locations one ≡ false → has_location item.locations other ≡ false
      → IsItemKept row item

  -- each row has an item, which is what is kept of it
  pub record IsBook (items : List Item) : Type 0 where
    pub whole : length items ≡ length stated.rows
    pub kept : AreItemsKept items

  -- These are the rows before an edit put the new one at a position; where the set of another row has one of two locations, that row
  -- has a post there.
  pub record IsBeforeEdit (edited one other : ℕ) (before : List (Row Value)) (new : Row Value) (items : List Item) : Type 0 where
    pub whole : length before ≡ length stated.rows
    pub new_stands : (row : Row Value) → edited < length stated.rows → slice_index_or stated.rows edited row ≡ row → row ≡ new
    pub others_stand : (position : ℕ) (row : Row Value) → position ≢ edited → slice_index_or stated.rows position row ≡ slice_index_or before position row
    pub one_noted : (position : ℕ) (row : Row Value) (item : Item) → position < length stated.rows → position ≢ edited
        → slice_index_or stated.rows position row ≡ row
        → slice_index_or items position item ≡ item → has_location item.locations one ≡ true → HasPostAt value_meaning machine image stated.limits row one
    pub other_noted : (position : ℕ) (row : Row Value) (item : Item) → position < length stated.rows → position ≢ edited
        → slice_index_or stated.rows position row ≡ row
        → slice_index_or items position item ≡ item → has_location item.locations other ≡ true → HasPostAt value_meaning machine image stated.limits row other
