-- The tags that are declared, and those of one cell, register or row.
use Rattle.std.specs.Prelude.{ℕ, ◌-◌, List, get_or, map, Option, unwrap_or}
use Rattle.ags_tags.specs.declared.tags.Tag.{Tag}
use Rattle.ags_tags.specs.declared.tags.Tag.TheVariants.{Raw}
use Rattle.ags_tags.specs.declared.tags.RowTag.TheVariants.{Any}
use Rattle.ags_tags.specs.declared.tags.RowTags.{RowTags}

-- The tags of the cells, and of the input and the output registers, each by their addresses; and of the rows, in their order.
pub record Scaling : Type 0 where
  pub cells : List Tag
  pub inputs : List Tag
  pub outputs : List Tag
  pub rows : List RowTags

-- the tag at an address; where there is none, it is raw
abbrev pub tag_at : List Tag → ℕ → Tag
tag_at tags address = get_or tags address Raw

-- the tag of the cell at an address
abbrev pub cell_tag : Scaling → ℕ → Tag
cell_tag scales address = tag_at scales.cells address

-- the tag of the input register at an address
abbrev pub input_tag : Scaling → ℕ → Tag
input_tag scales address = tag_at scales.inputs address

-- the tag of the output register at an address
abbrev pub output_tag : Scaling → ℕ → Tag
output_tag scales address = tag_at scales.outputs address

-- nothing is known of A and Q
abbrev pub any_tags : RowTags
any_tags = record { a = Any; q = Any }

-- the tags of the row with a number, from 1, and for 0 those of the first; where there are fewer rows nothing is known
abbrev pub row_tags_at : List RowTags → ℕ → RowTags
row_tags_at rows number = get_or rows (number - 1) any_tags

-- the tags of the row with a number
abbrev pub tags_of_row : Scaling → ℕ → RowTags
tags_of_row scales number = row_tags_at scales.rows number

-- the tags of rows where those of some are stated
abbrev pub rows_where : List (Option RowTags) → List RowTags
rows_where stated = map (λ tags. unwrap_or tags any_tags) stated
