-- How tags are printed.
use Rattle.std.specs.Prelude.{ℕ, List, codes}
use Rattle.std.specs.Fmt.{signed_decimal}
use Rattle.ags_tags.specs.declared.tags.Tag.{Tag}
use Rattle.ags_tags.specs.declared.tags.Tag.TheVariants.{Raw, Scale}
use Rattle.ags_tags.specs.declared.tags.RowTag.{RowTag}
use Rattle.ags_tags.specs.declared.tags.RowTag.TheVariants.{Any, Known}

-- of a scale its number in decimal, without leading zeros, and with a minus before it where it is below 0
abbrev pub tag_text : Tag → List ℕ
tag_text Raw = codes "RAW"
tag_text (Scale scale) = signed_decimal scale

-- of what a row says, the tag, or that it says nothing
abbrev pub row_tag_text : RowTag → List ℕ
row_tag_text Any = codes "ANY"
row_tag_text (Known tag) = tag_text tag
