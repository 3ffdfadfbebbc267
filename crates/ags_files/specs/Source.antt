-- What clauses see of a source that was read.
use Rattle.std.specs.Prelude.{◌≡◌, ℕ, List}
use Rattle.ags_asm.specs.declared.assembling.Assembled.{Assembled}
use Rattle.ags_asm.specs.Source.{Defines, IsAssembled, card_words, placed_words}
use Rattle.ags_image.specs.Image.{IsImageOf}
use Rattle.ags_listing.specs.Listing.{AreCardsOf}
use Rattle.ags_files.specs.declared.sources.SourceFile.{SourceFile}

-- the image has exactly the words of the cards
abbrev pub HasImage : Assembled → Type 0
HasImage made = IsImageOf (placed_words (card_words made)) made.image

-- what was made of a source by the table of codes
pub record IsSourceRead (order_codes bytes : List ℕ) (made : Assembled) : Type 0 where
  pub cards : AreCardsOf bytes made
  pub assembled : IsAssembled order_codes bytes made.cards.items made.symbols made.image
  pub defines : Defines order_codes bytes (card_words made)
  pub image : HasImage made

-- the source was read of these bytes, by the table of codes
pub record IsSourceOf (order_codes bytes : List ℕ) (source : SourceFile) : Type 0 where
  pub bytes_are : source.bytes.items ≡ bytes
  pub read : IsSourceRead order_codes bytes source.made
