-- Words that are orders, by sums and products of whole numbers: no bit is cut out of a word.
use Rattle.std.specs.Prelude.{◌≡◌, ℕ, ◌+◌, ◌*◌, ◌^◌, ◌<◌, Bool, List, Option, Some, None, if◌then◌else◌}
use Rattle.ags_isa.specs.declared.orders.Order.{Order}
use Rattle.ags_isa.specs.declared.decoding.Decoded.{Decoded}
use Rattle.ags_isa.specs.Code.{code_of}

-- the index bit's share of a word: 2 ^ 12 where it is set
abbrev pub index_bit : Bool → ℕ
index_bit indexed = if indexed then 2 ^ 12 else 0

-- the word of an order: its code times 2 ^ 13, the index bit times 2 ^ 12, and the address
unfoldable pub order_word : List ℕ → Order → Bool → ℕ → ℕ
order_word table order indexed address = code_of table order * 2 ^ 13 + index_bit indexed + address

-- the word names the order, with this index bit and this address
pub record Names (table : List ℕ) (word : ℕ) (order : Order) (indexed : Bool) (address : ℕ) : Type 0 where
  pub below : address < 4096
  pub equals : word ≡ order_word table order indexed address

-- what a word was read as: an order, index bit and address that the word names, or that it names none
abbrev pub IsDecoding : List ℕ → ℕ → Option Decoded → Type 0
IsDecoding table word (Some decoded) = Names table word decoded.order decoded.indexed decoded.address
IsDecoding table word None = (order : Order) (indexed : Bool) (address : ℕ) → ¬ Names table word order indexed address
