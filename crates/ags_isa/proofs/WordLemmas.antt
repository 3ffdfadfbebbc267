-- A word that is made of a code, an index bit and an address gives each of them back. The crates above cite:
--     names-one        a word names one order, one index bit and one address
--     order_word-below    the word of an order is below 2 ^ 18
use Rattle.std.proofs.Common.{◌≡◌, ℕ, ◌+◌, ◌*◌, ◌/◌, ◌%◌, ◌^◌, ◌∙◌, sym, ◌<◌, Bool, true, false, List, if◌then◌else◌, refl, ⊎_elim, arith}
use Rattle.std.proofs.lemmas.Bool.{cases_lt}
use Rattle.ags_isa.specs.declared.orders.Order.{Order}
use Rattle.ags_isa.specs.Code.{AreCodes, code_of}
use Rattle.ags_isa.specs.Naming.{index_bit, order_word, Names}
use Rattle.ags_isa.proofs.CodeLemmas.{code_of-injective, code_of-below}

-- the parts of equal words are equal
pub parts_of_word : (code other_code : ℕ) (indexed other_indexed : Bool) (address other_address : ℕ)
    → address < 4096 → other_address < 4096
    → code * 8192 + index_bit indexed + address ≡ other_code * 8192 + index_bit other_indexed + other_address
    → (code ≡ other_code) × (indexed ≡ other_indexed) × (address ≡ other_address)
parts_of_word c d true true a b a_below b_below same = (omega arith, refl, omega arith)
parts_of_word c d false false a b a_below b_below same = (omega arith, refl, omega arith)
parts_of_word c d true false a b a_below b_below same = absurd (omega arith)
parts_of_word c d false true a b a_below b_below same = absurd (omega arith)

-- a word names one order, one index bit and one address
pub names-one : (table : List ℕ) → AreCodes table → (word : ℕ) (order other : Order) (indexed other_indexed : Bool)
    (address other_address : ℕ) → Names table word order indexed address → Names table word other other_indexed other_address
    → (order ≡ other) × (indexed ≡ other_indexed) × (address ≡ other_address)
unfolding order_word
names-one table are word order other indexed other_indexed address other_address one another =
    let parts = parts_of_word (code_of table order) (code_of table other) indexed other_indexed address other_address
    one.below another.below (sym one.equals ∙ another.equals)
    in (code_of-injective table are order other parts.0, parts.1, parts.2)

-- the word is a word
pub order_word-below : (table : List ℕ) → AreCodes table → (order : Order) (indexed : Bool) (address : ℕ) → address < 4096
    → order_word table order indexed address < 2 ^ 18
unfolding order_word
order_word-below table are order true address below = omega (arith, code_of-below table are order)
order_word-below table are order false address below = omega (arith, code_of-below table are order)

-- a word over 2 ^ 12 is twice the code, and one more where the index bit is set
pub two_digits : (table : List ℕ) (word : ℕ) (order : Order) (indexed : Bool) (address : ℕ) → Names table word order indexed address
    → word / 2 ^ 12 ≡ 2 * code_of table order + (if indexed then 1 else 0)
unfolding order_word
two_digits table word order true address names = omega (arith, names.below, names.equals)
two_digits table word order false address names = omega (arith, names.below, names.equals)

pub four_digits : (table : List ℕ) (word : ℕ) (order : Order) (indexed : Bool) (address : ℕ) → Names table word order indexed address
    → word % 2 ^ 12 ≡ address
unfolding order_word
four_digits table word order true address names = omega (arith, names.below, names.equals)
four_digits table word order false address names = omega (arith, names.below, names.equals)

-- a word over 2 ^ 13 is the code
pub code_over : (table : List ℕ) (word : ℕ) (order : Order) (indexed : Bool) (address : ℕ) → Names table word order indexed address
    → word / 2 ^ 13 ≡ code_of table order
unfolding order_word
code_over table word order true address names = omega (arith, names.below, names.equals)
code_over table word order false address names = omega (arith, names.below, names.equals)

-- and a word with the code of an order names it
pub code_names : (table : List ℕ) (word : ℕ) (order : Order) → word / 2 ^ 13 ≡ code_of table order
    → (indexed : Bool) × Names table word order indexed (word % 2 ^ 12)
unfolding order_word
code_names table word order code = ⊎_elim
    (λ clear. (false, record { below = omega arith; equals = omega arith }))
    (λ set. (true, record { below = omega arith; equals = omega arith }))
    (cases_lt (word % 2 ^ 13) (2 ^ 12))

-- equal words are words of one order, one index bit and one address
pub words-one : (table : List ℕ) → AreCodes table → (order other : Order) (indexed other_indexed : Bool)
    (address other_address : ℕ) → address < 4096 → other_address < 4096
    → order_word table order indexed address ≡ order_word table other other_indexed other_address
    → (order ≡ other) × (indexed ≡ other_indexed) × (address ≡ other_address)
words-one table are order other indexed other_indexed address other_address below other_below same =
    names-one table are _ order other indexed other_indexed address other_address
    (record { below = below; equals = refl }) (record { below = other_below; equals = same })
