-- It is decided whether a word names an order, and which.
use Rattle.std.proofs.Common.{◌≡◌, ◌≢◌, ℕ, ◌*◌, ◌/◌, ◌%◌, ◌^◌, true, false, refl, ap, subst, ⊎_elim, ◌⊎◌, inl, inr, arith, List, [], ◌∷◌, All}
use Rattle.std.specs.Prelude.{Bool, Option, Some, None, nat_eq}
use Rattle.std.proofs.lemmas.Bool.{cases_lt}
use Rattle.std.proofs.lemmas.List.Elements.{All-cons, All-nil}
use Rattle.ags_isa.specs.declared.orders.Order.{Order}
use Rattle.ags_isa.specs.declared.orders.Order.TheVariants.{Abs, Tra, Tsq}
use Rattle.ags_isa.specs.declared.decoding.Decoded.{Decoded}
use Rattle.ags_isa.specs.Order.{order_number, all_orders}
use Rattle.ags_isa.specs.Code.{AreCodes, code_of}
use Rattle.ags_isa.specs.Naming.{index_bit, order_word, Names, IsDecoding}
use Rattle.ags_ports.specs.declared.machines.Machine.{Machine}
use Rattle.ags_ports.specs.State.{State, next_location}
use Rattle.ags_ports.specs.Effect.{effect}
use Rattle.ags_isa.proofs.OrderLemmas.{order_at_number, order_number-below}
use Rattle.ags_isa.proofs.WordLemmas.{names-one}

-- ---- a word names one order at most

decoded_same : (o p : Order) (i j : Bool) (y z : ℕ) → o ≡ p → i ≡ j → y ≡ z
    → ◌≡◌ {A = Decoded} (record { order = o; indexed = i; address = y }) (record { order = p; indexed = j; address = z })
decoded_same o p i j y z same also too = cc

pub decoding_same : (table : List ℕ) → AreCodes table → (word : ℕ) (c d : Option Decoded) → IsDecoding table word c → IsDecoding table word d → c ≡ d
decoding_same table are word None None p r = refl
decoding_same table are word None (Some d) p r = absurd (p d.order d.indexed d.address r)
decoding_same table are word (Some c) None p r = absurd (r c.order c.indexed c.address p)
decoding_same table are word (Some c) (Some d) p r =
    let parts = names-one table are word c.order d.order c.indexed d.indexed c.address d.address p r in
    ap (λ (named : Decoded). Some named) (decoded_same c.order d.order c.indexed d.indexed c.address d.address parts.0 parts.1 parts.2)

-- ---- the word that TSQ leaves

pub return_names : (machine : Machine) (s : State) (e y : ℕ) → Names machine.codes ((effect machine s Tsq e y).after.q) Tra false (next_location s)
return_names machine s e y = record { below = omega arith; equals = refl }

-- ---- and it is decided whether it names one

same_or_not : (m n : ℕ) → (m ≡ n) ⊎ (m ≢ n)
same_or_not m n = ⊎_elim
    (λ less. inr (λ e. omega arith))
    (λ more. ⊎_elim (λ less. inr (λ e. omega arith)) (λ less. inl (omega arith)) (cases_lt n m))
    (cases_lt m n)

-- some order has the code, or none of the list has
coded : (table : List ℕ) (code : ℕ) (orders : List Order) → ((o : Order) × (code_of table o ≡ code)) ⊎ All (λ o. code_of table o ≢ code) orders
coded table code [] = inr (All-nil (λ o. code_of table o ≢ code))
coded table code (o ∷ orders) = ⊎_elim
    (λ e. inl (o, e))
    (λ other. ⊎_elim (λ found. inl found) (λ none. inr (All-cons (λ p. code_of table p ≢ code) o orders other none)) (coded table code orders))
    (same_or_not (code_of table o) code)

none_of : (table : List ℕ) (code : ℕ) → All (λ o. code_of table o ≢ code) all_orders → (o : Order) → code_of table o ≢ code
none_of table code none o = subst (λ (p : Order). code_of table p ≢ code) (order_at_number o Abs) (none (order_number o) Abs (order_number-below o))

code_is : (table : List ℕ) (word : ℕ) (order : Order) (indexed : Bool) (address : ℕ) → Names table word order indexed address → code_of table order ≡ word / 2 ^ 13
unfolding order_word
code_is table word order true address h = omega (arith, h.below, h.equals)
code_is table word order false address h = omega (arith, h.below, h.equals)

bit_of : (n : ℕ) → index_bit (nat_eq (n % 2) 1) ≡ n % 2 * 2 ^ 12
bit_of n = ⊎_elim
    (λ e. let z : n % 2 ≡ 0 = omega arith in rw z)
    (λ e. let z : n % 2 ≡ 1 = omega arith in rw z)
    (cases_lt (n % 2) 1)

names_word : (table : List ℕ) (word : ℕ) (o : Order) → code_of table o ≡ word / 2 ^ 13 → Names table word o (nat_eq (word / 2 ^ 12 % 2) 1) (word % 2 ^ 12)
unfolding order_word
names_word table word o e = let bit = bit_of (word / 2 ^ 12) in record { below = omega arith; equals = omega arith }

pub decoding : (table : List ℕ) (word : ℕ) → (named : Option Decoded) × IsDecoding table word named
decoding table word = ⊎_elim
    (λ (o, e). (Some (record { order = o; indexed = nat_eq (word / 2 ^ 12 % 2) 1; address = word % 2 ^ 12 }), names_word table word o e))
    (λ none. (None, λ o indexed address h. none_of table (word / 2 ^ 13) none o (code_is table word o indexed address h)))
    (coded table (word / 2 ^ 13) all_orders)
