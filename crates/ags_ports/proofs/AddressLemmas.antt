-- The address that an order acts on has the bits of its own address and of the index register.
use Rattle.std.proofs.Common.{◌≡◌, ◌↔◌, ℕ, ◌<◌, ◌/◌, ◌%◌, ◌^◌, Bool, true, false, refl, arith, ◌⊎◌, ⊎_elim}
use Rattle.std.specs.Prelude.{max}
use Rattle.std.specs.Int.{bit_at}
use Rattle.std.proofs.lemmas.Nat.Bits.{bit_at_or, bit_at-lt}
use Rattle.ags_isa.specs.declared.orders.Order.{Order}
use Rattle.ags_ports.specs.State.{State}
use Rattle.ags_ports.specs.Effect.{counts_index, effective}

either : (a b most : ℕ) → a < 2 → b < 2 → most ≡ max a b → (most ≡ 1) ↔ ((a ≡ 1) ⊎ (b ≡ 1))
either a b most a_below b_below is = (
  λ set. grind arith,
  λ one. ⊎_elim (λ first. omega arith) (λ second. omega arith) one,
)

pub effective_bits : (s : State) (order : Order) (y k : ℕ) → counts_index order ≡ true
    → (effective s order true y / 2 ^ k % 2 ≡ 1) ↔ ((y / 2 ^ k % 2 ≡ 1) ⊎ (s.index / 2 ^ k % 2 ≡ 1))
effective_bits s order y k counts =
    rw counts (either (bit_at y k) (bit_at s.index k) _ (bit_at-lt y k) (bit_at-lt s.index k) (bit_at_or y s.index k))

pub effective_clear : (s : State) (order : Order) (y : ℕ) → effective s order false y ≡ y
effective_clear s order y = refl

pub effective_uncounted : (s : State) (order : Order) (indexed : Bool) (y : ℕ) → counts_index order ≡ false → effective s order indexed y ≡ y
effective_uncounted s order true y none = rw none
effective_uncounted s order false y none = refl
