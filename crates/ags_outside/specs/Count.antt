-- The counts that an outside keeps: of its faults, and of the files that it found absent.
use Rattle.std.specs.Prelude.{◌≡◌, ℕ, ◌-◌, ◌^◌, ◌<◌, ◌≤◌, ◌⊎◌, Bool, true, false}
use Rattle.std.proofs.Common.{arith, inl, inr}

-- a count rose in a call: it is greater than before, or it stands at the last value of a counter of 64 bits, which
-- such a counter doesn't leave
abbrev pub Rose : ℕ → ℕ → Type 0
Rose before now = (before < now) ⊎ (now ≡ 2 ^ 64 - 1)

-- What a call does to a count, where `counted` says whether its answer is what the count counts. The count doesn't fall; it
-- rose where the answer is that one, and stays as it was with every other answer: so no other answer hides a fault.
pub record HasCause (before now : ℕ) (counted : Bool) : Type 0 where
  pub stays : before ≤ now
  pub cause : counted ≡ true → Rose before now
  pub clean : counted ≡ false → now ≡ before

-- what rose in the last of several calls, and fell in none before it, rose in all of them together
pub rose_since : (before mid now : ℕ) → before ≤ mid → Rose mid now → Rose before now
rose_since before mid now stays (inl more) = inl (omega arith)
rose_since before mid now stays (inr last) = inr last
