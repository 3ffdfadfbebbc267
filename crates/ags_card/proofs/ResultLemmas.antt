-- What an answer was made of: a test, what was mapped, and what an option gave.
use Rattle.std.proofs.Common.{◌≡◌, ℕ, ◌≤◌, ◌⊎◌, Bool, true, false, Option, Some, None, refl, inl, inr}
use Rattle.std.specs.Prelude.{Result, Ok, Err}
use Rattle.std.specs.Option.{option_map, ok_or}
use Rattle.ags_card.specs.declared.cards.CardFault.{CardFault}
use Rattle.ags_card.specs.Spelling.{fault_number}
use Rattle.ags_card.specs.Reading.{checked, mapped}

pub checked_ok : {T : Type 0} (test : Bool) (fault : CardFault) (next : Result T CardFault) (x : T) → checked test fault next ≡ Ok x → (test ≡ true) × (next ≡ Ok x)
checked_ok true fault next x is = (refl, is)
checked_ok false fault next x is = absurd (cc)

pub checked_err : {T : Type 0} (test : Bool) (fault : CardFault) (next : Result T CardFault) (told : CardFault) → checked test fault next ≡ Err told
    → ((test ≡ false) × (told ≡ fault)) ⊎ ((test ≡ true) × (next ≡ Err told))
checked_err true fault next told is = inr (refl, is)
checked_err false fault next told is = inl (refl, (cc))

pub record IsMapped {T U : Type 0} (f : T → U) (result : Result T CardFault) (y : U) : Type 0 where
  pub x : T
  pub result_is : result ≡ Ok x
  pub made : y ≡ f x

pub mapped_ok : {T U : Type 0} (f : T → U) (result : Result T CardFault) (y : U) → mapped f result ≡ Ok y → IsMapped f result y
mapped_ok f (Ok x) y is = record { x = x; result_is = refl; made = (cc) }
mapped_ok f (Err fault) y is = absurd (cc)

pub mapped_err : {T U : Type 0} (f : T → U) (result : Result T CardFault) (told : CardFault) → mapped f result ≡ Err told → result ≡ Err told
mapped_err f (Ok x) told is = absurd (cc)
mapped_err f (Err fault) told is = (cc)

pub ok_or_ok : {T : Type 0} (found : Option T) (fault : CardFault) (x : T) → ok_or found fault ≡ Ok x → found ≡ Some x
ok_or_ok (Some y) fault x is = (cc)
ok_or_ok None fault x is = absurd (cc)

pub ok_or_err : {T : Type 0} (found : Option T) (fault told : CardFault) → ok_or found fault ≡ Err told → (found ≡ None) × (told ≡ fault)
ok_or_err (Some y) fault told is = absurd (cc)
ok_or_err None fault told is = (refl, (cc))

pub record IsFound {T U : Type 0} (f : T → U) (found : Option T) (y : U) : Type 0 where
  pub x : T
  pub found_is : found ≡ Some x
  pub made : y ≡ f x

pub option_map_some : {T U : Type 0} (f : T → U) (found : Option T) (y : U) → option_map f found ≡ Some y → IsFound f found y
option_map_some f (Some x) y is = record { x = x; found_is = refl; made = (cc) }
option_map_some f None y is = absurd (cc)

-- nothing is found where each that is found would have what nothing has
pub none_found : {T : Type 0} (P : T → Type 0) (found : Option T) → ((x : T) → found ≡ Some x → P x) → ((x : T) → P x → ⊥) → found ≡ None
none_found P None tells none = refl
none_found P (Some x) tells none = absurd (none x (tells x refl))

-- ---- a fault of that number at most

unfoldable pub AtMost : {T : Type 0} → ℕ → Result T CardFault → Type 0
AtMost number (Ok x) = ⊥
AtMost number (Err fault) = fault_number fault ≤ number

pub at_most_checked : {T : Type 0} (number : ℕ) (test : Bool) (fault : CardFault) (next : Result T CardFault) → fault_number fault ≤ number → (test ≡ true → AtMost number next)
    → AtMost number (checked test fault next)
unfolding AtMost
at_most_checked number true fault next less rest = rest refl
at_most_checked number false fault next less rest = less

pub at_most_failed : {T : Type 0} (number : ℕ) (test : Bool) (fault : CardFault) (next : Result T CardFault) → fault_number fault ≤ number → test ≡ false → AtMost number (checked test fault next)
unfolding AtMost
at_most_failed number test fault next less fails = rw fails less

pub at_most_mapped : {T U : Type 0} (number : ℕ) (f : T → U) (result : Result T CardFault) → AtMost number result → AtMost number (mapped f result)
unfolding AtMost
at_most_mapped number f (Ok x) most = most
at_most_mapped number f (Err fault) most = most

pub at_most_none : {T : Type 0} (number : ℕ) (found : Option T) (fault : CardFault) → fault_number fault ≤ number → found ≡ None → AtMost number (ok_or found fault)
unfolding AtMost
at_most_none number found fault less none = rw none less

-- an answer with such a fault is no card
pub at_most-ok : {T : Type 0} (number : ℕ) (result : Result T CardFault) (x : T) → AtMost number result → result ≡ Ok x → ⊥
unfolding AtMost
at_most-ok number (Ok y) x most is = most
at_most-ok number (Err fault) x most is = absurd (cc)

pub at_most-err : {T : Type 0} (number : ℕ) (result : Result T CardFault) (fault : CardFault) → AtMost number result → result ≡ Err fault → fault_number fault ≤ number
unfolding AtMost
at_most-err number (Ok y) fault most is = absurd most
at_most-err number (Err other) fault most is = let same : other ≡ fault = (cc) in rw (← same) most
