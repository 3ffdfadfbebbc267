-- Keys and their forms.
use Rattle.std.proofs.Common.{◌≡◌, ℕ, ◌+◌, ◌<◌, ◌≤◌, ◌%◌, ◌==◌, min, Bool, true, false, ◌&&◌, ◌||◌, List, [], ◌∷◌, length, refl, sym, ap, ◌∙◌, inl, inr, arith, nat_lt}
use Rattle.std.proofs.lemmas.Bool.{cases_lt, cases_eq}
use Rattle.std.proofs.lemmas.Bool.Decides.{nat_tests}
use Rattle.ags_deda.specs.declared.keys.Key.{Key}
use Rattle.ags_deda.specs.declared.keys.Key.TheVariants.{Digit, Plus, Minus, Clr, Entr, ReadOut, Hold}
use Rattle.ags_deda.specs.Key.{is_octal_digit, is_readout, is_hold}
use Rattle.ags_deda.specs.Form.{entry_has, readout_has, fits, are_lawful, taken, is_held, in_readout}
use Rattle.ags_deda.specs.Panel.{is_whole}

-- ---- forms

pub fits_cons : (form : ℕ → Key → Bool) (key : Key) (earlier : List Key) → fits form (key ∷ earlier) ≡ (form (length earlier) key && fits form earlier)
unfolding fits
fits_cons form key earlier = refl

-- after ten keys of an entry there is none
entry_far : (n : ℕ) (key : Key) → 10 ≤ n → entry_has n key ≡ false
unfolding entry_has
entry_far n key far = grind (arith, nat_tests)

pub entry_capped : (position n : ℕ) (key : Key) → position ≡ min n 10 → entry_has position key ≡ entry_has n key
entry_capped position n key is =
    elim (cases_lt n 10) [
      | inl lt ↦ let same : position ≡ n = omega arith in ap (λ (p : ℕ). entry_has p key) same
      | inr le ↦ let ten : position ≡ 10 = omega arith in ap (λ (p : ℕ). entry_has p key) ten ∙ entry_far 10 key (omega arith) ∙ sym (entry_far n key le)
    ]

pub readout_address : (n : ℕ) (key : Key) → n < 3 → readout_has n key ≡ is_octal_digit key
unfolding readout_has
readout_address n key lt = grind (arith, nat_tests)

pub readout_odd : (n : ℕ) (key : Key) → 3 ≤ n → n % 2 ≡ 1 → readout_has n key ≡ is_readout key
unfolding readout_has
readout_odd n key le odd = grind (arith, nat_tests)

pub readout_even : (n : ℕ) (key : Key) → 3 ≤ n → n % 2 ≡ 0 → readout_has n key ≡ is_hold key
unfolding readout_has
readout_even n key le even = grind (arith, nat_tests)

readout_is_no_hold : (key : Key) → is_readout key ≡ true → is_hold key ≡ false
readout_is_no_hold (Digit digit) is = refl
readout_is_no_hold Plus is = refl
readout_is_no_hold Minus is = refl
readout_is_no_hold Clr is = refl
readout_is_no_hold Entr is = refl
readout_is_no_hold ReadOut is = refl
readout_is_no_hold Hold is = absurd cc

both_true : (a b : Bool) → (a && b) ≡ true → a ≡ true
both_true true b is = refl
both_true false b is = is

parity : (n : ℕ) → (n % 2 ≡ 0 → (n + 1) % 2 ≡ 1) × (n % 2 ≡ 1 → (n + 1) % 2 ≡ 0)
parity n = (λ even. omega arith, λ odd. omega arith)

-- in a readout HOLD is in force after an odd number of keys
held_at : (position : ℕ) (key : Key) → 3 ≤ position → readout_has position key ≡ true → (is_hold key ≡ true → (position + 1) % 2 ≡ 1) × (is_hold key ≡ false → (position + 1) % 2 ≡ 0)
held_at position key le has =
    elim (cases_eq (position % 2) 1) [
      | inl odd ↦
          let not_hold : is_hold key ≡ false = readout_is_no_hold key (sym (readout_odd position key le odd) ∙ has) in
          (λ hold. absurd cc, λ other. (parity position).1 odd)
      | inr other ↦
          let even : position % 2 ≡ 0 = omega arith in
          let hold : is_hold key ≡ true = sym (readout_even position key le even) ∙ has in
          (λ is. (parity position).0 even, λ not_hold. absurd cc)
    ]

pub readout_held : (keys : List Key) (key : Key) → fits readout_has keys ≡ true → 4 ≤ length keys → is_held keys ≡ true → readout_has (length keys) key ≡ is_readout key
readout_held [] key is le held = absurd (omega arith)
readout_held (last ∷ earlier) key is le held =
    let has : readout_has (length earlier) last ≡ true = both_true (readout_has (length earlier) last) (fits readout_has earlier) (sym (fits_cons readout_has last earlier) ∙ is) in
    let odd : (length earlier + 1) % 2 ≡ 1 = (held_at (length earlier) last (omega arith) has).0 held in
    readout_odd (length (last ∷ earlier)) key (omega arith) (omega arith)

pub readout_unheld : (keys : List Key) (key : Key) → fits readout_has keys ≡ true → 4 ≤ length keys → is_held keys ≡ false → readout_has (length keys) key ≡ is_hold key
readout_unheld [] key is le held = absurd (omega arith)
readout_unheld (last ∷ earlier) key is le held =
    let has : readout_has (length earlier) last ≡ true = both_true (readout_has (length earlier) last) (fits readout_has earlier) (sym (fits_cons readout_has last earlier) ∙ is) in
    let even : (length earlier + 1) % 2 ≡ 0 = (held_at (length earlier) last (omega arith) has).1 held in
    readout_even (length (last ∷ earlier)) key (omega arith) (omega arith)

-- an entry has ten keys at most
entry_short : (keys : List Key) → fits entry_has keys ≡ true → length keys ≤ 10
entry_short [] is = omega arith
entry_short (key ∷ earlier) is =
    elim (cases_lt (length earlier) 10) [
      | inl lt ↦ omega arith
      | inr far ↦
          let has : entry_has (length earlier) key ≡ true = both_true (entry_has (length earlier) key) (fits entry_has earlier) (sym (fits_cons entry_has key earlier) ∙ is) in
          let none : entry_has (length earlier) key ≡ false = entry_far (length earlier) key far in
          absurd cc
    ]

pub entered_count : (count : ℕ) (keys : List Key) → count ≡ min (length keys) 10 → fits entry_has keys ≡ true → (count == 10) ≡ (length keys == 10)
entered_count count keys is entry =
    let same : count ≡ length keys = omega (arith, entry_short keys entry) in
    ap (λ (n : ℕ). n == 10) same

-- ---- lawful keys

either_false : (a b : Bool) → (a || b) ≡ false → (a ≡ false) × (b ≡ false)
either_false false false is = (refl, refl)
either_false false true is = absurd cc
either_false true b is = absurd cc

and_false : (a b : Bool) → b ≡ false → (a && b) ≡ false
and_false true b is = is
and_false false b is = refl

or_false : (a b : Bool) → a ≡ false → b ≡ false → (a || b) ≡ false
or_false false b first second = second
or_false true b first second = absurd cc

-- what is unlawful stays so
pub unlawful_more : (key : Key) (earlier : List Key) → are_lawful earlier ≡ false → are_lawful (key ∷ earlier) ≡ false
unlawful_more key earlier wrong =
    let both = either_false (fits entry_has earlier) (fits readout_has earlier) wrong in
    or_false (fits entry_has (key ∷ earlier)) (fits readout_has (key ∷ earlier))
    (fits_cons entry_has key earlier ∙ and_false (entry_has (length earlier) key) (fits entry_has earlier) both.0)
    (fits_cons readout_has key earlier ∙ and_false (readout_has (length earlier) key) (fits readout_has earlier) both.1)

pub taken_wrong : (key : Key) (earlier : List Key) → are_lawful (key ∷ earlier) ≡ false → taken (key ∷ earlier) ≡ taken earlier
unfolding taken
taken_wrong key earlier wrong = rw wrong refl

pub taken_lawful : (keys : List Key) → are_lawful keys ≡ true → taken keys ≡ keys
unfolding taken
taken_lawful [] lawful = refl
taken_lawful (key ∷ earlier) lawful = rw lawful refl

-- with a wrong key there is no message, and no readout
pub unlawful_message : (keys : List Key) → are_lawful keys ≡ false → (is_whole keys ≡ false) × (in_readout keys ≡ false)
unlawful_message keys wrong =
    let both = either_false (fits entry_has keys) (fits readout_has keys) wrong in
    (rw (both.0, both.1) refl, rw both.1 refl)

pub lawful_one : (a b : Bool) → a ≡ true → (a || b) ≡ true
lawful_one true b is = refl
lawful_one false b is = absurd cc

pub lawful_other : (a b : Bool) → b ≡ true → (a || b) ≡ true
lawful_other true b is = refl
lawful_other false b is = is

pub readout_is_lawful : (keys : List Key) → in_readout keys ≡ true → are_lawful keys ≡ true
readout_is_lawful keys inside = lawful_other (fits entry_has keys) (fits readout_has keys) (both_true (fits readout_has keys) (nat_lt 3 (length keys)) inside)
