-- The owners of places, one card further, and how many words and fix-ups a card makes.
use Rattle.std.proofs.Common.{◌≡◌, ◌≢◌, ℕ, zero, suc, ◌+◌, ◌<◌, ◌≤◌, Bool, true, false, cond, List, [], ◌∷◌, length, get_or, set, Option, Some, None, unwrap_or, refl, ap, ◌∙◌, arith, inl, inr}
use Rattle.std.specs.Prelude.{◌==◌, ◌&&◌, nat_le}
use Rattle.std.proofs.lemmas.Bool.{cases_eq, cases_lt, ne_eqb, le-leb, lt-ltb, lt-leb, le-ltb}
use Rattle.std.proofs.lemmas.List.{length-append, length-set, get_or-set_same, get_or-set_other, length-map}
use Rattle.ags_card.specs.declared.cards.Body.{Body}
use Rattle.ags_card.specs.declared.cards.Body.TheVariants.{Comment, Order, Org, Equ, Bss, Bes, Dec, Oct, End}
use Rattle.std.specs.List.{count_by}
use Rattle.std.proofs.lemmas.List.Sums.{sum_by-set}
use Rattle.ags_card.specs.declared.cards.Card.{Card}
use Rattle.ags_symbol.specs.Symbol.{Entry}
use Rattle.ags_places.specs.declared.source_error.WordFault.TheVariants.{PlaceTwice}
use Rattle.ags_places.specs.Place.{place}
use Rattle.ags_places.specs.Place.{count}
use Rattle.ags_asm.specs.Word.{words_at, placed_from, is_among, owner, taken_from, taken}
use Rattle.ags_asm.specs.Waiting.{Waiting, closed_word, closed_words, IsMade}
use Rattle.ags_asm.specs.HalfMade.{AreOwners, StandsNext, owner_numbered, owners_of, owned_from, is_number}
use Rattle.ags_asm.proofs.ApartLemmas.{words_counted}

-- ---- one place more

pub length-owned_from : (owners : List ℕ) (at many number : ℕ) → length (owned_from owners at many number) ≡ length owners
length-owned_from owners at zero number = refl
length-owned_from owners at (suc many) number = length-owned_from (set owners at number) (at + 1) many number ∙ length-set owners at number

-- ---- owners

owner_test : (S : List Entry) (at n : ℕ) (before : List Card) (here : Bool) → (owner S at before ≡ Some n → 0 < n) → cond here (Some (length before + 1)) (owner S at before) ≡ Some n → 0 < n
owner_test S at n before true later is = let same : length before + 1 ≡ n = cc in omega arith
owner_test S at n before false later is = later is

owner-some : (S : List Entry) (at n : ℕ) (before : List Card) → owner S at before ≡ Some n → 0 < n
unfolding owner
owner-some S at n [] is = absurd cc
owner-some S at n (card ∷ before) is = owner_test S at n before (is_among at (place S before) (count card.body)) (owner-some S at n before) is

numbered_so : (owned : Option ℕ) → ((n : ℕ) → owned ≡ Some n → 0 < n) → owner_numbered (unwrap_or owned 0) ≡ owned
numbered_so None some = refl
numbered_so (Some n) some = let positive : 0 < n = some n refl in rw (ne_eqb n 0 (λ e. omega (arith, positive, e))) refl

taken_agree : (S : List Entry) (before : List Card) (owners : List ℕ) (at many : ℕ) → AreOwners S before owners → at + many ≤ 4096 → taken_from (owners_of owners) at many ≡ taken_from (λ q. owner S q before) at many
taken_agree S before owners at zero owned small = refl
taken_agree S before owners at (suc many) owned small =
    let here : owners_of owners at ≡ owner S at before = ap owner_numbered (owned at (omega arith)) ∙ numbered_so (owner S at before) (λ n. owner-some S at n before) in
    rw (here, taken_agree S before owners (at + 1) many owned (omega arith)) refl

pub taken_so : (S : List Entry) (before : List Card) (card : Card) (owners : List ℕ) (number at many : ℕ) → StandsNext S before number at → many ≡ count card.body → AreOwners S before owners → at + many ≤ 4096
    → taken_from (owners_of owners) at many ≡ taken S before card
taken_so S before card owners number at many next few owned small =
    taken_agree S before owners at many owned small
    ∙ ap (λ (a : ℕ). taken_from (λ q. owner S q before) a many) next.at_is
    ∙ ap (λ (m : ℕ). taken_from (λ q. owner S q before) (place S before) m) few

-- who owns a place once so many from one on are given to a card
get-owned_from : (owners : List ℕ) (at many number q : ℕ) → at + many ≤ length owners → get_or (owned_from owners at many number) q 0 ≡ cond (is_among q at many) number (get_or owners q 0)
get-owned_from owners at zero number q small = elim (cases_lt q at) [
  | inr from ↦ rw (le-ltb q (at + 0) (omega (arith, from)), by_false (nat_le at q)) refl
  | inl past ↦ rw (lt-leb at q past) refl
]
  where
    by_false : (b : Bool) → (b && false) ≡ false
    by_false true = refl
    by_false false = refl
get-owned_from owners at (suc many) number q small =
    let longer = length-set owners at number in
    get-owned_from (set owners at number) (at + 1) many number q (omega arith) ∙ elim (cases_eq q at) [
      | inl same ↦
          let inside : at < length owners = omega arith in
          rw (same, lt-leb (at + 1) at (omega arith), le-leb at at (omega arith), lt-ltb at (at + suc many) (omega arith), get_or-set_same) refl
      | inr other ↦ rw get_or-set_other (ap (λ (b : Bool). cond b number (get_or owners q 0)) (among_more q at many other))
    ]
  where
    among_more : (q at many : ℕ) → q ≢ at → is_among q (at + 1) many ≡ is_among q at (suc many)
    among_more q at many other =
        let same : at + 1 + many ≡ at + suc many = omega arith in
        rw same (elim (cases_lt q at) [
          | inr from ↦ rw (le-leb at q from, le-leb (at + 1) q (omega (arith, from, other))) refl
          | inl past ↦ rw (lt-leb at q past, lt-leb (at + 1) q (omega (arith, past))) refl
        ])

owned_step : (b : Bool) (n : ℕ) (had : ℕ) (owned : Option ℕ) → had ≡ unwrap_or owned 0 → cond b n had ≡ unwrap_or (cond b (Some n) owned) 0
owned_step true n had owned is = refl
owned_step false n had owned is = is

pub owned_so : (S : List Entry) (before : List Card) (card : Card) (owners : List ℕ) (number at many : ℕ) → StandsNext S before number at → many ≡ count card.body → AreOwners S before owners → length owners ≡ 4096
    → at + many ≤ 4096 → AreOwners S (card ∷ before) (owned_from owners at many number)
unfolding owner
owned_so S before card owners number at many next few owned whole small = λ q within.
    get-owned_from owners at many number q (rw whole small)
    ∙ rw (next.number_is, next.at_is, few) (owned_step (is_among q (place S before) (count card.body)) (length before + 1) (get_or owners q 0) (owner S q before) (owned q within))

-- ---- how many words

pub length-placed_from : (at : ℕ) (words : List ℕ) → length (placed_from at words) ≡ length words
length-placed_from at [] = refl
length-placed_from at (word ∷ words) = ap suc (length-placed_from (at + 1) words)

pub made_count : (codes : List ℕ) (S : List Entry) (number at : ℕ) (body : Body) (words : List ℕ) (new : List Waiting) → IsMade codes S number at body None words new → length words + length new ≡ count body
made_count codes S number at body words new made =
    let whole = ap length (made.words_are refl) in
    omega (arith, whole, words_counted codes S at body, length-placed_from at words, length-placed_from at (words_at codes S at body), length-append (placed_from at words) (closed_words codes S new), length-map new (closed_word codes S))

-- ---- how many wait

count_set : (owners : List ℕ) (at number : ℕ) → at < length owners → 0 < number → get_or owners at 0 ≡ 0 → count_by is_number (set owners at number) ≡ count_by is_number owners + 1
count_set owners at number small some none =
    let value : ℕ → ℕ = λ n. cond (is_number n) 1 0 in
    let one : value number ≡ 1 = rw (ne_eqb number 0 (λ e. omega (arith, some, e))) refl in
    let nothing : value (get_or owners at 0) ≡ 0 = rw none refl in
    omega (arith, sum_by-set value owners at number 0 small, one, nothing)

count_grows : (owners : List ℕ) (at number : ℕ) → at < length owners → 0 < number → count_by is_number owners ≤ count_by is_number (set owners at number)
count_grows owners at number small some =
    let value : ℕ → ℕ = λ n. cond (is_number n) 1 0 in
    let one : value number ≡ 1 = rw (ne_eqb number 0 (λ e. omega (arith, some, e))) refl in
    omega (arith, sum_by-set value owners at number 0 small, one, at_most (is_number (get_or owners at 0)))
  where
    at_most : (b : Bool) → cond b 1 0 ≤ 1
    at_most true = omega arith
    at_most false = omega arith

pub count_owned : (owners : List ℕ) (at many number : ℕ) → at + many ≤ length owners → 0 < number → count_by is_number owners ≤ count_by is_number (owned_from owners at many number)
count_owned owners at zero number small some = omega arith
count_owned owners at (suc many) number small some =
    let longer = length-set owners at number in
    omega (arith, count_grows owners at number (omega arith) some, count_owned (set owners at number) (at + 1) many number (omega arith) some)

free_here : (owned : ℕ) → taken_from (λ q. owner_numbered owned) 0 1 ≡ None → owned ≡ 0
free_here zero none = refl
free_here (suc n) none = absurd (by (ne_eqb (suc n) 0 (λ e. omega (arith, e))))
  where
    by : (suc n == 0) ≡ false → ⊥
    by other = let same : Some (PlaceTwice (suc n)) ≡ None = rw other at none in cc

pub count_one : (owners : List ℕ) (at number : ℕ) → at < length owners → 0 < number → taken_from (owners_of owners) at 1 ≡ None → count_by is_number (owned_from owners at 1 number) ≡ count_by is_number owners + 1
count_one owners at number small some none = count_set owners at number small some (free_here (get_or owners at 0) none)

pub wordless : (codes : List ℕ) (S : List Entry) (number at : ℕ) (body : Body) → count body ≡ 0 → IsMade codes S number at body None [] []
wordless codes S number at Comment none = record { fault = refl; words_are = λ _. refl }
wordless codes S number at (Order order terms indexed) none = absurd (omega (arith, none))
wordless codes S number at (Org terms) none = record { fault = refl; words_are = λ _. refl }
wordless codes S number at (Equ terms) none = record { fault = refl; words_are = λ _. refl }
wordless codes S number at (Bss terms) none = record { fault = refl; words_are = λ _. refl }
wordless codes S number at (Bes terms) none = record { fault = refl; words_are = λ _. refl }
wordless codes S number at (Dec []) none = record { fault = refl; words_are = λ _. refl }
wordless codes S number at (Dec (first ∷ numbers)) none = absurd (omega (arith, none))
wordless codes S number at (Oct []) none = record { fault = refl; words_are = λ _. refl }
wordless codes S number at (Oct (word ∷ words)) none = absurd (omega (arith, none))
wordless codes S number at End none = record { fault = refl; words_are = λ _. refl }
