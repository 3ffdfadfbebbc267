-- The first fault of the phase of words is the least of all.
use Rattle.std.proofs.Common.{◌&&◌, ◌≡◌, ℕ, zero, suc, ◌+◌, ◌<◌, ◌≤◌, Bool, true, false, cond, List, [], ◌∷◌, reverse, Option, Some, None, option_map, refl, sym, ap, subst, ◌∙◌, ◌⊎◌, inl, inr, arith}
use Rattle.std.specs.Prelude.{is_some, ℤ, pos}
use Rattle.std.proofs.lemmas.Bool.{cases_eq, cases_lt}
use Rattle.std.specs.List.{Contains, filter_map, cons_option}
use Rattle.std.specs.Option.{option_or}
use Rattle.ags_word.specs.Word.{fits}
use Rattle.ags_word.proofs.WordLaws.{word_of_value-fits, word_of_value-not}
use Rattle.ags_decimal.specs.Decimal.{Parts, decimal_word, nearest_value}
use Rattle.ags_card.specs.declared.cards.Body.{Body}
use Rattle.ags_card.specs.declared.cards.Body.TheVariants.{Comment, Order, Org, Equ, Bss, Bes, Dec, Oct, End}
use Rattle.ags_card.specs.declared.cards.Card.{Card}
use Rattle.ags_card.specs.declared.terms.Term.{Term}
use Rattle.ags_symbol.specs.Symbol.{Entry, NamesUnknown, names, sum_of}
use Rattle.ags_symbol.proofs.FoundLemmas.{Contains-cons, Contains-first, Contains-later}
use Rattle.ags_symbol.proofs.SumLemmas.{sum_none, unknown_none}
use Rattle.ags_places.specs.declared.source_error.WordFault.{WordFault}
use Rattle.ags_places.specs.declared.source_error.WordFault.TheVariants.{Undefined, AddressRange, ValueRange, PlaceTwice}
use Rattle.ags_places.specs.Deck.{cards}
use Rattle.ags_places.specs.Fault.{is_place}
use Rattle.ags_places.specs.Faulty.{HoldsAt, word_fault_number}
use Rattle.ags_places.specs.Place.{Fits, count, place}
use Rattle.ags_places.proofs.FirstLemmas.{NoLater, Tells, first_holds, first_least, first_none}
use Rattle.ags_places.proofs.NameLemmas.{names_fit}
use Rattle.ags_places.proofs.RangeLemmas.{outside, outside_fails}
use Rattle.ags_places.proofs.RunningLemmas.{fits_one}
use Rattle.ags_asm.specs.Faulty.{HasWordAt, HasWordFault, IsMismadeBy, NamesNoCard, StandsBefore}
use Rattle.ags_asm.specs.Word.{all_fit, address_fault, first_word_fault, owner, taken, taken_from, word_fault, word_fault_at}
use Rattle.ags_asm.proofs.OwnerLemmas.{owner_stands, owner_none, unowned_here}

-- ---- the symbols that cards define

-- a name is that of a pair
name_pair : (S : List Entry) (name : List ℕ) → Contains (names S) name → (entry : Entry) × Contains S entry × (entry.name ≡ name)
name_pair [] name among = absurd (omega (arith, among.1))
name_pair (first ∷ S) name among = elim (Contains-cons first.name name (names S) among) [
  | inl this ↦ (first, Contains-first first S, this)
  | inr later ↦ let (entry, there, named) = name_pair S name later in (entry, Contains-later first entry S there, named)
]

pair_name : (S : List Entry) (entry : Entry) → Contains S entry → Contains (names S) entry.name
pair_name [] entry among = absurd (omega (arith, among.1))
pair_name (first ∷ S) entry among = elim (Contains-cons first entry S among) [
  | inl this ↦ subst (λ (one : Entry). Contains (names (first ∷ S)) one.name) this (Contains-first first.name (names S))
  | inr later ↦ Contains-later first.name entry.name (names S) (pair_name S entry later)
]

-- a symbol of the cards is that of one
symbols : List Card → List (List ℕ)
symbols cards = filter_map (λ card. card.symbol) cards

first_symbol : (symbol : Option (List ℕ)) (name : List ℕ) (rest : List (List ℕ)) → Contains (cons_option symbol rest) name → (symbol ≡ Some name) ⊎ Contains rest name
first_symbol None name rest among = inr among
first_symbol (Some one) name rest among = elim (Contains-cons one name rest among) [
  | inl this ↦ inl (ap Some this)
  | inr later ↦ inr later
]

symbol_card : (all : List Card) (name : List ℕ) → Contains (symbols all) name → (card : Card) × Contains all card × (card.symbol ≡ Some name)
unfolding symbols
symbol_card [] name among = absurd (omega (arith, among.1))
symbol_card (first ∷ all) name among = elim (first_symbol first.symbol name (filter_map (λ card. card.symbol) all) among) [
  | inl this ↦ (first, Contains-first first all, this)
  | inr later ↦ let (card, there, named) = symbol_card all name later in (card, Contains-later first card all there, named)
]

this_symbol : (symbol : Option (List ℕ)) (name : List ℕ) (rest : List (List ℕ)) → symbol ≡ Some name → Contains (cons_option symbol rest) name
this_symbol None name rest is = absurd cc
this_symbol (Some one) name rest is = let same : one ≡ name = cc in subst (λ (n : List ℕ). Contains (one ∷ rest) n) same (Contains-first one rest)

later_symbol : (symbol : Option (List ℕ)) (name : List ℕ) (rest : List (List ℕ)) → Contains rest name → Contains (cons_option symbol rest) name
later_symbol None name rest among = among
later_symbol (Some one) name rest among = Contains-later one name rest among

card_symbol : (all : List Card) (card : Card) (name : List ℕ) → Contains all card → card.symbol ≡ Some name → Contains (symbols all) name
unfolding symbols
card_symbol [] card name among is = absurd (omega (arith, among.1))
card_symbol (first ∷ all) card name among is = elim (Contains-cons first card all among) [
  | inl this ↦ this_symbol first.symbol name (filter_map (λ card. card.symbol) all) (ap (λ (c : Card). c.symbol) this ∙ is)
  | inr later ↦ later_symbol first.symbol name (filter_map (λ card. card.symbol) all) (card_symbol all card name later is)
]

-- ---- decimals that don't fit

-- one that has no word
no_word : (number : Parts) → is_some (decimal_word number) ≡ false → fits (nearest_value number) ≡ false
no_word number none = by_fit (fits (nearest_value number)) refl
  where
    by_fit : (fit : Bool) → fits (nearest_value number) ≡ fit → fits (nearest_value number) ≡ false
    by_fit false is = is
    by_fit true is =
        let some : true ≡ false = rw (word_of_value-fits (nearest_value number) is) at none in
        absurd cc

-- some one of these
Misfit : List Parts → Type 0
Misfit numbers = (number : Parts) × Contains numbers number × (fits (nearest_value number) ≡ false)

misfit_first : (first : Parts) (numbers : List Parts) (here : Bool) → is_some (decimal_word first) ≡ here → here && all_fit numbers ≡ false → (all_fit numbers ≡ false → Misfit numbers) → Misfit (first ∷ numbers)
unfolding Misfit
misfit_first first numbers false here is later = (first, Contains-first first numbers, no_word first here)
misfit_first first numbers true here is later = let (number, among, out) = later is in (number, Contains-later first number numbers among, out)

some_misfit : (numbers : List Parts) → all_fit numbers ≡ false → Misfit numbers
some_misfit [] fit = absurd cc
some_misfit (first ∷ numbers) fit = misfit_first first numbers (is_some (decimal_word first)) refl fit (some_misfit numbers)

misfit_tells : (numbers : List Parts) (number : Parts) → Contains numbers number → fits (nearest_value number) ≡ false → all_fit numbers ≡ false
misfit_tells [] number among out = absurd (omega (arith, among.1))
misfit_tells (first ∷ numbers) number among out = elim (Contains-cons first number numbers among) [
  | inl this ↦
      let none : is_some (decimal_word first) ≡ false = ap (λ (n : Parts). is_some (decimal_word n)) this ∙ ap is_some (word_of_value-not (nearest_value number) out) in
      rw none refl
  | inr later ↦ by_first (is_some (decimal_word first)) (misfit_tells numbers number later out)
]
  where
    by_first : (here : Bool) → all_fit numbers ≡ false → here && all_fit numbers ≡ false
    by_first true rest = rest
    by_first false rest = refl

-- ---- places that are taken

-- one of so many places from one on is owned, and that is the fault
record Owned (owned : ℕ → Option ℕ) (at many : ℕ) (fault : WordFault) : Type 0 where
  there : ℕ
  first : ℕ
  from : at ≤ there
  below : there < at + many
  owned_by : owned there ≡ Some first
  fault_is : PlaceTwice first ≡ fault
  none : (q : ℕ) → at ≤ q → q < there → owned q ≡ None

owned_step : (owned : ℕ → Option ℕ) (at many : ℕ) (fault : WordFault) (here : Option ℕ) → owned at ≡ here → (taken_from owned (at + 1) many ≡ Some fault → Owned owned (at + 1) many fault)
    → option_or (option_map PlaceTwice here) (taken_from owned (at + 1) many) ≡ Some fault → Owned owned at (suc many) fault
owned_step owned at many fault None is later told =
    let so = later told in
    record {
      there = so.there;
      first = so.first;
      from = omega (arith, so.from);
      below = omega (arith, so.below);
      owned_by = so.owned_by;
      fault_is = so.fault_is;
      none = λ q from before. elim (cases_eq q at) [
        | inl this ↦ ap owned this ∙ is
        | inr other ↦ so.none q (omega (arith, from, other)) before
      ];
    }
owned_step owned at many fault (Some first) is later told =
    let same : PlaceTwice first ≡ fault = cc in
    record { there = at; first = first; from = omega arith; below = omega arith; owned_by = is; fault_is = same; none = λ q from before. absurd (omega (arith, from, before)) }

owned_somewhere : (owned : ℕ → Option ℕ) (at many : ℕ) (fault : WordFault) → taken_from owned at many ≡ Some fault → Owned owned at many fault
owned_somewhere owned at zero fault told = absurd cc
owned_somewhere owned at (suc many) fault told = owned_step owned at many fault (owned at) refl (owned_somewhere owned (at + 1) many fault) told

module _ (S : List Entry) (all : List Card) (fitting : Fits S all) where
  names_are : names S ≡ symbols all
  unfolding symbols
  names_are = names_fit S all fitting

  unknown_no_card : (terms : List Term) → NamesUnknown S terms → NamesNoCard all terms
  unknown_no_card terms (term, name, among, is, missing) = (term, name, among, is, λ card there named. apart card there named)
    where
      apart : (card : Card) → Contains all card → card.symbol ≡ Some name → ⊥
      apart card there named =
          let (entry, held, same) = name_pair S name (subst (λ (ns : List (List ℕ)). Contains ns name) (sym names_are) (card_symbol all card name there named)) in
          missing entry held same

  no_card_unknown : (terms : List Term) → NamesNoCard all terms → NamesUnknown S terms
  no_card_unknown terms (term, name, among, is, missing) = (term, name, among, is, λ entry there named. apart entry there named)
    where
      apart : (entry : Entry) → Contains S entry → entry.name ≡ name → ⊥
      apart entry there named =
          let (card, held, symbol) = symbol_card all entry.name (subst (λ (ns : List (List ℕ)). Contains ns entry.name) names_are (pair_name S entry there)) in
          missing card held (symbol ∙ ap Some named)

  module _ (before : List Card) (card : Card) where
    -- ---- what is told is so

    address_sound : (terms : List Term) (order : _) (indexed : Bool) (fault : WordFault) (sum : Option ℤ) → card.body ≡ Order order terms indexed → sum_of S (place S before) terms ≡ sum
        → address_fault sum ≡ Some fault → IsMismadeBy S all fault before card
    address_sound terms order indexed fault None body sum is =
        let same : Undefined ≡ fault = cc in
        rw (sym same) (terms, (order, indexed, body), unknown_no_card terms (sum_none S (place S before) terms sum))
    address_sound terms order indexed fault (Some value) body sum is = by_test (is_place value) refl is
      where
        by_test : (within : Bool) → is_place value ≡ within → ◌≡◌ {A = Option WordFault} (cond within None (Some (AddressRange value))) (Some fault) → IsMismadeBy S all fault before card
        by_test true test told = absurd cc
        by_test false test told =
            let same : AddressRange value ≡ fault = cc in
            rw (sym same) (terms, (order, indexed, body), sum, outside (pos 0) value value (pos 4095) test)

    decimals_sound : (numbers : List Parts) (fault : WordFault) (within : Bool) → card.body ≡ Dec numbers → all_fit numbers ≡ within
        → ◌≡◌ {A = Option WordFault} (cond within None (Some ValueRange)) (Some fault) → IsMismadeBy S all fault before card
    unfolding Misfit
    decimals_sound numbers fault true body fit is = absurd cc
    decimals_sound numbers fault false body fit is =
        let same : ValueRange ≡ fault = cc in
        let (number, among, out) = some_misfit numbers fit in
        rw (sym same) (numbers, number, body, among, out)

    word_sound : (body : Body) (fault : WordFault) → card.body ≡ body → word_fault_at S (place S before) body ≡ Some fault → IsMismadeBy S all fault before card
    word_sound Comment fault body is = absurd cc
    word_sound (Order order terms indexed) fault body is = address_sound terms order indexed fault (sum_of S (place S before) terms) body refl is
    word_sound (Org terms) fault body is = absurd cc
    word_sound (Equ terms) fault body is = absurd cc
    word_sound (Bss terms) fault body is = absurd cc
    word_sound (Bes terms) fault body is = absurd cc
    word_sound (Dec numbers) fault body is = decimals_sound numbers fault (all_fit numbers) body refl is
    word_sound (Oct words) fault body is = absurd cc
    word_sound End fault body is = absurd cc

    taken_sound : (fault : WordFault) → taken S before card ≡ Some fault → IsMismadeBy S all fault before card
    taken_sound fault is =
        let so = owned_somewhere (λ q. owner S q before) (place S before) (count card.body) fault is in
        rw (sym so.fault_is) (
          so.there,
          (so.from, so.below),
          owner_stands S so.there before so.first so.owned_by,
          λ other number here stands. least so.there other number so.none here stands,
        )
      where
        least : (there other number : ℕ) → ((q : ℕ) → place S before ≤ q → q < there → owner S q before ≡ None) → HasWordAt S before card other → StandsBefore S before number other → there ≤ other
        least there other number none here stands = elim (cases_lt other there) [
          | inl earlier ↦ absurd (owner_none S other before (none other here.0 earlier) number stands)
          | inr from ↦ from
        ]

    by_word : (wrong : Option WordFault) (fault : WordFault) → word_fault_at S (place S before) card.body ≡ wrong
        → option_or wrong (taken S before card) ≡ Some fault → IsMismadeBy S all fault before card
    by_word None fault wrong is = taken_sound fault is
    by_word (Some one) fault wrong is =
        let same : one ≡ fault = cc in
        word_sound card.body fault refl (wrong ∙ ap Some same)

    mismade_sound : (fault : WordFault) → word_fault S before card ≡ Some fault → IsMismadeBy S all fault before card
    mismade_sound fault is = by_word (word_fault_at S (place S before) card.body) fault refl is

    -- ---- what is so is told, or what has no greater number

    Told : ℕ → Type 0
    Told most = (g : WordFault) × (word_fault S before card ≡ Some g) × (word_fault_number g ≤ most)

    told_word : (fault : WordFault) → word_fault_at S (place S before) card.body ≡ Some fault → Told (word_fault_number fault)
    unfolding Told
    told_word fault is = (fault, ap (λ (one : Option WordFault). option_or one (taken S before card)) is, omega arith)

    at_most : (fault : WordFault) → word_fault_number fault ≤ 16
    at_most Undefined = omega arith
    at_most (AddressRange value) = omega arith
    at_most ValueRange = omega arith
    at_most (PlaceTwice first) = omega arith

    taken_tells : (at first : ℕ) → HasWordAt S before card at → StandsBefore S before first at → Told 16
    unfolding Told
    taken_tells at first here stands = by_fault (word_fault_at S (place S before) card.body) (taken S before card) refl refl
      where
        by_fault : (wrong found : Option WordFault) → word_fault_at S (place S before) card.body ≡ wrong → taken S before card ≡ found → Told 16
        by_fault (Some one) found wrong told = (one, ap (λ (one : Option WordFault). option_or one (taken S before card)) wrong, at_most one)
        by_fault None (Some one) wrong told = (one, ap (λ (one : Option WordFault). option_or one (taken S before card)) wrong ∙ told, at_most one)
        by_fault None None wrong told = absurd (owner_none S at before (unowned_here S before card at told here) first stands)

    mismade_least : (fault : WordFault) → IsMismadeBy S all fault before card → (g : WordFault) × (word_fault S before card ≡ Some g) × (word_fault_number g ≤ word_fault_number fault)
    unfolding Told
    mismade_least Undefined (terms, (order, indexed, body), unknown) =
        told_word Undefined (ap (word_fault_at S (place S before)) body ∙ ap address_fault (unknown_none S (place S before) terms (no_card_unknown terms unknown)))
    mismade_least (AddressRange value) (terms, (order, indexed, body), sum, out) =
        told_word (AddressRange value)
        (ap (word_fault_at S (place S before)) body ∙ ap address_fault sum
        ∙ ap (λ (within : Bool). cond within None (Some (AddressRange value))) (outside_fails (pos 0) value value (pos 4095) out))
    mismade_least ValueRange (numbers, number, body, among, out) =
        told_word ValueRange
        (ap (word_fault_at S (place S before)) body ∙ ap (λ (fit : Bool). cond fit None (Some ValueRange)) (misfit_tells numbers number among out))
    mismade_least (PlaceTwice first) (at, here, stands, least) = taken_tells at first here stands

-- ---- the first fault

module _ (S : List Entry) (text : List ℕ) (fits : Fits S (cards text)) where
  words_tell : Tells (word_fault S) (IsMismadeBy S (cards text)) word_fault_number (cards text)
  words_tell = record {
    sound = λ front card behind fault whole told. mismade_sound S (cards text) fits (reverse front) card fault told;
    least = λ front card behind fault whole so. mismade_least S (cards text) fits (reverse front) card fault so;
  }

  held_by : (number : ℕ) (fault : WordFault) → HasWordFault text number fault → HoldsAt (IsMismadeBy S (cards text) fault) (cards text) number
  held_by number fault (T, too, held) =
      let same : T ≡ S = fits_one T S (cards text) too fits in
      subst (λ (U : List Entry). HoldsAt (IsMismadeBy U (cards text) fault) (cards text) number) same held

  pub word_fault_holds : (number : ℕ) (fault : WordFault) → first_word_fault S text ≡ Some (number, fault) → HasWordFault text number fault
  word_fault_holds number fault is = (S, fits, first_holds (word_fault S) (IsMismadeBy S (cards text)) word_fault_number (cards text) words_tell number fault is)

  pub word_fault_least : (number : ℕ) (fault : WordFault) → first_word_fault S text ≡ Some (number, fault) → (other : ℕ) (too : WordFault) → HasWordFault text other too
      → NoLater number (word_fault_number fault) other (word_fault_number too)
  word_fault_least number fault is other too held =
      first_least (word_fault S) (IsMismadeBy S (cards text)) word_fault_number (cards text) words_tell number fault is other too (held_by other too held)

  pub word_faultless : first_word_fault S text ≡ None → (number : ℕ) (fault : WordFault) → HasWordFault text number fault → ⊥
  word_faultless none number fault held = first_none (word_fault S) (IsMismadeBy S (cards text)) word_fault_number (cards text) words_tell none number fault (held_by number fault held)
