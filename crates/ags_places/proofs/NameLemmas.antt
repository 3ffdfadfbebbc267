-- The names of the pairs that fit the cards. The crates above cite `names_fit` and `each_symbol_once`, behind the law
-- `each_symbol_has_a_pair`.
use Rattle.std.proofs.Common.{◌≡◌, ◌≢◌, ℕ, ◌+◌, List, [], ◌∷◌, ◌++◌, length, get_or, Option, Some, None, option_map, refl, sym, ap, ◌∙◌, append_assoc, All, arith}
use Rattle.std.specs.List.{filter_map}
use Rattle.std.proofs.lemmas.List.{append-nil, map-append}
use Rattle.std.proofs.lemmas.List.Elements.{All-map, All-contains_itself}
use Rattle.std.proofs.lemmas.List.Quantifiers.{all_pairs_push}
use Rattle.ags_text.specs.Fault.{first_fault}
use Rattle.ags_card.specs.declared.cards.Card.{Card}
use Rattle.ags_symbol.specs.Symbol.{Entry, EachNameOnce, names, found}
use Rattle.ags_symbol.proofs.FoundLemmas.{found_none}
use Rattle.ags_places.specs.declared.source_error.PlaceFault.TheVariants.{SymbolTwice}
use Rattle.ags_places.specs.Deck.{cards}
use Rattle.ags_places.specs.Place.{Fits, early, place, symbol_value, pair_of, pairs_after}
use Rattle.ags_places.specs.Fault.{twice, body_fault, early_fault}
use Rattle.ags_places.proofs.FirstLemmas.{both_none, early_faultless, none_later}
use Rattle.ags_places.proofs.RunningLemmas.{known, next_pairs, known_fault, fits_only, faults-known}

-- ---- one pair for each symbol

names-step : (symbol : Option (List ℕ)) (value : _) (number : ℕ) (rest : List Entry) (card : Card) (cards : List Card) → card.symbol ≡ symbol → names rest ≡ filter_map (λ (c : Card). c.symbol) cards
    → names (pair_of symbol value number ++ rest) ≡ filter_map (λ (c : Card). c.symbol) (card ∷ cards)
names-step None value number rest card cards is behind = rw is behind
names-step (Some name) value number rest card cards is behind = rw is (ap (λ (others : List (List ℕ)). name ∷ others) behind)

names-after : (S : List Entry) (before cards : List Card) → names (pairs_after S before cards) ≡ filter_map (λ card. card.symbol) cards
unfolding pairs_after
names-after S before [] = refl
names-after S before (card ∷ cards) =
    names-step card.symbol (symbol_value (early S (length before)) (place S before) card.body) (length before + 1) (pairs_after S (card ∷ before) cards) card cards refl (names-after S (card ∷ before) cards)

pub names_fit : (S : List Entry) (cards : List Card) → Fits S cards → names S ≡ filter_map (λ card. card.symbol) cards
names_fit S cards fits = ap names fits ∙ names-after S [] cards

-- ---- each symbol once

-- one more pair, of a symbol that has none
once_more : (pairs : List Entry) (entry : Entry) → EachNameOnce pairs → found entry.name pairs ≡ None → EachNameOnce (pairs ++ entry ∷ [])
once_more pairs entry once none =
    let others : All (λ e. e.name ≢ entry.name) pairs = λ k d within. found_none entry.name pairs (get_or pairs k d) none (All-contains_itself pairs k d within) in
    let apart : All (λ name. name ≢ entry.name) (names pairs) = All-map (λ name. name ≢ entry.name) (λ (e : Entry). e.name) pairs others in
    rw (map-append (λ (e : Entry). e.name) pairs (entry ∷ [])) (all_pairs_push (λ one other. one ≢ other) (names pairs) entry.name once apart)

once-step : (pairs : List Entry) (symbol : Option (List ℕ)) (value : _) (number : ℕ) → EachNameOnce pairs → twice pairs symbol ≡ None → EachNameOnce (pairs ++ pair_of symbol value number)
once-step pairs None value number once none = rw (append-nil pairs) once
once-step pairs (Some name) value number once none = once_more pairs (record { name = name; value = value; card = number }) once (not_twice (found name pairs) none)
  where
    not_twice : (earlier : Option Entry) → option_map (λ (entry : Entry). SymbolTwice entry.card) earlier ≡ None → earlier ≡ None
    not_twice None none = refl
    not_twice (Some entry) none = absurd cc

once_along : (before cards : List Card) → EachNameOnce (known before).pairs → first_fault known_fault before cards ≡ None → EachNameOnce ((known before).pairs ++ next_pairs before cards)
unfolding known next_pairs first_fault
once_along before [] once none = rw (append-nil (known before).pairs) once
once_along before (card ∷ cards) once none =
    let parts = none_later (length before + 1) (known_fault before card) (first_fault known_fault (card ∷ before) cards) none in
    let single = (both_none (twice (known before).pairs card.symbol) (body_fault (known before).pairs (known before).place card.body) parts.0).0 in
    let more : EachNameOnce (known (card ∷ before)).pairs = once-step (known before).pairs card.symbol (symbol_value (known before).pairs (known before).place card.body) (length before + 1) once single in
    rw (← append_assoc) (once_along (card ∷ before) cards more parts.1)

once-start : EachNameOnce (known []).pairs
unfolding known
once-start = λ i j d first within. absurd (omega (arith, first, within))

pub each_symbol_once : (text : List ℕ) (S : List Entry) → Fits S (cards text) → early_fault S text ≡ None → EachNameOnce S
unfolding known
each_symbol_once text S fits none =
    let along = once_along [] (cards text) once-start (sym (faults-known S (cards text) fits) ∙ (early_faultless text S none).1) in
    rw (fits_only S (cards text) fits) along
