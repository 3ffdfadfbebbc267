-- The lines of a source's cards, and the places of their words. The crates above cite `lines_of_cards_follow`, behind the law
-- `card_lines_follow`, and `words_within` and `each_within`, after `words_stand_in_the_memory`; and, as tools for a loop over the lines,
-- `deck-nil`, `deck_left`, `ends_so` and `follow_deck`.
use Rattle.std.proofs.Common.{◌≡◌, ℕ, zero, suc, ◌+◌, ◌<◌, ◌≤◌, Bool, true, false, cond, List, [], ◌∷◌, length, Some, None, refl, subst, All, arith}
use Rattle.std.proofs.lemmas.List.Elements.{All-cons}
use Rattle.std.specs.Prelude.{Ok, nat_lt, IfSome}
use Rattle.std.proofs.lemmas.Bool.{leb-true, lt-ltb}
use Rattle.ags_text.specs.Fault.{first_fault}
use Rattle.ags_text.specs.Line.{LineAt, Follow, lines_of}
use Rattle.ags_text.proofs.FollowLemmas.{lines_follow}
use Rattle.ags_card.specs.declared.cards.Body.{Body}
use Rattle.ags_card.specs.declared.cards.Body.TheVariants.{Comment, Order, Org, Equ, Bss, Bes, Dec, Oct, End}
use Rattle.ags_card.specs.declared.cards.Card.{Card}
use Rattle.ags_card.specs.Reading.{reading}
use Rattle.ags_symbol.specs.Symbol.{Entry}
use Rattle.ags_places.specs.Deck.{is_end, ends, deck, card_lines, cards}
use Rattle.ags_places.specs.Fault.{twice, unless, holds_words, body_fault, place_fault, early_fault}
use Rattle.ags_places.proofs.FirstLemmas.{both_none, early_faultless, none_later}
use Rattle.ags_places.specs.Place.{Fits, count, early, place, place_of_word, places_after, places}

-- ---- the lines of a deck

pub deck-nil : deck [] ≡ []
unfolding deck
deck-nil = refl

pub deck-cons : (line : LineAt) (lines : List LineAt) → deck (line ∷ lines) ≡ line ∷ cond (ends (reading line.bytes)) [] (deck lines)
unfolding deck
deck-cons line lines = refl

-- a loop's line, as the first of the deck that is left
pub deck_left : (P : List LineAt → Type 0) (line : LineAt) (lines : List LineAt) → P (deck (line ∷ lines)) → P (line ∷ cond (ends (reading line.bytes)) [] (deck lines))
deck_left P line lines so = subst P (deck-cons line lines) so

-- a card ends the deck, or doesn't
pub ends_so : (line : LineAt) (card : Card) (b : Bool) → reading line.bytes ≡ Ok card → is_end card.body ≡ b → ends (reading line.bytes) ≡ b
ends_so line card b is last = rw is last

follow_rest : (text : List ℕ) (from : ℕ) (b : Bool) (lines : List LineAt) → Follow text from lines → Follow text from (cond b [] lines)
follow_rest text from true lines follow = tt
follow_rest text from false lines follow = follow

-- its lines follow each other
pub follow_deck : (text : List ℕ) (from : ℕ) (lines : List LineAt) → Follow text from lines → Follow text from (deck lines)
follow_deck text from [] follow = rw deck-nil follow
follow_deck text from (line ∷ lines) follow =
    rw (deck-cons line lines) (follow.0, follow.1, follow_rest text (line.start + length line.bytes + 1) (ends (reading line.bytes)) (deck lines) (follow_deck text (line.start + length line.bytes + 1) lines follow.2))

pub lines_of_cards_follow : (text : List ℕ) → Follow text 0 (card_lines text)
lines_of_cards_follow text = follow_deck text 0 (lines_of text) (lines_follow text)

-- ---- places of words

words_hold : (at many : ℕ) → unless (holds_words at many) ≡ None → at + many ≤ 4096
words_hold at many none = by (holds_words at many) refl none
  where
    by : (b : Bool) → holds_words at many ≡ b → unless b ≡ None → at + many ≤ 4096
    by true is none = leb-true (at + many) 4096 is
    by false is none = absurd cc

-- the place of the first of so many words
first_within : (at many : ℕ) → at + many ≤ 4096 → IfSome (cond (nat_lt 0 many) (Some at) None) (λ place. place < 4096)
first_within at zero most = tt
first_within at (suc many) most = let some : nat_lt 0 (suc many) ≡ true = lt-ltb 0 (suc many) (omega arith) in rw some (omega (arith, most))

word_within : (E : List Entry) (at : ℕ) (body : Body) → body_fault E at body ≡ None → IfSome (place_of_word at body) (λ place. place < 4096)
word_within E at Comment none = tt
word_within E at (Order order terms indexed) none = first_within at 1 (words_hold at 1 none)
word_within E at (Org terms) none = tt
word_within E at (Equ terms) none = tt
word_within E at (Bss terms) none = tt
word_within E at (Bes terms) none = tt
word_within E at (Dec numbers) none = first_within at (length numbers) (words_hold at (length numbers) none)
word_within E at (Oct words) none = first_within at (length words) (words_hold at (length words) none)
word_within E at End none = tt

-- each word of a card that isn't out of range
pub each_within : (E : List Entry) (at i : ℕ) (body : Body) → body_fault E at body ≡ None → i < count body → at + i < 4096
each_within E at i Comment none within = absurd (omega (arith, within))
each_within E at i (Order order terms indexed) none within = omega (arith, words_hold at 1 none, within)
each_within E at i (Org terms) none within = absurd (omega (arith, within))
each_within E at i (Equ terms) none within = absurd (omega (arith, within))
each_within E at i (Bss terms) none within = absurd (omega (arith, within))
each_within E at i (Bes terms) none within = absurd (omega (arith, within))
each_within E at i (Dec numbers) none within = omega (arith, words_hold at (length numbers) none, within)
each_within E at i (Oct words) none within = omega (arith, words_hold at (length words) none, within)
each_within E at i End none within = absurd (omega (arith, within))

-- of all cards
within_along : (S : List Entry) (before cards : List Card) → first_fault (place_fault S) before cards ≡ None → All (λ at. IfSome at (λ place. place < 4096)) (places_after S before cards)
unfolding first_fault places_after
within_along S before [] none = λ k d within. absurd (omega (arith, within))
within_along S before (card ∷ cards) none =
    let parts = none_later (length before + 1) (place_fault S before card) (first_fault (place_fault S) (card ∷ before) cards) none in
    let body = (both_none (twice (early S (length before)) card.symbol) (body_fault (early S (length before)) (place S before) card.body) parts.0).1 in
    All-cons (λ at. IfSome at (λ place. place < 4096)) (place_of_word (place S before) card.body) (places_after S (card ∷ before) cards)
    (word_within (early S (length before)) (place S before) card.body body) (within_along S (card ∷ before) cards parts.1)

pub words_within : (text : List ℕ) (S : List Entry) → Fits S (cards text) → early_fault S text ≡ None → All (λ at. IfSome at (λ place. place < 4096)) (places S (cards text))
words_within text S fits none = within_along S [] (cards text) (early_faultless text S none).1
