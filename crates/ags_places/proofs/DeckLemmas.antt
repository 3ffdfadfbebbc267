-- The lines of a source's cards are those up to and with the first END.
use Rattle.std.proofs.Common.{◌≡◌, ℕ, Bool, true, false, cond, List, [], ◌∷◌, ◌++◌, refl, sym, ap, ◌∙◌, inl, inr, true≢false}
use Rattle.std.specs.Prelude.{Result, Ok, Err}
use Rattle.std.specs.List.{All}
use Rattle.std.proofs.lemmas.List.Elements.{All-nil, All-cons, All-head, All-tail}
use Rattle.ags_text.specs.Line.{LineAt, lines_of}
use Rattle.ags_card.specs.declared.cards.Body.{Body}
use Rattle.ags_card.specs.declared.cards.Body.TheVariants.{Comment, Order, Org, Equ, Bss, Bes, Dec, Oct, End}
use Rattle.ags_card.specs.declared.cards.Card.{Card}
use Rattle.ags_card.specs.declared.cards.CardFault.{CardFault}
use Rattle.ags_card.specs.Reading.{reading}
use Rattle.ags_places.specs.Deck.{is_end, ends, deck, card_lines, ReadsAsEnd, ReadsOn, EndsAtFirstEnd}

-- ---- what a line reads as

end_body : (body : Body) → is_end body ≡ true → body ≡ End
end_body Comment is = absurd (true≢false (sym is))
end_body (Order order terms indexed) is = absurd (true≢false (sym is))
end_body (Org terms) is = absurd (true≢false (sym is))
end_body (Equ terms) is = absurd (true≢false (sym is))
end_body (Bss terms) is = absurd (true≢false (sym is))
end_body (Bes terms) is = absurd (true≢false (sym is))
end_body (Dec numbers) is = absurd (true≢false (sym is))
end_body (Oct words) is = absurd (true≢false (sym is))
end_body End is = refl

read_end : (line : LineAt) → ends (reading line.bytes) ≡ true → ReadsAsEnd line
read_end line is = by_reading (reading line.bytes) refl is
  where
    by_reading : (read : Result Card CardFault) → reading line.bytes ≡ read → ends read ≡ true → ReadsAsEnd line
    by_reading (Ok card) here is = (card, here, end_body card.body is)
    by_reading (Err fault) here is = absurd (true≢false (sym is))

end_read : (line : LineAt) → ReadsAsEnd line → ends (reading line.bytes) ≡ true
end_read line (card, here, end) = ap ends here ∙ ap is_end end

end_not_read : (line : LineAt) → ReadsOn line → ends (reading line.bytes) ≡ false
end_not_read line on = by_test (ends (reading line.bytes)) refl
  where
    by_test : (last : Bool) → ends (reading line.bytes) ≡ last → ends (reading line.bytes) ≡ false
    by_test true is = absurd (on (read_end line is))
    by_test false is = is

-- ---- the lines of the cards

by_end : (line : LineAt) (lines : List LineAt) (last : Bool) → ends (reading line.bytes) ≡ last → EndsAtFirstEnd lines (deck lines)
    → EndsAtFirstEnd (line ∷ lines) (line ∷ cond last [] (deck lines))
by_end line lines true is rest = inr ([], line, lines, refl, refl, All-nil ReadsOn, read_end line is)
by_end line lines false is (inl (same, none)) =
    inl (ap (λ (ls : List LineAt). line ∷ ls) same, All-cons ReadsOn line lines (λ end. true≢false (sym (end_read line end) ∙ is)) none)
by_end line lines false is (inr (front, last, behind, whole, cards, none, end)) =
    inr (
      line ∷ front,
      last,
      behind,
      ap (λ (ls : List LineAt). line ∷ ls) whole,
      ap (λ (ls : List LineAt). line ∷ ls) cards,
      All-cons ReadsOn line front (λ end. true≢false (sym (end_read line end) ∙ is)) none,
      end,
    )

deck_ends : (lines : List LineAt) → EndsAtFirstEnd lines (deck lines)
unfolding deck
deck_ends [] = inl (refl, All-nil ReadsOn)
deck_ends (line ∷ lines) = by_end line lines (ends (reading line.bytes)) refl (deck_ends lines)

pub source_ends : (text : List ℕ) → EndsAtFirstEnd (lines_of text) (card_lines text)
source_ends text = deck_ends (lines_of text)

-- no other lines are

deck_all : (lines : List LineAt) → All ReadsOn lines → deck lines ≡ lines
unfolding deck
deck_all [] none = refl
deck_all (line ∷ lines) none = rw (end_not_read line (All-head ReadsOn line lines none), deck_all lines (All-tail ReadsOn line lines none)) refl

deck_front : (front : List LineAt) (last : LineAt) (behind : List LineAt) → All ReadsOn front → ReadsAsEnd last → deck (front ++ last ∷ behind) ≡ front ++ last ∷ []
unfolding deck
deck_front [] last behind none end = rw (end_read last end) refl
deck_front (line ∷ front) last behind none end =
    rw (end_not_read line (All-head ReadsOn line front none), deck_front front last behind (All-tail ReadsOn line front none) end) refl

pub deck_only : (lines cards : List LineAt) → EndsAtFirstEnd lines cards → cards ≡ deck lines
deck_only lines cards (inl (same, none)) = same ∙ sym (deck_all lines none)
deck_only lines cards (inr (front, last, behind, whole, are, none, end)) = are ∙ sym (ap deck whole ∙ deck_front front last behind none end)
