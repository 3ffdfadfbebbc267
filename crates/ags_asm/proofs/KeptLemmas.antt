-- What is kept of the words while cards are read, one card further.
use Rattle.std.proofs.Common.{◌≡◌, ℕ, ◌+◌, ◌<◌, ◌≤◌, List, [], ◌∷◌, ◌++◌, length, Option, Some, None, refl, sym, ap, subst, ◌∙◌, append-nil, arith}
use Rattle.std.specs.Prelude.{All, Bool, false, is_some}
use Rattle.std.proofs.lemmas.Bool.{true≢false}
use Rattle.std.specs.Global.{Vec}
use Rattle.std.specs.Vec.{with_items}
use Rattle.std.proofs.lemmas.List.{with_items_is}
use Rattle.std.proofs.lemmas.List.Elements.{All-append, All-cons}
use Rattle.std.specs.Option.{option_or}
use Rattle.ags_image.specs.Image.{IsImage, IsImageOf}
use Rattle.ags_text.specs.Fault.{first_fault}
use Rattle.ags_isa.specs.declared.orders.Order.{Order}
use Rattle.ags_decimal.specs.Decimal.{Parts}
use Rattle.ags_card.specs.declared.cards.Body.{Body}
use Rattle.ags_card.specs.declared.cards.Body.TheVariants as of
use Rattle.ags_card.specs.declared.terms.Term.{Term}
use Rattle.ags_card.specs.declared.cards.Card.{Card}
use Rattle.ags_symbol.specs.Symbol.{Entry}
use Rattle.ags_places.specs.declared.source_error.WordFault.{WordFault}
use Rattle.ags_places.specs.Place.{place}
use Rattle.ags_asm.specs.declared.half_words.HalfWords.{HalfWords}
use Rattle.ags_places.specs.Place.{count}
use Rattle.ags_asm.specs.Source.{placed_words}
use Rattle.ags_asm.specs.Word.{taken, taken_from, word_fault, definitions}
use Rattle.ags_asm.specs.Waiting.{Waiting, IsMade, closing_fault}
use Rattle.ags_asm.specs.HalfMade.{HalfMade, IsHalfMade, StandsNext, filled, owned_from, owners_of, closed_into}
use Rattle.ags_asm.proofs.HalfMadeLemmas.{half_made_more, half_made_fault, half_made_past, half_made_end, half_made_closed}
use Rattle.ags_asm.proofs.OwnedLemmas.{owned_so, taken_so, made_count, length-owned_from, wordless}

made_there : (codes : List ℕ) (S : List Entry) (before : List Card) (card : Card) (number at : ℕ) (own : Option WordFault) (words : List ℕ) (new : List Waiting) → StandsNext S before number at
    → IsMade codes S number at card.body own words new → IsMade codes S (length before + 1) (place S before) card.body own words new
made_there codes S before card number at own words new next made =
    subst (λ (n : ℕ). IsMade codes S n (place S before) card.body own words new) next.number_is (subst (λ (a : ℕ). IsMade codes S number a card.body own words new) next.at_is made)

module _ (codes : List ℕ) (S : List Entry) (cards before left : List Card) (card : Card) (was now : HalfWords) (so : IsHalfMade codes S cards before (card ∷ left) was) where
  half_there : was.met ≡ None → HalfMade codes S cards before (card ∷ left) was.image was.waiting.items None
  half_there none = subst (λ (met : Option (ℕ × WordFault)). HalfMade codes S cards before (card ∷ left) was.image was.waiting.items met) none so.half

  pub keep_past : (found : ℕ × WordFault) → was.met ≡ Some found → IsHalfMade codes S cards (card ∷ before) left was
  keep_past found is =
      let half : HalfMade codes S cards before (card ∷ left) was.image was.waiting.items (Some found) =
      subst (λ (met : Option (ℕ × WordFault)). HalfMade codes S cards before (card ∷ left) was.image was.waiting.items met) is so.half in
      record {
        half = rw is (half_made_past codes S cards before card left was.image was.waiting.items found half);
        owned = λ none. absurd cc;
        whole = so.whole;
        within = so.within;
      }

  module _ (number at : ℕ) (own : Option WordFault) (words : List ℕ) (new : List Waiting) (none : was.met ≡ None) (next : StandsNext S before number at) (made : IsMade codes S number at card.body own words new)
      (waits : now.waiting.items ≡ was.waiting.items ++ new) (small : All (λ w. w.place < 4096) new) where
    pub keep_fault : (fault : WordFault) → option_or own (taken S before card) ≡ Some fault → IsImage now.image → now.met ≡ Some (number, fault) → IsHalfMade codes S cards (card ∷ before) left now
    keep_fault fault is whole met = record {
      half = rw (waits, met, next.number_is)
          (half_made_fault codes S cards before card left was.image was.waiting.items own words new (half_there none) (made_there codes S before card number at own words new next made) fault now.image is);
      owned = λ other. absurd cc;
      whole = whole;
      within = rw waits (All-append (λ w. w.place < 4096) was.waiting.items new so.within small);
    }

    pub keep_more : option_or own (taken S before card) ≡ None → at + length words ≤ 4096 → at + count card.body ≤ 4096 → length was.owners.items ≡ 4096 → now.image ≡ filled was.image at words → IsImage now.image
        → now.owners.items ≡ owned_from was.owners.items at (count card.body) number → now.met ≡ None → IsHalfMade codes S cards (card ∷ before) left now
    keep_more is room wide whole image is_image owners met =
        let inside : place S before + length words ≤ length was.image = omega (arith, so.whole.whole, next.at_is, room) in
        record {
          half = rw (waits, met, image, next.at_is)
              (half_made_more codes S cards before card left was.image was.waiting.items own words new (half_there none) (made_there codes S before card number at own words new next made) is inside);
          owned = λ _. rw owners (owned_so S before card was.owners.items number at (count card.body) next refl (so.owned none) whole wide);
          whole = is_image;
          within = rw waits (All-append (λ w. w.place < 4096) was.waiting.items new so.within small);
        }

-- a card whose words, and orders that wait, are so many
module _ (codes : List ℕ) (S : List Entry) (cards before left : List Card) (card : Card) (was now : HalfWords) (number at many : ℕ) (words : List ℕ) (new : List Waiting) (none : was.met ≡ None)
    (waits : now.waiting.items ≡ was.waiting.items ++ new) (small : All (λ w. w.place < 4096) new) (few : many ≡ length words + length new) (room : at + many ≤ 4096)
    (next : StandsNext S before number at) (made : IsMade codes S number at card.body None words new) (so : IsHalfMade codes S cards before (card ∷ left) was) where
  count_so : many ≡ count card.body
  count_so = few ∙ made_count codes S number at card.body words new made

  found_so : taken_from (owners_of was.owners.items) at many ≡ taken S before card
  found_so = taken_so S before card was.owners.items number at many next count_so (so.owned none) room

  pub keep_taken : (fault : WordFault) → taken_from (owners_of was.owners.items) at many ≡ Some fault → IsImage now.image → now.met ≡ Some (number, fault) → IsHalfMade codes S cards (card ∷ before) left now
  keep_taken fault found whole met =
      keep_fault codes S cards before left card was now so number at None words new none next made waits small fault (sym found_so ∙ found) whole met

  pub keep_free : taken_from (owners_of was.owners.items) at many ≡ None → length was.owners.items ≡ 4096 → now.image ≡ filled was.image at words → IsImage now.image → now.owners.items ≡ owned_from was.owners.items at many number → now.met ≡ None
      → IsHalfMade codes S cards (card ∷ before) left now
  keep_free found whole image is_image owners met =
      keep_more codes S cards before left card was now so number at None words new none next made waits small (sym found_so ∙ found) (omega (arith, few, room)) (omega (arith, count_so, room)) whole image is_image
      (owners ∙ ap (λ (m : ℕ). owned_from was.owners.items at m number) count_so) met

pub none_small : All (λ (w : Waiting). w.place < 4096) []
none_small = λ k d lt. absurd (omega (arith, lt))

pub one_small : (waiting : Waiting) (at : ℕ) → waiting.place ≡ at → at < 4096 → All (λ (w : Waiting). w.place < 4096) (waiting ∷ [])
one_small waiting at is small = All-cons (λ (w : Waiting). w.place < 4096) waiting [] (omega (arith, is, small)) none_small

pub not_some : (found : Option WordFault) → ((fault : WordFault) → found ≡ Some fault → ⊥) → found ≡ None
not_some None other = refl
not_some (Some fault) other = absurd (other fault refl)

pub found_there : (owners items : List ℕ) (at many : ℕ) (result found : Option WordFault) → owners ≡ items → result ≡ taken_from (owners_of owners) at many → result ≡ found → taken_from (owners_of items) at many ≡ found
found_there owners items at many result found same is so = ap (λ (o : List ℕ). taken_from (owners_of o) at many) (sym same) ∙ sym is ∙ so

-- the owners as they are written through their slice
pub owned_there : (held : Vec ℕ) (new owners : List ℕ) (at many number : ℕ) → owners ≡ held.items → new ≡ owned_from owners at many number
    → (with_items held new).items ≡ owned_from held.items at many number
owned_there held new owners at many number same is =
    let full : new ≡ owned_from held.items at many number = is ∙ ap (λ (o : List ℕ). owned_from o at many number) same in
    with_items_is held new (ap length full ∙ length-owned_from held.items at many number ∙ sym held.ok.0) ∙ full

-- ---- the end

module _ (codes : List ℕ) (S : List Entry) (cards before : List Card) (was : HalfWords) (so : IsHalfMade codes S cards before [] was) where
  pub ended : closing_fault S was.waiting.items ≡ None → first_fault (word_fault S) [] cards ≡ was.met
  ended none = half_made_end codes S cards before was.image was.waiting.items was.met so.half ∙ rw none refl

  pub closed_so : was.met ≡ None → closing_fault S was.waiting.items ≡ None → (image : List (Option ℕ)) → image ≡ closed_into codes S was.image was.waiting.items → IsImage image
      → IsImageOf (placed_words (definitions codes S cards)) image
  closed_so met none image is is_image =
      let half : HalfMade codes S cards before [] was.image was.waiting.items None =
      subst (λ (met : Option (ℕ × WordFault)). HalfMade codes S cards before [] was.image was.waiting.items met) met so.half in
      rw is (half_made_closed codes S cards before was.image was.waiting.items half none so.whole.whole so.within (rw is at is_image))

-- ---- a card without words

pub none_of : {F : Type 0} (met : Option F) (b : Bool) → b ≡ is_some met → b ≡ false → met ≡ None
none_of None b is so = refl
none_of (Some found) b is so = absurd (true≢false (sym is ∙ so))

-- what is no order, no DEC and no OCT has no word
pub count_of_others : (body : Body) → ((order : Order) (terms : List Term) (indexed : Bool) → body ≡ of.Order order terms indexed → ⊥) → ((numbers : List Parts) → body ≡ of.Dec numbers → ⊥)
    → ((words : List ℕ) → body ≡ of.Oct words → ⊥) → count body ≡ 0
count_of_others of.Comment no_order no_decimals no_octals = refl
count_of_others (of.Order order terms indexed) no_order no_decimals no_octals = absurd (no_order order terms indexed refl)
count_of_others (of.Org terms) no_order no_decimals no_octals = refl
count_of_others (of.Equ terms) no_order no_decimals no_octals = refl
count_of_others (of.Bss terms) no_order no_decimals no_octals = refl
count_of_others (of.Bes terms) no_order no_decimals no_octals = refl
count_of_others (of.Dec numbers) no_order no_decimals no_octals = absurd (no_decimals numbers refl)
count_of_others (of.Oct words) no_order no_decimals no_octals = absurd (no_octals words refl)
count_of_others of.End no_order no_decimals no_octals = refl

pub keep_wordless : (codes : List ℕ) (S : List Entry) (cards before left : List Card) (card : Card) (was : HalfWords) (number at : ℕ) → was.met ≡ None → count card.body ≡ 0 → length was.owners.items ≡ 4096 → at ≤ 4096
    → StandsNext S before number at → IsHalfMade codes S cards before (card ∷ left) was → IsHalfMade codes S cards (card ∷ before) left was
keep_wordless codes S cards before left card was number at none wordless_so whole small next so =
    keep_free codes S cards before left card was was number at 0 [] [] none (sym (append-nil was.waiting.items)) none_small (omega arith) (omega (arith, small)) next (wordless codes S number at card.body wordless_so) so refl whole refl so.whole refl none
