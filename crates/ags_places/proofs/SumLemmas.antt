-- A place as the last ORG's and the sizes since.
use Rattle.std.proofs.Common.{◌≡◌, ℕ, ◌+◌, Bool, true, false, List, [], ◌∷◌, ◌++◌, length, refl, ap, ◌∙◌, arith}
use Rattle.std.specs.Prelude.{◌||◌, unsigned_abs}
use Rattle.std.specs.List.{list_any}
use Rattle.std.proofs.lemmas.List.{append-nil}
use Rattle.ags_card.specs.declared.cards.Body.{Body}
use Rattle.ags_card.specs.declared.cards.Body.TheVariants.{Comment, Order, Org, Equ, Bss, Bes, Dec, Oct, End}
use Rattle.ags_card.specs.declared.cards.Card.{Card}
use Rattle.ags_card.specs.declared.terms.Term.{Term}
use Rattle.ags_symbol.specs.Symbol.{Entry}
use Rattle.ags_places.specs.Place.{early, operand, place, place_after, size, sets_place, is_org, sizes}

-- a card that is no ORG leaves the place after its words
moved : (E : List Entry) (at : ℕ) (body : Body) → sets_place body ≡ false → place_after E at body ≡ at + size E at body
moved E at Comment plain = omega arith
moved E at (Order order terms indexed) plain = refl
moved E at (Org terms) plain = absurd cc
moved E at (Equ terms) plain = omega arith
moved E at (Bss terms) plain = refl
moved E at (Bes terms) plain = refl
moved E at (Dec numbers) plain = refl
moved E at (Oct words) plain = refl
moved E at End plain = omega arith

neither : (a b : Bool) → (a || b) ≡ false → (a ≡ false) × (b ≡ false)
neither true b none = absurd cc
neither false b none = (refl, none)

-- the place after some cards without an ORG
place-since : (S : List Entry) (since before : List Card) → list_any is_org since ≡ false → place S (since ++ before) ≡ place S before + sizes S since before
unfolding place sizes
place-since S [] before none = omega arith
place-since S (card ∷ since) before none =
    let parts = neither (is_org card) (list_any is_org since) none in
    let step = moved (early S (length (since ++ before))) (place S (since ++ before)) card.body parts.0 in
    omega (arith, step, place-since S since before parts.1)

pub place-start : (S : List Entry) (since : List Card) → list_any is_org since ≡ false → place S since ≡ sizes S since []
unfolding place
place-start S since none =
    let all = place-since S since [] none in
    let same = ap (place S) (append-nil since) in
    omega (arith, all, same)

pub place-org : (S : List Entry) (since before : List Card) (card : Card) (terms : List Term) → list_any is_org since ≡ false → card.body ≡ Org terms
    → place S (since ++ card ∷ before) ≡ unsigned_abs (operand (early S (length before)) (place S before) terms) + sizes S since (card ∷ before)
unfolding place
place-org S since before card terms none is =
    place-since S since (card ∷ before) none ∙ ap (λ (body : Body). place_after (early S (length before)) (place S before) body + sizes S since (card ∷ before)) is
