-- A text is cut at its first line feed.
use Rattle.std.proofs.Common.{◌≡◌, ℕ, suc, ◌+◌, ◌<◌, ◌≤◌, cond, not, Bool, true, false, List, [], ◌∷◌, ◌++◌, length, take, drop, get_or, position, refl, sym, ap, ◌∙◌, arith}
use Rattle.std.specs.Prelude.{Option, Some, None, IfSome, nat_lt}
use Rattle.std.specs.List.{position_or_len, list_all}
use Rattle.std.proofs.lemmas.Bool.{eqb-true, and_from}
use Rattle.std.proofs.lemmas.Bool.Decides.{nat_tests}
use Rattle.std.proofs.lemmas.List.{take-append-drop, drop_more, get_or-take, length-take}
use Rattle.std.proofs.lemmas.List.Sums.{fails_before_first}
use Rattle.std.proofs.lemmas.List.Quantifiers.{position-Some}
use Rattle.ags_text.specs.Line.{HasNoFeed}
use Rattle.ags_text.proofs.LineLemmas.{is_feed}

unfed : (ys : List ℕ) → ((k : ℕ) → k < length ys → is_feed (get_or ys k 0) ≡ false) → HasNoFeed ys
unfed [] each = refl
unfed (y ∷ ys) each = and_from (not (is_feed y)) (list_all (λ b. not (is_feed b)) ys) (ap not (each 0 (omega arith))) (unfed ys (λ k near. each (suc k) (omega (arith, near))))

place_is : (text : List ℕ) (found : Option ℕ) (inside : Bool) → nat_lt (position_or_len is_feed text) (length text) ≡ inside → found ≡ position is_feed text
    → found ≡ cond inside (Some (position_or_len is_feed text)) None
place_is text found inside test is = rw (← test) is

some_none : (a : ℕ) → ◌≡◌ {A = Option ℕ} (Some a) None → ⊥
some_none a is = cc

front_of : (text : List ℕ) (feed : ℕ) → position is_feed text ≡ Some feed → HasNoFeed (take feed text)
front_of text feed is = unfed (take feed text) (λ k near.
    let close : k < feed = omega (arith, near, length-take feed text) in
    ap is_feed (get_or-take feed text k 0 close) ∙ (position-Some is_feed text feed 0 is).2 k close)

none_front : (text : List ℕ) (inside : Bool) → nat_lt (position_or_len is_feed text) (length text) ≡ inside → position is_feed text ≡ None → HasNoFeed text
none_front text true test is = absurd (some_none _ (sym (place_is text None true test (sym is))))
none_front text false test is = unfed text (λ k near.
    let no_less : length text ≤ position_or_len is_feed text = grind (arith, nat_tests) in
    fails_before_first is_feed text k 0 (omega (arith, near, no_less)))

pub front_clause : (text : List ℕ) (found : Option ℕ) → found ≡ position is_feed text → IfSome found (λ feed. HasNoFeed (take feed text))
front_clause text None is = tt
front_clause text (Some feed) is = front_of text feed (sym is)

pub cut_clause : (text : List ℕ) (found : Option ℕ) → found ≡ position is_feed text → IfSome found (λ feed. text ≡ take feed text ++ 10 ∷ drop (feed + 1) text)
cut_clause text None is = tt
cut_clause text (Some feed) is =
    let some = position-Some is_feed text feed 10 (sym is) in
    let here : get_or text feed 10 ≡ 10 = eqb-true (get_or text feed 10) 10 some.1 in
    sym (take-append-drop feed text) ∙ ap (λ rest. take feed text ++ rest) (drop_more text feed 10 some.0 ∙ ap (λ b. b ∷ drop (feed + 1) text) here)

pub none_clause : (text : List ℕ) (found : Option ℕ) → found ≡ position is_feed text → found ≡ None → HasNoFeed text
none_clause text found is none = none_front text (nat_lt (position_or_len is_feed text) (length text)) refl (sym is ∙ none)
