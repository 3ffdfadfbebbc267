-- The cards that name each symbol, a card further.
use Rattle.std.proofs.Common.{None, ◌≡◌, ℕ, zero, suc, ◌+◌, ◌-◌, ◌<◌, ◌≤◌, Bool, true, false, cond, ◌||◌, List, [], ◌∷◌, ◌++◌, length, get_or, set, map, take, drop, Some, refl, sym, ap, ◌∙◌, inl, inr, arith, All, nat_eq, append_assoc, append-nil, length-append}
use Rattle.std.specs.Prelude.{Vec, slice_get}
use Rattle.std.specs.Option.{option_eq}
use Rattle.std.specs.Cmp.Lexicographic.{pointwise, bytes_decides}
use Rattle.std.proofs.lemmas.Bool.{cases_eq}
use Rattle.std.proofs.lemmas.Bool.Decides.{nat_tests}
use Rattle.std.proofs.lemmas.List.{take_all, get_or-set_same, get_or-set_other, length-set, drop_more, drop_all}
use Rattle.std.proofs.lemmas.List.Elements.{All-push}
use Rattle.std.proofs.lemmas.Option.{slice_get-get_or}
use Rattle.ags_card.specs.declared.cards.Card.{Card}
use Rattle.ags_card.specs.declared.terms.Atom.TheVariants.{Symbol}
use Rattle.ags_card.specs.declared.terms.Term.{Term}
use Rattle.ags_asm.specs.Source.{AreSpans}
use Rattle.ags_places.specs.declared.placed.Placed.{Placed}
use Rattle.ags_xref.specs.declared.rows.Row.{Row}
use Rattle.ags_xref.specs.Gathering.{AreRows, Changes, Gathered, all_noted, card_at, noted, once_behind}
use Rattle.ags_xref.specs.Naming.{card_names, is_symbol_of, naming, naming_from, number_where, operand_terms, terms_name}
use Rattle.ags_xref.proofs.RowLemmas.{one_row}

-- ---- one card's number

apart_below : (m n : ℕ) → m < n → nat_eq m n ≡ false
apart_below m n below = grind (arith, nat_tests, below)

same_number : (n : ℕ) → nat_eq n n ≡ true
same_number n = grind (arith, nat_tests)

-- lesser numbers do not end in it
fresh_last : (numbers : List ℕ) (n : ℕ) → All (λ m. m < n) numbers → option_eq nat_eq (slice_get numbers (length numbers - 1)) (Some n) ≡ false
fresh_last [] n below = refl
fresh_last (m ∷ numbers) n below =
    rw (slice_get-get_or (m ∷ numbers) (length (m ∷ numbers) - 1) 0 (omega arith)) (apart_below (get_or (m ∷ numbers) (length (m ∷ numbers) - 1) 0) n (below (length (m ∷ numbers) - 1) 0 (omega arith)))

pub once-fresh : (numbers : List ℕ) (n : ℕ) → All (λ m. m < n) numbers → once_behind numbers n ≡ numbers ++ n ∷ []
once-fresh numbers n below = rw (fresh_last numbers n below) refl

last_pushed : (numbers : List ℕ) (n : ℕ) → slice_get (numbers ++ n ∷ []) (length (numbers ++ n ∷ []) - 1) ≡ Some n
last_pushed [] n = refl
last_pushed (m ∷ numbers) n =
    let e : length (m ∷ numbers ++ n ∷ []) - 1 ≡ suc (length (numbers ++ n ∷ []) - 1) = omega (arith, length-append numbers (n ∷ [])) in
    rw e (last_pushed numbers n)

once-again : (numbers : List ℕ) (n : ℕ) → once_behind (numbers ++ n ∷ []) n ≡ numbers ++ n ∷ []
once-again numbers n = rw (last_pushed numbers n, same_number n) refl

-- ---- a card's terms

all_noted-nil : (name : List ℕ) (n : ℕ) (numbers : List ℕ) → all_noted name n [] numbers ≡ numbers
unfolding all_noted
all_noted-nil name n numbers = refl

all_noted-cons : (name : List ℕ) (n : ℕ) (term : Term) (terms : List Term) (numbers : List ℕ) → all_noted name n (term ∷ terms) numbers ≡ all_noted name n terms (noted name n term numbers)
unfolding all_noted
all_noted-cons name n term terms numbers = refl

again_step : (b : Bool) (numbers : List ℕ) (n : ℕ) → cond b (once_behind (numbers ++ n ∷ []) n) (numbers ++ n ∷ []) ≡ numbers ++ n ∷ []
again_step true numbers n = once-again numbers n
again_step false numbers n = refl

noted_again : (name : List ℕ) (n : ℕ) (terms : List Term) (numbers : List ℕ) → all_noted name n terms (numbers ++ n ∷ []) ≡ numbers ++ n ∷ []
noted_again name n [] numbers = all_noted-nil name n (numbers ++ n ∷ [])
noted_again name n (term ∷ terms) numbers =
    all_noted-cons name n term terms (numbers ++ n ∷ []) ∙ ap (all_noted name n terms) (again_step (is_symbol_of name term.atom) numbers n) ∙ noted_again name n terms numbers

noted_step : (name : List ℕ) (n : ℕ) (b : Bool) (terms : List Term) (numbers : List ℕ) → All (λ m. m < n) numbers
    → all_noted name n terms numbers ≡ numbers ++ number_where (terms_name name terms) n
    → all_noted name n terms (cond b (once_behind numbers n) numbers) ≡ numbers ++ number_where (b || terms_name name terms) n
noted_step name n true terms numbers below rest = rw (once-fresh numbers n below) (noted_again name n terms numbers)
noted_step name n false terms numbers below rest = rest

-- its number is noted where one of them names the symbol
pub all_noted_is : (name : List ℕ) (n : ℕ) (terms : List Term) (numbers : List ℕ) → All (λ m. m < n) numbers
    → all_noted name n terms numbers ≡ numbers ++ number_where (terms_name name terms) n
all_noted_is name n [] numbers below = all_noted-nil name n numbers ∙ sym (append-nil numbers)
all_noted_is name n (term ∷ terms) numbers below =
    all_noted-cons name n term terms numbers ∙ noted_step name n (is_symbol_of name term.atom) terms numbers below (all_noted_is name n terms numbers below)

-- ---- changes of all rows

pub no_terms : (terms : List Term) → length terms < 1 → terms ≡ []
no_terms [] none = refl
no_terms (term ∷ terms) none = absurd (omega (arith, none))

-- a list is its first element and the others, as a slice is matched
pub cut_first : (terms : List Term) (first : Term) → 0 < length terms → first ≡ get_or terms 0 first → terms ≡ first ∷ take (length terms - 1) (drop 1 terms)
cut_first [] first some is = absurd (omega (arith, some))
cut_first (term ∷ terms) first some is =
    let all : take (length (term ∷ terms) - 1) terms ≡ terms = take_all (length (term ∷ terms) - 1) terms (omega arith) in
    rw (is, all) refl

noted_symbol : (name other : List ℕ) (number : ℕ) (term : Term) (numbers : List ℕ) → term.atom ≡ Symbol other → name ≡ other → noted name number term numbers ≡ once_behind numbers number
noted_symbol name other number term numbers is same =
    let passes : is_symbol_of name term.atom ≡ true = rw (is, same) ((bytes_decides other other).1 refl) in
    rw passes refl

apart_by : (b : Bool) → (b ≡ true → ⊥) → b ≡ false
apart_by true no_way = absurd (no_way refl)
apart_by false no_way = refl

noted_other : (name other : List ℕ) (number : ℕ) (term : Term) (numbers : List ℕ) → term.atom ≡ Symbol other → (name ≡ other → ⊥) → noted name number term numbers ≡ numbers
noted_other name other number term numbers is differ =
    let fails : is_symbol_of name term.atom ≡ false = rw is (apart_by (pointwise nat_eq name other) (λ same. differ ((bytes_decides name other).0 same))) in
    rw fails refl

naming_cons : (name : List ℕ) (number : ℕ) (card : Card) (cards : List Card) → naming_from name number (card ∷ cards) ≡ number_where (card_names name card) number ++ naming_from name (number + 1) cards
unfolding naming_from
naming_cons name number card cards = refl

below_more : (b : Bool) (number : ℕ) (numbers : List ℕ) → All (λ m. m < number) numbers → All (λ m. m < number + 1) (numbers ++ number_where b number)
below_more true number numbers below = All-push (λ m. m < number + 1) numbers number (λ k d small. omega (arith, below k d small)) (omega arith)
below_more false number numbers below = rw (append-nil numbers) (λ k d small. omega (arith, below k d small))

naming_nil : (name : List ℕ) (number : ℕ) → naming_from name number [] ≡ []
unfolding naming_from
naming_nil name number = refl

-- what a list of cards has after its end
abbrev pub nothing_placed : Placed
nothing_placed = record { start = 0; end = 0; place = None; count = 0 }

rest-more : (placed : List Placed) (i : ℕ) (card : Placed) → i < length placed → card ≡ get_or placed i nothing_placed → drop i placed ≡ card ∷ drop (i + 1) placed
rest-more placed i card within is = drop_more placed i nothing_placed within ∙ ap (λ (x : Placed). x ∷ drop (i + 1) placed) (sym is)

module _ {A : Type 0} where
  pub changes_nothing : (rows : List Row) (number : ℕ) (terms : List Term) (old : List (Vec ℕ A)) → terms ≡ [] → Changes rows (λ name numbers. all_noted name number terms numbers) old old
  changes_nothing rows number terms old none = record { long = refl; each = λ i d e within. rw none (sym (all_noted-nil (get_or rows i d).name number (get_or old i e).items)) }

  pub changes_more : (rows : List Row) (number : ℕ) (first : Term) (rest terms : List Term) (old mid new : List (Vec ℕ A)) → terms ≡ first ∷ rest
      → Changes rows (λ name numbers. noted name number first numbers) old mid → Changes rows (λ name numbers. all_noted name number rest numbers) mid new
      → Changes rows (λ name numbers. all_noted name number terms numbers) old new
  changes_more rows number first rest terms old mid new cut one more = record {
    long = more.long ∙ one.long;
    each = λ i d e within.
        more.each i d e (omega (arith, within, one.long)) ∙ ap (all_noted (get_or rows i d).name number rest) (one.each i d e within)
        ∙ sym (all_noted-cons (get_or rows i d).name number first rest (get_or old i e).items) ∙ rw cut refl;
  }

  -- a term names the symbol of the row at that position
  pub changes_one : (rows : List Row) (number p : ℕ) (name : List ℕ) (term : Term) (old : List (Vec ℕ A)) (was now : Vec ℕ A) → AreRows rows → length old ≡ length rows → p < length rows
      → ((d : Row) → (get_or rows p d).name ≡ name) → term.atom ≡ Symbol name → was ≡ get_or old p was → now.items ≡ once_behind was.items number
      → Changes rows (λ name numbers. noted name number term numbers) old (set old p now)
  changes_one rows number p name term old was now so long small found is had pushed = record {
    long = length-set old p now;
    each = λ i d e within. elim (cases_eq i p) [
      | inl this ↦
          let hold : get_or old p e ≡ was = default_free old p e was (omega (arith, small, long)) ∙ sym had in
          rw (this, get_or-set_same old p now e (omega (arith, small, long)), hold) (pushed ∙ sym (noted_symbol (get_or rows p d).name name number term was.items is (found d)))
      | inr other ↦
          rw (get_or-set_other old p i now e other) (sym (noted_other (get_or rows i d).name name number term (get_or old i e).items is
          (λ same. other (one_row rows i p d so (omega (arith, within, long)) small (same ∙ sym (found d))))))
    ];
  }
    where
      default_free : (xs : List (Vec ℕ A)) (i : ℕ) (e f : Vec ℕ A) → i < length xs → get_or xs i e ≡ get_or xs i f
      default_free [] i e f within = absurd (omega (arith, within))
      default_free (x ∷ xs) zero e f within = refl
      default_free (x ∷ xs) (suc i) e f within = default_free xs i e f (omega (arith, within))

  -- ---- along the cards

  -- the cards up to one of that number were noted, and these are left
  pub record Naming (rows : List Row) (cards left : List Card) (number : ℕ) (gathered : List (Vec ℕ A)) : Type 0 where
    pub long : length gathered ≡ length rows
    pub below : (i : ℕ) (d : Row) (e : Vec ℕ A) → i < length rows → All (λ m. m < number) (get_or gathered i e).items
    pub each : (i : ℕ) (d : Row) (e : Vec ℕ A) → i < length rows
        → (get_or gathered i e).items ++ naming_from (get_or rows i d).name number left ≡ naming cards (get_or rows i d).name

  pub Naming-none : (rows : List Row) (cards : List Card) (gathered : List (Vec ℕ A)) → length gathered ≡ length rows → All (λ numbers. numbers.items ≡ []) gathered → Naming rows cards cards 1 gathered
  Naming-none rows cards gathered long empty = record {
    long = long;
    below = λ i d e within. rw (empty i e (omega (arith, within, long))) (λ k m small. absurd (omega (arith, small)));
    each = λ i d e within. rw (empty i e (omega (arith, within, long))) refl;
  }

  pub Naming-more : (rows : List Row) (cards left : List Card) (card : Card) (number : ℕ) (old new : List (Vec ℕ A)) → Naming rows cards (card ∷ left) number old
      → Changes rows (λ name numbers. all_noted name number (operand_terms card.body) numbers) old new → Naming rows cards left (number + 1) new
  Naming-more rows cards left card number old new so change = record {
    long = change.long ∙ so.long;
    below = λ i d e within.
        rw (change.each i d e (omega (arith, within, so.long)), all_noted_is (get_or rows i d).name number (operand_terms card.body) (get_or old i e).items (so.below i d e within))
        (below_more (card_names (get_or rows i d).name card) number (get_or old i e).items (so.below i d e within));
    each = λ i d e within.
        let now = change.each i d e (omega (arith, within, so.long)) ∙ all_noted_is (get_or rows i d).name number (operand_terms card.body) (get_or old i e).items (so.below i d e within) in
        ap (λ (numbers : List ℕ). numbers ++ naming_from (get_or rows i d).name (number + 1) left) now
        ∙ append_assoc (get_or old i e).items (number_where (card_names (get_or rows i d).name card) number) (naming_from (get_or rows i d).name (number + 1) left)
        ∙ ap (λ (more : List ℕ). (get_or old i e).items ++ more) (sym (naming_cons (get_or rows i d).name number card left)) ∙ so.each i d e within;
  }

  pub Naming-all : (rows : List Row) (cards : List Card) (number : ℕ) (gathered : List (Vec ℕ A)) → Naming rows cards [] number gathered → Gathered rows cards gathered
  Naming-all rows cards number gathered so = record {
    long = so.long;
    each = λ i d e within.
        sym (append-nil (get_or gathered i e).items) ∙ ap (λ (more : List ℕ). (get_or gathered i e).items ++ more) (sym (naming_nil (get_or rows i d).name number)) ∙ so.each i d e within;
  }

  -- ---- by the cards' spans

  pub record Walking (source : List ℕ) (placed : List Placed) (rows : List Row) (index : ℕ) (gathered : List (Vec ℕ A)) : Type 0 where
    pub naming : Naming rows (map (card_at source) placed) (map (card_at source) (drop index placed)) (index + 1) gathered
    pub from : ℕ
    pub few : index ≤ from
    pub short : from ≤ length source + 1
    pub spans : AreSpans from (length source) (drop index placed)

  pub Walking-none : (source : List ℕ) (placed : List Placed) (rows : List Row) (gathered : List (Vec ℕ A)) → AreSpans 0 (length source) placed → length gathered ≡ length rows
      → All (λ numbers. numbers.items ≡ []) gathered → Walking source placed rows 0 gathered
  Walking-none source placed rows gathered spans long empty = record {
    naming = Naming-none rows (map (card_at source) placed) gathered long empty;
    from = 0;
    few = omega arith;
    short = omega arith;
    spans = spans;
  }

  -- the next card's span lies in the source
  pub Walking-span : (source : List ℕ) (placed : List Placed) (rows : List Row) (i : ℕ) (gathered : List (Vec ℕ A)) (card : Placed) → Walking source placed rows i gathered
      → i < length placed → card ≡ get_or placed i nothing_placed → (i ≤ length source) × (card.start ≤ card.end) × (card.end ≤ length source)
  Walking-span source placed rows i gathered card so within is =
      let here = rw (rest-more placed i card within is) at so.spans in
      (omega (arith, so.few, here.0, here.1, here.2), here.1, here.2)

  pub Walking-more : (source : List ℕ) (placed : List Placed) (rows : List Row) (i : ℕ) (old new : List (Vec ℕ A)) (card : Placed) → Walking source placed rows i old
      → i < length placed → card ≡ get_or placed i nothing_placed
      → Changes rows (λ name numbers. all_noted name (i + 1) (operand_terms (card_at source card).body) numbers) old new → Walking source placed rows (i + 1) new
  Walking-more source placed rows i old new card so within is change =
      let here = rw (rest-more placed i card within is) at so.spans in
      let naming = rw (rest-more placed i card within is) at so.naming in
      record {
        naming = Naming-more rows (map (card_at source) placed) (map (card_at source) (drop (i + 1) placed)) (card_at source card) (i + 1) old new naming change;
        from = card.end + 1;
        few = omega (arith, so.few, here.0, here.1);
        short = omega (arith, here.2);
        spans = here.3;
      }

  pub Walking-all : (source : List ℕ) (placed : List Placed) (rows : List Row) (i : ℕ) (gathered : List (Vec ℕ A)) → Walking source placed rows i gathered → length placed ≤ i
      → Gathered rows (map (card_at source) placed) gathered
  Walking-all source placed rows i gathered so past =
      Naming-all rows (map (card_at source) placed) (i + 1) gathered (rw (drop_all i placed past) at so.naming)
