-- Values: what lies within what, joins, parts and answers.
use Rattle.std.proofs.Common.{◌≡◌, ℕ, ◌<◌, ◌^◌, Bool, true, false, refl, sym, ap, ◌∙◌, subst, arith, List, [], ◌∷◌, ◌≤ℤ◌}
use Rattle.std.specs.Prelude.{◌&&◌, ◌||◌, ◌↔◌, IsTrue, eqb, Some, None, Result, Ok, Err}
use Rattle.std.specs.List.{list_all, filter}
use Rattle.std.proofs.lemmas.Int.{ints}
use Rattle.std.proofs.lemmas.Bool.{eqb-true}
use Rattle.std.proofs.Math.Bool.{and-false, or-true, or_self}
use Rattle.ags_word.specs.Word.{val}
use Rattle.ags_word.specs.Operation.{Operation}
use Rattle.ags_domain.specs.WordSet.{lists, HoldsMore}
use Rattle.ags_domain.specs.Domain.{Ends, IsBetween, IsFull, IsJoin, IsPart, IsWithin, held_by_either}
use Rattle.ags_domain.specs.Hull.{IsInterval, Answers}
use Rattle.ags_domain.specs.Range.{range_ends, range_meaning, lies_between, lesser, greater, hull_of}
use Rattle.ags_domain.proofs.PartLaws.{part_as}
use Rattle.ags_domain.specs.Value.{value_meaning, value_held, value_ends}
use Rattle.ags_domain.specs.SetOf.{IsFiltered}
use Rattle.ags_domain.specs.Gathering.{AreGathered}
use Rattle.ags_domain.specs.Inclusion.{AreAllIn}
use Rattle.ags_domain.specs.Ranged.{IsRangedAnswer}
use Rattle.ags_domain.specs.ListLaws.{and_left, and_right, lesser_left, lesser_right, greater_left, greater_right, lists_word, lists_head, lists_rest, one_of}
use Rattle.ags_domain.specs.MeaningLaws.{value_lawful, lies_inside, lies_from, lies_to, set_few}
use Rattle.ags_domain.specs.declared.operands.Operands.{Operands}
use Rattle.ags_domain.specs.declared.ranges.Range.{Range}
use Rattle.ags_domain.specs.declared.word_sets.WordSet.{WordSet}
use Rattle.ags_domain.specs.declared.values.Value.{Value}
use Rattle.ags_domain.specs.declared.values.Value.TheVariants.{Range as ByEnds, Words}

pub value_ordered : (v : Value) → val (value_ends v).least ≤ℤ val (value_ends v).greatest
value_ordered v = (value_lawful.between v (value_ends v).least (value_lawful.least_word v) (value_lawful.least_held v)).to

-- ---- inclusion

-- a word between two ends lies between wider ones too
lies_wider : (ends wider : Ends) (w : ℕ) → val wider.least ≤ℤ val ends.least → val ends.greatest ≤ℤ val wider.greatest → IsBetween ends w
    → lies_between wider w ≡ true
lies_wider ends wider w low high between = lies_inside wider w (omega (arith, ints)) (omega (arith, ints))

pub in_range : (v : Value) (ends : Ends) → (lies_between ends (value_ends v).least && lies_between ends (value_ends v).greatest) ≡ true
    → AreAllIn (value_held v) (lies_between ends)
in_range v ends h w is held = lies_wider (value_ends v) ends w
    (lies_from ends (value_ends v).least (and_left (lies_between ends (value_ends v).least) (lies_between ends (value_ends v).greatest) h))
    (lies_to ends (value_ends v).greatest (and_right (lies_between ends (value_ends v).least) (lies_between ends (value_ends v).greatest) h))
    (value_lawful.between v w is held)

pub ends_in_range : (v : Value) (ends : Ends) → AreAllIn (value_held v) (lies_between ends)
    → (lies_between ends (value_ends v).least && lies_between ends (value_ends v).greatest) ≡ true
ends_in_range v ends all =
    rw (all (value_ends v).least (value_lawful.least_word v) (value_lawful.least_held v), all (value_ends v).greatest (value_lawful.greatest_word v) (value_lawful.greatest_held v)) refl

pub all_listed : (p : ℕ → Bool) (words : List ℕ) → list_all p words ≡ true → (w : ℕ) → lists words w ≡ true → p w ≡ true
all_listed p [] h w k = absurd cc
all_listed p (x ∷ xs) h w k = one_of x xs w k
    (λ e. subst (λ v. p v ≡ true) e (and_left (p x) (list_all p xs) h))
    (λ r. all_listed p xs (and_right (p x) (list_all p xs) h) w r)

pub listed_all : (p : ℕ → Bool) (words : List ℕ) → ((w : ℕ) → lists words w ≡ true → p w ≡ true) → list_all p words ≡ true
listed_all p [] all = refl
listed_all p (x ∷ xs) all = rw (all x (lists_head x xs), listed_all p xs (λ w h. all w (lists_rest x xs w h))) refl

-- more words are held by what holds them too
pub more_along : (count : ℕ) (p q : ℕ → Bool) → ((w : ℕ) → w < 2 ^ 18 → p w ≡ true → q w ≡ true) → HoldsMore count p → HoldsMore count q
more_along count p q along more = record {
  words = more.words;
  once = more.once;
  are_held = λ w h. along w (lists_word 0 more.words w more.once h) (more.are_held w h);
  more = more.more;
}

pub held_by_both : (v : Value) (w : ℕ) → held_by_either value_meaning v v w ≡ value_held v w
held_by_both v w = or_self (value_held v w)

pub set_in : (v : Value) (words outer : WordSet) → AreGathered (held_by_either value_meaning v v) (Some words)
    → list_all (lists outer.list) words.list ≡ true → AreAllIn (value_held v) (lists outer.list)
set_in v words outer gathered all w is held =
    all_listed (lists outer.list) words.list all w (sym (gathered w is) ∙ held_by_both v w ∙ held)

pub in_set : (v : Value) (words outer : WordSet) → AreGathered (held_by_either value_meaning v v) (Some words)
    → AreAllIn (value_held v) (lists outer.list) → list_all (lists outer.list) words.list ≡ true
in_set v words outer gathered all = listed_all (lists outer.list) words.list
    (λ w h. let is = lists_word 0 words.list w words.ascending h in all w is (sym (held_by_both v w) ∙ gathered w is ∙ h))

pub too_many_in : (v : Value) (outer : WordSet) → AreGathered (held_by_either value_meaning v v) None → AreAllIn (value_held v) (lists outer.list) → ⊥
too_many_in v outer more all = set_few outer
    (more_along 16 (held_by_either value_meaning v v) (lists outer.list) (λ w is h. all w is (sym (held_by_both v w) ∙ h)) more)

-- a word set has every word of another one
pub words_in : (inner outer : WordSet) (all : Bool) → all ≡ list_all (lists outer.list) inner.list
    → IsTrue all ↔ AreAllIn (lists inner.list) (lists outer.list)
words_in inner outer all is = (
  λ h w word held. all_listed (lists outer.list) inner.list (sym is ∙ h) w held,
  λ each. is ∙ listed_all (lists outer.list) inner.list (λ w h. each w (lists_word 0 inner.list w inner.ascending h) h),
)

-- ---- full values and parts

pub full_value : (range : Range) → IsFull range_meaning range → IsFull value_meaning (ByEnds range)
full_value range is = record { kept = refl; every = is.every }

lists_filter : (p : ℕ → Bool) (words : List ℕ) (w : ℕ) → lists (filter p words) w ≡ (lists words w && p w)
lists_filter p [] w = refl
lists_filter p (x ∷ xs) w = by (p x) refl (eqb x w) refl (lists_filter p xs w)
  where
    by : (b : Bool) → p x ≡ b → (e : Bool) → eqb x w ≡ e → lists (filter p xs) w ≡ (lists xs w && p w)
        → lists (filter p (x ∷ xs)) w ≡ (lists (x ∷ xs) w && p w)
    by true is true same rest =
        let chosen : p w ≡ true = subst (λ v. p v ≡ true) (eqb-true x w same) is in
        rw (is, same, chosen) refl
    by true is false same rest = rw (is, same, rest) refl
    by false is true same rest =
        let chosen : p w ≡ false = subst (λ v. p v ≡ false) (eqb-true x w same) is in
        rw (is, same, rest, chosen) (and-false (lists xs w))
    by false is false same rest = rw (is, same, rest) refl

pub words_part : (chosen : ℕ → Bool) (set : WordSet) (part : WordSet) → IsFiltered chosen set.list (Some part)
    → IsPart value_meaning chosen (Words set) (Some (Words part))
words_part chosen set part is = (refl, λ w word. ap (λ ws. lists ws w) is ∙ lists_filter chosen set.list w)

pub no_words_part : (chosen : ℕ → Bool) (set : WordSet) → IsFiltered chosen set.list None → IsPart value_meaning chosen (Words set) None
no_words_part chosen set is w word held =
    let none : lists (filter chosen set.list) w ≡ false = ap (λ ws. lists ws w) is in
    sym (ap (λ b. b && chosen w) held) ∙ sym (lists_filter chosen set.list w) ∙ none

-- the words of a set between two values are those that a range has: of that range these are the words of all
module _ (chosen : ℕ → Bool) (all : Range) (full : IsFull range_meaning all) (set : WordSet) where
  inside_is : (inside : Range) → IsPart range_meaning chosen all (Some inside) → (w : ℕ) → w < 2 ^ 18 → lies_between (range_ends inside) w ≡ chosen w
  inside_is inside is w word = is.1 w word ∙ ap (λ (b : Bool). b && chosen w) (full.every w word)

  pub words_inside : (inside : Range) (part : WordSet) → IsPart range_meaning chosen all (Some inside)
      → IsFiltered (lies_between (range_ends inside)) set.list (Some part) → IsPart value_meaning chosen (Words set) (Some (Words part))
  words_inside inside part is filtered =
      part_as value_meaning (lies_between (range_ends inside)) chosen (inside_is inside is) (Words set) (Some (Words part))
      (words_part (lies_between (range_ends inside)) set part filtered)

  pub no_words_inside : (inside : Range) → IsPart range_meaning chosen all (Some inside)
      → IsFiltered (lies_between (range_ends inside)) set.list None → IsPart value_meaning chosen (Words set) None
  no_words_inside inside is filtered =
      part_as value_meaning (lies_between (range_ends inside)) chosen (inside_is inside is) (Words set) None
      (no_words_part (lies_between (range_ends inside)) set filtered)

  pub none_inside : IsPart range_meaning chosen all None → IsPart value_meaning chosen (Words set) None
  none_inside is w word held = is w word (full.every w word)

-- ---- joins

pub joined_few : (left right : Value) (set : WordSet) → AreGathered (held_by_either value_meaning left right) (Some set)
    → IsJoin value_meaning left right (Words set)
joined_few left right set gathered = record {
  left_within = λ w is h. sym (gathered w is) ∙ rw h refl;
  right_within = λ w is h. sym (gathered w is) ∙ rw h (or-true (value_held left w));
  least = λ other h k w is held. either (value_held left w) w refl (h w is) (k w is) (gathered w is ∙ held);
  few = λ _. refl;
  many = λ more. absurd (set_few set (more_along 16 (held_by_either value_meaning left right) (lists set.list) (λ w is h. sym (gathered w is) ∙ h) more));
  just = λ _ w is. sym (gathered w is);
}
  where
    either : {P : Type 0} (b : Bool) (w : ℕ) → value_held left w ≡ b → (value_held left w ≡ true → P) → (value_held right w ≡ true → P)
        → (value_held left w || value_held right w) ≡ true → P
    either true w is l r held = l is
    either false w is l r held = r (let right_is : (value_held left w || value_held right w) ≡ value_held right w = rw is refl in sym right_is ∙ held)

lesser_above : (x l m : ℕ) → val x ≤ℤ val l → val x ≤ℤ val m → val x ≤ℤ val (lesser l m)
lesser_above x l m h k = grind (arith, ints)

greater_below : (x l m : ℕ) → val l ≤ℤ val x → val m ≤ℤ val x → val (greater l m) ≤ℤ val x
greater_below x l m h k = grind (arith, ints)

pub joined_many : (left right : Value) (range : Range) → range_ends range ≡ hull_of (value_ends left) (value_ends right)
    → HoldsMore 16 (held_by_either value_meaning left right) → IsJoin value_meaning left right (ByEnds range)
joined_many left right range ends_are more = record {
  left_within = λ w is h. ap (λ ends. lies_between ends w) ends_are ∙ left_in w (value_lawful.between left w is h);
  right_within = λ w is h. ap (λ ends. lies_between ends w) ends_are ∙ right_in w (value_lawful.between right w is h);
  least = λ other h k w is held. least_of other h k w (sym (ap (λ ends. lies_between ends w) ends_are) ∙ held);
  few = λ not_more. absurd (not_more more);
  many = λ _. refl;
  just = λ listed. absurd cc;
}
  where
    left_in : (w : ℕ) → IsBetween (value_ends left) w → lies_between (hull_of (value_ends left) (value_ends right)) w ≡ true
    left_in w = lies_wider (value_ends left) (hull_of (value_ends left) (value_ends right)) w
        (lesser_left (value_ends left).least (value_ends right).least) (greater_left (value_ends left).greatest (value_ends right).greatest)

    right_in : (w : ℕ) → IsBetween (value_ends right) w → lies_between (hull_of (value_ends left) (value_ends right)) w ≡ true
    right_in w = lies_wider (value_ends right) (hull_of (value_ends left) (value_ends right)) w
        (lesser_right (value_ends left).least (value_ends right).least) (greater_right (value_ends left).greatest (value_ends right).greatest)

    least_of : (other : Value) → IsWithin value_meaning left other → IsWithin value_meaning right other → (w : ℕ)
        → lies_between (hull_of (value_ends left) (value_ends right)) w ≡ true → value_held other w ≡ true
    least_of (ByEnds r) h k w held =
        let a = lies_from (range_ends r) (value_ends left).least (h (value_ends left).least (value_lawful.least_word left) (value_lawful.least_held left)) in
        let b = lies_to (range_ends r) (value_ends left).greatest (h (value_ends left).greatest (value_lawful.greatest_word left) (value_lawful.greatest_held left)) in
        let c = lies_from (range_ends r) (value_ends right).least (k (value_ends right).least (value_lawful.least_word right) (value_lawful.least_held right)) in
        let d = lies_to (range_ends r) (value_ends right).greatest (k (value_ends right).greatest (value_lawful.greatest_word right) (value_lawful.greatest_held right)) in
        let low = lesser_above r.least (value_ends left).least (value_ends right).least a c in
        let high = greater_below r.greatest (value_ends left).greatest (value_ends right).greatest b d in
        let from = lies_from (hull_of (value_ends left) (value_ends right)) w held in
        let to = lies_to (hull_of (value_ends left) (value_ends right)) w held in
        lies_inside (range_ends r) w (omega (arith, ints)) (omega (arith, ints))
    least_of (Words s) h k w held = absurd (set_few s (more_along 16 (held_by_either value_meaning left right) (lists s.list)
        (λ v is either. in_either (value_held left v) v refl (h v is) (k v is) either) more))
      where
        in_either : (b : Bool) (v : ℕ) → value_held left v ≡ b → (value_held left v ≡ true → lists s.list v ≡ true)
            → (value_held right v ≡ true → lists s.list v ≡ true) → (value_held left v || value_held right v) ≡ true → lists s.list v ≡ true
        in_either true v is l r either = l is
        in_either false v is l r either = r (let right_is : (value_held left v || value_held right v) ≡ value_held right v = rw is refl in sym right_is ∙ either)

-- ---- answers

pub interval_value : (operation : Operation) (a_ends m_ends : Ends) (range : Range) → IsInterval range_meaning operation a_ends m_ends range
    → IsInterval value_meaning operation a_ends m_ends (ByEnds range)
interval_value operation a_ends m_ends range is = record { none = is.none; hull = is.hull; kept = refl }

answer_value : (operation : Operation) (candidates : Ends → Ends → List Operands) (a_ends m_ends : Ends) (answer : Result Range Operands) (result : Result Value Operands)
    → Answers range_meaning operation candidates a_ends m_ends answer → IsRangedAnswer answer result → Answers value_meaning operation candidates a_ends m_ends result
answer_value operation candidates a_ends m_ends (Ok range) result is same =
    subst (λ (r : Result Value Operands). Answers value_meaning operation candidates a_ends m_ends r) (sym same) (interval_value operation a_ends m_ends range is)
answer_value operation candidates a_ends m_ends (Err e) result is same =
    subst (λ (r : Result Value Operands). Answers value_meaning operation candidates a_ends m_ends r) (sym same) is

pub answers_of_spans : (operation : Operation) (candidates : Ends → Ends → List Operands) (a m a_ends m_ends : Ends) → a ≡ a_ends → m ≡ m_ends
    → (answer : Result Range Operands) (result : Result Value Operands)
    → Answers range_meaning operation candidates a m answer → IsRangedAnswer answer result → Answers value_meaning operation candidates a_ends m_ends result
answers_of_spans operation candidates a m a_ends m_ends h k answer result is same =
    answer_value operation candidates a_ends m_ends answer result
    (subst (λ ends. Answers range_meaning operation candidates a_ends ends answer) k (subst (λ ends. Answers range_meaning operation candidates ends m answer) h is)) same
