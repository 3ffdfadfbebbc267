-- Ranges and values keep the laws of a domain.
use Rattle.std.proofs.Common.{◌≡◌, ℕ, ◌<◌, ◌≤◌, ◌^◌, true, sym, ap, ◌∙◌, subst, arith, List, length, ℤ, ◌≤ℤ◌}
use Rattle.std.proofs.lemmas.Int.{ints}
use Rattle.std.proofs.Props.{props}
use Rattle.ags_word.specs.Word.{val}
use Rattle.ags_word.proofs.WordLaws.{val_same}
use Rattle.ags_domain.specs.WordSet.{ascends_from, lists, HoldsMore}
use Rattle.ags_domain.specs.Domain.{Ends, IsBetween, Ranged, Listed, IsMeaning, HoldSame}
use Rattle.ags_domain.specs.Range.{range_ends, range_meaning, lies_between}
use Rattle.ags_domain.specs.SetOf.{least_of, greatest_of}
use Rattle.ags_domain.specs.Value.{value_meaning, value_ends, value_held, value_form}
use Rattle.ags_domain.specs.ListLaws.{lists_word, least_listed, greatest_listed, least_each, greatest_each, no_longer, list_same}
use Rattle.ags_domain.specs.declared.ranges.Range.{Range}
use Rattle.ags_domain.specs.declared.word_sets.WordSet.{WordSet}
use Rattle.ags_domain.specs.declared.values.Value.{Value}
use Rattle.ags_domain.specs.declared.values.Value.TheVariants.{Range as ByEnds, Words}

-- ---- ranges

pub lies_inside : (ends : Ends) (w : ℕ) → val ends.least ≤ℤ val w → val w ≤ℤ val ends.greatest → lies_between ends w ≡ true
lies_inside ends w h k = grind (arith, ints)

pub lies_from : (ends : Ends) (w : ℕ) → lies_between ends w ≡ true → val ends.least ≤ℤ val w
lies_from ends w h = grind (arith, ints)

pub lies_to : (ends : Ends) (w : ℕ) → lies_between ends w ≡ true → val w ≤ℤ val ends.greatest
lies_to ends w h = grind (arith, ints)

is_at_most_itself : (n : ℤ) → n ≤ℤ n
is_at_most_itself n = omega (arith, ints)

pub least_lies : (r : Range) → lies_between (range_ends r) r.least ≡ true
least_lies r = lies_inside (range_ends r) r.least (is_at_most_itself (val r.least)) r.ordered

pub greatest_lies : (r : Range) → lies_between (range_ends r) r.greatest ≡ true
greatest_lies r = lies_inside (range_ends r) r.greatest r.ordered (is_at_most_itself (val r.greatest))

abbrev range_of : (l g : ℕ) → l < 2 ^ 18 → g < 2 ^ 18 → val l ≤ℤ val g → Range
range_of l g a b c = record { least = l; greatest = g; least_word = a; greatest_word = b; ordered = c }

facts_same : (l g : ℕ) (a a' : l < 2 ^ 18) (b b' : g < 2 ^ 18) (c c' : val l ≤ℤ val g) → range_of l g a b c ≡ range_of l g a' b' c'
facts_same l g a a' b b' c c' =
    let low : IsProp (l < 2 ^ 18) = hlevel props in
    let high : IsProp (g < 2 ^ 18) = hlevel props in
    let order : IsProp (val l ≤ℤ val g) = hlevel props in
    ap (λ x. range_of l g x b c) (low a a') ∙ ap (λ x. range_of l g a' x c) (high b b') ∙ ap (λ x. range_of l g a' b' x) (order c c')

ends_same : (l m : ℕ) → l ≡ m → (g h : ℕ) → g ≡ h → (a : l < 2 ^ 18) (b : g < 2 ^ 18) (c : val l ≤ℤ val g)
    (a' : m < 2 ^ 18) (b' : h < 2 ^ 18) (c' : val m ≤ℤ val h) → range_of l g a b c ≡ range_of m h a' b' c'
ends_same l m e g h f = subst
    (λ (m : ℕ). (a : l < 2 ^ 18) (b : g < 2 ^ 18) (c : val l ≤ℤ val g) (a' : m < 2 ^ 18) (b' : h < 2 ^ 18) (c' : val m ≤ℤ val h) → range_of l g a b c ≡ range_of m h a' b' c')
    e
    (subst
    (λ (h : ℕ). (a : l < 2 ^ 18) (b : g < 2 ^ 18) (c : val l ≤ℤ val g) (a' : l < 2 ^ 18) (b' : h < 2 ^ 18) (c' : val l ≤ℤ val h) → range_of l g a b c ≡ range_of l h a' b' c')
    f (λ a b c a' b' c'. facts_same l g a a' b b' c c'))

-- ranges of the same ends are one
pub range_same : (r s : Range) → r.least ≡ s.least → r.greatest ≡ s.greatest → r ≡ s
range_same r s h k = ends_same r.least s.least h r.greatest s.greatest k r.least_word r.greatest_word r.ordered s.least_word s.greatest_word s.ordered

same_held : (r s : Range) → ((w : ℕ) → w < 2 ^ 18 → lies_between (range_ends r) w ≡ lies_between (range_ends s) w) → r ≡ s
same_held r s h =
    let a : lies_between (range_ends s) r.least ≡ true = sym (h r.least r.least_word) ∙ least_lies r in
    let b : lies_between (range_ends s) r.greatest ≡ true = sym (h r.greatest r.greatest_word) ∙ greatest_lies r in
    let c : lies_between (range_ends r) s.least ≡ true = h s.least s.least_word ∙ least_lies s in
    let d : lies_between (range_ends r) s.greatest ≡ true = h s.greatest s.greatest_word ∙ greatest_lies s in
    let a' = lies_from (range_ends s) r.least a in
    let b' = lies_to (range_ends s) r.greatest b in
    let c' = lies_from (range_ends r) s.least c in
    let d' = lies_to (range_ends r) s.greatest d in
    range_same r s (val_same r.least s.least r.least_word s.least_word (omega (arith, ints))) (val_same r.greatest s.greatest r.greatest_word s.greatest_word (omega (arith, ints)))

pub range_lawful : IsMeaning Range range_meaning
range_lawful = record {
  least_word = λ d. d.least_word;
  greatest_word = λ d. d.greatest_word;
  least_held = least_lies;
  greatest_held = greatest_lies;
  between = λ d w is h. record { is_word = is; from = lies_from (range_ends d) w h; to = lies_to (range_ends d) w h };
  ranged = λ d w is between. lies_inside (range_ends d) w between.from between.to;
  listed = λ d is more. cc;
  one = λ d e is same. same_held d e same;
}

-- ---- values

abbrev set_of : (list : List ℕ) → ascends_from 0 list ≡ true → 0 < length list → length list ≤ 16 → WordSet
set_of list a b c = record { list = list; ascending = a; some = b; few = c }

set_facts_same : (list : List ℕ) (a a' : ascends_from 0 list ≡ true) (b b' : 0 < length list) (c c' : length list ≤ 16) → set_of list a b c ≡ set_of list a' b' c'
set_facts_same list a a' b b' c c' =
    let ascending : IsProp (ascends_from 0 list ≡ true) = hlevel props in
    let some : IsProp (0 < length list) = hlevel props in
    let few : IsProp (length list ≤ 16) = hlevel props in
    ap (λ x. set_of list x b c) (ascending a a') ∙ ap (λ x. set_of list a' x c) (some b b') ∙ ap (λ x. set_of list a' b' x) (few c c')

lists_same : (one two : List ℕ) → one ≡ two → (a : ascends_from 0 one ≡ true) (b : 0 < length one) (c : length one ≤ 16)
    (a' : ascends_from 0 two ≡ true) (b' : 0 < length two) (c' : length two ≤ 16) → set_of one a b c ≡ set_of two a' b' c'
lists_same one two e = subst
    (λ (two : List ℕ). (a : ascends_from 0 one ≡ true) (b : 0 < length one) (c : length one ≤ 16)
    (a' : ascends_from 0 two ≡ true) (b' : 0 < length two) (c' : length two ≤ 16) → set_of one a b c ≡ set_of two a' b' c')
    e (λ a b c a' b' c'. set_facts_same one a a' b b' c c')

-- word sets of the same words are one
pub set_same : (s t : WordSet) → ((w : ℕ) → w < 2 ^ 18 → lists s.list w ≡ lists t.list w) → s ≡ t
set_same s t same = lists_same s.list t.list (list_same 0 s.list t.list s.ascending t.ascending same) s.ascending s.some s.few t.ascending t.some t.few

pub set_few : (s : WordSet) → HoldsMore 16 (lists s.list) → ⊥
set_few s more =
    let less = no_longer 0 s.list more.words s.ascending more.once more.are_held in
    let few = s.few in
    let above = more.more in
    absurd (omega arith)

least_is_word : (d : Value) → (value_ends d).least < 2 ^ 18
least_is_word (ByEnds r) = r.least_word
least_is_word (Words s) = lists_word 0 s.list (least_of s.list) s.ascending (least_listed s.list s.some)

greatest_is_word : (d : Value) → (value_ends d).greatest < 2 ^ 18
greatest_is_word (ByEnds r) = r.greatest_word
greatest_is_word (Words s) = lists_word 0 s.list (greatest_of s.list) s.ascending (greatest_listed s.list s.some)

least_is_held : (d : Value) → value_held d (value_ends d).least ≡ true
least_is_held (ByEnds r) = least_lies r
least_is_held (Words s) = least_listed s.list s.some

greatest_is_held : (d : Value) → value_held d (value_ends d).greatest ≡ true
greatest_is_held (ByEnds r) = greatest_lies r
greatest_is_held (Words s) = greatest_listed s.list s.some

held_between : (d : Value) (w : ℕ) → w < 2 ^ 18 → value_held d w ≡ true → IsBetween (value_ends d) w
held_between (ByEnds r) w is h = record { is_word = is; from = lies_from (range_ends r) w h; to = lies_to (range_ends r) w h }
held_between (Words s) w is h = record { is_word = is; from = least_each s.list w h; to = greatest_each s.list w h }

between_held : (d : Value) (w : ℕ) → value_form d ≡ Ranged → IsBetween (value_ends d) w → value_held d w ≡ true
between_held (ByEnds r) w form between = lies_inside (range_ends r) w between.from between.to
between_held (Words s) w form between = absurd cc

listed_few : (d : Value) → value_form d ≡ Listed → HoldsMore 16 (value_held d) → ⊥
listed_few (ByEnds r) form more = cc
listed_few (Words s) form more = set_few s more

value_one : (d e : Value) → value_form d ≡ value_form e → HoldSame value_meaning d e → d ≡ e
value_one (ByEnds r) (ByEnds s) form same = ap ByEnds (same_held r s same)
value_one (ByEnds r) (Words s) form same = absurd cc
value_one (Words r) (ByEnds s) form same = absurd cc
value_one (Words r) (Words s) form same = ap Words (set_same r s same)

pub value_lawful : IsMeaning Value value_meaning
value_lawful = record {
  least_word = least_is_word;
  greatest_word = greatest_is_word;
  least_held = least_is_held;
  greatest_held = greatest_is_held;
  between = held_between;
  ranged = between_held;
  listed = listed_few;
  one = value_one;
}
