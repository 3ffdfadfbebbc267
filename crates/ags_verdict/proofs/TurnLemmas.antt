-- The cases of a row stand in the order in which they are judged. Behind the law on them are `in_turn`, `each_once`; the crates above
-- cite:
--     cases_in_turn    each case precedes each that stands after it
--     earlier_hold     what holds of the cases before one holds of each case that precedes it
use Rattle.std.proofs.Common.{◌≡◌, ℕ, ◌+◌, ◌<◌, ◌≤◌, Bool, true, false, refl, sym, subst, ◌∙◌, inl, inr, arith, List, [], ◌∷◌, ◌++◌, map, get_or}
use Rattle.std.specs.Prelude.{◌≢◌, if◌then◌else◌}
use Rattle.std.specs.List.{AllByRecursion, AllPairs, flat_map}
use Rattle.std.proofs.lemmas.List.Elements.{All-from_recursion}
use Rattle.std.proofs.lemmas.List.Kept.{AllPairs-cons}
use Rattle.ags_domain.specs.WordSet.{ascends_from}
use Rattle.ags_domain.specs.ListLaws.{ascends_head, ascends_tail}
use Rattle.ags_row.specs.Flag.{has_flag, indicator_number}
use Rattle.ags_row.specs.declared.rows.Row.{Row}
use Rattle.ags_safe.specs.Failing.{Precedes}
use Rattle.ags_verdict.specs.RowCase.{RowCase, numbers_of, flagged, indicators, with_index, with_word, cases_in}
use Rattle.ags_verdict.proofs.EachLemmas.{append_each, map_each, each_of, each_if, map_if, flat_if}

-- ---- lists of which each element stands in its turn

-- each element stands before each later one
abbrev pub InTurn : {X : Type 0} → (X → X → Type 0) → List X → Type 0
InTurn Before [] = Unit {0}
InTurn Before (x ∷ xs) = AllByRecursion (Before x) xs × InTurn Before xs

module _ {Y : Type 0} (Before : Y → Y → Type 0) where
  append_turn : (xs ys : List Y) → InTurn Before xs → InTurn Before ys → AllByRecursion (λ x. AllByRecursion (Before x) ys) xs → InTurn Before (xs ++ ys)
  append_turn [] ys left right across = right
  append_turn (x ∷ xs) ys left right across = (append_each (Before x) xs ys left.0 across.0, append_turn xs ys left.1 right across.1)

  module _ {X : Type 0} (Earlier : X → X → Type 0) where
    map_turn : (f : X → Y) → ((a b : X) → Earlier a b → Before (f a) (f b)) → (xs : List X) → InTurn Earlier xs → InTurn Before (map f xs)
    map_turn f keeps [] turn = tt
    map_turn f keeps (x ∷ xs) turn = (map_if (Before (f x)) (Earlier x) f (keeps x) xs turn.0, map_turn f keeps xs turn.1)

    -- lists whose elements have a mark each, of which an earlier one stands before a later one
    module _ (Marked : X → Y → Type 0) (f : X → List Y) (marked : (x : X) → AllByRecursion (Marked x) (f x)) (turn_of : (x : X) → InTurn Before (f x))
        (keeps : (a b : X) (x y : Y) → Earlier a b → Marked a x → Marked b y → Before x y) where
      flat_turn : (xs : List X) → InTurn Earlier xs → InTurn Before (flat_map f xs)
      flat_turn [] turn = tt
      flat_turn (x ∷ xs) turn = append_turn (f x) (flat_map f xs) (turn_of x) (flat_turn xs turn.1)
          (each_if (λ y. AllByRecursion (Before y) (flat_map f xs)) (Marked x)
          (λ y is. flat_if (Before y) (Earlier x) f (λ b before. each_if (Before y) (Marked b) (λ z at. keeps x b y z before is at) (f b) (marked b)) xs turn.0)
          (f x) (marked x))

-- what holds of those before one holds of each that stands before it in the order
module _ {X : Type 0} (Before : X → X → Type 0) (never : (x y : X) → Before x y → Before y x → ⊥) (P : X → Type 0) (one : X) where
  pub earlier_hold : (before behind : List X) → InTurn Before (before ++ (one ∷ behind)) → AllByRecursion P before
      → AllByRecursion (λ x. Before x one → P x) (before ++ (one ∷ behind))
  earlier_hold [] behind turn each = (λ h. absurd (never one one h h), each_if (λ x. Before x one → P x) (Before one) (λ x later h. absurd (never one x later h)) behind turn.0)
  earlier_hold (x ∷ before) behind turn each = (λ h. each.0, earlier_hold before behind turn.1 each.1)

-- ---- numbers and indicators in their turns

from_each : (from : ℕ) (words : List ℕ) → ascends_from from words ≡ true → AllByRecursion (λ w. from ≤ w) words
from_each from [] ascends = tt
from_each from (word ∷ words) ascends =
    let head = ascends_head from word words ascends in
    (head, each_if (λ w. from ≤ w) (λ w. word + 1 ≤ w) (λ w above. omega (arith, above, head)) words (from_each (word + 1) words (ascends_tail from word words ascends)))

words_turn : (from : ℕ) (words : List ℕ) → ascends_from from words ≡ true → InTurn ◌<◌ words
words_turn from [] ascends = tt
words_turn from (word ∷ words) ascends =
    let tail = ascends_tail from word words ascends in
    (each_if (λ w. word < w) (λ w. word + 1 ≤ w) (λ w above. omega (arith, above)) words (from_each (word + 1) words tail), words_turn (word + 1) words tail)

flags_from : (number : ℕ) (flags : List Bool) → AllByRecursion (λ m. number ≤ m) (flagged number flags)
flags_from number [] = tt
flags_from number (true ∷ flags) = (omega arith, each_if (λ m. number ≤ m) (λ m. number + 1 ≤ m) (λ m above. omega (arith, above)) (flagged (number + 1) flags) (flags_from (number + 1) flags))
flags_from number (false ∷ flags) = each_if (λ m. number ≤ m) (λ m. number + 1 ≤ m) (λ m above. omega (arith, above)) (flagged (number + 1) flags) (flags_from (number + 1) flags)

flags_turn : (number : ℕ) (flags : List Bool) → InTurn ◌<◌ (flagged number flags)
flags_turn number [] = tt
flags_turn number (true ∷ flags) = (
  each_if (λ m. number < m) (λ m. number + 1 ≤ m) (λ m above. omega (arith, above)) (flagged (number + 1) flags) (flags_from (number + 1) flags),
  flags_turn (number + 1) flags,
)
flags_turn number (false ∷ flags) = flags_turn (number + 1) flags

abbrev IsLess : Bool → Bool → Type 0
IsLess a b = indicator_number a < indicator_number b

two_turn : (clear set : Bool) → InTurn IsLess ((if clear then false ∷ [] else []) ++ (if set then true ∷ [] else []))
two_turn true true = ((omega arith, tt), (tt, tt))
two_turn true false = (tt, tt)
two_turn false true = (tt, tt)
two_turn false false = tt

-- ---- cases in their turns

abbrev pub StandsBefore : RowCase → RowCase → Type 0
StandsBefore c d = Precedes (numbers_of c) (numbers_of d)

pub one_way : (xs ys : List ℕ) → Precedes xs ys → Precedes ys xs → ⊥
one_way [] [] p r = p
one_way [] (y ∷ ys) p r = r
one_way (x ∷ xs) [] p r = p
one_way (x ∷ xs) (y ∷ ys) (inl p) (inl r) = omega (arith, p, r)
one_way (x ∷ xs) (y ∷ ys) (inl p) (inr r) = omega (arith, p, r.0)
one_way (x ∷ xs) (y ∷ ys) (inr p) (inl r) = omega (arith, p.0, r)
one_way (x ∷ xs) (y ∷ ys) (inr p) (inr r) = one_way xs ys p.1 r.1

abbrev HasWord : ℕ → RowCase → Type 0
HasWord word c = c.word ≡ word

abbrev HasIndex : ℕ → ℕ → RowCase → Type 0
HasIndex word index c = (c.word ≡ word) × (c.index ≡ index)

module _ (set : List Bool) (set_turn : InTurn IsLess set) (word : ℕ) where
  index_marked : (index : ℕ) → AllByRecursion (HasIndex word index) (with_index word index set)
  index_marked index = map_each (HasIndex word index) (λ indicator. record { word = word; index = index; indicator = indicator }) set
      (each_of (λ indicator. HasIndex word index (record { word = word; index = index; indicator = indicator })) (λ indicator. (refl, refl)) set)

  index_turn : (index : ℕ) → InTurn StandsBefore (with_index word index set)
  index_turn index = map_turn StandsBefore IsLess (λ indicator. record { word = word; index = index; indicator = indicator })
      (λ a b less. inr (refl, inr (refl, inl less))) set set_turn

  index_keeps : (a b : ℕ) (c d : RowCase) → a < b → HasIndex word a c → HasIndex word b d → StandsBefore c d
  index_keeps a b c d less p r = inr (p.0 ∙ sym r.0, inl (omega (arith, less, p.1, r.1)))

  word_turn : (indices : List ℕ) → InTurn ◌<◌ indices → InTurn StandsBefore (with_word word indices set)
  word_turn indices turn = flat_turn StandsBefore ◌<◌ (HasIndex word) (λ index. with_index word index set) index_marked index_turn index_keeps indices turn

  word_marked : (indices : List ℕ) → AllByRecursion (HasWord word) (with_word word indices set)
  word_marked indices = flat_if (HasWord word) (λ index. Unit {0}) (λ index. with_index word index set)
      (λ index any. each_if (HasWord word) (HasIndex word index) (λ c is. is.0) (with_index word index set) (index_marked index)) indices
      (each_of (λ index. Unit {0}) (λ index. tt) indices)

word_keeps : (a b : ℕ) (c d : RowCase) → a < b → HasWord a c → HasWord b d → StandsBefore c d
word_keeps a b c d less p r = inl (omega (arith, less, p, r))

pub cases_in_turn : {D : Type 0} (row : Row D) (words : List ℕ) → ascends_from 0 words ≡ true → InTurn StandsBefore (cases_in row words)
cases_in_turn row words ascends =
    let set_turn = two_turn (has_flag row.v 0) (has_flag row.v 1) in
    flat_turn StandsBefore ◌<◌ HasWord (λ word. with_word word (flagged 0 row.x) (indicators row.v))
    (λ word. word_marked (indicators row.v) set_turn word (flagged 0 row.x))
    (λ word. word_turn (indicators row.v) set_turn word (flagged 0 row.x) (flags_turn 0 row.x))
    word_keeps words (words_turn 0 words ascends)

-- ---- as pairs

pairs_in_turn : {X : Type 0} (Before : X → X → Type 0) (xs : List X) → InTurn Before xs → AllPairs Before xs
pairs_in_turn Before [] turn = λ i j d less inside. absurd (omega (arith, less, inside))
pairs_in_turn Before (x ∷ xs) turn = AllPairs-cons Before x xs (All-from_recursion (Before x) xs turn.0) (pairs_in_turn Before xs turn.1)

never_before_itself : (xs : List ℕ) → Precedes xs xs → ⊥
never_before_itself xs before = one_way xs xs before before

pub in_turn : {D : Type 0} (row : Row D) (words : List ℕ) → ascends_from 0 words ≡ true → AllPairs StandsBefore (cases_in row words)
in_turn row words ascends = pairs_in_turn StandsBefore (cases_in row words) (cases_in_turn row words ascends)

pub each_once : {D : Type 0} (row : Row D) (words : List ℕ) → ascends_from 0 words ≡ true → AllPairs (λ one other. one ≢ other) (cases_in row words)
each_once row words ascends = λ i j d less inside same. never_before_itself (numbers_of (get_or (cases_in row words) j d))
    (subst (λ (c : RowCase). StandsBefore c (get_or (cases_in row words) j d)) same (in_turn row words ascends i j d less inside))
