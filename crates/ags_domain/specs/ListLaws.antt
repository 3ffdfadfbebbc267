-- Lists of words in ascending number: what is left of one, its words that a test chooses, and its ends.
use Rattle.std.proofs.Common.{◌⊎◌, inl, inr, ⊎_elim, ℤ, ◌≤ℤ◌, ◌≡◌, ℕ, suc, ◌+◌, ◌<◌, ◌≤◌, ◌^◌, Bool, true, false, refl, sym, ap, ◌∙◌, subst, arith, List, [], ◌∷◌, ◌++◌, length, take, drop, get_or, add-one, drop-cons}
use Rattle.std.specs.Prelude.{◌&&◌, ◌||◌, nat_le, nat_lt, eqb, cond, neg_ℤ}
use Rattle.std.proofs.Math.Bool.{or-false, or_assoc}
use Rattle.std.proofs.lemmas.List.Elements.{filter_more}
use Rattle.std.specs.List.{filter}
use Rattle.std.proofs.lemmas.Bool.Decides.{nat_tests}
use Rattle.std.proofs.lemmas.Int.{ints}
use Rattle.std.proofs.lemmas.Bool.{cases_lt}
use Rattle.ags_word.specs.Word.{val}
use Rattle.ags_domain.specs.WordSet.{ascends_from, lists}
use Rattle.ags_domain.specs.Range.{lesser, greater}
use Rattle.ags_domain.specs.SetOf.{least_from, greatest_from, least_of, greatest_of}

pub and_left : (a b : Bool) → (a && b) ≡ true → a ≡ true
and_left true b h = refl
and_left false b h = h

pub and_right : (a b : Bool) → (a && b) ≡ true → b ≡ true
and_right true b h = h
and_right false b h = absurd cc

pub ascends_head : (from word : ℕ) (words : List ℕ) → ascends_from from (word ∷ words) ≡ true → from ≤ word
ascends_head from word words h = let first = and_left (nat_le from word) (nat_lt word (2 ^ 18) && ascends_from (word + 1) words) h in grind (arith, nat_tests)

pub ascends_word : (from word : ℕ) (words : List ℕ) → ascends_from from (word ∷ words) ≡ true → word < 2 ^ 18
ascends_word from word words h =
    let rest = and_right (nat_le from word) (nat_lt word (2 ^ 18) && ascends_from (word + 1) words) h in
    let first = and_left (nat_lt word (2 ^ 18)) (ascends_from (word + 1) words) rest in
    grind (arith, nat_tests)

pub ascends_tail : (from word : ℕ) (words : List ℕ) → ascends_from from (word ∷ words) ≡ true → ascends_from (word + 1) words ≡ true
ascends_tail from word words h =
    let rest = and_right (nat_le from word) (nat_lt word (2 ^ 18) && ascends_from (word + 1) words) h in
    and_right (nat_lt word (2 ^ 18)) (ascends_from (word + 1) words) rest

pub ascends_cons : (from word : ℕ) (words : List ℕ) → from ≤ word → word < 2 ^ 18 → ascends_from (word + 1) words ≡ true → ascends_from from (word ∷ words) ≡ true
ascends_cons from word words h k rest =
    let first : nat_le from word ≡ true = grind (arith, nat_tests) in
    let second : nat_lt word (2 ^ 18) ≡ true = grind (arith, nat_tests) in
    rw (first, second, rest) refl

-- a list that ascends from a number on ascends from a lower one
pub ascends_lower : (from lower : ℕ) (words : List ℕ) → lower ≤ from → ascends_from from words ≡ true → ascends_from lower words ≡ true
ascends_lower from lower [] h k = refl
ascends_lower from lower (word ∷ words) h k =
    let head = ascends_head from word words k in
    ascends_cons lower word words (omega arith) (ascends_word from word words k) (ascends_tail from word words k)

eqb_not : (a b : ℕ) → a < b → eqb b a ≡ false
eqb_not a b h = grind (arith, nat_tests)

-- no number below where a list begins stands in it
pub lists_below : (from : ℕ) (words : List ℕ) (v : ℕ) → ascends_from from words ≡ true → v < from → lists words v ≡ false
lists_below from [] v h k = refl
lists_below from (word ∷ words) v h k =
    let head = ascends_head from word words h in
    let not_it : eqb word v ≡ false = eqb_not v word (omega arith) in
    let rest = lists_below (word + 1) words v (ascends_tail from word words h) (omega arith) in
    rw (not_it, rest) refl

pub lists_head : (word : ℕ) (words : List ℕ) → lists (word ∷ words) word ≡ true
lists_head word words = let is : eqb word word ≡ true = grind (arith, nat_tests) in rw is refl

pub lists_append : (xs : List ℕ) (y v : ℕ) → lists (xs ++ y ∷ []) v ≡ (lists xs v || eqb y v)
lists_append [] y v = or-false (eqb y v)
lists_append (x ∷ xs) y v = ap (λ b. eqb x v || b) (lists_append xs y v) ∙ sym (or_assoc (eqb x v) (lists xs v) (eqb y v))

-- ---- words that a test chooses

pub ascends_filter : (p : ℕ → Bool) (from : ℕ) (words : List ℕ) → ascends_from from words ≡ true → ascends_from from (filter p words) ≡ true
ascends_filter p from [] h = refl
ascends_filter p from (word ∷ words) h = by (p word) refl (ascends_filter p (word + 1) words (ascends_tail from word words h))
  where
    by : (b : Bool) → p word ≡ b → ascends_from (word + 1) (filter p words) ≡ true → ascends_from from (filter p (word ∷ words)) ≡ true
    by true is rest = rw is (ascends_cons from word (filter p words) (ascends_head from word words h) (ascends_word from word words h) rest)
    by false is rest = rw is (ascends_lower (word + 1) from (filter p words) (let head = ascends_head from word words h in omega arith) rest)

pub length_filter : (p : ℕ → Bool) (words : List ℕ) → length (filter p words) ≤ length words
length_filter p [] = omega arith
length_filter p (word ∷ words) = by (p word) refl (length_filter p words)
  where
    by : (b : Bool) → p word ≡ b → length (filter p words) ≤ length words → length (filter p (word ∷ words)) ≤ length (word ∷ words)
    by true is rest = rw is (omega arith)
    by false is rest = rw is (omega arith)

-- ---- one element further

pub drop_at : (items : List ℕ) (i x : ℕ) → i < length items → x ≡ get_or items i x → drop i items ≡ x ∷ drop (i + 1) items
drop_at items i x h is = drop-cons items i x h ∙ rw (add-one) (ap (λ y. y ∷ drop (suc i) items) (sym is))

pub ascends_again : (word : ℕ) (words : List ℕ) → ascends_from 0 (word ∷ words) ≡ true → ascends_from word (word ∷ words) ≡ true
ascends_again word words h = ascends_cons word word words (omega arith) (ascends_word 0 word words h) (ascends_tail 0 word words h)

pub skipped : (word v : ℕ) (words : List ℕ) → word < v → lists (word ∷ words) v ≡ lists words v
skipped word v words h = let not_it : eqb word v ≡ false = grind (arith, nat_tests) in rw not_it refl

pub filter_at : (p : ℕ → Bool) (items : List ℕ) (i x : ℕ) (b : Bool) → i < length items → x ≡ get_or items i x → p x ≡ b
    → filter p (take (i + 1) items) ≡ filter p (take i items) ++ cond b (x ∷ []) []
filter_at p items i x b h is picked = filter_more p items i x h ∙ rw (← is, picked) refl

-- ---- members

eqb_is : (a b : ℕ) → eqb a b ≡ true → a ≡ b
eqb_is a b h = grind (arith, nat_tests)

-- a member is the first one, or one of the rest
pub one_of : {P : Type 0} (x : ℕ) (xs : List ℕ) (w : ℕ) → lists (x ∷ xs) w ≡ true → (x ≡ w → P) → (lists xs w ≡ true → P) → P
one_of {P} x xs w h first rest = by (eqb x w) refl
  where
    by : (b : Bool) → eqb x w ≡ b → P
    by true is = first (eqb_is x w is)
    by false is = rest (let later : lists (x ∷ xs) w ≡ lists xs w = rw is refl in sym later ∙ h)

pub lists_word : (from : ℕ) (words : List ℕ) (w : ℕ) → ascends_from from words ≡ true → lists words w ≡ true → w < 2 ^ 18
lists_word from [] w h k = absurd cc
lists_word from (x ∷ xs) w h k = one_of x xs w k
    (λ e. subst (λ (v : ℕ). v < 2 ^ 18) e (ascends_word from x xs h))
    (λ r. lists_word (x + 1) xs w (ascends_tail from x xs h) r)

pub lists_from : (from : ℕ) (words : List ℕ) (w : ℕ) → ascends_from from words ≡ true → lists words w ≡ true → from ≤ w
lists_from from [] w h k = absurd cc
lists_from from (x ∷ xs) w h k = one_of x xs w k
    (λ e. subst (λ (v : ℕ). from ≤ v) e (ascends_head from x xs h))
    (λ r. let above = lists_from (x + 1) xs w (ascends_tail from x xs h) r in let head = ascends_head from x xs h in omega arith)

pub lists_rest : (x : ℕ) (xs : List ℕ) (w : ℕ) → lists xs w ≡ true → lists (x ∷ xs) w ≡ true
lists_rest x xs w h = by (eqb x w)
  where
    by : (b : Bool) → (b || lists xs w) ≡ true
    by true = refl
    by false = h

-- ---- the words of least and of greatest value

pub lesser_left : (x y : ℕ) → val (lesser x y) ≤ℤ val x
lesser_left x y = grind (arith, ints)

pub lesser_right : (x y : ℕ) → val (lesser x y) ≤ℤ val y
lesser_right x y = grind (arith, ints)

pub greater_left : (x y : ℕ) → val x ≤ℤ val (greater x y)
greater_left x y = grind (arith, ints)

pub greater_right : (x y : ℕ) → val y ≤ℤ val (greater x y)
greater_right x y = grind (arith, ints)

pub lesser_one : (x y : ℕ) → (lesser x y ≡ x) ⊎ (lesser x y ≡ y)
lesser_one x y = grind (arith, ints)

pub greater_one : (x y : ℕ) → (greater x y ≡ x) ⊎ (greater x y ≡ y)
greater_one x y = grind (arith, ints)

-- a walk over a list keeps of each two words one, of no greater key than either
record IsWalk (from : ℕ → List ℕ → ℕ) (kept : ℕ → ℕ → ℕ) (key : ℕ → ℤ) : Type 0 where
  at_end : (x : ℕ) → from x [] ≡ x
  further : (x y : ℕ) (ys : List ℕ) → from x (y ∷ ys) ≡ from (kept x y) ys
  one : (x y : ℕ) → (kept x y ≡ x) ⊎ (kept x y ≡ y)
  left : (x y : ℕ) → key (kept x y) ≤ℤ key x
  right : (x y : ℕ) → key (kept x y) ≤ℤ key y

module _ (from : ℕ → List ℕ → ℕ) (kept : ℕ → ℕ → ℕ) (key : ℕ → ℤ) (walk : IsWalk from kept key) where
  walk_first : (x : ℕ) (words : List ℕ) → key (from x words) ≤ℤ key x
  walk_first x [] = rw (walk.at_end x) (omega (arith, ints))
  walk_first x (y ∷ ys) = rw (walk.further x y ys) (omega (arith, ints, walk_first (kept x y) ys, walk.left x y))

  walk_each : (x : ℕ) (words : List ℕ) (w : ℕ) → lists words w ≡ true → key (from x words) ≤ℤ key w
  walk_each x [] w h = absurd cc
  walk_each x (y ∷ ys) w h = rw (walk.further x y ys) (one_of y ys w h
      (λ e. subst (λ v. key (from (kept x y) ys) ≤ℤ key v) e (omega (arith, ints, walk_first (kept x y) ys, walk.right x y)))
      (λ r. walk_each (kept x y) ys w r))

  walk_in : (x : ℕ) (words : List ℕ) → (from x words ≡ x) ⊎ (lists words (from x words) ≡ true)
  walk_in x [] = inl (walk.at_end x)
  walk_in x (y ∷ ys) = rw (walk.further x y ys) (⊎_elim
      (λ e. ⊎_elim (λ f. inl (e ∙ f)) (λ f. inr (subst (λ v. lists (y ∷ ys) v ≡ true) (sym (e ∙ f)) (lists_head y ys))) (walk.one x y))
      (λ r. inr (lists_rest y ys (from (kept x y) ys) r))
      (walk_in (kept x y) ys))

  walk_listed : (x : ℕ) (xs : List ℕ) → lists (x ∷ xs) (from x (x ∷ xs)) ≡ true
  walk_listed x xs = ⊎_elim (λ e. subst (λ v. lists (x ∷ xs) v ≡ true) (sym e) (lists_head x xs)) (λ r. r) (walk_in x (x ∷ xs))

least_walk : IsWalk least_from lesser val
least_walk = record { at_end = λ x. refl; further = λ x y ys. refl; one = lesser_one; left = lesser_left; right = lesser_right }

greatest_walk : IsWalk greatest_from greater (λ w. neg_ℤ (val w))
greatest_walk = record {
  at_end = λ x. refl;
  further = λ x y ys. refl;
  one = greater_one;
  left = λ x y. omega (arith, ints, greater_left x y);
  right = λ x y. omega (arith, ints, greater_right x y);
}

pub least_listed : (words : List ℕ) → 0 < length words → lists words (least_of words) ≡ true
least_listed [] h = absurd (omega arith)
least_listed (x ∷ xs) h = walk_listed least_from lesser val least_walk x xs

pub greatest_listed : (words : List ℕ) → 0 < length words → lists words (greatest_of words) ≡ true
greatest_listed [] h = absurd (omega arith)
greatest_listed (x ∷ xs) h = walk_listed greatest_from greater (λ w. neg_ℤ (val w)) greatest_walk x xs

pub least_each : (words : List ℕ) (w : ℕ) → lists words w ≡ true → val (least_of words) ≤ℤ val w
least_each [] w h = absurd cc
least_each (x ∷ xs) w h = walk_each least_from lesser val least_walk x (x ∷ xs) w h

pub greatest_each : (words : List ℕ) (w : ℕ) → lists words w ≡ true → val w ≤ℤ val (greatest_of words)
greatest_each [] w h = absurd cc
greatest_each (x ∷ xs) w h = omega (arith, ints, walk_each greatest_from greater (λ w. neg_ℤ (val w)) greatest_walk x (x ∷ xs) w h)

-- ---- lists of the same words

-- a list whose words all stand in another one isn't longer
pub no_longer : (from : ℕ) (xs ys : List ℕ) → ascends_from from xs ≡ true → ascends_from from ys ≡ true
    → ((w : ℕ) → lists ys w ≡ true → lists xs w ≡ true) → length ys ≤ length xs
no_longer from [] [] h k all = omega arith
no_longer from [] (y ∷ ys) h k all = absurd (let there = all y (lists_head y ys) in cc)
no_longer from (x ∷ xs) [] h k all = omega arith
no_longer from (x ∷ xs) (y ∷ ys) h k all = one_of x xs y (all y (lists_head y ys))
    (λ e. let tail = ascends_tail from y ys k in
    let tail' : ascends_from (x + 1) ys ≡ true = subst (λ (v : ℕ). ascends_from (v + 1) ys ≡ true) (sym e) tail in
    let rest = no_longer (x + 1) xs ys (ascends_tail from x xs h) tail'
    (λ w r. let above = lists_from (x + 1) ys w tail' r in sym (skipped x w xs (omega arith)) ∙ all w (lists_rest y ys w r)) in
    omega arith)
    (λ r. let above = lists_from (x + 1) xs y (ascends_tail from x xs h) r in
    let ys_from : ascends_from (x + 1) (y ∷ ys) ≡ true = ascends_cons (x + 1) y ys above (ascends_word from y ys k) (ascends_tail from y ys k) in
    let rest = no_longer (x + 1) xs (y ∷ ys) (ascends_tail from x xs h) ys_from
    (λ w m. let later = lists_from (x + 1) (y ∷ ys) w ys_from m in sym (skipped x w xs (omega arith)) ∙ all w m) in
    omega arith)

pub list_same : (from : ℕ) (xs ys : List ℕ) → ascends_from from xs ≡ true → ascends_from from ys ≡ true
    → ((w : ℕ) → w < 2 ^ 18 → lists xs w ≡ lists ys w) → xs ≡ ys
list_same from [] [] h k same = refl
list_same from [] (y ∷ ys) h k same = absurd (let there = same y (ascends_word from y ys k) in let head = lists_head y ys in cc)
list_same from (x ∷ xs) [] h k same = absurd (let there = same x (ascends_word from x xs h) in let head = lists_head x xs in cc)
list_same from (x ∷ xs) (y ∷ ys) h k same =
    let x_word = ascends_word from x xs h in
    let y_word = ascends_word from y ys k in
    let x_there : lists (y ∷ ys) x ≡ true = sym (same x x_word) ∙ lists_head x xs in
    let y_there : lists (x ∷ xs) y ≡ true = same y y_word ∙ lists_head y ys in
    let xs_again : ascends_from x (x ∷ xs) ≡ true = ascends_cons x x xs (omega arith) x_word (ascends_tail from x xs h) in
    let ys_again : ascends_from y (y ∷ ys) ≡ true = ascends_cons y y ys (omega arith) y_word (ascends_tail from y ys k) in
    let up = lists_from y (y ∷ ys) x ys_again x_there in
    let down = lists_from x (x ∷ xs) y xs_again y_there in
    let first : x ≡ y = omega arith in
    let ys_tail : ascends_from (x + 1) ys ≡ true = subst (λ (v : ℕ). ascends_from (v + 1) ys ≡ true) (sym first) (ascends_tail from y ys k) in
    let rest : xs ≡ ys = list_same (x + 1) xs ys (ascends_tail from x xs h) ys_tail
    (λ w is. ⊎_elim
    (λ l. lists_below (x + 1) xs w (ascends_tail from x xs h) l ∙ sym (lists_below (x + 1) ys w ys_tail l))
    (λ l. sym (skipped x w xs (omega arith)) ∙ same w is ∙ skipped y w ys (omega arith))
    (cases_lt w (x + 1))) in
    ap (λ v. v ∷ xs) first ∙ ap (λ ws. y ∷ ws) rest
