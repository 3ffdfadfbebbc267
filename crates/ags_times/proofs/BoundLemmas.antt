-- The bounds so far.
use Rattle.std.proofs.Common.{◌≡◌, ℕ, ◌+◌, ◌-◌, ◌<◌, ◌≤◌, Bool, true, false, refl, sym, ap, ◌∙◌, subst, ⊎_elim, List, [], ◌∷◌, ◌++◌, length, reverse, get_or, Option, Some, None, arith, nat_lt}
use Rattle.std.specs.Prelude.{All, IfSome, unwrap_or, ◌==◌, ◌||◌}
use Rattle.std.specs.List.{list_any, filter_map}
use Rattle.std.specs.Option.{is_some}
use Rattle.std.proofs.lemmas.List.{ext_get_or, get_or-map, length-map}
use Rattle.std.proofs.lemmas.Bool.{cases_lt}
use Rattle.std.proofs.lemmas.Bool.Decides.{nat_tests}
use Rattle.std.proofs.Math.ListN.{get_or-eq_default}
use Rattle.std.proofs.lemmas.List.Elements.{All-nil, All-cons, All-head, All-tail}
use Rattle.std.proofs.lemmas.List.Folds.{list_any-append}
use Rattle.ags_statements.proofs.ReadLemmas.{chosen_reversed, reverse-more}
use Rattle.ags_times.specs.Budget.{IsTime, bound_of, bounds_where}
use Rattle.ags_times.specs.Gathering.{Gathered, IsAmong}
use Rattle.ags_times.specs.Text.{AreBounds, row_bound, has_row}
use Rattle.ags_times.specs.declared.lines.RowBound.{RowBound}
use Rattle.ags_times.specs.declared.lines.TimesLine.{TimesLine}
use Rattle.ags_times.specs.declared.lines.TimesLine.TheVariants.{End}

-- ---- a list turned round

all_apart : {A : Type 0} (P : A → Type 0) (xs ys : List A) → All P (xs ++ ys) → All P xs × All P ys
all_apart P [] ys all = (All-nil P, all)
all_apart P (x ∷ xs) ys all =
    let rest = all_apart P xs ys (All-tail P x (xs ++ ys) all) in (All-cons P x xs (All-head P x (xs ++ ys) all) rest.0, rest.1)

all_reversed : {A : Type 0} (P : A → Type 0) (xs : List A) → All P (reverse xs) → All P xs
all_reversed P [] all = All-nil P
all_reversed P (x ∷ xs) all =
    let apart = all_apart P (reverse xs) (x ∷ []) (rw (reverse-more x xs) at all) in All-cons P x xs (All-head P x [] apart.1) (all_reversed P xs apart.0)

or_turned : (one other : Bool) → (one || (other || false)) ≡ (other || one)
or_turned true true = refl
or_turned true false = refl
or_turned false true = refl
or_turned false false = refl

any_reversed : {A : Type 0} (p : A → Bool) (xs : List A) → list_any p (reverse xs) ≡ list_any p xs
any_reversed p [] = refl
any_reversed p (x ∷ xs) =
    ap (λ l. list_any p l) (reverse-more x xs) ∙ list_any-append p (reverse xs) (x ∷ []) ∙ or_turned (list_any p (reverse xs)) (p x) ∙ ap (λ (found : Bool). p x || found) (any_reversed p xs)

-- ---- a number that no row has

no_row : (rows number : ℕ) (its : List RowBound) → (number == 0 || nat_lt rows number) ≡ true → All (λ (bound : RowBound). IsAmong rows bound.row) its
    → list_any (λ (bound : RowBound). bound.row == number) its ≡ false
no_row rows number [] out are = refl
no_row rows number (bound ∷ its) out are =
    let one = All-head (λ (bound : RowBound). IsAmong rows bound.row) bound its are in
    let first = one.first in
    let last = one.last in
    let other : (bound.row == number) ≡ false = grind (arith, nat_tests, out, first, last) in
    rw (other, no_row rows number its out (All-tail (λ (bound : RowBound). IsAmong rows bound.row) bound its are)) refl

pub not_named : (bounds : List (Option ℕ)) (ended : Bool) (before : List TimesLine) (number : ℕ) → Gathered bounds ended before → (number == 0 || nat_lt (length bounds) number) ≡ true
    → has_row before number ≡ false
not_named bounds ended before number g out = no_row (length bounds) number (filter_map row_bound before) out g.among

-- ---- the bounds, where every line is gathered

bound_at : (bounds : List (Option ℕ)) (number bound : ℕ) → IsAmong (length bounds) number → get_or bounds (number - 1) None ≡ Some bound → bound_of (bounds_where bounds) number ≡ bound
bound_at bounds number bound among is =
    let first = among.first in
    let last = among.last in
    get_or-map (λ (found : Option ℕ). unwrap_or found 20000) bounds (number - 1) None 0 (omega (arith, first, last)) ∙ rw is refl

all_at : (bounds : List (Option ℕ)) (its : List RowBound) → All (λ (bound : RowBound). IsAmong (length bounds) bound.row) its
    → All (λ (bound : RowBound). get_or bounds (bound.row - 1) None ≡ Some bound.bound) its → All (λ (bound : RowBound). bound_of (bounds_where bounds) bound.row ≡ bound.bound) its
all_at bounds its among are = λ k d inside.
    bound_at bounds (get_or its k d).row (get_or its k d).bound (among k d inside) (are k d inside)

none_there : (found : Option ℕ) → is_some found ≡ false → found ≡ None
none_there None is = refl
none_there (Some bound) is = absurd cc

the_cycle : (bounds : List (Option ℕ)) (number : ℕ) → 1 ≤ number → number ≤ length bounds → is_some (get_or bounds (number - 1) None) ≡ false
    → bound_of (bounds_where bounds) number ≡ 20000
the_cycle bounds number first last none =
    get_or-map (λ (found : Option ℕ). unwrap_or found 20000) bounds (number - 1) None 0 (omega (arith, first, last))
    ∙ rw (none_there (get_or bounds (number - 1) None) none) refl

pub all_stated : (bounds : List (Option ℕ)) (ended : Bool) (lines : List TimesLine) → Gathered bounds ended (reverse lines) → AreBounds (length bounds) lines (bounds_where bounds)
all_stated bounds ended lines g =
    let turned : filter_map row_bound (reverse lines) ≡ reverse (filter_map row_bound lines) = chosen_reversed row_bound lines in
    let among = all_reversed (λ (bound : RowBound). IsAmong (length bounds) bound.row) (filter_map row_bound lines) (rw turned at g.among) in
    let stated = all_reversed (λ (bound : RowBound). get_or bounds (bound.row - 1) None ≡ Some bound.bound) (filter_map row_bound lines) (rw turned at g.stated) in
    record {
      count = length-map bounds (λ (bound : Option ℕ). unwrap_or bound 20000);
      stated = all_at bounds (filter_map row_bound lines) among stated;
      others = λ number first last none.
          let position : number - 1 < length bounds = omega (arith, first, last) in
          let next : number - 1 + 1 ≡ number = omega (arith, first) in
          let noted : is_some (get_or bounds (number - 1) None) ≡ has_row (reverse lines) number = subst (λ (n : ℕ). is_some (get_or bounds (number - 1) None) ≡ has_row (reverse lines) n) next (g.noted (number - 1) position) in
          let same : has_row (reverse lines) number ≡ has_row lines number =
          ap (λ (l : List RowBound). list_any (λ (bound : RowBound). bound.row == number) l) turned ∙ any_reversed (λ (bound : RowBound). bound.row == number) (filter_map row_bound lines) in
          the_cycle bounds number first last (noted ∙ same ∙ none);
    }

-- ---- END

pub with_end : (bounds : List (Option ℕ)) (ended : Bool) (before : List TimesLine) → Gathered bounds ended before → Gathered bounds true (End ∷ before)
with_end bounds ended before g = record { stated = g.stated; noted = g.noted; among = g.among; times = g.times; ended_is = refl }

-- ---- a text has one budget

-- the bounds are one where each row has one bound
same_bounds : (rows : ℕ) (one other : List ℕ) → length one ≡ rows → length other ≡ rows → ((number : ℕ) → 1 ≤ number → number ≤ rows → bound_of one number ≡ bound_of other number) → one ≡ other
same_bounds rows one other first second same =
    ext_get_or 0 one other (first ∙ sym second) (λ position inside.
    let next : position + 1 - 1 ≡ position = omega arith in
    subst (λ (n : ℕ). get_or one n 0 ≡ get_or other n 0) next (same (position + 1) (omega arith) (omega (arith, inside, first))))

module _ (rows : ℕ) (lines : List TimesLine) (one other : List ℕ) (first : AreBounds rows lines one) (second : AreBounds rows lines other) where
  in_lines : (its : List RowBound) → All (λ (bound : RowBound). bound_of one bound.row ≡ bound.bound) its → All (λ (bound : RowBound). bound_of other bound.row ≡ bound.bound) its
      → (number : ℕ) → list_any (λ (bound : RowBound). bound.row == number) its ≡ true → bound_of one number ≡ bound_of other number
  in_lines [] are also number found = absurd cc
  in_lines (bound ∷ its) are also number found = by_first (bound.row == number) refl
      (in_lines its (All-tail (λ (b : RowBound). bound_of one b.row ≡ b.bound) bound its are) (All-tail (λ (b : RowBound). bound_of other b.row ≡ b.bound) bound its also) number)
    where
      by_first : (test : Bool) → (bound.row == number) ≡ test → (list_any (λ (bound : RowBound). bound.row == number) its ≡ true → bound_of one number ≡ bound_of other number)
          → bound_of one number ≡ bound_of other number
      by_first true is later =
          let same : bound.row ≡ number = grind (arith, nat_tests, is) in
          subst (λ (n : ℕ). bound_of one n ≡ bound_of other n) same
          (All-head (λ (b : RowBound). bound_of one b.row ≡ b.bound) bound its are ∙ sym (All-head (λ (b : RowBound). bound_of other b.row ≡ b.bound) bound its also))
      by_first false is later = later (rw is at found)

  pub one_budget : one ≡ other
  one_budget = same_bounds rows one other first.count second.count (λ number from to. by_name number from to (has_row lines number) refl)
    where
      by_name : (number : ℕ) → 1 ≤ number → number ≤ rows → (found : Bool) → has_row lines number ≡ found → bound_of one number ≡ bound_of other number
      by_name number from to true found = in_lines (filter_map row_bound lines) first.stated second.stated number found
      by_name number from to false none = first.others number from to none ∙ sym (second.others number from to none)

-- ---- each bound is at most the cycle

time_most : (found : Option ℕ) → IfSome found IsTime → unwrap_or found 20000 ≤ 20000
time_most None is = omega arith
time_most (Some bound) is = is.most

pub never_above : (stated : List (Option ℕ)) → All (λ (bound : Option ℕ). IfSome bound IsTime) stated → (number : ℕ) → bound_of (bounds_where stated) number ≤ 20000
never_above stated are number = ⊎_elim
    (λ inside. subst (λ (n : ℕ). n ≤ 20000) (sym (get_or-map (λ (found : Option ℕ). unwrap_or found 20000) stated (number - 1) None 0 inside))
    (time_most (get_or stated (number - 1) None) (are (number - 1) None inside)))
    (λ outside.
    let same : length (bounds_where stated) ≡ length stated = length-map stated (λ (found : Option ℕ). unwrap_or found 20000) in
    subst (λ (n : ℕ). n ≤ 20000) (sym (get_or-eq_default (bounds_where stated) 0 (omega (arith, outside, same)))) (omega arith))
    (cases_lt (number - 1) (length stated))
