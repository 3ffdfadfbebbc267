-- Tables of what is stated at each address, and lists of entries of distinct addresses.
use Rattle.std.proofs.Common.{◌≡◌, ◌≢◌, ℕ, ◌<◌, Bool, true, false, ◌||◌, ◌==◌, refl, sym, ap, ◌∙◌, ⊎_elim, List, [], ◌∷◌, ◌++◌, length, reverse, get_or, set, Option, Some, None, arith}
use Rattle.std.specs.Prelude.{is_some, replicate, if◌then◌else◌}
use Rattle.std.specs.List.{list_any, filter_map}
use Rattle.std.proofs.lemmas.Bool.{cases_lt}
use Rattle.std.proofs.lemmas.Bool.Decides.{nat_tests}
use Rattle.std.proofs.lemmas.List.{get_or-set_same, get_or-set_other, get_or_past, get_or-replicate, length-replicate, reverse-append, append-nil}
use Rattle.std.proofs.lemmas.List.Elements.{filter_map-append}
use Rattle.std.proofs.lemmas.List.Sorted.{IsPermutation-reverse, list_any-IsPermutation}
use Rattle.ags_domain.specs.declared.values.Value.{Value}
use Rattle.ags_certtext.specs.declared.statements.Entry.{Entry}
use Rattle.ags_certtext.specs.Statement.{has_address, value_at}
use Rattle.ags_certread.specs.Before.{Distinct, IsTable}
use Rattle.ags_certread.specs.Gathering.{stated}

pub each_same : {E : Type 0} (count : ℕ) (entry : E) (place : ℕ) → get_or (replicate count entry) place entry ≡ entry
each_same count entry place = ⊎_elim
    (λ below. get_or-replicate count place entry entry below)
    (λ above. get_or_past (replicate count entry) place entry (rw (length-replicate count entry) above))
    (cases_lt place count)

pub same_of : (a b : ℕ) → (a == b) ≡ true → a ≡ b
same_of a b h = grind (arith, nat_tests)

pub other_of : (a b : ℕ) → (a == b) ≡ false → b ≢ a
other_of a b h = grind (arith, nat_tests)

pub apart : (a b : ℕ) → a ≢ b → (a == b) ≡ false
apart a b other = grind (arith, nat_tests)

-- an element set in a list, read by a test of its place
pub set_read : {E : Type 0} (list : List E) (place other : ℕ) (entry default : E) → place < length list
    → (b : Bool) → (place == other) ≡ b → get_or (set list place entry) other default ≡ (if b then entry else get_or list other default)
set_read list place other entry default inside true is =
    ap (λ (n : ℕ). get_or (set list place entry) n default) (sym (same_of place other is)) ∙ get_or-set_same list place entry default inside
set_read list place other entry default inside false is = get_or-set_other list place other entry default (other_of place other is)

-- ---- reversed lists

pub reverse-more : {X : Type 0} (x : X) (xs : List X) → reverse (x ∷ xs) ≡ reverse xs ++ x ∷ []
reverse-more x xs = reverse-append (x ∷ []) xs

pub any_reversed : {X : Type 0} (p : X → Bool) (xs : List X) → list_any p (reverse xs) ≡ list_any p xs
any_reversed p xs = sym (list_any-IsPermutation p xs (reverse xs) (IsPermutation-reverse xs))

kept_last : {X Y : Type 0} (h : X → Option Y) (x : X) (xs : List X) (chosen : Option Y) → h x ≡ chosen
    → reverse (filter_map h xs) ++ filter_map h (x ∷ []) ≡ reverse (filter_map h (x ∷ xs))
kept_last h x xs None is = rw is (append-nil (reverse (filter_map h xs)))
kept_last h x xs (Some y) is = rw is (sym (reverse-more y (filter_map h xs)))

pub chosen_reversed : {X Y : Type 0} (h : X → Option Y) (xs : List X) → filter_map h (reverse xs) ≡ reverse (filter_map h xs)
chosen_reversed h [] = refl
chosen_reversed {X} {Y} h (x ∷ xs) =
    ap (λ (l : List X). filter_map h l) (reverse-more x xs)
    ∙ filter_map-append h (reverse xs) (x ∷ [])
    ∙ ap (λ (l : List Y). l ++ filter_map h (x ∷ [])) (chosen_reversed h xs)
    ∙ kept_last h x xs (h x) refl

-- ---- entries of distinct addresses

none_at : (found : List Entry) (address : ℕ) → has_address found address ≡ false → value_at found address ≡ None
none_at [] address none = refl
none_at (entry ∷ others) address none = by_test (entry.address == address) refl none (λ too. none_at others address too)
  where
    by_test : (b : Bool) → (entry.address == address) ≡ b → ((entry.address == address) || has_address others address) ≡ false
        → (has_address others address ≡ false → value_at others address ≡ None) → value_at (entry ∷ others) address ≡ None
    by_test true is none again = let clash : true ≡ false = rw is at none in absurd cc
    by_test false is none again = rw is (again (rw is at none))

found_in_front : (front behind : List Entry) (address : ℕ) → has_address front address ≡ true → value_at (front ++ behind) address ≡ value_at front address
found_in_front [] behind address has = absurd cc
found_in_front (entry ∷ others) behind address has = by_test (entry.address == address) refl (λ too. found_in_front others behind address too)
  where
    by_test : (b : Bool) → (entry.address == address) ≡ b
        → (has_address others address ≡ true → value_at (others ++ behind) address ≡ value_at others address)
        → value_at (entry ∷ (others ++ behind)) address ≡ value_at (entry ∷ others) address
    by_test true is again = rw is refl
    by_test false is again = rw is (again (rw is at has))

found_behind : (front behind : List Entry) (address : ℕ) → has_address front address ≡ false → value_at (front ++ behind) address ≡ value_at behind address
found_behind [] behind address none = refl
found_behind (entry ∷ others) behind address none = by_test (entry.address == address) refl (λ too. found_behind others behind address too)
  where
    by_test : (b : Bool) → (entry.address == address) ≡ b → (has_address others address ≡ false → value_at (others ++ behind) address ≡ value_at behind address)
        → value_at (entry ∷ (others ++ behind)) address ≡ value_at behind address
    by_test true is again = let clash : true ≡ false = rw is at none in absurd cc
    by_test false is again = rw is (again (rw is at none))

other_address : (entry : Entry) (others : List Entry) (address : ℕ) → has_address others entry.address ≡ false → has_address others address ≡ true
    → (entry.address == address) ≡ false
other_address entry others address none has =
    apart entry.address address (λ same. let clash : false ≡ true = sym none ∙ ap (λ (a : ℕ). has_address others a) same ∙ has in absurd cc)

pub value_reversed : (found : List Entry) (address : ℕ) → Distinct found → value_at (reverse found) address ≡ value_at found address
value_reversed [] address distinct = refl
value_reversed (entry ∷ others) address distinct =
    ap (λ (l : List Entry). value_at l address) (reverse-more entry others) ∙ by_test (value_reversed others address distinct.1) (has_address others address) refl
  where
    has_reversed : has_address (reverse others) address ≡ has_address others address
    has_reversed = any_reversed (λ (e : Entry). e.address == address) others

    alone : (b : Bool) → (entry.address == address) ≡ b → has_address others address ≡ false → value_at (entry ∷ []) address ≡ value_at (entry ∷ others) address
    alone true is none = rw is refl
    alone false is none = rw is (sym (none_at others address none))

    by_test : value_at (reverse others) address ≡ value_at others address → (b : Bool) → has_address others address ≡ b
        → value_at (reverse others ++ entry ∷ []) address ≡ value_at (entry ∷ others) address
    by_test again true has =
        found_in_front (reverse others) (entry ∷ []) address (has_reversed ∙ has) ∙ again
        ∙ rw (other_address entry others address distinct.0 has) refl
    by_test again false none =
        found_behind (reverse others) (entry ∷ []) address (has_reversed ∙ none) ∙ alone (entry.address == address) refl none

-- ---- tables

pub IsTable-none : (count : ℕ) → IsTable [] (replicate count None)
IsTable-none count = record {
  at = λ address. each_same {E = Option Value} count None address;
  has = λ address. rw (each_same {E = Option Value} count None address) refl;
  distinct = tt;
}

module _ (found : List Entry) (table : List (Option Value)) (entry : Entry) (is : IsTable found table) (inside : entry.address < length table)
    (once : is_some (stated table entry.address) ≡ false) (some : is_some entry.value ≡ true) where
  at_more : (address : ℕ) (b : Bool) → (entry.address == address) ≡ b → stated (set table entry.address entry.value) address ≡ value_at (entry ∷ found) address
  at_more address true same = set_read table entry.address address entry.value None inside true same ∙ rw same refl
  at_more address false same = set_read table entry.address address entry.value None inside false same ∙ rw same (is.at address)

  has_more : (address : ℕ) (b : Bool) → (entry.address == address) ≡ b
      → is_some (stated (set table entry.address entry.value) address) ≡ has_address (entry ∷ found) address
  has_more address true same = ap (λ (v : Option Value). is_some v) (set_read table entry.address address entry.value None inside true same) ∙ rw same some
  has_more address false same = ap (λ (v : Option Value). is_some v) (set_read table entry.address address entry.value None inside false same) ∙ rw same (is.has address)

  pub IsTable-more : IsTable (entry ∷ found) (set table entry.address entry.value)
  IsTable-more = record {
    at = λ address. at_more address (entry.address == address) refl;
    has = λ address. has_more address (entry.address == address) refl;
    distinct = (sym (is.has entry.address) ∙ once, is.distinct);
  }
