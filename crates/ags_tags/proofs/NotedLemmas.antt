-- Lists of what entries state, by numbers that name their positions: one more entry, all of them, and that they are of one list.
use Rattle.std.proofs.Common.{◌≡◌, ◌≢◌, ℕ, ◌<◌, Bool, true, false, refl, sym, ap, ◌∙◌, subst, List, [], ◌∷◌, length, reverse, get_or, arith}
use Rattle.std.specs.Prelude.{All, ◌==◌, ◌||◌, set, replicate}
use Rattle.std.specs.List.{list_any}
use Rattle.std.proofs.lemmas.Bool.Decides.{nat_tests}
use Rattle.std.proofs.lemmas.List.{ext_get_or, get_or-replicate, get_or-set_same, get_or-set_other, length-replicate, length-set, reverse-reverse}
use Rattle.std.proofs.lemmas.List.Elements.{All-nil, All-cons, All-head, All-tail}
use Rattle.std.proofs.lemmas.List.Sorted.{All-permutation, IsPermutation-reverse, list_any-IsPermutation}
use Rattle.ags_tags.specs.Gathering.{Naming, Noted, has_number}

-- ---- tests

is_same : (a b : ℕ) → (a == b) ≡ true → a ≡ b
is_same a b h = grind (arith, nat_tests)

is_other : (a b : ℕ) → (a == b) ≡ false → a ≢ b
is_other a b h = grind (arith, nat_tests)

tells_other : (a b : ℕ) → a ≢ b → (a == b) ≡ false
tells_other a b h = grind (arith, nat_tests)

-- ---- a list turned round

all_turned : {X : Type 0} (P : X → Type 0) (xs : List X) → All P (reverse xs) → All P xs
all_turned {X} P xs all =
    subst (λ (l : List X). All P l) (reverse-reverse xs) (All-permutation P (reverse xs) (reverse (reverse xs)) (IsPermutation-reverse (reverse xs)) all)

any_turned : {X : Type 0} (p : X → Bool) (xs : List X) → list_any p (reverse xs) ≡ list_any p xs
any_turned p xs = sym (list_any-IsPermutation p xs (reverse xs) (IsPermutation-reverse xs))

-- ---- numbers that name positions

-- A number that names one of so many positions is that of its position, and each of them is named by its number.
pub record IsLawful (naming : Naming) : Type 0 where
  pub inside : (count number : ℕ) → naming.Names count number → naming.position number < count
  pub back : (count number : ℕ) → naming.Names count number → naming.number (naming.position number) ≡ number
  pub forth : (position : ℕ) → naming.position (naming.number position) ≡ position
  pub names : (count position : ℕ) → position < count → naming.Names count (naming.number position)

module _ {A E : Type 0} (naming : Naming) (lawful : IsLawful naming) (number_of : E → ℕ) (value : E → A) (default : A) (is_set : A → Bool) where
  -- ---- nothing is stated

  pub noted_nothing : (count : ℕ) → is_set default ≡ false → Noted naming number_of value default is_set [] (replicate count default)
  noted_nothing count unset = record {
    stated = All-nil (λ (entry : E). get_or (replicate count default) (naming.position (number_of entry)) default ≡ value entry);
    noted = λ position inside. ap is_set (get_or-replicate count position default default (subst (λ (n : ℕ). position < n) (length-replicate count default) inside)) ∙ unset;
    among = All-nil (λ (entry : E). naming.Names (length (replicate count default)) (number_of entry));
  }

  -- ---- a position that a number names

  pub noted_at : (its : List E) (list : List A) (number : ℕ) → Noted naming number_of value default is_set its list → naming.Names (length list) number
      → is_set (get_or list (naming.position number) default) ≡ has_number number_of its number
  noted_at its list number noted names =
      noted.noted (naming.position number) (lawful.inside (length list) number names)
      ∙ ap (λ (n : ℕ). has_number number_of its n) (lawful.back (length list) number names)

  -- no entry has a number that none of the positions has
  pub none_named : (its : List E) (count number : ℕ) → (naming.Names count number → ⊥) → All (λ (entry : E). naming.Names count (number_of entry)) its
      → has_number number_of its number ≡ false
  none_named [] count number out among = refl
  none_named (entry ∷ its) count number out among =
      let one = All-head (λ (e : E). naming.Names count (number_of e)) entry its among in
      let other : number_of entry ≢ number = λ same. out (subst (λ (n : ℕ). naming.Names count n) same one) in
      rw (tells_other (number_of entry) number other) (none_named its count number out (All-tail (λ (e : E). naming.Names count (number_of e)) entry its among))

  -- ---- one more entry

  apart : (its : List E) (number : ℕ) → has_number number_of its number ≡ false → All (λ (entry : E). number_of entry ≢ number) its
  apart [] number none = All-nil (λ (entry : E). number_of entry ≢ number)
  apart (entry ∷ its) number none = by_first (number_of entry == number) refl (apart its number)
    where
      by_first : (test : Bool) → (number_of entry == number) ≡ test → (has_number number_of its number ≡ false → All (λ (e : E). number_of e ≢ number) its)
          → All (λ (e : E). number_of e ≢ number) (entry ∷ its)
      by_first true is others = (let clash : true ≡ false = rw is at none in absurd cc)
      by_first false is others = All-cons (λ (e : E). number_of e ≢ number) entry its (is_other (number_of entry) number is) (others (rw is at none))

  module _ (its : List E) (list : List A) (entry : E) (noted : Noted naming number_of value default is_set its list)
      (named : naming.Names (length list) (number_of entry)) (fresh : has_number number_of its (number_of entry) ≡ false) (sets : is_set (value entry) ≡ true) where
    abbrev here : ℕ
    here = naming.position (number_of entry)

    abbrev after : List A
    after = set list here (value entry)

    inside_here : here < length list
    inside_here = lawful.inside (length list) (number_of entry) named

    same_here : get_or after here default ≡ value entry
    same_here = get_or-set_same list here (value entry) default inside_here

    kept : (other : E) → naming.Names (length list) (number_of other) → number_of other ≢ number_of entry
        → get_or list (naming.position (number_of other)) default ≡ value other → get_or after (naming.position (number_of other)) default ≡ value other
    kept other names differs is =
        let positions : naming.position (number_of other) ≢ here = λ same.
        differs (sym (lawful.back (length list) (number_of other) names) ∙ ap naming.number same ∙ lawful.back (length list) (number_of entry) named) in
        get_or-set_other list here (naming.position (number_of other)) (value entry) default positions ∙ is

    each_kept : All (λ (other : E). get_or after (naming.position (number_of other)) default ≡ value other) its
    each_kept = λ k d within. kept (get_or its k d) (noted.among k d within) (apart its (number_of entry) fresh k d within) (noted.stated k d within)

    noted_position : (position : ℕ) (test : Bool) → (number_of entry == naming.number position) ≡ test → position < length list
        → is_set (get_or after position default) ≡ (test || has_number number_of its (naming.number position))
    noted_position position true is within =
        let same : here ≡ position = ap naming.position (is_same (number_of entry) (naming.number position) is) ∙ lawful.forth position in
        ap is_set (subst (λ (n : ℕ). get_or after n default ≡ value entry) same same_here) ∙ sets
    noted_position position false is within =
        let other : position ≢ here = λ same.
        is_other (number_of entry) (naming.number position) is (sym (lawful.back (length list) (number_of entry) named) ∙ ap naming.number (sym same)) in
        ap is_set (get_or-set_other list here position (value entry) default other) ∙ noted.noted position within

    pub noted_more : Noted naming number_of value default is_set (entry ∷ its) after
    noted_more = record {
      stated = All-cons (λ (e : E). get_or after (naming.position (number_of e)) default ≡ value e) entry its same_here each_kept;
      noted = λ position within. noted_position position (number_of entry == naming.number position) refl (subst (λ (n : ℕ). position < n) (length-set list here (value entry)) within);
      among = subst (λ (n : ℕ). All (λ (e : E). naming.Names n (number_of e)) (entry ∷ its)) (sym (length-set list here (value entry)))
          (All-cons (λ (e : E). naming.Names (length list) (number_of e)) entry its named noted.among);
    }

  -- ---- every entry

  -- what is stated, and the default where nothing is
  pub record Whole (its : List E) (list : List A) : Type 0 where
    pub stated : All (λ (entry : E). get_or list (naming.position (number_of entry)) default ≡ value entry) its
    pub others : (number : ℕ) → naming.Names (length list) number → has_number number_of its number ≡ false → get_or list (naming.position number) default ≡ default

  pub whole_of : (its : List E) (list : List A) → ((a : A) → is_set a ≡ false → a ≡ default) → Noted naming number_of value default is_set (reverse its) list → Whole its list
  whole_of its list unset noted = record {
    stated = all_turned (λ (entry : E). get_or list (naming.position (number_of entry)) default ≡ value entry) its noted.stated;
    others = λ number names none.
        unset (get_or list (naming.position number) default)
        (noted_at (reverse its) list number noted names ∙ any_turned (λ (entry : E). number_of entry == number) its ∙ none);
  }

  pub among_of : (its : List E) (list : List A) → Noted naming number_of value default is_set (reverse its) list → All (λ (entry : E). naming.Names (length list) (number_of entry)) its
  among_of its list noted = all_turned (λ (entry : E). naming.Names (length list) (number_of entry)) its noted.among

  -- ---- they are of one list

  module _ (one other : List A) where
    stated_alike : (its : List E) (number : ℕ) → All (λ (entry : E). get_or one (naming.position (number_of entry)) default ≡ value entry) its
        → All (λ (entry : E). get_or other (naming.position (number_of entry)) default ≡ value entry) its → has_number number_of its number ≡ true
        → get_or one (naming.position number) default ≡ get_or other (naming.position number) default
    stated_alike [] number are also found = absurd cc
    stated_alike (entry ∷ its) number are also found = by_first (number_of entry == number) refl (stated_alike its number
        (All-tail (λ (e : E). get_or one (naming.position (number_of e)) default ≡ value e) entry its are)
        (All-tail (λ (e : E). get_or other (naming.position (number_of e)) default ≡ value e) entry its also))
      where
        by_first : (test : Bool) → (number_of entry == number) ≡ test
            → (has_number number_of its number ≡ true → get_or one (naming.position number) default ≡ get_or other (naming.position number) default)
            → get_or one (naming.position number) default ≡ get_or other (naming.position number) default
        by_first true is later =
            let same : number_of entry ≡ number = is_same (number_of entry) number is in
            subst (λ (n : ℕ). get_or one (naming.position n) default ≡ get_or other (naming.position n) default) same
            (All-head (λ (e : E). get_or one (naming.position (number_of e)) default ≡ value e) entry its are
            ∙ sym (All-head (λ (e : E). get_or other (naming.position (number_of e)) default ≡ value e) entry its also))
        by_first false is later = later (rw is at found)

    pub one_whole : (its : List E) → length one ≡ length other → Whole its one → Whole its other → one ≡ other
    one_whole its same first second = ext_get_or default one other same (λ position within.
        subst (λ (n : ℕ). get_or one n default ≡ get_or other n default) (lawful.forth position) (by_number (naming.number position) (lawful.names (length one) position within)
        (lawful.names (length other) position (subst (λ (n : ℕ). position < n) same within)) (has_number number_of its (naming.number position)) refl))
      where
        by_number : (number : ℕ) → naming.Names (length one) number → naming.Names (length other) number → (found : Bool) → has_number number_of its number ≡ found
            → get_or one (naming.position number) default ≡ get_or other (naming.position number) default
        by_number number in_one in_other true found = stated_alike its number first.stated second.stated found
        by_number number in_one in_other false none = first.others number in_one none ∙ sym (second.others number in_other none)
