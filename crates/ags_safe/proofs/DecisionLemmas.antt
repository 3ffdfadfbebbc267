-- What can be decided of rows and posts: inclusion of sets, covering, and holding the start.
use Rattle.std.proofs.Common.{◌≡◌, ℕ, zero, suc, ◌<◌, ◌^◌, Bool, true, false, refl, sym, ap, subst, ◌∙◌, arith, List, [], ◌∷◌, All, ⊎_elim, ℤ, ◌≤ℤ◌}
use Rattle.std.specs.Prelude.{Option, Some, None, IfSome, Any, ◌&&◌}
use Rattle.std.specs.Int.RustNames.{int_le}
use Rattle.std.proofs.lemmas.Int.{ints}
use Rattle.ags_word.specs.Word.{val}
use Rattle.ags_row.specs.declared.links.Link.{Link}
use Rattle.std.proofs.lemmas.Bool.{cases_eq}
use Rattle.ags_domain.specs.Domain.{Meaning, IsWithin}
use Rattle.ags_image.specs.Image.{entry_at}
use Rattle.ags_row.specs.Cover.{post_value, Covers}
use Rattle.ags_row.specs.Flag.{has_flag}
use Rattle.ags_row.specs.Limit.{Limiting}
use Rattle.ags_row.specs.declared.ats.At.{At}
use Rattle.ags_row.specs.declared.posts.Post.{Post}
use Rattle.ags_row.specs.declared.rows.Row.{Row}
use Rattle.ags_safe.specs.Certificate.{Certificate}
use Rattle.ags_safe.specs.Start.{IsFirstWord}
use Rattle.ags_safe.specs.Accepted.{IsFirstHeld, HoldsStart, IsCovered}

-- ---- facts in general

-- what can be decided and can't be refuted is so
pub so_unless : {A : Type 0} → Dec A → ((A → ⊥) → ⊥) → A
so_unless (yes a) h = a
so_unless (no n) h = absurd (h n)

is_true : (b : Bool) → Dec (b ≡ true)
is_true true = yes refl
is_true false = no (λ h. false_true h)
  where
    false_true : false ≡ true → ⊥
    false_true h = cc

are_equal : (m n : ℕ) → Dec (m ≡ n)
are_equal m n = ⊎_elim (λ same. yes same) (λ apart. no apart) (cases_eq m n)

equal_ints : (m n : ℤ) → (int_le m n && int_le n m) ≡ true → m ≡ n
equal_ints m n h =
    let up : m ≤ℤ n = grind (arith, ints, h) in
    let down : n ≤ℤ m = grind (arith, ints, h) in
    omega (arith, ints)

at_most_itself : (n : ℤ) → (int_le n n && int_le n n) ≡ true
at_most_itself n = grind (arith, ints)

both : {A B : Type 0} → Dec A → Dec B → Dec (A × B)
both (yes a) (yes b) = yes (a, b)
both (yes a) (no n) = no (λ p. n p.1)
both (no n) d = no (λ p. n p.0)

if_so : {A B : Type 0} → Dec A → Dec B → Dec (A → B)
if_so d (yes b) = yes (λ a. b)
if_so (yes a) (no n) = no (λ f. n (f a))
if_so (no m) (no n) = yes (λ a. absurd (m a))

carried : {A B : Type 0} → (A → B) → (B → A) → Dec A → Dec B
carried f g (yes a) = yes (f a)
carried f g (no n) = no (λ b. n (g b))

are_equal_ints : (m n : ℤ) → Dec (m ≡ n)
are_equal_ints m n = carried (equal_ints m n) (λ same. subst (λ (k : ℤ). (int_le m k && int_le k m) ≡ true) same (at_most_itself m))
    (is_true (int_le m n && int_le n m))

links_same : (k l : Link) → k.address ≡ l.address → k.offset ≡ l.offset → k ≡ l
links_same k l p r = made k.address l.address k.offset l.offset p r
  where
    made : (a b : ℕ) (m n : ℤ) → a ≡ b → m ≡ n → ◌≡◌ {A = Link} (record { address = a; offset = m }) (record { address = b; offset = n })
    made a b m n p r = cc

has_link : (left : Option Link) (asked : Link) → Dec (left ≡ Some asked)
has_link None asked = no (λ h. cc)
has_link (Some left) asked = carried (λ h. ap (λ (l : Link). Some l) (links_same left asked h.0 h.1)) (λ h. let same : left ≡ asked = cc in (ap (λ (l : Link). l.address) same, ap (λ (l : Link). l.offset) same))
    (both (are_equal left.address asked.address) (are_equal_ints left.offset asked.offset))

of_link : (link : Option Link) (P : Link → Type 0) → ((l : Link) → Dec (P l)) → Dec (IfSome link P)
of_link None P each = yes tt
of_link (Some l) P each = each l

module _ (P : ℕ → Type 0) (each : (n : ℕ) → Dec (P n)) where
  one_more : (bound : ℕ) → Dec ((n : ℕ) → n < bound → P n) → Dec (P bound) → Dec ((n : ℕ) → n < suc bound → P n)
  one_more bound (yes all) (yes last) = yes (λ n below. ⊎_elim (λ same. subst P (sym same) last) (λ apart. all n (omega (arith, apart))) (cases_eq n bound))
  one_more bound (yes all) (no n) = no (λ h. n (h bound (omega arith)))
  one_more bound (no n) d = no (λ h. n (λ m below. h m (omega arith)))

  -- of all numbers below a bound
  all_below : (bound : ℕ) → Dec ((n : ℕ) → n < bound → P n)
  all_below zero = yes (λ n below. absurd (omega arith))
  all_below (suc bound) = one_more bound (all_below bound) (each bound)

module _ {X : Type 0} (P : X → Type 0) (each : (x : X) → Dec (P x)) where
  all_cons : (x : X) (xs : List X) → P x → All P xs → All P (x ∷ xs)
  all_cons x xs first rest zero d inside = first
  all_cons x xs first rest (suc k) d inside = rest k d (omega arith)

  all_step : (x : X) (xs : List X) → Dec (P x) → Dec (All P xs) → Dec (All P (x ∷ xs))
  all_step x xs (yes first) (yes rest) = yes (all_cons x xs first rest)
  all_step x xs (yes first) (no n) = no (λ h. n (λ k d inside. h (suc k) d (omega arith)))
  all_step x xs (no n) d = no (λ h. n (h zero x (omega arith)))

  -- of all elements of a list
  all_of : (xs : List X) → Dec (All P xs)
  all_of [] = yes (λ k d inside. absurd (omega arith))
  all_of (x ∷ xs) = all_step x xs (each x) (all_of xs)

  any_cons : (x : X) (xs : List X) → Any P (x ∷ xs) → (P x → ⊥) → (Any P xs → ⊥) → ⊥
  any_cons x xs (zero, y, inside, is, holds) first rest = first (subst P (sym is) holds)
  any_cons x xs (suc k, y, inside, is, holds) first rest = rest (k, y, omega arith, is, holds)

  any_step : (x : X) (xs : List X) → Dec (P x) → Dec (Any P xs) → Dec (Any P (x ∷ xs))
  any_step x xs (yes first) d = yes (zero, x, omega arith, refl, first)
  any_step x xs (no n) (yes rest) = yes (suc rest.0, rest.1, omega (arith, rest.2), rest.3, rest.4)
  any_step x xs (no n) (no m) = no (λ h. any_cons x xs h n m)

  -- of some element of a list
  any_of : (xs : List X) → Dec (Any P xs)
  any_of [] = no (λ h. absurd (omega (arith, h.2)))
  any_of (x ∷ xs) = any_step x xs (each x) (any_of xs)

-- ---- sets, posts and rows

module _ {D : Type 0} (meaning : Meaning D) where
  within : (inner outer : D) → Dec (IsWithin meaning inner outer)
  within inner outer = all_below (λ w. meaning.held inner w ≡ true → meaning.held outer w ≡ true)
      (λ w. if_so (is_true (meaning.held inner w)) (is_true (meaning.held outer w))) (2 ^ 18)

  covering : (limits : Limiting D) (base : Row D) (post : Post D) (target : Row D) → Dec (Covers meaning target base post limits)
  covering limits base post target = carried
      (λ h. record { location = h.0; a = h.1.0; q = h.1.1.0; index = h.1.1.1.0; clear = h.1.1.1.1.0; set = h.1.1.1.1.1.0; cells = h.1.1.1.1.1.1.0; link = h.1.1.1.1.1.1.1 })
      (λ is. (is.location, (is.a, (is.q, (is.index, (is.clear, (is.set, (is.cells, is.link))))))))
      (both (are_equal target.location post.next) (both (within post.a target.a) (both (within post.q target.q)
      (both (is_true (has_flag target.x post.x)) (both (if_so (is_true post.v0) (is_true (has_flag target.v 0)))
      (both (if_so (is_true post.v1) (is_true (has_flag target.v 1)))
      (both (all_of (λ (at : At D). IsWithin meaning (post_value base limits post at.address) at.value)
      (λ at. within (post_value base limits post at.address) at.value) target.at)
      (of_link target.link (λ (l : Link). post.link ≡ Some l) (has_link post.link)))))))))

  pub is_covered : (cert : Certificate D) (row : Row D) (post : Post D) → Dec (IsCovered meaning cert row post)
  is_covered cert row post = any_of (λ target. Covers meaning target row post cert.limits) (covering cert.limits row post) cert.rows

  first_words_held : (assembled : Option ℕ) (stated : Option D) (value : D) → Dec ((word : ℕ) → IsFirstWord meaning assembled stated word → meaning.held value word ≡ true)
  first_words_held (Some first) stated value = carried
      (λ held word is. ap (λ (w : ℕ). meaning.held value w) is ∙ held) (λ h. h first refl) (is_true (meaning.held value first))
  first_words_held None (Some words) value = carried
      (λ is word among. is word among.0 among.1) (λ h word below held. h word (below, held)) (within words value)
  first_words_held None None value = carried
      (λ held word is. ap (λ (w : ℕ). meaning.held value w) is ∙ held) (λ h. h 0 refl) (is_true (meaning.held value 0))

  each_first_word : (P : ℕ → Type 0) → ((w : ℕ) → Dec (P w)) → (assembled : Option ℕ) (stated : Option D)
      → Dec ((word : ℕ) → IsFirstWord meaning assembled stated word → P word)
  each_first_word P each (Some first) stated = carried (λ holds word is. subst P (sym is) holds) (λ h. h first refl) (each first)
  each_first_word P each None (Some words) = carried (λ all word among. all word among.0 among.1) (λ h word below held. h word (below, held))
      (all_below (λ w. meaning.held words w ≡ true → P w) (λ w. if_so (is_true (meaning.held words w)) (each w)) (2 ^ 18))
  each_first_word P each None None = carried (λ holds word is. subst P (sym is) holds) (λ h. h 0 refl) (each 0)

  holds_start : (image : List (Option ℕ)) (cert : Certificate D) (row : Row D) → Dec (HoldsStart meaning image cert row)
  holds_start image cert row = carried
      (λ h. record { location = h.0; a = h.1.0; q = h.1.1.0; index = h.1.1.1.0; indicator = h.1.1.1.1.0; cells = h.1.1.1.1.1.0; link = h.1.1.1.1.1.1 })
      (λ is. (is.location, (is.a, (is.q, (is.index, (is.indicator, (is.cells, is.link)))))))
      (both (are_equal row.location cert.start) (both (is_true (meaning.held row.a 0)) (both (is_true (meaning.held row.q 0))
      (both (is_true (has_flag row.x 0)) (both (is_true (has_flag row.v 0))
      (both (all_of (λ (at : At D). (word : ℕ) → IsFirstWord meaning (entry_at image at.address) (cert.init at.address) word → meaning.held at.value word ≡ true)
      (λ at. first_words_held (entry_at image at.address) (cert.init at.address) at.value) row.at)
      (of_link row.link (λ (l : Link). (word : ℕ) → IsFirstWord meaning (entry_at image l.address) (cert.init l.address) word → l.offset ≡ val word)
      (λ l. each_first_word (λ word. l.offset ≡ val word) (λ word. are_equal_ints l.offset (val word)) (entry_at image l.address) (cert.init l.address)))))))))

  pub start_is_held : (image : List (Option ℕ)) (cert : Certificate D) → Dec (Any (HoldsStart meaning image cert) cert.rows)
  start_is_held image cert = any_of (HoldsStart meaning image cert) (holds_start image cert) cert.rows

  pub first_held : (limit : D) (assembled : Option ℕ) (stated : Option D) → Dec (IsFirstHeld meaning limit assembled stated)
  first_held limit (Some first) stated = is_true (meaning.held limit first)
  first_held limit None (Some value) = yes tt
  first_held limit None None = is_true (meaning.held limit 0)
