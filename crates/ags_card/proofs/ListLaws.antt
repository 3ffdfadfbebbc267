-- Lists between commas: what is read is what is written, both ways, and where nothing is read some part is at fault.
use Rattle.std.proofs.Common.{◌≡◌, ℕ, ◌+◌, ◌*◌, ◌<◌, ◌≤◌, ◌⊎◌, ◌==◌, Bool, true, false, not, List, [], ◌∷◌, ◌++◌, length, take, drop, Option, Some, None, refl, sym, ap, ◌∙◌, inl, inr, one-add, append_assoc, arith}
use Rattle.std.specs.Prelude.{All}
use Rattle.std.specs.Option.{option_map}
use Rattle.std.specs.List.{list_all, position_or_len}
use Rattle.std.proofs.lemmas.Bool.{cases_Bool, and_parts, and_from, eqb-true}
use Rattle.std.proofs.lemmas.List.{append-nil, length-append}
use Rattle.std.proofs.lemmas.List.Elements.{All-nil, All-cons}
use Rattle.ags_card.specs.Reading.{with_item, list_reading}
use Rattle.ags_card.specs.Spelling.{IsList, IsPart}

-- a comma
abbrev pub is_comma : ℕ → Bool
is_comma b = b == 44

-- no comma
abbrev pub is_no_comma : ℕ → Bool
is_no_comma b = not (b == 44)

-- the length of the front of a text before its first comma
abbrev pub comma_len : List ℕ → ℕ
comma_len text = position_or_len is_comma text

-- ---- the loop over a text

-- the list of a text whose first element has these bytes, with what stands after them
abbrev pub list_cut : {X : Type 0} → (List ℕ → Option X) → List ℕ → List ℕ → Option (List X)
list_cut read front [] = with_item (read front) (Some [])
list_cut read front (b ∷ behind) = with_item (read front) (list_reading read [] behind)

cut_before : {X : Type 0} (read : List ℕ → Option X) (before text : List ℕ) → list_reading read before text ≡ list_cut read (before ++ take (comma_len text) text) (drop (comma_len text) text)
unfolding list_reading
cut_before read before [] = rw (append-nil before) refl
cut_before read before (b ∷ text) =
    elim (cases_Bool (is_comma b)) [
      | inl comma ↦ rw (comma, append-nil before) refl
      | inr other ↦
          let rest = cut_before read (before ++ b ∷ []) text in
          rw (other, one-add (comma_len text)) (rest ∙ ap (λ front. list_cut read front (drop (comma_len text) text)) (append_assoc before (b ∷ []) (take (comma_len text) text)))
    ]

-- elements before what a text has
abbrev pub listed : {X : Type 0} → List X → Option (List X) → Option (List X)
listed items others = option_map (λ more. items ++ more) others

listed_item : {X : Type 0} (items : List X) (x : X) (others : Option (List X)) → listed (items ++ x ∷ []) others ≡ listed items (with_item (Some x) others)
listed_item items x None = refl
listed_item items x (Some others) = ap Some (append_assoc items (x ∷ []) others)

cut_whole : {X : Type 0} (read : List ℕ → Option X) (text front behind : List ℕ) → front ≡ take (comma_len text) text → behind ≡ drop (comma_len text) text → list_reading read [] text ≡ list_cut read front behind
cut_whole read text front behind front_is behind_is = rw (front_is, behind_is) (cut_before read [] text)

-- an element is none, and so the list is
pub list_none : {X : Type 0} (read : List ℕ → Option X) (items : List X) (text front behind : List ℕ) (whole : Option (List X)) → listed items (list_reading read [] text) ≡ whole
    → front ≡ take (comma_len text) text → behind ≡ drop (comma_len text) text → read front ≡ None → whole ≡ None
list_none read items text front behind whole so front_is behind_is none =
    sym so ∙ ap (listed items) (cut_whole read text front behind front_is behind_is) ∙ ap (listed items) (nothing front behind none)
  where
    nothing : (front behind : List ℕ) → read front ≡ None → list_cut read front behind ≡ None
    nothing front [] is = rw is refl
    nothing front (b ∷ behind) is = rw is refl

-- the last element
pub list_last : {X : Type 0} (read : List ℕ → Option X) (items : List X) (text front behind : List ℕ) (x : X) (whole : Option (List X)) → listed items (list_reading read [] text) ≡ whole
    → front ≡ take (comma_len text) text → behind ≡ drop (comma_len text) text → read front ≡ Some x → behind ≡ [] → whole ≡ Some (items ++ x ∷ [])
list_last read items text front behind x whole so front_is behind_is some last =
    let one : list_cut read front behind ≡ Some (x ∷ []) = rw (last, some) refl in
    sym so ∙ ap (listed items) (cut_whole read text front behind front_is behind_is) ∙ ap (listed items) one

-- an element with others after it
pub list_more : {X : Type 0} (read : List ℕ → Option X) (items : List X) (text front behind : List ℕ) (x : X) (whole : Option (List X)) → listed items (list_reading read [] text) ≡ whole
    → front ≡ take (comma_len text) text → behind ≡ drop (comma_len text) text → read front ≡ Some x → 0 < length behind → listed (items ++ x ∷ []) (list_reading read [] (drop 1 behind)) ≡ whole
list_more read items text front behind x whole so front_is behind_is some more =
    listed_item items x (list_reading read [] (drop 1 behind))
    ∙ sym (ap (listed items) (others front behind some more))
    ∙ sym (ap (listed items) (cut_whole read text front behind front_is behind_is))
    ∙ so
  where
    others : (front behind : List ℕ) → read front ≡ Some x → 0 < length behind → list_cut read front behind ≡ with_item (Some x) (list_reading read [] (drop 1 behind))
    others front [] is more = absurd (omega arith)
    others front (b ∷ behind) is more = rw is refl

-- ---- what is read is written

record IsWithItem {X : Type 0} (found : Option X) (rest : Option (List X)) (xs : List X) : Type 0 where
  x : X
  others : List X
  found_is : found ≡ Some x
  rest_is : rest ≡ Some others
  xs_are : xs ≡ x ∷ others

with_item_parts : {X : Type 0} (found : Option X) (rest : Option (List X)) (xs : List X) → with_item found rest ≡ Some xs → IsWithItem found rest xs
with_item_parts (Some x) (Some others) xs is = record { x = x; others = others; found_is = refl; rest_is = refl; xs_are = (cc) }
with_item_parts (Some x) None xs is = absurd (cc)
with_item_parts None rest xs is = absurd (cc)

-- an element before others that are written
item_before : {X : Type 0} (Is : List ℕ → X → Type 0) (before text : List ℕ) (b : ℕ) (x : X) (others : List X) → b ≡ 44 → Is before x → IsList Is text others → IsList Is (before ++ b ∷ text) (x ∷ others)
item_before Is before text b x [] comma is rest = absurd rest
item_before Is before text b x (next ∷ others) comma is rest = (before, text, ap (λ (c : ℕ). before ++ c ∷ text) comma, is, rest)

list_from : {X : Type 0} (read : List ℕ → Option X) (Is : List ℕ → X → Type 0) → ((text : List ℕ) (x : X) → read text ≡ Some x → Is text x) → (before text : List ℕ) (xs : List X)
    → list_reading read before text ≡ Some xs → IsList Is (before ++ text) xs
unfolding list_reading
list_from read Is told before [] xs is =
    let parts = with_item_parts (read before) (Some []) xs is in
    let none : parts.others ≡ [] = (cc) in
    rw (append-nil before, parts.xs_are, none) (told before parts.x parts.found_is)
list_from read Is told before (b ∷ text) xs is =
    elim (cases_Bool (is_comma b)) [
      | inl comma ↦
          let parts = with_item_parts (read before) (list_reading read [] text) xs (rw comma at is) in
          rw (parts.xs_are) (item_before Is before text b parts.x parts.others (eqb-true b 44 comma) (told before parts.x parts.found_is) (list_from read Is told [] text parts.others parts.rest_is))
      | inr other ↦ rw (append_assoc before (b ∷ []) text) at (list_from read Is told (before ++ b ∷ []) text xs (rw other at is))
    ]

pub list_spelled : {X : Type 0} (read : List ℕ → Option X) (Is : List ℕ → X → Type 0) → ((text : List ℕ) (x : X) → read text ≡ Some x → Is text x) → (text : List ℕ) (xs : List X)
    → list_reading read [] text ≡ Some xs → IsList Is text xs
list_spelled read Is told text xs is = list_from read Is told [] text xs is

-- ---- what is written is read

-- bytes without a comma are those of the first element
pub skipped : {X : Type 0} (read : List ℕ → Option X) (before front rest : List ℕ) → list_all is_no_comma front ≡ true → list_reading read before (front ++ rest) ≡ list_reading read (before ++ front) rest
unfolding list_reading
skipped read before [] rest all = rw (append-nil before) refl
skipped read before (b ∷ front) rest all =
    let parts = and_parts (is_no_comma b) (list_all is_no_comma front) all in
    rw (not_comma (b == 44) parts.0) (skipped read (before ++ b ∷ []) front rest parts.1 ∙ ap (λ text. list_reading read text rest) (append_assoc before (b ∷ []) front))
  where
    not_comma : (test : Bool) → not test ≡ true → test ≡ false
    not_comma true is = sym is
    not_comma false is = refl

pub list_read : {X : Type 0} (read : List ℕ → Option X) (Is : List ℕ → X → Type 0) → ((text : List ℕ) (x : X) → Is text x → read text ≡ Some x)
    → ((text : List ℕ) (x : X) → Is text x → list_all is_no_comma text ≡ true) → (xs : List X) (text : List ℕ) → IsList Is text xs → list_reading read [] text ≡ Some xs
unfolding list_reading
list_read read Is finds alone [] text is = absurd is
list_read read Is finds alone (x ∷ []) text is =
    let whole : list_reading read [] (text ++ []) ≡ list_reading read text [] = skipped read [] text [] (alone text x is) in
    ap (list_reading read []) (sym (append-nil text)) ∙ whole ∙ rw (finds text x is) refl
list_read read Is finds alone (x ∷ next ∷ xs) text is =
    let rest = list_read read Is finds alone (next ∷ xs) is.1 is.4 in
    ap (list_reading read []) is.2 ∙ skipped read [] is.0 (44 ∷ is.1) (alone is.0 x is.3) ∙ rw (finds is.0 x is.3, rest) refl

-- ---- how many there are, and what holds of each

pub list_few : {X : Type 0} (Is : List ℕ → X → Type 0) → ((text : List ℕ) (x : X) → Is text x → 0 < length text) → (xs : List X) (text : List ℕ) → IsList Is text xs → 2 * length xs ≤ length text + 1
list_few Is some [] text is = absurd is
list_few Is some (x ∷ []) text is = omega (arith, some text x is)
list_few Is some (x ∷ next ∷ xs) text is =
    let rest = list_few Is some (next ∷ xs) is.1 is.4 in
    omega (arith, ap length is.2, length-append is.0 (44 ∷ is.1), some is.0 x is.3, rest)

pub list_some : {X : Type 0} (Is : List ℕ → X → Type 0) (xs : List X) (text : List ℕ) → IsList Is text xs → 0 < length xs
list_some Is [] text is = absurd is
list_some Is (x ∷ xs) text is = omega arith

pub list_length : {X : Type 0} (Is : List ℕ → X → Type 0) → ((text : List ℕ) (x : X) → Is text x → 0 < length text) → (xs : List X) (text : List ℕ) → IsList Is text xs → 0 < length text
list_length Is some xs text is = omega (arith, list_few Is some xs text is, list_some Is xs text is)

pub list_each : {X : Type 0} (Is : List ℕ → X → Type 0) (P : X → Type 0) → ((text : List ℕ) (x : X) → Is text x → P x) → (xs : List X) (text : List ℕ) → IsList Is text xs → All P xs
list_each Is P holds [] text is = absurd is
list_each Is P holds (x ∷ []) text is = All-cons P x [] (holds text x is) (All-nil P)
list_each Is P holds (x ∷ next ∷ xs) text is = All-cons P x (next ∷ xs) (holds is.0 x is.3) (list_each Is P holds (next ∷ xs) is.1 is.4)

-- ---- where nothing is read

-- some part of the text is nothing
pub record FailsAt {X : Type 0} (read : List ℕ → Option X) (text : List ℕ) : Type 0 where
  pub part : List ℕ
  pub stands : IsPart text part
  pub none : read part ≡ None

-- the bytes of the first element are the whole part
first_fails : {X : Type 0} (read : List ℕ → Option X) (before behind : List ℕ) → (behind ≡ []) ⊎ ((after : List ℕ) × (behind ≡ 44 ∷ after)) → list_all is_no_comma before ≡ true → read before ≡ None
    → FailsAt read (before ++ behind)
first_fails read before behind ends alone none =
    record { part = before; stands = record { front = []; behind = behind; whole = refl; begins = inl refl; ends = ends; alone = alone }; none = none }

-- a later part is at fault
later_fails : {X : Type 0} (read : List ℕ → Option X) (before text : List ℕ) (b : ℕ) → b ≡ 44 → FailsAt read text → FailsAt read (before ++ b ∷ text)
later_fails read before text b comma fails =
    record {
      part = fails.part;
      stands = record {
        front = before ++ b ∷ fails.stands.front;
        behind = fails.stands.behind;
        whole = ap (λ x. before ++ b ∷ x) fails.stands.whole ∙ sym (append_assoc before (b ∷ fails.stands.front) (fails.part ++ fails.stands.behind));
        begins = inr (elim fails.stands.begins [
          | inl none ↦ (before, rw none (ap (λ (c : ℕ). before ++ c ∷ []) comma))
          | inr some ↦ (before ++ b ∷ some.0, rw (some.1) (sym (append_assoc before (b ∷ some.0) (44 ∷ []))))
        ]);
        ends = fails.stands.ends;
        alone = fails.stands.alone;
      };
      none = fails.none;
    }

first_or_rest : {X : Type 0} (found : Option X) (rest : Option (List X)) → with_item found rest ≡ None → (found ≡ None) ⊎ (rest ≡ None)
first_or_rest None rest is = inl refl
first_or_rest (Some x) None is = inr refl
first_or_rest (Some x) (Some xs) is = absurd (cc)

last_none : {X : Type 0} (found : Option X) → with_item found (Some []) ≡ None → found ≡ None
last_none None is = refl
last_none (Some x) is = absurd (cc)

no_comma_more : (before : List ℕ) (b : ℕ) → list_all is_no_comma before ≡ true → (b == 44) ≡ false → list_all is_no_comma (before ++ b ∷ []) ≡ true
no_comma_more [] b alone other = rw other refl
no_comma_more (c ∷ before) b alone other =
    let parts = and_parts (is_no_comma c) (list_all is_no_comma before) alone in
    and_from _ _ parts.0 (no_comma_more before b parts.1 other)

fails_from : {X : Type 0} (read : List ℕ → Option X) (before text : List ℕ) → list_all is_no_comma before ≡ true → list_reading read before text ≡ None → FailsAt read (before ++ text)
unfolding list_reading
fails_from read before [] alone is = first_fails read before [] (inl refl) alone (last_none (read before) is)
fails_from read before (b ∷ text) alone is =
    elim (cases_Bool (is_comma b)) [
      | inl comma ↦ elim (first_or_rest (read before) (list_reading read [] text) (rw comma at is)) [
        | inl first ↦ first_fails read before (b ∷ text) (inr (text, ap (λ (c : ℕ). c ∷ text) (eqb-true b 44 comma))) alone first
        | inr rest ↦ later_fails read before text b (eqb-true b 44 comma) (fails_from read [] text refl rest)
      ]
      | inr other ↦ rw (append_assoc before (b ∷ []) text) at (fails_from read (before ++ b ∷ []) text (no_comma_more before b alone other) (rw other at is))
    ]

pub list_fails : {X : Type 0} (read : List ℕ → Option X) (text : List ℕ) → list_reading read [] text ≡ None → FailsAt read text
list_fails read text is = fails_from read [] text refl is

-- nothing is read after the comma before a text of which nothing is read
behind_fails : {X : Type 0} (read : List ℕ → Option X) (before front rest : List ℕ) → list_reading read [] rest ≡ None → list_reading read before (front ++ 44 ∷ rest) ≡ None
unfolding list_reading
behind_fails read before [] rest none = nothing (read before) none
  where
    nothing : {X : Type 0} {rest : Option (List X)} (found : Option X) → rest ≡ None → with_item found rest ≡ None
    nothing None is = refl
    nothing (Some x) is = rw is refl
behind_fails read before (b ∷ front) rest none =
    elim (cases_Bool (is_comma b)) [
      | inl comma ↦ rw comma (nothing (read before) (behind_fails read [] front rest none))
      | inr other ↦ rw other (behind_fails read (before ++ b ∷ []) front rest none)
    ]
  where
    nothing : {X : Type 0} {rest : Option (List X)} (found : Option X) → rest ≡ None → with_item found rest ≡ None
    nothing None is = refl
    nothing (Some x) is = rw is refl

-- nothing is read of a text one part of which is nothing
part_fails : {X : Type 0} (read : List ℕ → Option X) (part behind : List ℕ) → list_all is_no_comma part ≡ true → (behind ≡ []) ⊎ ((after : List ℕ) × (behind ≡ 44 ∷ after)) → read part ≡ None
    → list_reading read [] (part ++ behind) ≡ None
unfolding list_reading
part_fails read part behind alone (inl end) none = rw end (skipped read [] part [] alone ∙ rw none refl)
part_fails read part behind alone (inr more) none = rw (more.1) (skipped read [] part (44 ∷ more.0) alone ∙ rw none refl)

pub fails_list : {X : Type 0} (read : List ℕ → Option X) (text part : List ℕ) → IsPart text part → read part ≡ None → list_reading read [] text ≡ None
fails_list read text part stands none =
    let here = part_fails read part stands.behind stands.alone stands.ends none in
    elim stands.begins [
      | inl start ↦ ap (list_reading read []) (rw start at stands.whole) ∙ here
      | inr comma ↦
          let whole : text ≡ comma.0 ++ 44 ∷ (part ++ stands.behind) = (rw (comma.1) at stands.whole) ∙ append_assoc comma.0 (44 ∷ []) (part ++ stands.behind) in
          ap (list_reading read []) whole ∙ behind_fails read [] comma.0 (part ++ stands.behind) here
    ]
