-- Scales have an answer, and one alone. The crates above cite:
--     some_scaled, one_scaled
use Rattle.std.proofs.Common.{◌≡◌, ℕ, zero, suc, ◌+◌, ◌⊎◌, ⊎_elim, refl, sym, ap, subst, ◌∙◌, arith, List, [], ◌∷◌, length, inl, inr, ℤ, pos, negsuc}
use Rattle.std.specs.Prelude.{Option, Some, None, Result, Ok, Err, IfSome, Any as AnyOf}
use Rattle.std.proofs.lemmas.Bool.{cases_eq}
use Rattle.std.proofs.lemmas.Int.{ints}
use Rattle.std.proofs.lemmas.List.Elements.{recursion_from_All}
use Rattle.ags_isa.specs.declared.orders.Order.{Order}
use Rattle.ags_isa.specs.declared.decoding.Decoded.{Decoded}
use Rattle.ags_domain.specs.Domain.{Meaning, IsMeaning}
use Rattle.ags_domain.specs.MeaningLaws.{value_lawful}
use Rattle.ags_domain.specs.Value.{value_meaning}
use Rattle.ags_domain.specs.declared.values.Value.{Value}
use Rattle.ags_image.specs.Image.{IsImage}
use Rattle.ags_ports.specs.declared.machines.Machine.{Machine}
use Rattle.ags_ports.specs.Effect.{effective_at}
use Rattle.ags_ports.specs.Machine.{IsMachine}
use Rattle.ags_ports.proofs.NamingLemmas.{decoding_same}
use Rattle.ags_row.specs.Cover.{Covers}
use Rattle.ags_row.specs.declared.posts.Post.{Post}
use Rattle.ags_row.specs.declared.rows.Row.{Row}
use Rattle.ags_safe.specs.Case.{Case}
use Rattle.ags_safe.specs.Posts.{Outcome, IsPostsOfCase}
use Rattle.ags_safe.specs.declared.answers.PostPair.{PostPair}
use Rattle.ags_safe.proofs.OneAnswerLemmas.{one_answer}
use Rattle.ags_safe.specs.Certificate.{Certificate}
use Rattle.ags_safe.specs.Accepted.{HoldsStart, IsCovered, IsCaseAccepted, IsRowAccepted, Accepted}
use Rattle.ags_safe.proofs.DecisionLemmas.{is_covered, start_is_held}
use Rattle.ags_verdict.specs.RowCase.{RowCase, cases_in, case_in}
use Rattle.ags_verdict.specs.Verdict.{IsVerdict}
use Rattle.ags_verdict.specs.declared.verdicts.Verdict.{Verdict}
use Rattle.ags_verdict.specs.declared.verdicts.Verdict.TheVariants.{Certified, Refused}
use Rattle.ags_verdict.specs.declared.verdicts.Refusal.{Refusal}
use Rattle.ags_verdict.proofs.CaseLemmas.{cases_each}
use Rattle.ags_verdict.proofs.VerdictLemmas.{verdict_one, accepted_of}
use Rattle.ags_check.proofs.AnswerLemmas.{some_verdict}
use Rattle.ags_check.specs.Finding.{SomeRow, IsCover, IsStartRow}
use Rattle.ags_verdict.specs.Walk.{IsWalked, IsWalkedAt}
use Rattle.ags_verdict.specs.declared.walks.AtRow.{AtRow}
use Rattle.ags_tags.specs.declared.tags.Tag.{Tag}
use Rattle.ags_tags.specs.declared.tags.Tag.TheVariants.{Raw, Scale}
use Rattle.ags_tags.specs.declared.tags.RowTag.{RowTag}
use Rattle.ags_tags.specs.declared.tags.RowTag.TheVariants.{Any, Known}
use Rattle.ags_tags.specs.declared.tags.RowTags.{RowTags}
use Rattle.ags_tags.specs.Tag.{Scaling, tags_of_row}
use Rattle.ags_scale.specs.RowChange.{IsOfEquals, DoesToTags, TakesTag, TakesTags, HoldsTag, HoldsRaw, row_tags_met, row_tags_after}
use Rattle.ags_scale.specs.Tagging.{IsOrderAt, AreTagsOfCase, IsTaken, IsLost, IsFirstLost, AreTaken, KeepsRowTags, MixesRowTags, LosesRowTags, IsCaseTagged, IsStartTagged}
use Rattle.ags_scale.specs.Scaled.{AreRowsTagged, FailsFirst, IsScaled}
use Rattle.ags_scale.specs.Telling.{answer_of}
use Rattle.ags_scale.specs.declared.answers.Meeting.{Meeting}
use Rattle.ags_scale.specs.declared.answers.TagFault.{TagFault}
use Rattle.ags_scale.specs.declared.answers.TagFault.TheVariants.{Mixes, Loses}
use Rattle.ags_scale.specs.declared.answers.Scaled.{Scaled}
use Rattle.ags_scale.specs.declared.answers.Scaled.TheVariants.{Agree, Unsafe, StartMixed, Mixed, NotHeld}
use Rattle.ags_scale.proofs.JudgingLemmas.{told_scaled}
use Rattle.ags_verdict.proofs.OrderedLemmas.{some_in_order, with_number, one_walk}

some_one : {A : Type 0} (left right : A) → ◌≡◌ {A = Option A} (Some left) (Some right) → left ≡ right
some_one left right same = cc

-- ---- tags are one or they aren't, and a row takes them or it doesn't

both : {A B : Type 0} → Dec A → Dec B → Dec (A × B)
both (yes a) (yes b) = yes (a, b)
both (yes a) (no n) = no (λ p. n p.1)
both (no n) d = no (λ p. n p.0)

same_scale : (b c : ℤ) → Dec (b ≡ c)
same_scale (pos m) (pos n) = ⊎_elim (λ is. yes (ap (λ (k : ℕ). pos k) is)) (λ apart. no (λ is. omega (arith, ints, apart))) (cases_eq m n)
same_scale (pos m) (negsuc n) = no (λ is. cc)
same_scale (negsuc m) (pos n) = no (λ is. cc)
same_scale (negsuc m) (negsuc n) = ⊎_elim (λ is. yes (ap (λ (k : ℕ). negsuc k) is)) (λ apart. no (λ is. omega (arith, ints, apart))) (cases_eq m n)

scales_same : (b c : ℤ) → Dec (b ≡ c) → Dec (◌≡◌ {A = Tag} (Scale b) (Scale c))
scales_same b c (yes is) = yes (ap (λ (k : ℤ). Scale k) is)
scales_same b c (no other) = no (λ is. let same : b ≡ c = cc in other same)

same_tag : (one other : Tag) → Dec (one ≡ other)
same_tag Raw Raw = yes refl
same_tag Raw (Scale c) = no (λ is. cc)
same_tag (Scale b) Raw = no (λ is. cc)
same_tag (Scale b) (Scale c) = scales_same b c (same_scale b c)

knowns_same : (one other : Tag) → Dec (one ≡ other) → Dec (◌≡◌ {A = RowTag} (Known one) (Known other))
knowns_same one other (yes is) = yes (ap (λ (t : Tag). Known t) is)
knowns_same one other (no n) = no (λ is. let same : one ≡ other = cc in n same)

same_known : (row : RowTag) (other : Tag) → Dec (row ≡ Known other)
same_known Any other = no (λ is. cc)
same_known (Known one) other = knowns_same one other (same_tag one other)

takes_tag : (row tag : RowTag) → Dec (TakesTag row tag)
takes_tag Any tag = yes tt
takes_tag (Known known) tag = same_known tag known

takes_tags : (row tags : RowTags) → Dec (TakesTags row tags)
takes_tags row tags = both (takes_tag row.a tags.a) (takes_tag row.q tags.q)

holds_tag : (row : RowTag) (tag : Tag) → Dec (HoldsTag row tag)
holds_tag Any tag = yes tt
holds_tag (Known known) tag = same_tag tag known

holds_raw : (row : RowTags) → Dec (HoldsRaw row)
holds_raw row = both (holds_tag row.a Raw) (holds_tag row.q Raw)

-- ---- some row, or none

module _ {D : Type 0} where
  -- a row has it at its number, and the rest have it at theirs
  behind : (has : ℕ → Row D → Type 0) (r : Row D) (rows : List (Row D)) → SomeRow (λ number row. has (number + 1) row) rows → SomeRow has (r ∷ rows)
  behind has r rows (position, row, inside, stands, is) =
      let number : (position + 1) + 1 ≡ suc position + 1 = omega arith in
      (suc position, row, omega (arith, inside), stands, subst (λ (n : ℕ). has n row) number is)

  first_or_behind : (has : ℕ → Row D → Type 0) (r : Row D) (rows : List (Row D)) → SomeRow has (r ∷ rows) → (has 1 r → ⊥)
      → (SomeRow (λ number row. has (number + 1) row) rows → ⊥) → ⊥
  first_or_behind has r rows (zero, row, inside, stands, is) first rest = first (subst (λ (x : Row D). has 1 x) (sym stands) is)
  first_or_behind has r rows (suc position, row, inside, stands, is) first rest =
      let number : suc position + 1 ≡ (position + 1) + 1 = omega arith in
      rest (position, row, omega (arith, inside), stands, subst (λ (n : ℕ). has n row) number is)

  one_more : (has : ℕ → Row D → Type 0) (r : Row D) (rows : List (Row D)) → Dec (has 1 r) → Dec (SomeRow (λ number row. has (number + 1) row) rows)
      → Dec (SomeRow has (r ∷ rows))
  one_more has r rows (yes first) rest = yes (zero, r, omega arith, refl, first)
  one_more has r rows (no first) (yes rest) = yes (behind has r rows rest)
  one_more has r rows (no first) (no rest) = no (λ some. first_or_behind has r rows some first rest)

  is_some_row : (has : ℕ → Row D → Type 0) → ((number : ℕ) (row : Row D) → Dec (has number row)) → (rows : List (Row D)) → Dec (SomeRow has rows)
  is_some_row has each [] = no (λ some. omega (arith, some.2))
  is_some_row has each (r ∷ rows) =
      one_more has r rows (each 1 r) (is_some_row (λ number row. has (number + 1) row) (λ number row. each (number + 1) row) rows)

module _ {D : Type 0} (meaning : Meaning D) (cert : Certificate D) (scales : Scaling) where
  -- what is said of a certificate with one row alone is said of the row
  abbrev alone : Row D → Certificate D
  alone target = record cert { rows = target ∷ [] }

  covers_alone : (target base : Row D) (post : Post D) → IsCovered meaning (alone target) base post → Covers meaning target base post cert.limits
  covers_alone target base post (zero, row, inside, stands, covers) = subst (λ (r : Row D). Covers meaning r base post cert.limits) (sym stands) covers
  covers_alone target base post (suc position, row, inside, stands, covers) = absurd (omega (arith, inside))

  covering : (target base : Row D) (post : Post D) → Dec (IsCovered meaning (alone target) base post) → Dec (Covers meaning target base post cert.limits)
  covering target base post (yes covered) = yes (covers_alone target base post covered)
  covering target base post (no none) = no (λ covers. none (zero, target, omega arith, refl, covers))

  is_taken : (tags : RowTags) (base : Row D) (post : Post D) → Dec (IsTaken meaning cert scales tags base post)
  is_taken tags base post = is_some_row (IsCover meaning cert (λ number. TakesTags (tags_of_row scales number) tags) base post)
      (λ number target. both (covering target base post (is_covered meaning (alone target) base post)) (takes_tags (tags_of_row scales number) tags)) cert.rows

  module _ (image : List (Option ℕ)) where
    held_alone : (target row : Row D) → HoldsStart meaning image (alone target) row → HoldsStart meaning image cert row
    held_alone target row is = record {
      location = is.location;
      a = is.a;
      q = is.q;
      index = is.index;
      indicator = is.indicator;
      cells = is.cells;
      link = is.link;
    }

    alone_held : (target row : Row D) → HoldsStart meaning image cert row → HoldsStart meaning image (alone target) row
    alone_held target row is = record {
      location = is.location;
      a = is.a;
      q = is.q;
      index = is.index;
      indicator = is.indicator;
      cells = is.cells;
      link = is.link;
    }

    start_alone : (target : Row D) → AnyOf (HoldsStart meaning image (alone target)) (target ∷ []) → HoldsStart meaning image cert target
    start_alone target (zero, row, inside, stands, holds) =
        held_alone target target (subst (λ (r : Row D). HoldsStart meaning image (alone target) r) (sym stands) holds)
    start_alone target (suc position, row, inside, stands, holds) = absurd (omega (arith, inside))

    holding : (target : Row D) → Dec (AnyOf (HoldsStart meaning image (alone target)) (target ∷ [])) → Dec (HoldsStart meaning image cert target)
    holding target (yes held) = yes (start_alone target held)
    holding target (no none) = no (λ holds. none (zero, target, omega arith, refl, alone_held target target holds))

    pub is_start_tagged : Dec (IsStartTagged meaning cert scales image)
    is_start_tagged = is_some_row (IsStartRow meaning image cert (λ number. HoldsRaw (tags_of_row scales number)))
        (λ number target. both (holding target (start_is_held meaning image (alone target))) (holds_raw (tags_of_row scales number))) cert.rows

  -- ---- posts are taken, or the first that isn't is told

  post_taken : (tags : RowTags) (base : Row D) (post : Option (Post D)) → Dec (IfSome post (IsTaken meaning cert scales tags base))
  post_taken tags base None = yes tt
  post_taken tags base (Some post) = is_taken tags base post

  post_lost : (tags : RowTags) (base : Row D) (post : Option (Post D)) → (IfSome post (IsTaken meaning cert scales tags base) → ⊥)
      → (next : ℕ) × IsLost meaning cert scales tags base post next
  post_lost tags base None out = absurd (out tt)
  post_lost tags base (Some post) out = (post.next, (out, refl))

  posts_taken : (tags : RowTags) (base : Row D) (pair : PostPair D) → Dec (IfSome pair.first (IsTaken meaning cert scales tags base))
      → Dec (IfSome pair.second (IsTaken meaning cert scales tags base))
      → AreTaken meaning cert scales tags base pair ⊎ ((next : ℕ) × IsFirstLost meaning cert scales tags base pair next)
  posts_taken tags base pair (no out) second = let lost = post_lost tags base pair.first out in inr (lost.0, inl lost.1)
  posts_taken tags base pair (yes first) (no out) = let lost = post_lost tags base pair.second out in inr (lost.0, inr (first, lost.1))
  posts_taken tags base pair (yes first) (yes second) = inl (first, second)

  not_taken_and_lost : (tags : RowTags) (base : Row D) (post : Option (Post D)) (next : ℕ) → IfSome post (IsTaken meaning cert scales tags base)
      → IsLost meaning cert scales tags base post next → ⊥
  not_taken_and_lost tags base None next taken lost = lost
  not_taken_and_lost tags base (Some post) next taken lost = lost.0 taken

  not_all_and_first : (tags : RowTags) (base : Row D) (pair : PostPair D) (next : ℕ) → AreTaken meaning cert scales tags base pair
      → IsFirstLost meaning cert scales tags base pair next → ⊥
  not_all_and_first tags base pair next taken (inl lost) = not_taken_and_lost tags base pair.first next taken.0 lost
  not_all_and_first tags base pair next taken (inr lost) = not_taken_and_lost tags base pair.second next taken.1 lost.1

  one_lost : (tags : RowTags) (base : Row D) (post : Option (Post D)) (next other : ℕ) → IsLost meaning cert scales tags base post next
      → IsLost meaning cert scales tags base post other → next ≡ other
  one_lost tags base None next other p r = absurd p
  one_lost tags base (Some post) next other p r = p.1 ∙ sym r.1

  one_first_lost : (tags : RowTags) (base : Row D) (pair : PostPair D) (next other : ℕ) → IsFirstLost meaning cert scales tags base pair next
      → IsFirstLost meaning cert scales tags base pair other → next ≡ other
  one_first_lost tags base pair next other (inl p) (inl r) = one_lost tags base pair.first next other p r
  one_first_lost tags base pair next other (inl p) (inr r) = absurd (not_taken_and_lost tags base pair.first next r.0 p)
  one_first_lost tags base pair next other (inr p) (inl r) = absurd (not_taken_and_lost tags base pair.first other p.0 r)
  one_first_lost tags base pair next other (inr p) (inr r) = one_lost tags base pair.second next other p.1 r.1

  -- ---- what an order makes of tags

  meeting_of_equals : (meeting : Option Meeting) → Dec (IfSome meeting IsOfEquals)
  meeting_of_equals None = yes tt
  meeting_of_equals (Some two) = same_known two.left two.right

  abbrev HasTags : Order → ℕ → ℕ → RowTags → Type 0
  HasTags order e y tags = (outcome : Result RowTags Meeting) × DoesToTags scales order e y tags outcome

  tags_by : (order : Order) (e y : ℕ) (tags : RowTags) (meeting : Option Meeting) → row_tags_met scales order e y tags ≡ meeting
      → Dec (IfSome meeting IsOfEquals) → HasTags order e y tags
  tags_by order e y tags meeting is (yes equal) =
      (Ok (row_tags_after scales order e y tags), (subst (λ (m : Option Meeting). IfSome m IsOfEquals) (sym is) equal, refl))
  tags_by order e y tags None is (no unlike) = absurd (unlike tt)
  tags_by order e y tags (Some two) is (no unlike) = (Err two, (is, unlike))

  some_tags : (order : Order) (e y : ℕ) (tags : RowTags) → HasTags order e y tags
  some_tags order e y tags = tags_by order e y tags (row_tags_met scales order e y tags) refl (meeting_of_equals (row_tags_met scales order e y tags))

  not_both_tags : (order : Order) (e y : ℕ) (tags after : RowTags) (two : Meeting) → DoesToTags scales order e y tags (Ok after)
      → DoesToTags scales order e y tags (Err two) → ⊥
  not_both_tags order e y tags after two p r = r.1 (subst (λ (m : Option Meeting). IfSome m IsOfEquals) r.0 p.0)

  one_tags : (order : Order) (e y : ℕ) (tags : RowTags) (left right : Result RowTags Meeting) → DoesToTags scales order e y tags left
      → DoesToTags scales order e y tags right → left ≡ right
  one_tags order e y tags (Ok left) (Ok right) p r = ap (λ (t : RowTags). Ok t) (p.1 ∙ sym r.1)
  one_tags order e y tags (Ok left) (Err right) p r = absurd (not_both_tags order e y tags left right p r)
  one_tags order e y tags (Err left) (Ok right) p r = absurd (not_both_tags order e y tags right left r p)
  one_tags order e y tags (Err left) (Err right) p r = ap (λ (two : Meeting). Err two) (some_one left right (sym p.0 ∙ r.0))

  -- ---- a case

  module _ (number : ℕ) (c : Case D) where
    abbrev HasOutcome : Type 0
    HasOutcome = (outcome : Result ℕ TagFault) × IsCaseTagged meaning cert scales number c outcome

    by_posts : (tags : RowTags) → AreTagsOfCase scales c (tags_of_row scales number) (Ok tags) → (pair : PostPair D) → IsPostsOfCase meaning c (Ok pair)
        → AreTaken meaning cert scales tags c.row pair ⊎ ((next : ℕ) × IsFirstLost meaning cert scales tags c.row pair next) → HasOutcome
    by_posts tags are pair posts (inl taken) = (Ok 1, (record { tags = tags; are_tags = are; pair = pair; posts = posts; taken = taken }, refl))
    by_posts tags are pair posts (inr lost) = (
      Err (Loses c.word c.index c.indicator lost.0),
      inr (record { tags = tags; are_tags = are; pair = pair; posts = posts; next = lost.0; lost = lost.1; is = refl }),
    )

    by_tags : (order : Order) (e y : ℕ) → IsOrderAt c order e y → HasTags order e y (tags_of_row scales number) → (pair : PostPair D)
        → IsPostsOfCase meaning c (Ok pair) → HasOutcome
    by_tags order e y is (Ok tags, does) pair posts = by_posts tags (order, e, y, is, does) pair posts
        (posts_taken tags c.row pair (post_taken tags c.row pair.first) (post_taken tags c.row pair.second))
    by_tags order e y is (Err two, does) pair posts =
        (Err (Mixes c.word c.index c.indicator two), inl (record { two = two; are_tags = (order, e, y, is, does); is = refl }))

    by_word : (pair : PostPair D) → IsPostsOfCase meaning c (Ok pair) → (outcome : Outcome D) → IsPostsOfCase meaning c outcome → outcome ≡ Ok pair
        → HasOutcome
    by_word pair posts outcome (None, named, is) same = let stops : outcome ≡ Err _ = is in absurd cc
    by_word pair posts outcome (Some d, named, is) same =
        let e = effective_at c.index d.order d.indexed d.address in
        by_tags d.order e d.address (record { read = d; is_read = named; order_is = refl; acts_on = refl; address = refl })
        (some_tags d.order e d.address (tags_of_row scales number)) pair posts

    -- an accepted case has an outcome
    pub some_case : IsCaseAccepted meaning cert c → HasOutcome
    some_case accepted = by_word accepted.0 accepted.1 (Ok accepted.0) accepted.1 refl

    module _ (lawful : IsMeaning D meaning) (machine_is : IsMachine c.machine) where
      one_order : (order other : Order) (e y f z : ℕ) → IsOrderAt c order e y → IsOrderAt c other f z → (order ≡ other) × (e ≡ f) × (y ≡ z)
      one_order order other e y f z p r =
          let same : p.read ≡ r.read = some_one p.read r.read
          (decoding_same c.machine.codes machine_is.codes c.word (Some p.read) (Some r.read) p.is_read r.is_read) in (
            p.order_is ∙ ap (λ (d : Decoded). d.order) same ∙ sym r.order_is,
            p.acts_on ∙ ap (λ (d : Decoded). effective_at c.index d.order d.indexed d.address) same ∙ sym r.acts_on,
            p.address ∙ ap (λ (d : Decoded). d.address) same ∙ sym r.address,
          )

      one_change : (tags : RowTags) (left right : Result RowTags Meeting) → AreTagsOfCase scales c tags left → AreTagsOfCase scales c tags right
          → left ≡ right
      one_change tags left right p r =
          let one = one_order p.0 r.0 p.1 p.2 r.1 r.2 p.3 r.3 in
          one_tags r.0 r.1 r.2 tags left right
          (subst (λ (o : Order). DoesToTags scales o r.1 r.2 tags left) one.0
          (subst (λ (k : ℕ). DoesToTags scales p.0 k r.2 tags left) one.1
          (subst (λ (k : ℕ). DoesToTags scales p.0 p.1 k tags left) one.2 p.4))) r.4

      ok_tags : (left right : RowTags) → ◌≡◌ {A = Result RowTags Meeting} (Ok left) (Ok right) → left ≡ right
      ok_tags left right same = cc

      err_two : (left right : Meeting) → ◌≡◌ {A = Result RowTags Meeting} (Err left) (Err right) → left ≡ right
      err_two left right same = cc

      ok_err : (tags : RowTags) (two : Meeting) → ◌≡◌ {A = Result RowTags Meeting} (Ok tags) (Err two) → ⊥
      ok_err tags two same = cc

      ok_pair : (left right : PostPair D) → ◌≡◌ {A = Outcome D} (Ok left) (Ok right) → left ≡ right
      ok_pair left right same = cc

      one_pair : (left right : PostPair D) → IsPostsOfCase meaning c (Ok left) → IsPostsOfCase meaning c (Ok right) → left ≡ right
      one_pair left right p r = ok_pair left right (one_answer meaning lawful c (Ok left) (Ok right) machine_is p r)

      not_kept_and_mixed : (told : TagFault) → KeepsRowTags meaning cert scales number c → MixesRowTags meaning cert scales number c told → ⊥
      not_kept_and_mixed told p r = ok_err p.tags r.two (one_change (tags_of_row scales number) (Ok p.tags) (Err r.two) p.are_tags r.are_tags)

      not_kept_and_lost : (told : TagFault) → KeepsRowTags meaning cert scales number c → LosesRowTags meaning cert scales number c told → ⊥
      not_kept_and_lost told p r =
          let tags : r.tags ≡ p.tags = ok_tags r.tags p.tags (one_change (tags_of_row scales number) (Ok r.tags) (Ok p.tags) r.are_tags p.are_tags) in
          let pair : r.pair ≡ p.pair = one_pair r.pair p.pair r.posts p.posts in
          not_all_and_first p.tags c.row p.pair r.next p.taken
          (subst (λ (t : RowTags). IsFirstLost meaning cert scales t c.row p.pair r.next) tags
          (subst (λ (two : PostPair D). IsFirstLost meaning cert scales r.tags c.row two r.next) pair r.lost))

      not_mixed_and_lost : (told other : TagFault) → MixesRowTags meaning cert scales number c told → LosesRowTags meaning cert scales number c other → ⊥
      not_mixed_and_lost told other p r = ok_err r.tags p.two (one_change (tags_of_row scales number) (Ok r.tags) (Err p.two) r.are_tags p.are_tags)

      one_mixed : (told other : TagFault) → MixesRowTags meaning cert scales number c told → MixesRowTags meaning cert scales number c other → told ≡ other
      one_mixed told other p r =
          p.is ∙ ap (λ (two : Meeting). Mixes c.word c.index c.indicator two)
          (err_two p.two r.two (one_change (tags_of_row scales number) (Err p.two) (Err r.two) p.are_tags r.are_tags)) ∙ sym r.is

      one_loss : (told other : TagFault) → LosesRowTags meaning cert scales number c told → LosesRowTags meaning cert scales number c other → told ≡ other
      one_loss told other p r =
          let tags : r.tags ≡ p.tags = ok_tags r.tags p.tags (one_change (tags_of_row scales number) (Ok r.tags) (Ok p.tags) r.are_tags p.are_tags) in
          let pair : r.pair ≡ p.pair = one_pair r.pair p.pair r.posts p.posts in
          p.is ∙ ap (λ (next : ℕ). Loses c.word c.index c.indicator next)
          (one_first_lost p.tags c.row p.pair p.next r.next p.lost
          (subst (λ (t : RowTags). IsFirstLost meaning cert scales t c.row p.pair r.next) tags
          (subst (λ (two : PostPair D). IsFirstLost meaning cert scales r.tags c.row two r.next) pair r.lost))) ∙ sym r.is

      not_kept_and_told : (told : TagFault) → KeepsRowTags meaning cert scales number c
          → MixesRowTags meaning cert scales number c told ⊎ LosesRowTags meaning cert scales number c told → ⊥
      not_kept_and_told told p (inl r) = not_kept_and_mixed told p r
      not_kept_and_told told p (inr r) = not_kept_and_lost told p r

      one_told : (told other : TagFault) → MixesRowTags meaning cert scales number c told ⊎ LosesRowTags meaning cert scales number c told
          → MixesRowTags meaning cert scales number c other ⊎ LosesRowTags meaning cert scales number c other → told ≡ other
      one_told told other (inl p) (inl r) = one_mixed told other p r
      one_told told other (inl p) (inr r) = absurd (not_mixed_and_lost told other p r)
      one_told told other (inr p) (inl r) = absurd (not_mixed_and_lost other told r p)
      one_told told other (inr p) (inr r) = one_loss told other p r

      -- a case has one outcome
      pub one_case : (left right : Result ℕ TagFault) → IsCaseTagged meaning cert scales number c left → IsCaseTagged meaning cert scales number c right
          → left ≡ right
      one_case (Ok left) (Ok right) p r = ap (λ (n : ℕ). Ok n) (p.1 ∙ sym r.1)
      one_case (Ok left) (Err right) p r = absurd (not_kept_and_told right p.0 r)
      one_case (Err left) (Ok right) p r = absurd (not_kept_and_told left r.0 p)
      one_case (Err left) (Err right) p r = ap (λ (told : TagFault). Err told) (one_told left right p r)

  -- ---- the rows

  module _ (machine : Machine) (image : List (Option ℕ)) where
    abbrev pub CaseTagged : ℕ → Row D → RowCase → Result ℕ TagFault → Type 0
    CaseTagged number row c o = IsCaseTagged meaning cert scales number (case_in machine image cert.limits row c) o

    abbrev CaseAccepted : Row D → RowCase → Type 0
    CaseAccepted row c = IsCaseAccepted meaning cert (case_in machine image cert.limits row c)

    some_of_row : (number : ℕ) (row : Row D) → IsRowAccepted meaning machine image cert row
        → (outcome : Result ℕ TagFault) × IsWalked meaning image cert.limits (Ok 0) CaseTagged number row outcome
    some_of_row number row is =
        let sum = some_in_order (λ position c o. CaseTagged number row c o) (CaseAccepted row)
        (λ position c accepted. some_case number (case_in machine image cert.limits row c) accepted)
        0 (cases_in row is.code.list) (cases_each row (CaseAccepted row) is.code.list is.cases) in
        (sum.0, (Some is.code, is.is_code, sum.1))

    -- the rows of an accepted certificate have an outcome
    pub some_rows : Accepted meaning machine image cert → (outcome : Result ℕ (AtRow TagFault)) × AreRowsTagged meaning machine image cert scales outcome
    some_rows accepted = some_in_order (λ number row o. IsWalkedAt meaning image cert.limits (Ok 0) CaseTagged number row o)
        (IsRowAccepted meaning machine image cert)
        (λ number row is. with_number meaning image cert.limits (Ok 0) CaseTagged number row (some_of_row number row is)) 1 cert.rows
        (recursion_from_All (IsRowAccepted meaning machine image cert) cert.rows accepted.rows)

    -- and one
    pub one_rows : IsMeaning D meaning → IsMachine machine → (left right : Result ℕ (AtRow TagFault)) → AreRowsTagged meaning machine image cert scales left
        → AreRowsTagged meaning machine image cert scales right → left ≡ right
    one_rows lawful machine_is left right p r = one_walk meaning image cert.limits (Ok 0) CaseTagged
        (λ number row c one other q s. one_case number (case_in machine image cert.limits row c) lawful machine_is one other q s) cert.rows left right p r

-- ---- the answer

module _ (machine : Machine) (image : List (Option ℕ)) (cert : Certificate Value) (scales : Scaling) (machine_is : IsMachine machine) where
  abbrev HasAnswer : Type 0
  HasAnswer = (answer : Scaled) × IsScaled machine image cert scales answer

  by_rows : (rows cases : ℕ) → IsVerdict value_meaning machine image cert (Certified rows cases) → Dec (IsStartTagged value_meaning cert scales image)
      → (outcome : Result ℕ (AtRow TagFault)) × AreRowsTagged value_meaning machine image cert scales outcome → HasAnswer
  by_rows rows cases is (no mixed) rest = (StartMixed, (cases, (is.0, refl), mixed))
  by_rows rows cases is (yes start) (Ok tagged, are) = (Agree rows cases, (is, start, tagged, are))
  by_rows rows cases is (yes start) (Err told, are) = (
    answer_of told.row told.fault,
    told_scaled machine image cert scales told.row told.fault (record { cases = cases; certified = (is.0, refl); start = start; rows = are }),
  )

  by_verdict : (verdict : Verdict Value) → IsVerdict value_meaning machine image cert verdict → HasAnswer
  by_verdict (Certified rows cases) is = by_rows rows cases is (is_start_tagged value_meaning cert scales image)
      (some_rows value_meaning cert scales machine image (accepted_of value_meaning machine image cert rows cases is))
  by_verdict (Refused told) is = (Unsafe told, is)

  -- there is an answer
  pub some_scaled : IsImage image → HasAnswer
  some_scaled image_is =
      let verdict = some_verdict machine image cert machine_is image_is in
      by_verdict verdict.0 verdict.1

  abbrev verdicts_one : (one other : Verdict Value) → IsVerdict value_meaning machine image cert one
      → IsVerdict value_meaning machine image cert other → one ≡ other
  verdicts_one = verdict_one value_meaning machine image cert value_lawful machine_is

  abbrev rows_one : (left right : Result ℕ (AtRow TagFault)) → AreRowsTagged value_meaning machine image cert scales left
      → AreRowsTagged value_meaning machine image cert scales right → left ≡ right
  rows_one = one_rows value_meaning cert scales machine image value_lawful machine_is

  not_refused : (rows cases : ℕ) (told : Refusal Value) → IsVerdict value_meaning machine image cert (Certified rows cases)
      → IsVerdict value_meaning machine image cert (Refused told) → ⊥
  not_refused rows cases told p r =
      let same : ◌≡◌ {A = Verdict Value} (Certified rows cases) (Refused told) = verdicts_one (Certified rows cases) (Refused told) p r in
      cc

  not_failing : (count row : ℕ) (fault : TagFault) → AreRowsTagged value_meaning machine image cert scales (Ok count)
      → FailsFirst machine image cert scales row fault → ⊥
  not_failing count row fault p r =
      let same : ◌≡◌ {A = Result ℕ (AtRow TagFault)} (Ok count) (Err (record { row = row; fault = fault })) = rows_one (Ok count) _ p r.rows in
      cc

  agree_one : (rows cases other_rows other_cases : ℕ) → ◌≡◌ {A = Verdict Value} (Certified rows cases) (Certified other_rows other_cases)
      → ◌≡◌ {A = Scaled} (Agree rows cases) (Agree other_rows other_cases)
  agree_one rows cases other_rows other_cases same = cc

  told_one : (told other : AtRow TagFault) → ◌≡◌ {A = Result ℕ (AtRow TagFault)} (Err told) (Err other)
      → answer_of told.row told.fault ≡ answer_of other.row other.fault
  told_one told other same = let one : told ≡ other = cc in ap (λ (t : AtRow TagFault). answer_of t.row t.fault) one

  fails_one : (row other : ℕ) (fault also : TagFault) → FailsFirst machine image cert scales row fault → FailsFirst machine image cert scales other also
      → answer_of row fault ≡ answer_of other also
  fails_one row other fault also p r =
      told_one (record { row = row; fault = fault }) (record { row = other; fault = also }) (rows_one _ _ p.rows r.rows)

  -- and one alone
  pub one_scaled : (one other : Scaled) → IsScaled machine image cert scales one → IsScaled machine image cert scales other → one ≡ other
  one_scaled (Agree rows cases) (Agree rows2 cases2) p r = agree_one rows cases rows2 cases2 (verdicts_one (Certified rows cases) (Certified rows2 cases2) p.0 r.0)
  one_scaled (Agree rows cases) (Unsafe told) p r = absurd (not_refused rows cases told p.0 r)
  one_scaled (Agree rows cases) StartMixed p r = absurd (r.2 p.1)
  one_scaled (Agree rows cases) (Mixed row word x v left right) p r = absurd (not_failing p.2 row _ p.3 r)
  one_scaled (Agree rows cases) (NotHeld row word x v next) p r = absurd (not_failing p.2 row _ p.3 r)
  one_scaled (Unsafe told) (Agree rows cases) p r = absurd (not_refused rows cases told r.0 p)
  one_scaled (Unsafe told) (Unsafe other) p r =
      let same : ◌≡◌ {A = Verdict Value} (Refused told) (Refused other) = verdicts_one (Refused told) (Refused other) p r in cc
  one_scaled (Unsafe told) StartMixed p r = absurd (not_refused (length cert.rows) r.0 told r.1 p)
  one_scaled (Unsafe told) (Mixed row word x v left right) p r = absurd (not_refused (length cert.rows) r.cases told r.certified p)
  one_scaled (Unsafe told) (NotHeld row word x v next) p r = absurd (not_refused (length cert.rows) r.cases told r.certified p)
  one_scaled StartMixed (Agree rows cases) p r = absurd (p.2 r.1)
  one_scaled StartMixed (Unsafe told) p r = absurd (not_refused (length cert.rows) p.0 told p.1 r)
  one_scaled StartMixed StartMixed p r = refl
  one_scaled StartMixed (Mixed row word x v left right) p r = absurd (p.2 r.start)
  one_scaled StartMixed (NotHeld row word x v next) p r = absurd (p.2 r.start)
  one_scaled (Mixed row word x v left right) (Agree rows cases) p r = absurd (not_failing r.2 row _ r.3 p)
  one_scaled (Mixed row word x v left right) (Unsafe told) p r = absurd (not_refused (length cert.rows) p.cases told p.certified r)
  one_scaled (Mixed row word x v left right) StartMixed p r = absurd (r.2 p.start)
  one_scaled (Mixed row word x v left right) (Mixed row2 word2 x2 v2 left2 right2) p r =
      fails_one row row2 (Mixes word x v (record { left = left; right = right })) (Mixes word2 x2 v2 (record { left = left2; right = right2 })) p r
  one_scaled (Mixed row word x v left right) (NotHeld row2 word2 x2 v2 next) p r =
      fails_one row row2 (Mixes word x v (record { left = left; right = right })) (Loses word2 x2 v2 next) p r
  one_scaled (NotHeld row word x v next) (Agree rows cases) p r = absurd (not_failing r.2 row _ r.3 p)
  one_scaled (NotHeld row word x v next) (Unsafe told) p r = absurd (not_refused (length cert.rows) p.cases told p.certified r)
  one_scaled (NotHeld row word x v next) StartMixed p r = absurd (r.2 p.start)
  one_scaled (NotHeld row word x v next) (Mixed row2 word2 x2 v2 left2 right2) p r =
      fails_one row row2 (Loses word x v next) (Mixes word2 x2 v2 (record { left = left2; right = right2 })) p r
  one_scaled (NotHeld row word x v next) (NotHeld row2 word2 x2 v2 next2) p r =
      fails_one row row2 (Loses word x v next) (Loses word2 x2 v2 next2) p r
