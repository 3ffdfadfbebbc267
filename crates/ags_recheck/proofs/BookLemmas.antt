-- A book: what is kept of each row, before and after an edit.
use Rattle.std.proofs.Common.{◌≡◌, ◌≢◌, ℕ, zero, suc, ◌+◌, ◌-◌, ◌<◌, ◌≤◌, refl, sym, ap, subst, ◌∙◌, ⊎_elim, inl, inr, arith, List, ◌++◌, length, get_or, set, take}
use Rattle.std.specs.Prelude.{Option, Result, Ok, Err, IfOk}
use Rattle.std.proofs.lemmas.Bool.{cases_lt}
use Rattle.std.proofs.lemmas.List.{get_or-set_other, get_or-set_same, length-set, take_at}
use Rattle.ags_domain.specs.Value.{value_meaning}
use Rattle.ags_domain.specs.declared.values.Value.{Value}
use Rattle.ags_ports.specs.declared.machines.Machine.{Machine}
use Rattle.ags_row.specs.Limit.{Limiting}
use Rattle.ags_row.specs.declared.ats.At.{At}
use Rattle.ags_row.specs.declared.rows.Row.{Row}
use Rattle.ags_verdict.specs.InOrder.{InOrder}
use Rattle.ags_verdict.specs.Fault.{refusal_of, IsRowJudged, IsRowJudgedAt}
use Rattle.ags_verdict.specs.declared.verdicts.RowFault.{RowFault}
use Rattle.ags_verdict.specs.declared.verdicts.Refusal.{Refusal}
use Rattle.ags_verdict.specs.Counting.{HasCases}
use Rattle.ags_certtype.specs.Cert.{Stated, certificate_of}
use Rattle.ags_certtype.specs.Edit.{IsNoRow, ReplacesLimit, ReplacesRow, with_row}
use Rattle.ags_certtype.specs.declared.edit_errors.EditError.{EditError}
use Rattle.ags_certtype.specs.declared.edit_errors.EditError.TheVariants.{NoRow, OutsideGlobal, BelowUse, FullLocation}
use Rattle.ags_recheck.specs.Bound.{HaveCasesAt, IsMostOfRow}
use Rattle.ags_recheck.specs.Joined.{joined}
use Rattle.ags_recheck.specs.Locations.{has_location}
use Rattle.ags_recheck.specs.Kept.{AreItemsKept, AreOthersKept, IsBook, IsBeforeEdit}
use Rattle.ags_recheck.specs.declared.items.Item.{Item}
use Rattle.ags_recheck.proofs.OrderLemmas.{one_more, first_fault}
use Rattle.ags_recheck.proofs.EditLemmas.{kept_local}
use Rattle.ags_recheck.proofs.KeepingLemmas.{some_at}

module _ (machine : Machine) (image : List (Option ℕ)) (stated : Stated) (items : List Item) (book : IsBook machine image stated items) where
  -- a row in place of another
  module _ (position : ℕ) (old new : Row Value) (one other : ℕ) (inside : position < length stated.rows) (stands : get_or stated.rows position old ≡ old)
      (one_is : one ≡ old.location) (other_is : other ≡ new.location) where
    abbrev pub After : Stated
    After = record stated { rows = set stated.rows position new }

    row_before : (p : ℕ) (row : Row Value) → p ≢ position → get_or After.rows p row ≡ row → get_or stated.rows p row ≡ row
    row_before p row apart is = sym (get_or-set_other stated.rows position p new row apart) ∙ is

    below_before : (p : ℕ) → p < length After.rows → p < length stated.rows
    below_before p below = subst (λ (n : ℕ). p < n) (length-set stated.rows position new) below

    -- the others are kept where their posts go to neither location
    pub others_kept : AreOthersKept machine image After position one other items
    others_kept p row item below row_is item_is apart no_one no_other =
        kept_local machine image stated position old new row item.outcome item.locations inside stands
        (ap (has_location item.locations) (sym one_is) ∙ no_one) (ap (has_location item.locations) (sym other_is) ∙ no_other)
        (book.kept p row item (below_before p below) (row_before p row apart row_is) item_is)

    -- so the rows were before the edit
    pub before_edit : IsBeforeEdit machine image After position one other stated.rows new items
    before_edit = record {
      whole = sym (length-set stated.rows position new);
      new_stands = λ row below is. sym is ∙ get_or-set_same stated.rows position new row inside;
      others_stand = λ p row apart. get_or-set_other stated.rows position p new row apart;
      one_noted = λ p row item below apart row_is item_is has.
          ((book.kept p row item (below_before p below) (row_before p row apart row_is) item_is).noted one).0 has;
      other_noted = λ p row item below apart row_is item_is has.
          ((book.kept p row item (below_before p below) (row_before p row apart row_is) item_is).noted other).0 has;
    }

  -- ---- what is kept of the rows, in order

  abbrev pub Told : ℕ → Row Value → Result ℕ (Refusal Value) → Type 0
  Told n r o = IsRowJudgedAt value_meaning (certificate_of stated) machine image n r o

  -- what is kept of a row, told by its number, is what the row is judged to be
  told_judged : (number : ℕ) (row : Row Value) (outcome : Result ℕ (RowFault Value)) (result : Result ℕ (Refusal Value))
      → ((count : ℕ) → outcome ≡ Ok count → result ≡ Ok count)
      → ((fault : RowFault Value) → outcome ≡ Err fault → result ≡ Err (refusal_of number fault))
      → IsRowJudged value_meaning (certificate_of stated) machine image row outcome → Told number row result
  told_judged number row (Ok count) result counted refused is =
      subst (λ (r : Result ℕ (Refusal Value)). Told number row r) (sym (counted count refl)) is
  told_judged number row (Err fault) result counted refused is =
      subst (λ (r : Result ℕ (Refusal Value)). Told number row r) (sym (refused fault refl)) (fault, is, refl)

  few_of : (outcome : Result ℕ (RowFault Value)) (number more : ℕ) (result : Result ℕ (Refusal Value)) → IfOk outcome (λ count. count ≤ 256)
      → ((count : ℕ) → outcome ≡ Ok count → result ≡ Ok count)
      → ((fault : RowFault Value) → outcome ≡ Err fault → result ≡ Err (refusal_of number fault)) → result ≡ Ok more → more ≤ 256
  few_of (Ok count) number more result few counted refused is =
      let same : ◌≡◌ {A = Result ℕ (Refusal Value)} (Ok count) (Ok more) = sym (counted count refl) ∙ is in
      let one : count ≡ more = cc in subst (λ (n : ℕ). n ≤ 256) one few
  few_of (Err fault) number more result few counted refused is =
      let same : ◌≡◌ {A = Result ℕ (Refusal Value)} (Err (refusal_of number fault)) (Ok more) = sym (refused fault refl) ∙ is in absurd cc

  module _ (i number : ℕ) (position_is : number ≡ i + 1) (item : Item) (result : Result ℕ (Refusal Value)) (inside : i < length items) (item_is : item ≡ get_or items i item)
      (counted : (count : ℕ) → item.outcome ≡ Ok count → result ≡ Ok count)
      (refused : (fault : RowFault Value) → item.outcome ≡ Err fault → result ≡ Err (refusal_of number fault)) where
    below : i < length stated.rows
    below = subst (λ (n : ℕ). i < n) book.whole inside

    row_told : (row : Row Value) × (get_or stated.rows i row ≡ row) × Told (i + 1) row result
    row_told =
        let row = some_at stated.rows i below in (
          row.0,
          row.1,
          subst (λ (n : ℕ). Told n row.0 result) position_is
              (told_judged number row.0 item.outcome result counted refused (book.kept i row.0 item below row.1 (sym item_is)).judged),
        )

    pub few_more : (more : ℕ) → result ≡ Ok more → more ≤ 256
    few_more more is =
        let row = some_at stated.rows i below in
        few_of item.outcome number more result (book.kept i row.0 item below row.1 (sym item_is)).few counted refused is

    module _ (count : ℕ) (so_far : InOrder Told 1 (take i stated.rows) (Ok count)) where
      joined_row : InOrder Told 1 (take (i + 1) stated.rows) (joined (Ok count) result)
      joined_row = one_more Told 1 stated.rows i row_told.0 row_told.0 (Ok count) result below (sym row_told.1) so_far row_told.2

      pub further_row : (more : ℕ) → result ≡ Ok more → InOrder Told 1 (take (i + 1) stated.rows) (Ok (count + more))
      further_row more is = subst (λ (r : Result ℕ (Refusal Value)). InOrder Told 1 (take (i + 1) stated.rows) (joined (Ok count) r)) is joined_row

      pub fails_row : (refusal : Refusal Value) → result ≡ Err refusal → InOrder Told 1 stated.rows (Err refusal)
      fails_row refusal is = first_fault Told 1 stated.rows (i + 1) refusal
          (subst (λ (r : Result ℕ (Refusal Value)). InOrder Told 1 (take (i + 1) stated.rows) (joined (Ok count) r)) is joined_row)

-- items that were judged make a book, in the room that they have
pub book_made : (machine : Machine) (image : List (Option ℕ)) (stated : Stated) (items rest : List Item) (len : ℕ) → length items ≡ length stated.rows
    → length items ≡ len → AreItemsKept machine image stated items → IsBook machine image stated (take len (items ++ rest))
book_made machine image stated items rest len whole same kept =
    subst (λ (xs : List Item). IsBook machine image stated xs) (sym (take_at items rest len same)) (record { whole = whole; kept = kept })

-- ---- a row is replaced

module _ (machine : Machine) (image : List (Option ℕ)) (stated : Stated) (items : List Item) (book : IsBook machine image stated items)
    (number : ℕ) (row : Row Value) (there : ¬ IsNoRow stated number) (one other : ℕ)
    (one_is : (d : Row Value) → ¬ IsNoRow stated number → one ≡ (get_or stated.rows (number - 1) d).location) (other_is : other ≡ row.location)
    (after : Stated) (after_is : after ≡ with_row stated number row) where
  pub inside_of : number - 1 < length stated.rows
  inside_of = ⊎_elim
      (λ less. less)
      (λ more. absurd (there (by_zero number refl more)))
      (cases_lt (number - 1) (length stated.rows))
    where
      by_zero : (n : ℕ) → n ≡ number → length stated.rows ≤ number - 1 → IsNoRow stated number
      by_zero zero same more = inl (sym same)
      by_zero (suc n) same more = inr (omega (arith, same, more))

  replaced : (old : Row Value) × (get_or stated.rows (number - 1) old ≡ old)
  replaced = some_at stated.rows (number - 1) inside_of

  one_of : one ≡ replaced.0.location
  one_of = one_is replaced.0 there ∙ ap (λ (r : Row Value). r.location) replaced.1

  pub others_kept_after : AreOthersKept machine image after (number - 1) one other items
  others_kept_after = subst (λ (s : Stated). AreOthersKept machine image s (number - 1) one other items) (sym after_is)
      (others_kept machine image stated items book (number - 1) replaced.0 row one other inside_of replaced.1 one_of other_is)

  pub steps_after : (taken start : ℕ)
      → ((before : List (Row Value)) (new : Row Value) (own others : ℕ) → IsBeforeEdit machine image after (number - 1) one other before new items
      → HasCases value_meaning image after.limits new own → HaveCasesAt machine image after.limits one other before others → taken ≤ start + own + others)
      → (most : ℕ) → IsMostOfRow (record { machine = machine; image = image; cert = stated }) (record { machine = machine; image = image; cert = after }) number row most
      → taken ≤ start + most
  steps_after taken start steps most is =
      let limits : stated.limits ≡ after.limits = sym (ap (λ (s : Stated). s.limits) after_is) in
      let within = steps stated.rows row is.own is.others
      (subst (λ (s : Stated). IsBeforeEdit machine image s (number - 1) one other stated.rows row items) (sym after_is)
      (before_edit machine image stated items book (number - 1) replaced.0 row one other inside_of replaced.1 one_of other_is))
      is.has_own
      (subst (λ (l : Limiting Value). HaveCasesAt machine image l one other stated.rows is.others) limits
      (subst (λ (n : ℕ). HaveCasesAt machine image stated.limits one n stated.rows is.others) (sym other_is)
      (subst (λ (n : ℕ). HaveCasesAt machine image stated.limits n row.location stated.rows is.others) (sym (one_is row there)) is.have_others))) in
      omega (arith, within, is.most_is)

-- where a limit is refused the certificate stays
pub limit_refused : (old new : Stated) (cell : At Value) (told : EditError) → ReplacesLimit old cell (Err told) new → new ≡ old
limit_refused old new cell BelowUse refused = refused.1
limit_refused old new cell _ refused = absurd refused

pub row_refused : (old new : Stated) (number : ℕ) (row : Row Value) (told : EditError) → ReplacesRow old number row (Err told) new → new ≡ old
row_refused old new number row NoRow refused = refused.1
row_refused old new number row (OutsideGlobal address) refused = refused.2
row_refused old new number row BelowUse refused = absurd refused
row_refused old new number row FullLocation refused = refused.3
