-- The code of a row has the word of each state of the row, and a row has one code.
use Rattle.std.proofs.Common.{◌≡◌, ℕ, ◌<◌, ◌≤◌, ◌^◌, Bool, true, false, refl, sym, ap, ◌∙◌, arith, List, [], ◌∷◌}
use Rattle.std.specs.Prelude.{Option, Some, None, ◌||◌, eqb, MatchBool}
use Rattle.std.proofs.lemmas.Bool.{eq-eqb, ltb-true}
use Rattle.std.proofs.lemmas.Bool.Decides.{nat_tests}
use Rattle.ags_domain.specs.ListLaws.{lists_word}
use Rattle.ags_domain.specs.WordSet.{lists, HoldsMore}
use Rattle.ags_domain.specs.Domain.{Meaning, AreFew}
use Rattle.ags_domain.specs.MeaningLaws.{value_lawful}
use Rattle.ags_domain.specs.declared.word_sets.WordSet.{WordSet}
use Rattle.ags_domain.specs.declared.values.Value.{Value}
use Rattle.ags_domain.specs.declared.values.Value.TheVariants.{Words}
use Rattle.ags_image.specs.Image.{word_at}
use Rattle.ags_ports.specs.declared.machines.Machine.{Machine}
use Rattle.ags_ports.specs.State.{State, IsState, cell, word_here}
use Rattle.ags_row.specs.Limit.{Limiting}
use Rattle.ags_row.specs.Cover.{cell_value}
use Rattle.ags_row.specs.declared.rows.Row.{Row}
use Rattle.ags_safe.specs.Case.{IsCode, is_erasable}
use Rattle.ags_safe.specs.InRow.{IsInRow}

differ : true ≡ false → ⊥
differ h = cc

or_false : (b : Bool) → b ≡ true → (b || false) ≡ true
or_false b h = rw h refl

fixed_from : (address : ℕ) → is_erasable address ≡ false → 2048 ≤ address
fixed_from address h = grind (arith, nat_tests)

module _ {D : Type 0} (meaning : Meaning D) (image : List (Option ℕ)) (limits : Limiting D) (row : Row D) where
  -- ---- the word of a state

  word_by : (low : Bool) (set : WordSet) (machine : Machine) (s : State) → is_erasable row.location ≡ low
      → MatchBool low (AreFew meaning (cell_value row limits row.location) (Some set)) (set.list ≡ word_at image row.location ∷ [])
      → IsState machine s → IsInRow meaning image limits row s → lists set.list (cell s row.location) ≡ true
  word_by true set machine s low few is in_row =
      let below : row.location < 2048 = ltb-true row.location 2048 low in
      sym (few (cell s row.location) (is.cells row.location 0 (omega (arith, is.cells_count)))) ∙ in_row.cells row.location below
  word_by false set machine s fixed one is in_row =
      let word : cell s row.location ≡ word_at image row.location = in_row.fixed row.location (fixed_from row.location fixed) row.below in
      ap (λ (words : List ℕ). lists words (cell s row.location)) one
      ∙ or_false (eqb (word_at image row.location) (cell s row.location)) (eq-eqb (word_at image row.location) (cell s row.location) (sym word))

  pub code_has_word : (set : WordSet) (machine : Machine) (s : State) → IsState machine s → IsInRow meaning image limits row s
      → IsCode meaning image limits row (Some set) → lists set.list (word_here s) ≡ true
  code_has_word set machine s is in_row code =
      ap (λ (n : ℕ). lists set.list (cell s n)) in_row.location ∙ word_by (is_erasable row.location) set machine s refl code is in_row

  -- ---- one code

  words_one : (set other : WordSet) → ((w : ℕ) → w < 2 ^ 18 → lists set.list w ≡ lists other.list w) → set ≡ other
  words_one set other same =
      let one : ◌≡◌ {A = Value} (Words set) (Words other) = value_lawful.one (Words set) (Words other) refl same in
      cc

  sets_one : (low : Bool) (set other : WordSet)
      → MatchBool low (AreFew meaning (cell_value row limits row.location) (Some set)) (set.list ≡ word_at image row.location ∷ [])
      → MatchBool low (AreFew meaning (cell_value row limits row.location) (Some other)) (other.list ≡ word_at image row.location ∷ [])
      → set ≡ other
  sets_one true set other p r = words_one set other (λ w is. sym (p w is) ∙ r w is)
  sets_one false set other p r = words_one set other (λ w is. ap (λ (words : List ℕ). lists words w) (p ∙ sym r))

  none_many : (low : Bool) (set : WordSet) → low ≡ true
      → MatchBool low (AreFew meaning (cell_value row limits row.location) (Some set)) (set.list ≡ word_at image row.location ∷ [])
      → HoldsMore 16 (meaning.held (cell_value row limits row.location)) → ⊥
  none_many true set low few more = value_lawful.listed (Words set) refl (record {
    words = more.words;
    once = more.once;
    are_held = λ w listed. sym (few w (lists_word 0 more.words w more.once listed)) ∙ more.are_held w listed;
    more = more.more;
  })
  none_many false set low few more = differ (sym low)

  pub code_one : (one other : Option WordSet) → IsCode meaning image limits row one → IsCode meaning image limits row other → one ≡ other
  code_one None None p r = refl
  code_one (Some set) None p r = absurd (none_many (is_erasable row.location) set r.0 p r.1)
  code_one None (Some set) p r = absurd (none_many (is_erasable row.location) set p.0 r p.1)
  code_one (Some set) (Some other) p r = ap (λ (s : WordSet). Some s) (sets_one (is_erasable row.location) set other p r)
