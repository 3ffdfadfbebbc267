-- A row that holds all that may stand at the start holds each start whose cells are in their limits: `start_in_row`, which crates
-- above cite too.
use Rattle.std.proofs.Common.{◌≡◌, ℕ, zero, suc, ◌<◌, Bool, true, false, refl, sym, ap, subst, ◌∙◌, arith, List, [], ◌∷◌, length, get_or, ℤ, ◌+ℤ◌}
use Rattle.std.specs.Prelude.{Option, Some, None, IfSome, ◌==◌, unwrap_or, if◌then◌else◌}
use Rattle.std.proofs.lemmas.Bool.{eqb-true}
use Rattle.std.proofs.lemmas.Int.{ints}
use Rattle.ags_word.specs.Word.{val}
use Rattle.ags_domain.specs.Domain.{Meaning}
use Rattle.ags_ports.specs.declared.machines.Machine.{Machine}
use Rattle.ags_ports.specs.State.{State, cell}
use Rattle.ags_row.specs.Cell.{value_among}
use Rattle.ags_row.specs.Cover.{cell_value}
use Rattle.ags_row.specs.Flag.{has_flag, indicator_number}
use Rattle.ags_row.specs.Limit.{cell_limit}
use Rattle.ags_row.specs.declared.ats.At.{At}
use Rattle.ags_row.specs.declared.links.Link.{Link}
use Rattle.ags_row.specs.declared.rows.Row.{Row}
use Rattle.ags_safe.specs.InRow.{IsInRow, AreCellsInLimits}
use Rattle.ags_safe.specs.Linked.{LinkHolds}
use Rattle.ags_safe.proofs.LinkLemmas.{linked_below}
use Rattle.ags_safe.specs.Accepted.{HoldsStart}
use Rattle.ags_safe.specs.Certificate.{Certificate}
use Rattle.ags_safe.specs.Start.{IsStartWord, IsStart}

zero_plus : (n : ℤ) → (val 0 +ℤ n) ≡ n
unfolding val
zero_plus n = omega (arith, ints)

module _ {D : Type 0} (meaning : Meaning D) where
  named_held : (here : Bool) (named limit : D) (rest : Option D) (w : ℕ) → (here ≡ true → meaning.held named w ≡ true)
      → meaning.held (unwrap_or rest limit) w ≡ true → meaning.held (unwrap_or (if here then Some named else rest) limit) w ≡ true
  named_held true named limit rest w is other = is refl
  named_held false named limit rest w is other = other

  -- what holds of each cell that is named, and of the limit, holds of what the row says
  named_or_limit : (cells : List (At D)) (limit : D) (address w : ℕ) → ((k : ℕ) (d : At D) → k < length cells
      → (get_or cells k d).address ≡ address → meaning.held ((get_or cells k d).value) w ≡ true) → meaning.held limit w ≡ true
      → meaning.held (unwrap_or (value_among cells address) limit) w ≡ true
  named_or_limit [] limit address w each in_limit = in_limit
  named_or_limit (at ∷ cells) limit address w each in_limit =
      named_held (at.address == address) at.value limit (value_among cells address) w
      (λ same. each zero at (omega arith) (eqb-true at.address address same))
      (named_or_limit cells limit address w (λ k d inside is. each (suc k) d (omega arith) is) in_limit)

  module _ (machine : Machine) (image : List (Option ℕ)) (cert : Certificate D) (s : State) (start : IsStart meaning machine image cert s)
      (in_limits : AreCellsInLimits meaning cert.limits s) where
    link_at_start : (link : Option Link) → ((l : Link) → link ≡ Some l → l.address < 2048)
        → IfSome link (λ link. (word : ℕ) → IsStartWord meaning image cert link.address word → link.offset ≡ val word) → IfSome link (LinkHolds s)
    link_at_start None low is = tt
    link_at_start (Some link) low is =
        ap (λ (w : ℕ). val w +ℤ link.offset) start.a ∙ zero_plus link.offset
        ∙ is (cell s link.address) (start.cells link.address (low link refl))

    pub start_in_row : (row : Row D) → HoldsStart meaning image cert row → IsInRow meaning image cert.limits row s
    unfolding cell_value
    start_in_row row holds = record {
      location = start.location ∙ sym holds.location;
      a = ap (λ (w : ℕ). meaning.held row.a w) start.a ∙ holds.a;
      q = ap (λ (w : ℕ). meaning.held row.q w) start.q ∙ holds.q;
      index = ap (λ (n : ℕ). has_flag row.x n) start.index ∙ holds.index;
      indicator = ap (λ (b : Bool). has_flag row.v (indicator_number b)) start.indicator ∙ holds.indicator;
      fixed = start.fixed;
      cells = λ address below. named_or_limit row.at (cell_limit cert.limits address) address (cell s address)
          (λ k d inside here. holds.cells k d inside (cell s address)
          (subst (λ (n : ℕ). IsStartWord meaning image cert n (cell s address)) (sym here) (start.cells address below)))
          (in_limits address below);
      link = link_at_start row.link (linked_below row.link row.linked) holds.link;
    }
