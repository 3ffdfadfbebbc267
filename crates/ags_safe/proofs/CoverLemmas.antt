-- A covering row holds the state after a step, and a step keeps the cells in their limits.
use Rattle.std.proofs.Common.{◌≡◌, ◌≢◌, ℕ, zero, suc, ◌<◌, Bool, true, false, refl, sym, ap, subst, ◌∙◌, arith, List, [], ◌∷◌, length, get_or, set}
use Rattle.std.specs.Prelude.{Option, Some, None, IfSome, ◌==◌, nat_lt, unwrap_or, if◌then◌else◌}
use Rattle.std.proofs.lemmas.Bool.{eq-eqb, eqb-true}
use Rattle.std.proofs.lemmas.List.{get_or-set_same, get_or-set_other}
use Rattle.ags_domain.specs.Domain.{Meaning}
use Rattle.ags_ports.specs.declared.events.Event.TheVariants.{Step}
use Rattle.ags_ports.specs.declared.events.Done.{Done}
use Rattle.ags_ports.specs.declared.events.Stored.{Stored}
use Rattle.ags_ports.specs.declared.machines.Machine.{Machine}
use Rattle.ags_ports.specs.State.{State, IsState, cell}
use Rattle.ags_ports.specs.Change.{cells_after_store}
use Rattle.ags_ports.specs.Step.{Steps}
use Rattle.ags_ports.proofs.ChangeLemmas.{cells_told}
use Rattle.ags_row.specs.Cell.{value_among}
use Rattle.ags_row.specs.Flag.{has_flag, indicator_number}
use Rattle.ags_row.specs.Limit.{Limiting, cell_limit}
use Rattle.ags_row.specs.Cover.{cell_value, post_value, Covers}
use Rattle.ags_row.specs.declared.ats.At.{At}
use Rattle.ags_row.specs.declared.posts.Post.{Post}
use Rattle.ags_row.specs.declared.rows.Row.{Row}
use Rattle.ags_row.specs.declared.links.Link.{Link}
use Rattle.ags_safe.specs.Case.{Case}
use Rattle.ags_safe.specs.Linked.{LinkHolds}
use Rattle.ags_safe.specs.InRow.{IsInRow, HasFixedWords, AreCellsInLimits}
use Rattle.ags_safe.specs.OneStep.{Agrees, Follows, IsStoreInLimit}
use Rattle.ags_safe.specs.declared.answers.PostPair.{PostPair}

-- ---- covering

flag_of : (flags : List Bool) (b : Bool) → (b ≡ false → has_flag flags 0 ≡ true) → (b ≡ true → has_flag flags 1 ≡ true)
    → has_flag flags (indicator_number b) ≡ true
flag_of flags true clear set = set refl
flag_of flags false clear set = clear refl

module _ {D : Type 0} (meaning : Meaning D) where
  named_or : (b : Bool) (named rest : D) (w : ℕ) → (b ≡ true → meaning.held named w ≡ true) → meaning.held rest w ≡ true
      → meaning.held (if b then named else rest) w ≡ true
  named_or true named rest w p r = p refl
  named_or false named rest w p r = r

  if_some : (b : Bool) (value limit : D) (rest : Option D) → unwrap_or (if b then Some value else rest) limit ≡ (if b then value else unwrap_or rest limit)
  if_some true value limit rest = refl
  if_some false value limit rest = refl

  -- what holds of each cell that is named, and of the limit, holds of what the row says
  among_held : (cells : List (At D)) (limit : D) (address w : ℕ) → ((k : ℕ) (d : At D) → k < length cells
      → (get_or cells k d).address ≡ address → meaning.held ((get_or cells k d).value) w ≡ true) → meaning.held limit w ≡ true
      → meaning.held (unwrap_or (value_among cells address) limit) w ≡ true
  among_held [] limit address w each in_limit = in_limit
  among_held (at ∷ cells) limit address w each in_limit =
      subst (λ (d : D). meaning.held d w ≡ true) (sym (if_some (at.address == address) at.value limit (value_among cells address)))
      (named_or (at.address == address) at.value (unwrap_or (value_among cells address) limit) w
      (λ same. each zero at (omega arith) (eqb-true at.address address same))
      (among_held cells limit address w (λ k d inside is. each (suc k) d (omega arith) is) in_limit))

  -- the link that a row asks for holds where it is the post's
  link_covered : (asked left : Option Link) (s : State) → IfSome asked (λ link. left ≡ Some link) → IfSome left (LinkHolds s) → IfSome asked (LinkHolds s)
  link_covered None left s same holds = tt
  link_covered (Some link) left s same holds = subst (λ (l : Option Link). IfSome l (LinkHolds s)) same holds

  pub covered : (machine : Machine) (image : List (Option ℕ)) (limits : Limiting D) (target base : Row D) (post : Post D) (s : State)
      → IsState machine s → Covers meaning target base post limits → Agrees meaning limits base post s
      → HasFixedWords image s → AreCellsInLimits meaning limits s → IsInRow meaning image limits target s
  unfolding cell_value
  covered machine image limits target base post s is covers agrees fixed in_limits = record {
    location = agrees.location ∙ sym covers.location;
    a = covers.a s.a is.a agrees.a;
    q = covers.q s.q is.q agrees.q;
    index = ap (λ (n : ℕ). has_flag target.x n) agrees.index ∙ covers.index;
    indicator = flag_of target.v s.indicator (λ no. covers.clear (agrees.clear no)) (λ yes. covers.set (agrees.set yes));
    fixed = fixed;
    cells = λ address below. among_held target.at (cell_limit limits address) address (cell s address)
        (λ k d inside here.
        covers.cells k d inside (cell s address) (is.cells address 0 (omega (arith, is.cells_count)))
        (subst (λ (n : ℕ). meaning.held (post_value base limits post n) (cell s address) ≡ true) (sym here) (agrees.cells address below)))
        (in_limits address below);
    link = link_covered target.link post.link s covers.link agrees.link;
  }

  -- ---- limits

  stored_in_limits : (limits : Limiting D) (cells : List ℕ) (stored : Option Stored) → length cells ≡ 4096 → IfSome stored (IsStoreInLimit meaning limits)
      → ((address : ℕ) → address < 2048 → meaning.held (cell_limit limits address) (get_or cells address 0) ≡ true)
      → (address : ℕ) → address < 2048 → meaning.held (cell_limit limits address) (get_or (cells_after_store cells stored) address 0) ≡ true
  stored_in_limits limits cells None count within before address below = before address below
  stored_in_limits limits cells (Some stored) count within before address below =
      written_in_limits (nat_lt stored.address 2048) (address == stored.address) refl
    where
      written_in_limits : (low here : Bool) → (address == stored.address) ≡ here
          → meaning.held (cell_limit limits address) (get_or (if low then set cells stored.address stored.word else cells) address 0) ≡ true
      written_in_limits false here same = before address below
      written_in_limits true true same =
          let at : stored.address ≡ address = sym (eqb-true address stored.address same) in
          let inside : stored.address < length cells = omega (arith, within.0) in
          let read : get_or (set cells stored.address stored.word) address 0 ≡ stored.word =
          ap (λ (n : ℕ). get_or (set cells stored.address stored.word) n 0) (sym at) ∙ get_or-set_same cells stored.address stored.word 0 inside in
          subst (λ (w : ℕ). meaning.held (cell_limit limits address) w ≡ true) (sym read)
          (subst (λ (n : ℕ). meaning.held (cell_limit limits n) stored.word ≡ true) at within.1)
      written_in_limits true false other =
          let apart : address ≢ stored.address = λ at. false_true (sym other ∙ eq-eqb address stored.address at) in
          subst (λ (w : ℕ). meaning.held (cell_limit limits address) w ≡ true)
          (sym (get_or-set_other cells stored.address address stored.word 0 apart)) (before address below)
        where
          false_true : false ≡ true → ⊥
          false_true h = cc

  pub kept_in_limits : (c : Case D) (s : State) (report : Done) (after : State) (pair : PostPair D) → IsState c.machine s
      → Steps c.machine s Step report after → Follows meaning c pair report after
      → AreCellsInLimits meaning c.limits s → AreCellsInLimits meaning c.limits after
  kept_in_limits c s report after pair is step follows before address below =
      subst (λ (cells : List ℕ). meaning.held (cell_limit c.limits address) (get_or cells address 0) ≡ true)
      (sym (cells_told c.machine s Step report after step))
      (stored_in_limits c.limits s.cells report.stored is.cells_count follows.stored before address below)
