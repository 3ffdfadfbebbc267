-- A state that is in a line agrees with the line's post. All that is said of cells is here.
use Rattle.std.proofs.Common.{◌≡◌, ◌≢◌, ℕ, ◌<◌, ◌^◌, Bool, true, false, refl, sym, ap, subst, ◌∙◌, arith, List, length, get_or, set}
use Rattle.std.specs.Prelude.{Option, Some, None, IfSome, ◌==◌, unwrap_or, if◌then◌else◌}
use Rattle.std.proofs.lemmas.Bool.{eq-eqb, eqb-true}
use Rattle.std.proofs.lemmas.List.{get_or-set_same, get_or-set_other}
use Rattle.ags_domain.specs.Domain.{Meaning}
use Rattle.ags_ports.specs.State.{State, IsState, cell}
use Rattle.ags_row.specs.Cover.{cell_value, post_value, value_if}
use Rattle.ags_row.specs.declared.ats.At.{At}
use Rattle.ags_row.specs.declared.posts.Post.{Post}
use Rattle.ags_safe.specs.Case.{Case, is_erasable}
use Rattle.ags_safe.specs.Told.{Told, OneWord, These, EveryWord, IsTold, IsAmong, Store, AreCellsTold}
use Rattle.ags_safe.specs.Line.{Line, code_cell, IsPostOf}
use Rattle.ags_row.specs.declared.links.Link.{Link}
use Rattle.ags_safe.specs.Linked.{LinkHolds}
use Rattle.ags_safe.specs.InRow.{IsInCase}
use Rattle.ags_safe.specs.OneStep.{Agrees}

differ : false ≡ true → ⊥
differ h = cc

module _ {D : Type 0} (meaning : Meaning D) where
  -- a word of what is told is held by the set
  pub told_held : (told : Told D) (d : D) (w : ℕ) → IsTold meaning told d → w < 2 ^ 18 → IsAmong meaning told w → meaning.held d w ≡ true
  told_held (OneWord word) d w is below same = is.alone w below ∙ eq-eqb word w (sym same)
  told_held (These e) d w is below among = subst (λ (x : D). meaning.held x w ≡ true) (sym is) among
  told_held EveryWord d w is below among = is.every w below

  -- ---- cells that may be told

  abbrev pub names_cell : Option (Store D) → ℕ → Bool
  names_cell None address = false
  names_cell (Some store) address = store.address == address

  abbrev pub IsAmongStored : Option (Store D) → ℕ → Type 0
  IsAmongStored None w = Unit {0}
  IsAmongStored (Some store) w = IsAmong meaning store.value w

  chosen_held : (b : Bool) (value base : D) (w : ℕ) → (b ≡ true → meaning.held value w ≡ true) → (b ≡ false → meaning.held base w ≡ true)
      → meaning.held (unwrap_or (if b then Some value else None) base) w ≡ true
  chosen_held true value base w p r = p refl
  chosen_held false value base w p r = r refl

  -- a word is held by what a cell holds, where it is among what is told of the cell, or is held by what is said else
  kept_held : (store : Option (Store D)) (at : Option (At D)) (address w : ℕ) (base : D) → AreCellsTold meaning store at → w < 2 ^ 18
      → (names_cell store address ≡ true → IsAmongStored store w) → (names_cell store address ≡ false → meaning.held base w ≡ true)
      → meaning.held (unwrap_or (value_if at address) base) w ≡ true
  kept_held None None address w base told below there elsewhere = elsewhere refl
  kept_held (Some store) (Some at) address w base told below there elsewhere =
      let same : (at.address == address) ≡ (store.address == address) = ap (λ (n : ℕ). n == address) told.0 in
      chosen_held (at.address == address) at.value base w
      (λ is. told_held store.value at.value w told.1 below (there (sym same ∙ is)))
      (λ not. elsewhere (sym same ∙ not))
  kept_held None (Some at) address w base told below there elsewhere = absurd told
  kept_held (Some store) None address w base told below there elsewhere = absurd told

  -- what is told of a cell holds of its word
  abbrev pub IsToldOfCells : Option (Store D) → List ℕ → Type 0
  IsToldOfCells None cells = Unit {0}
  IsToldOfCells (Some store) cells = IsAmong meaning store.value (get_or cells store.address 0)

  told_here : (store : Option (Store D)) (cells : List ℕ) (address : ℕ) → IsToldOfCells store cells → names_cell store address ≡ true
      → IsAmongStored store (get_or cells address 0)
  told_here None cells address told same = tt
  told_here (Some store) cells address told same =
      subst (λ (n : ℕ). IsAmong meaning store.value (get_or cells n 0)) (eqb-true store.address address same) told

  -- ---- cells after a store

  -- a word of what is told was stored in an erasable cell
  pub record IsWritten (store : Store D) (cells after : List ℕ) : Type 0 where
    pub word : ℕ
    pub below : word < 2 ^ 18
    pub among : IsAmong meaning store.value word
    pub erasable : store.address < 2048
    pub are : after ≡ set cells store.address word

  abbrev pub AreCellsAfter : Option (Store D) → (cells after : List ℕ) → Type 0
  AreCellsAfter None cells after = after ≡ cells
  AreCellsAfter (Some store) cells after = IsWritten store cells after

  written_here : (stored : Option (Store D)) (cells after : List ℕ) (address : ℕ) → length cells ≡ 4096 → AreCellsAfter stored cells after
      → names_cell stored address ≡ true → IsAmongStored stored (get_or after address 0)
  written_here None cells after address count written same = tt
  written_here (Some store) cells after address count written same =
      let at : store.address ≡ address = eqb-true store.address address same in
      let inside : store.address < length cells = omega (arith, written.erasable) in
      let read : get_or after address 0 ≡ written.word =
      ap (λ (list : List ℕ). get_or list address 0) written.are
      ∙ ap (λ (n : ℕ). get_or (set cells store.address written.word) n 0) (sym at)
      ∙ get_or-set_same cells store.address written.word 0 inside in
      subst (λ (w : ℕ). IsAmong meaning store.value w) (sym read) written.among

  written_elsewhere : (stored : Option (Store D)) (cells after : List ℕ) (address : ℕ) → AreCellsAfter stored cells after
      → names_cell stored address ≡ false → get_or after address 0 ≡ get_or cells address 0
  written_elsewhere None cells after address are other = ap (λ (list : List ℕ). get_or list address 0) are
  written_elsewhere (Some store) cells after address written other =
      let apart : address ≢ store.address = λ at. differ (sym other ∙ eq-eqb store.address address (sym at)) in
      ap (λ (list : List ℕ). get_or list address 0) written.are ∙ get_or-set_other cells store.address address written.word 0 apart

  -- ---- the state after

  -- from one state, another one is left as a line says
  pub record IsInLine (s after : State) (line : Line D) : Type 0 where
    pub next : after.location ≡ line.next
    pub a_word : after.a < 2 ^ 18
    pub a : IsAmong meaning line.a after.a
    pub q_word : after.q < 2 ^ 18
    pub q : IsAmong meaning line.q after.q
    pub x : after.index ≡ line.x
    pub clear : after.indicator ≡ false → line.v0 ≡ true
    pub set : after.indicator ≡ true → line.v1 ≡ true
    pub cells : AreCellsAfter line.stored s.cells after.cells
    pub narrowed : IsToldOfCells line.narrowed s.cells
    pub link : IfSome line.link (LinkHolds after)

  module _ (c : Case D) (s : State) (is : IsState c.machine s) (in_case : IsInCase meaning c s) where
    pub erasable_word : (t : State) → IsState c.machine t → (address : ℕ) → address < 2048 → cell t address < 2 ^ 18
    erasable_word t is_state address below = is_state.cells address 0 (omega (arith, is_state.cells_count))

    -- the cell that is run from holds the case's word
    code_here : (b : Bool) (address : ℕ)
        → names_cell (if b then Some (record { address = c.row.location; value = OneWord c.word }) else None) address ≡ true
        → IsAmongStored (if b then Some (record { address = c.row.location; value = OneWord c.word }) else None) (cell s address)
    code_here true address same =
        let at : s.location ≡ address = in_case.in_row.location ∙ eqb-true c.row.location address same in
        ap (λ (n : ℕ). cell s n) (sym at) ∙ in_case.word
    code_here false address same = tt

    -- each erasable cell holds what the case says of it
    case_cell : (post : Post D) → AreCellsTold meaning (code_cell c) post.code → (address : ℕ) → address < 2048
        → meaning.held (unwrap_or (value_if post.code address) (cell_value c.row c.limits address)) (cell s address) ≡ true
    case_cell post told address below = kept_held (code_cell c) post.code address (cell s address) (cell_value c.row c.limits address) told
        (erasable_word s is address below)
        (code_here (is_erasable c.row.location) address)
        (λ other. in_case.in_row.cells address below)

    -- so it is where a test tells of a cell
    tested_cell : (line : Line D) (post : Post D) → IsPostOf meaning c line post → IsToldOfCells line.narrowed s.cells → (address : ℕ)
        → address < 2048
        → meaning.held (unwrap_or (value_if post.narrowed address) (unwrap_or (value_if post.code address) (cell_value c.row c.limits address))) (cell s address) ≡ true
    tested_cell line post is_post told address below = kept_held line.narrowed post.narrowed address (cell s address)
        (unwrap_or (value_if post.code address) (cell_value c.row c.limits address)) is_post.narrowed (erasable_word s is address below)
        (told_here line.narrowed s.cells address told)
        (λ other. case_cell post is_post.code address below)

    -- a state that is left as a line says agrees with the line's post
    pub line_agrees : (line : Line D) (post : Post D) (after : State) → IsPostOf meaning c line post → IsInLine s after line
        → IsState c.machine after → Agrees meaning c.limits c.row post after
    unfolding post_value
    line_agrees line post after is_post in_line is_state = record {
      location = in_line.next ∙ sym is_post.next;
      a = told_held line.a post.a after.a is_post.a in_line.a_word in_line.a;
      q = told_held line.q post.q after.q is_post.q in_line.q_word in_line.q;
      index = in_line.x ∙ sym is_post.x;
      clear = λ no. is_post.v0 ∙ in_line.clear no;
      set = λ yes. is_post.v1 ∙ in_line.set yes;
      cells = λ address below. kept_held line.stored post.stored address (cell after address)
          (unwrap_or (value_if post.narrowed address) (unwrap_or (value_if post.code address) (cell_value c.row c.limits address))) is_post.stored
          (erasable_word after is_state address below)
          (written_here line.stored s.cells after.cells address is.cells_count in_line.cells)
          (λ other. subst (λ (w : ℕ). meaning.held (unwrap_or (value_if post.narrowed address) (unwrap_or (value_if post.code address) (cell_value c.row c.limits address))) w ≡ true)
          (sym (written_elsewhere line.stored s.cells after.cells address in_line.cells other))
          (tested_cell line post is_post in_line.narrowed address below));
      link = subst (λ (link : Option Link). IfSome link (LinkHolds after)) (sym is_post.link) in_line.link;
    }
