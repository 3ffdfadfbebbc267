-- What the parts of the table of posts are worth: an order that is in a line is sound, one that stores, and one that computes.
use Rattle.std.proofs.Common.{◌≡◌, ℕ, ◌+◌, ◌%◌, ◌<◌, ◌^◌, Bool, true, false, refl, sym, ap, subst, ◌∙◌, arith, List, set, inl}
use Rattle.std.specs.Prelude.{Option, Some, None, Result, Ok, Err, not, ◌||◌, nat_lt, IsSome, IfSome, MatchBool, if◌then◌else◌}
use Rattle.std.specs.Option.{IsSomeAnd}
use Rattle.std.proofs.lemmas.Bool.{ltb-true}
use Rattle.ags_word.specs.Operation.{Operation}
use Rattle.ags_domain.specs.Domain.{Ends, Meaning, IsMeaning, IsBetween}
use Rattle.ags_domain.specs.Hull.{Answers, IsOperands, new_a_at, overflows_at}
use Rattle.ags_domain.specs.declared.operands.Operands.{Operands}
use Rattle.ags_ports.specs.Port.{position_of}
use Rattle.ags_ports.specs.State.{State, IsState, cell, next_location}
use Rattle.ags_ports.specs.Effect.{Effect, leaves, overflowing, then_stores}
use Rattle.ags_row.specs.Limit.{is_named}
use Rattle.ags_row.specs.declared.posts.Post.{Post}
use Rattle.ags_safe.specs.Case.{Case, is_erasable, next_of_row}
use Rattle.ags_safe.specs.Told.{Told, These, EveryWord, IsAmong}
use Rattle.ags_safe.specs.Line.{Line, moves_on, IsPostOf}
use Rattle.ags_safe.specs.Posts.{Outcome, IsSingle, Decides, IsStored}
use Rattle.ags_row.specs.declared.links.Link.{Link}
use Rattle.ags_safe.specs.Linked.{LinkHolds}
use Rattle.ags_safe.specs.InRow.{IsInCase}
use Rattle.ags_safe.specs.OneStep.{AgreesWith, AgreesWithOne, IsStoreInLimit, IsGivenInLimit}
use Rattle.ags_safe.specs.declared.answers.PostPair.{PostPair}
use Rattle.ags_safe.specs.declared.answers.Stop.{Stop}
use Rattle.ags_safe.specs.declared.answers.Stop.TheVariants.{MayOverflow}
use Rattle.ags_safe.proofs.AgreementLemmas.{told_held, IsInLine, line_agrees}

-- an order's effect follows a case's posts
pub record IsSound {D : Type 0} (meaning : Meaning D) (c : Case D) (pair : PostPair D) (does : Effect) : Type 0 where
  pub agrees : AgreesWithOne meaning c.limits c.row pair does.after
  pub overflow : does.overflow ≡ true → is_named c.limits c.row.location ≡ true
  pub stored : IfSome does.stored (IsStoreInLimit meaning c.limits)
  pub took : IfSome does.took (λ address. IsSome (position_of c.machine.ports.inputs address))
  pub gave : IfSome does.gave (IsGivenInLimit meaning c)

pub never : false ≡ true → ⊥
never h = cc

-- what goes on, or stops, goes on where there are posts
pub goes_on : {D : Type 0} (b : Bool) (P : Type 0) (pair : PostPair D) (stop : Stop D) → MatchBool b P (Ok pair ≡ Err stop) → (b ≡ true) × P
goes_on true P pair stop h = (refl, h)
goes_on false P pair stop h = absurd cc

-- an indicator that is set where an order overflows
or_clear : (b over : Bool) → (b || over) ≡ false → b ≡ false
or_clear true over h = h
or_clear false over h = refl

or_set : (b over : Bool) (P : Type 0) → (b ≡ true → P) → (over ≡ true → P) → (b || over) ≡ true → P
or_set true over P p r h = p refl
or_set false over P p r h = r h

pub written : (low : Bool) (cells : List ℕ) (address word : ℕ) → low ≡ true → (if low then set cells address word else cells) ≡ set cells address word
written low cells address word is = rw is refl

its_own : {P : Type 0} (link : Option Link) → P → IfSome link (λ l. (link ≡ Some l) × P)
its_own None p = tt
its_own (Some l) p = (refl, p)

module _ {D : Type 0} (meaning : Meaning D) (lawful : IsMeaning D meaning) (c : Case D) (s : State) (is : IsState c.machine s)
    (in_case : IsInCase meaning c s) where
  -- ---- one post

  some_agrees : (line : Line D) (found : Option (Post D)) (after : State) → IsSomeAnd found (IsPostOf meaning c line)
      → IsInLine meaning s after line → IsState c.machine after → AgreesWith meaning c.limits c.row found after
  some_agrees line None after h in_line is_state = absurd h
  some_agrees line (Some post) after h in_line is_state = line_agrees meaning c s is in_case line post after h in_line is_state

  pub single_agrees : (line : Line D) (pair : PostPair D) (after : State) → IsSingle meaning c line (Ok pair)
      → IsInLine meaning s after line → IsState c.machine after → AgreesWithOne meaning c.limits c.row pair after
  single_agrees line pair after single in_line is_state = inl (some_agrees line pair.first after single.0 in_line is_state)

  pub leaves_sound : (line : Line D) (pair : PostPair D) (after : State) → IsSingle meaning c line (Ok pair)
      → IsInLine meaning s after line → IsState c.machine after → IsSound meaning c pair (leaves after)
  leaves_sound line pair after single in_line is_state = record {
    agrees = single_agrees line pair after single in_line is_state;
    overflow = λ h. absurd (never h);
    stored = tt;
    took = tt;
    gave = tt;
  }

  -- ---- what stays

  pub next_is : next_location s ≡ next_of_row c.row
  next_is = ap (λ (n : ℕ). (n + 1) % 4096) in_case.in_row.location

  pub clear_stays : s.indicator ≡ false → not c.indicator ≡ true
  clear_stays h = ap not (sym in_case.indicator ∙ h)

  pub set_stays : s.indicator ≡ true → c.indicator ≡ true
  set_stays h = sym in_case.indicator ∙ h

  pub cell_word : (address : ℕ) → address < 4096 → cell s address < 2 ^ 18
  cell_word address below = is.cells address 0 (omega (arith, is.cells_count))

  -- ---- a store

  -- an order that does what a line says, and then stores a word in an erasable cell
  pub stored_sound : (e : ℕ) (told : Told D) (line : Line D) (link : Option Link) (pair : PostPair D) (does : Effect) (w : ℕ) → is_erasable e ≡ true
      → IsStored meaning c e told (record line { link = link }) (Ok pair) → IsInLine meaning s does.after line
      → IfSome link (LinkHolds (then_stores does e w).after) → does.after.cells ≡ s.cells
      → IsState c.machine ((then_stores does e w).after) → w < 2 ^ 18 → IsAmong meaning told w
      → (does.overflow ≡ true → is_named c.limits c.row.location ≡ true) → does.took ≡ None → does.gave ≡ None
      → IsSound meaning c pair (then_stores does e w)
  stored_sound e told line link pair does w erasable is_stored in_line linked same is_state below among named takes_none gives_none = record {
    agrees = single_agrees (record line { link = link; stored = Some (record { address = e; value = told }) }) pair ((then_stores does e w).after)
        is_stored.3 in_line_after is_state;
    overflow = named;
    stored = (low, is_stored.2 w below (told_held meaning told is_stored.0 w is_stored.1 below among));
    took = subst (λ (t : Option ℕ). IfSome t (λ address. IsSome (position_of c.machine.ports.inputs address))) (sym takes_none) tt;
    gave = subst (λ (g : Option _). IfSome g (IsGivenInLimit meaning c)) (sym gives_none) tt;
  }
    where
      low : e < 2048
      low = ltb-true e 2048 erasable

      in_line_after : IsInLine meaning s ((then_stores does e w).after) (record line { link = link; stored = Some (record { address = e; value = told }) })
      in_line_after = record {
        next = in_line.next;
        a_word = in_line.a_word;
        a = in_line.a;
        q_word = in_line.q_word;
        q = in_line.q;
        x = in_line.x;
        clear = in_line.clear;
        set = in_line.set;
        cells = record {
          word = w;
          below = below;
          among = among;
          erasable = low;
          are = written (nat_lt e 2048) does.after.cells e w erasable ∙ ap (λ (cells : List ℕ). set cells e w) same;
        };
        narrowed = in_line.narrowed;
        link = linked;
      }

  -- ---- an operation

  -- what goes on from the domain's answer: some set for A, that has what the operation leaves, an indicator that may be set
  -- where it overflows, and a link, the line's, only where it doesn't
  pub record IsChosen (operation : Operation) (o : Operands) (line : Line D) (a : Told D) (v1 : Bool) (link : Option Link) : Type 0 where
    pub among : IsAmong meaning a (new_a_at operation o)
    pub named : overflows_at operation o ≡ true → is_named c.limits c.row.location ≡ true
    pub set : overflows_at operation o ≡ true → v1 ≡ true
    pub keeps : line.v1 ≡ true → v1 ≡ true
    pub linked : IfSome link (λ l. (line.link ≡ Some l) × (overflows_at operation o ≡ false))

  pub chosen : (operation : Operation) (candidates : Ends → Ends → List Operands) (m_ends : Ends) (line : Line D)
      (follows : Line D → Outcome D → Type 0) (answer : Result D Operands) (pair : PostPair D) (o : Operands)
      → Answers meaning operation candidates (meaning.ends c.row.a) m_ends answer → IsOperands (meaning.ends c.row.a) m_ends o
      → new_a_at operation o < 2 ^ 18 → Decides meaning c line follows answer (Ok pair)
      → (a : Told D) × (v1 : Bool) × (link : Option Link) × IsChosen operation o line a v1 link × follows (record line { a = a; v1 = v1; link = link }) (Ok pair)
  chosen operation candidates m_ends line follows (Ok d) pair o answers are below decides = (
    These d,
    line.v1,
    line.link,
    record {
      among = lawful.ranged d (new_a_at operation o) answers.kept (answers.hull.each o are);
      named = λ over. absurd (never (sym (answers.none o are) ∙ over));
      set = λ over. absurd (never (sym (answers.none o are) ∙ over));
      keeps = λ h. h;
      linked = its_own line.link (answers.none o are);
    },
    decides,
  )
  chosen operation candidates m_ends line follows (Err f) pair o answers are below decides =
      let goes = goes_on (is_named c.limits c.row.location) (follows (record line { a = EveryWord; v1 = true; link = None }) (Ok pair)) pair (MayOverflow f) decides in (
        EveryWord,
        true,
        None,
        record {
          among = below;
          named = λ over. goes.0;
          set = λ over. refl;
          keeps = λ h. refl;
          linked = tt;
        },
        goes.1,
      )

  -- the state that an operation leaves, with a word in Q
  abbrev pub computed : Operation → (m v : ℕ) → Effect
  computed operation m v = overflowing (operation.overflows s.a s.q m) (record s { a = operation.new_a s.a s.q m; q = v; location = next_location s })

  abbrev pub met : ℕ → Operands
  met m = record { a = s.a; q = s.q; m = m }

  -- it is in the line that goes on, where the line's link holds if the operation doesn't overflow
  pub computed_in_line : (operation : Operation) (m v : ℕ) (line_link link : Option Link) (q a : Told D) (v1 : Bool)
      → IsChosen operation (met m) (record (moves_on c) { q = q; link = line_link }) a v1 link
      → ((l : Link) → line_link ≡ Some l → operation.overflows s.a s.q m ≡ false → LinkHolds (computed operation m v).after l) → operation.new_a s.a s.q m < 2 ^ 18 → v < 2 ^ 18 → IsAmong meaning q v
      → IsInLine meaning s (computed operation m v).after (record (moves_on c) { q = q; a = a; v1 = v1; link = link })
  computed_in_line operation m v line_link link q a v1 is_chosen holds a_below v_below among = record {
    next = next_is;
    a_word = a_below;
    a = is_chosen.among;
    q_word = v_below;
    q = among;
    x = in_case.index;
    clear = λ no. clear_stays (or_clear s.indicator (operation.overflows s.a s.q m) no);
    set = λ yes. or_set s.indicator (operation.overflows s.a s.q m) (v1 ≡ true) (λ h. is_chosen.keeps (set_stays h)) is_chosen.set yes;
    cells = refl;
    narrowed = tt;
    link = linked_after link is_chosen.linked;
  }
    where
      linked_after : (link : Option Link) → IfSome link (λ l. (line_link ≡ Some l) × (operation.overflows s.a s.q m ≡ false))
          → IfSome link (LinkHolds (computed operation m v).after)
      linked_after None h = tt
      linked_after (Some l) h = holds l h.0 h.1

  -- the operands that are met lie between the ends
  pub met_between : (m : ℕ) (m_ends : Ends) → IsBetween m_ends m → IsOperands (meaning.ends c.row.a) m_ends (met m)
  met_between m m_ends between = record { a_between = lawful.between c.row.a s.a is.a in_case.in_row.a; q_word = is.q; m_between = between }
