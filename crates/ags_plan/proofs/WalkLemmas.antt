-- The walk along a plan: that it ends, that it ends in one way where the shelf tells, and what each end says of the way to it.
-- Behind the laws of `laws.rt` stand
--     some_end       each plan has an end
--     one_end        it has one, where the shelf tells the files that lead to it
--     told_end       where the shelf tells each file that is fetched, an end is one over told files
use Rattle.std.proofs.Common.{◌≡◌, ℕ, ◌<◌, List, length, Option, Some, None, refl, sym, ap, subst, ◌∙◌, inl, inr, arith}
use Rattle.std.specs.Prelude.{◌⊎◌}
use Rattle.std.proofs.lemmas.Bool.{cases_lt}
use Rattle.ags_outside.specs.ToldFile.{ToldFile, Untold, Missing, Stored}
use Rattle.ags_plan.specs.Plan.{Definition, Plan, Do, Read, Take, End, AbsentAt, LongAt, RefusedAt, WorkAt}
use Rattle.ags_plan.specs.Walk.{Told, Sight, Agrees, Tells, HoldsWithin, RefusesWithin, ComesTo, EndsAtBytes, EndsHere, EndsAt, LooksFor, IsFetched, HasBytes, IsGiven}
use Rattle.ags_plan.specs.Answer.{TellsFiles}
use Rattle.ags_plan.specs.Lawful.{AreReadable}

-- ---- what is told, and what agrees with it

-- each telling agrees with some file
some_file : (known : ToldFile) → (file : Option (List ℕ)) × Agrees known file
some_file Untold = (None, tt)
some_file Missing = (None, refl)
some_file (Stored bytes) = (Some bytes, refl)

-- a file that agrees with what is told is the one that is told
pub told_is : (known : ToldFile) (file other : Option (List ℕ)) → Tells known file → Agrees known other → other ≡ file
told_is known None other is agrees = (subst (λ (k : ToldFile). Agrees k other → other ≡ None) (sym is) (λ same. same)) agrees
told_is known (Some bytes) other is agrees = (subst (λ (k : ToldFile). Agrees k other → other ≡ Some bytes) (sym is) (λ same. same)) agrees

-- bytes that agree with told ones are these
pub told_bytes : (known : ToldFile) (bytes other : List ℕ) → Tells known (Some bytes) → Agrees known (Some other) → other ≡ bytes
told_bytes known bytes other is agrees = let same = told_is known (Some bytes) (Some other) is agrees in cc

pub not_absent : (known : ToldFile) (bytes : List ℕ) → Tells known (Some bytes) → Agrees known None → ⊥
not_absent known bytes is agrees = let same = told_is known (Some bytes) None is agrees in cc

pub not_there : (known : ToldFile) (bytes : List ℕ) → Tells known None → Agrees known (Some bytes) → ⊥
not_there known bytes is agrees = let same = told_is known None (Some bytes) is agrees in cc

module _ {Status : Type 0} (D : Definition Status) where
  -- ---- what bytes come to

  -- bytes end the walk, or hold a value
  pub bytes_decide : (readable : AreReadable D) (See : Sight) (told : Told) (kind : D.Kind) (name bytes : List ℕ)
      → ((end : End D) × EndsAtBytes D See told kind name bytes end) ⊎ ((value : D.Value kind) × HoldsWithin D kind bytes value)
  bytes_decide readable See told kind name bytes = elim (cases_lt (D.limit kind) (length bytes)) [
    | inl long ↦ inl (LongAt name (D.limit kind), inl (long, refl))
    | inr short ↦ elim (readable.some kind bytes short) [
      | inl (value, holds) ↦ inr (value, record { short = short; holds = holds })
      | inr (line, refuses) ↦ inl (RefusedAt line (D.refused kind), inr (line, record { short = short; refuses = refuses }, refl))
    ]
  ]

  -- bytes hold one value
  pub one_value : (readable : AreReadable D) (kind : D.Kind) (bytes : List ℕ) (value other : D.Value kind) → HoldsWithin D kind bytes value → HoldsWithin D kind bytes other
      → value ≡ other
  one_value readable kind bytes value other one two = readable.one_value kind bytes value other one.short one.holds two.holds

  -- bytes that end the walk hold no value
  pub not_held : (readable : AreReadable D) (See : Sight) (told : Told) (kind : D.Kind) (name bytes : List ℕ) (end : End D) (value : D.Value kind)
      → EndsAtBytes D See told kind name bytes end → HoldsWithin D kind bytes value → ⊥
  not_held readable See told kind name bytes end value (inl (long, is)) holds = let short = holds.short in absurd (omega arith)
  not_held readable See told kind name bytes end value (inr (line, refuses, is)) holds = readable.not_both kind bytes line value holds.holds refuses.refuses

  -- and end it in one way
  pub one_end_of_bytes : (readable : AreReadable D) (See Saw : Sight) (told : Told) (kind : D.Kind) (name bytes : List ℕ) (end other : End D)
      → EndsAtBytes D See told kind name bytes end → EndsAtBytes D Saw told kind name bytes other → end ≡ other
  one_end_of_bytes readable See Saw told kind name bytes end other (inl (long, is)) (inl (still, too)) = is ∙ sym too
  one_end_of_bytes readable See Saw told kind name bytes end other (inl (long, is)) (inr (line, refuses, too)) = let short = refuses.short in absurd (omega arith)
  one_end_of_bytes readable See Saw told kind name bytes end other (inr (line, refuses, is)) (inl (long, too)) = let short = refuses.short in absurd (omega arith)
  one_end_of_bytes readable See Saw told kind name bytes end other (inr (line, refuses, is)) (inr (another, refused, too)) =
      is ∙ ap (λ (l : List ℕ). RefusedAt l (D.refused kind)) (readable.one_line kind bytes line another refuses.refuses refused.refuses) ∙ sym too

  -- ---- each plan has an end

  -- one that reads a file has one, where each value of the file has one after it
  some_end_of_file : (readable : AreReadable D) (told : Told) (kind : D.Kind) (name : List ℕ) (next : D.Value kind → Plan D)
      → ((value : D.Value kind) → (end : End D) × EndsAt D Agrees told (next value) end)
      → (file : Option (List ℕ)) → Agrees (told name) file → (end : End D) × EndsAt D Agrees told (Read kind name next) end
  some_end_of_file readable told kind name next later None agrees = (AbsentAt name, inl (inl (agrees, refl)))
  some_end_of_file readable told kind name next later (Some bytes) agrees = elim (bytes_decide readable Agrees told kind name bytes) [
    | inl (end, ends) ↦ (end, inl (inr (bytes, agrees, ends)))
    | inr (value, holds) ↦ ((later value).0, inr (value, (bytes, agrees, holds), (later value).1))
  ]

  pub some_end : (readable : AreReadable D) (told : Told) (plan : Plan D) → (end : End D) × EndsAt D Agrees told plan end
  some_end readable told (Do work) = (WorkAt work, refl)
  some_end readable told (Take kind name bytes next) = elim (bytes_decide readable Agrees told kind name bytes) [
    | inl (end, ends) ↦ (end, inl ends)
    | inr (value, holds) ↦ let later = some_end readable told (next value) in (later.0, inr (value, holds, later.1))
  ]
  some_end readable told (Read kind name next) = some_end_of_file readable told kind name next (λ value. some_end readable told (next value))
      (some_file (told name)).0 (some_file (told name)).1

  -- ---- where the shelf tells the way to a part of the plan, each end lies after it

  pub passes : (readable : AreReadable D) (told : Told) (At : Plan D → Type 0) (plan : Plan D) (end : End D) → ComesTo D Tells told At plan → EndsAt D Agrees told plan end
      → (part : Plan D) × At part × EndsAt D Agrees told part end
  passes readable told At (Do work) end at ends = (Do work, at, ends)
  passes readable told At (Read kind name next) end (inl at) ends = (Read kind name next, at, ends)
  passes readable told At (Read kind name next) end (inr (value, (bytes, is, holds), later)) (inl (inl (agrees, here))) = absurd (not_absent (told name) bytes is agrees)
  passes readable told At (Read kind name next) end (inr (value, (bytes, is, holds), later)) (inl (inr (other, agrees, ends))) =
      absurd (not_held readable Agrees told kind name bytes end value
      (subst (λ (b : List ℕ). EndsAtBytes D Agrees told kind name b end) (told_bytes (told name) bytes other is agrees) ends) holds)
  passes readable told At (Read kind name next) end (inr (value, (bytes, is, holds), later)) (inr (found, (other, agrees, held), ends)) =
      let held_here : HoldsWithin D kind bytes found = subst (λ (b : List ℕ). HoldsWithin D kind b found) (told_bytes (told name) bytes other is agrees) held in
      passes readable told At (next value) end later
      (subst (λ (v : D.Value kind). EndsAt D Agrees told (next v) end) (one_value readable kind bytes found value held_here holds) ends)
  passes readable told At (Take kind name bytes next) end (inl at) ends = (Take kind name bytes next, at, ends)
  passes readable told At (Take kind name bytes next) end (inr (value, holds, later)) (inl ends) = absurd (not_held readable Agrees told kind name bytes end value ends holds)
  passes readable told At (Take kind name bytes next) end (inr (value, holds, later)) (inr (found, held, ends)) =
      passes readable told At (next value) end later
      (subst (λ (v : D.Value kind). EndsAt D Agrees told (next v) end) (one_value readable kind bytes found value held holds) ends)

  -- the end of a part that looks for a file that is told absent
  pub absent_here : (told : Told) (kind : D.Kind) (name : List ℕ) (part : Plan D) (end : End D) → told name ≡ Missing → LooksFor D Tells told kind name part
      → EndsAt D Agrees told part end → end ≡ AbsentAt name
  absent_here told kind name (Do work) end is at ends = absurd at
  absent_here told kind name (Take here named bytes next) end is at ends = absurd at
  absent_here told kind name (Read here named next) end is (same, names) (inl (inl (agrees, at_end))) = at_end ∙ ap AbsentAt names
  absent_here told kind name (Read here named next) end is (same, names) (inl (inr (bytes, agrees, at_end))) =
      absurd (not_there (told named) bytes (ap told names ∙ is) agrees)
  absent_here told kind name (Read here named next) end is (same, names) (inr (value, (bytes, agrees, holds), later)) =
      absurd (not_there (told named) bytes (ap told names ∙ is) agrees)

  -- the end of a part that is given bytes
  pub at_bytes_here : (readable : AreReadable D) (told : Told) (kind : D.Kind) (name bytes : List ℕ) (part : Plan D) (end other : End D)
      → HasBytes D Tells told kind name bytes part → EndsAtBytes D Tells told kind name bytes other → EndsAt D Agrees told part end → end ≡ other
  at_bytes_here readable told kind name bytes (Do work) end other at wanted ends = absurd at
  at_bytes_here readable told kind name bytes (Read here named next) end other (same, names, is) wanted ends =
      subst (λ (k : D.Kind). (next : D.Value k → Plan D) → EndsAt D Agrees told (Read k named next) end → end ≡ other) (sym same)
      (λ next ends. of_read next ends) next ends
    where
      known : Tells (told name) (Some bytes)
      known = subst (λ (n : List ℕ). Tells (told n) (Some bytes)) names is

      named_end : (there : List ℕ) → EndsAtBytes D Agrees told kind named there end → EndsAtBytes D Agrees told kind name there end
      named_end there ends = subst (λ (n : List ℕ). EndsAtBytes D Agrees told kind n there end) names ends

      of_read : (next : D.Value kind → Plan D) → EndsAt D Agrees told (Read kind named next) end → end ≡ other
      of_read next (inl (inl (agrees, at_end))) = absurd (not_absent (told named) bytes is agrees)
      of_read next (inl (inr (there, agrees, ends))) =
          let ends_here : EndsAtBytes D Agrees told kind name bytes end =
          subst (λ (b : List ℕ). EndsAtBytes D Agrees told kind name b end) (told_bytes (told named) bytes there is agrees) (named_end there ends) in
          one_end_of_bytes readable Agrees Tells told kind name bytes end other ends_here wanted
      of_read next (inr (value, (there, agrees, holds), later)) =
          absurd (not_held readable Tells told kind name bytes other value wanted
          (subst (λ (b : List ℕ). HoldsWithin D kind b value) (told_bytes (told named) bytes there is agrees) holds))
  at_bytes_here readable told kind name bytes (Take here named own next) end other (same, names, own_is) wanted ends =
      subst (λ (k : D.Kind). (next : D.Value k → Plan D) → EndsAt D Agrees told (Take k named own next) end → end ≡ other) (sym same)
      (λ next ends. of_take next ends) next ends
    where
      of_take : (next : D.Value kind → Plan D) → EndsAt D Agrees told (Take kind named own next) end → end ≡ other
      of_take next (inl ends) =
          let here_too : EndsAtBytes D Agrees told kind name own end = subst (λ (n : List ℕ). EndsAtBytes D Agrees told kind n own end) names ends in
          let ends_here : EndsAtBytes D Agrees told kind name bytes end = subst (λ (b : List ℕ). EndsAtBytes D Agrees told kind name b end) own_is here_too in
          one_end_of_bytes readable Agrees Tells told kind name bytes end other ends_here wanted
      of_take next (inr (value, holds, later)) =
          absurd (not_held readable Tells told kind name bytes other value wanted (subst (λ (b : List ℕ). HoldsWithin D kind b value) own_is holds))

  -- the end of a part in which a walk over told files ends
  pub end_here : (readable : AreReadable D) (told : Told) (part : Plan D) (end other : End D) → EndsHere D Tells told other part → EndsAt D Agrees told part end → end ≡ other
  end_here readable told (Do work) end other wanted ends = ends ∙ sym wanted
  end_here readable told (Read kind name next) end other (inl (is, wanted)) ends =
      absent_here told kind name (Read kind name next) end is (refl, refl) ends ∙ sym wanted
  end_here readable told (Read kind name next) end other (inr (bytes, is, wanted)) ends =
      at_bytes_here readable told kind name bytes (Read kind name next) end other (refl, refl, is) wanted ends
  end_here readable told (Take kind name bytes next) end other wanted ends =
      at_bytes_here readable told kind name bytes (Take kind name bytes next) end other (refl, refl, refl) wanted ends

  -- where the shelf tells the way to an end, each end is that one
  pub one_end : (readable : AreReadable D) (told : Told) (plan : Plan D) (end other : End D) → EndsAt D Tells told plan other → EndsAt D Agrees told plan end → end ≡ other
  one_end readable told plan end other wanted ends =
      let (part, at, later) = passes readable told (EndsHere D Tells told other) plan end wanted ends in
      end_here readable told part end other at later

  -- ---- where the shelf tells each file that is fetched, an end is one over told files

  -- a file that agrees with what is told is told
  tells_too : (known : ToldFile) (file : Option (List ℕ)) → (other : Option (List ℕ)) × Tells known other → Agrees known file → Tells known file
  tells_too known file (other, is) agrees = subst (λ (f : Option (List ℕ)). Tells known f) (sym (told_is known other file is agrees)) is

  pub told_end : (told : Told) (plan : Plan D) (end : End D) → TellsFiles D told plan → EndsAt D Agrees told plan end → EndsAt D Tells told plan end
  told_end told (Do work) end tells ends = ends
  told_end told (Read kind name next) end tells (inl (inl (agrees, at_end))) = inl (inl (tells_too (told name) None (tells kind name (inl (refl, refl))) agrees, at_end))
  told_end told (Read kind name next) end tells (inl (inr (bytes, agrees, ends))) =
      inl (inr (bytes, tells_too (told name) (Some bytes) (tells kind name (inl (refl, refl))) agrees, ends))
  told_end told (Read kind name next) end tells (inr (value, (bytes, agrees, holds), later)) =
      let is = tells_too (told name) (Some bytes) (tells kind name (inl (refl, refl))) agrees in
      inr (value, (bytes, is, holds), told_end told (next value) end (λ k n fetched. tells k n (inr (value, (bytes, is, holds), fetched))) later)
  told_end told (Take kind name bytes next) end tells (inl ends) = inl ends
  told_end told (Take kind name bytes next) end tells (inr (value, holds, later)) =
      inr (value, holds, told_end told (next value) end (λ k n fetched. tells k n (inr (value, holds, fetched))) later)

  -- ---- what an end says of the way to it

  -- a walk that ends at an absent file looked for it
  pub way_to_absent : (told : Told) (plan : Plan D) (name : List ℕ) → EndsAt D Agrees told plan (AbsentAt name)
      → (kind : D.Kind) × IsFetched D Agrees told plan kind name × Agrees (told name) None
  way_to_absent told (Do work) name ends = absurd cc
  way_to_absent told (Read kind named next) name (inl (inl (agrees, is))) =
      let names : named ≡ name = cc in (kind, inl (refl, names), subst (λ (n : List ℕ). Agrees (told n) None) names agrees)
  way_to_absent told (Read kind named next) name (inl (inr (bytes, agrees, inl (long, is)))) = absurd cc
  way_to_absent told (Read kind named next) name (inl (inr (bytes, agrees, inr (line, refuses, is)))) = absurd cc
  way_to_absent told (Read kind named next) name (inr (value, sees, later)) =
      let (found, fetched, agrees) = way_to_absent told (next value) name later in (found, inr (value, sees, fetched), agrees)
  way_to_absent told (Take kind named bytes next) name (inl (inl (long, is))) = absurd cc
  way_to_absent told (Take kind named bytes next) name (inl (inr (line, refuses, is))) = absurd cc
  way_to_absent told (Take kind named bytes next) name (inr (value, holds, later)) =
      let (found, fetched, agrees) = way_to_absent told (next value) name later in (found, inr (value, holds, fetched), agrees)

  -- a walk that ends at a long file came to its bytes
  pub way_to_long : (told : Told) (plan : Plan D) (name : List ℕ) (limit : ℕ) → EndsAt D Agrees told plan (LongAt name limit)
      → (kind : D.Kind) × (bytes : List ℕ) × IsGiven D Agrees told plan kind name bytes × (D.limit kind < length bytes) × (limit ≡ D.limit kind)
  way_to_long told (Do work) name limit ends = absurd cc
  way_to_long told (Read kind named next) name limit (inl (inl (agrees, is))) = absurd cc
  way_to_long told (Read kind named next) name limit (inl (inr (bytes, agrees, inl (long, is)))) =
      let names : named ≡ name = cc in let limits : limit ≡ D.limit kind = cc in (kind, bytes, inl (refl, names, agrees), long, limits)
  way_to_long told (Read kind named next) name limit (inl (inr (bytes, agrees, inr (line, refuses, is)))) = absurd cc
  way_to_long told (Read kind named next) name limit (inr (value, sees, later)) =
      let (found, bytes, given, long, is) = way_to_long told (next value) name limit later in (found, bytes, inr (value, sees, given), long, is)
  way_to_long told (Take kind named bytes next) name limit (inl (inl (long, is))) =
      let names : named ≡ name = cc in let limits : limit ≡ D.limit kind = cc in (kind, bytes, inl (refl, names, refl), long, limits)
  way_to_long told (Take kind named bytes next) name limit (inl (inr (line, refuses, is))) = absurd cc
  way_to_long told (Take kind named bytes next) name limit (inr (value, holds, later)) =
      let (found, there, given, long, is) = way_to_long told (next value) name limit later in (found, there, inr (value, holds, given), long, is)

  -- a walk that ends at a refused file came to its bytes
  pub way_to_refused : (told : Told) (plan : Plan D) (line : List ℕ) (status : Status) → EndsAt D Agrees told plan (RefusedAt line status)
      → (kind : D.Kind) × (name bytes : List ℕ) × IsGiven D Agrees told plan kind name bytes × RefusesWithin D kind bytes line × (status ≡ D.refused kind)
  way_to_refused told (Do work) line status ends = absurd cc
  way_to_refused told (Read kind named next) line status (inl (inl (agrees, is))) = absurd cc
  way_to_refused told (Read kind named next) line status (inl (inr (bytes, agrees, inl (long, is)))) = absurd cc
  way_to_refused told (Read kind named next) line status (inl (inr (bytes, agrees, inr (found, refuses, is)))) =
      let lines : found ≡ line = cc in let statuses : status ≡ D.refused kind = cc in
      (kind, named, bytes, inl (refl, refl, agrees), subst (λ (l : List ℕ). RefusesWithin D kind bytes l) lines refuses, statuses)
  way_to_refused told (Read kind named next) line status (inr (value, sees, later)) =
      let (found, name, bytes, given, refuses, is) = way_to_refused told (next value) line status later in (found, name, bytes, inr (value, sees, given), refuses, is)
  way_to_refused told (Take kind named bytes next) line status (inl (inl (long, is))) = absurd cc
  way_to_refused told (Take kind named bytes next) line status (inl (inr (found, refuses, is))) =
      let lines : found ≡ line = cc in let statuses : status ≡ D.refused kind = cc in
      (kind, named, bytes, inl (refl, refl, refl), subst (λ (l : List ℕ). RefusesWithin D kind bytes l) lines refuses, statuses)
  way_to_refused told (Take kind named bytes next) line status (inr (value, holds, later)) =
      let (found, name, there, given, refuses, is) = way_to_refused told (next value) line status later in (found, name, there, inr (value, holds, given), refuses, is)
