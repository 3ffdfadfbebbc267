-- The work in which a walk ends. Behind the law `walks_lead_to_their_works` of `laws.rt` stand
--     way_to_work    a walk that ends in a work came past all files to it
--     work_of_way    and where it comes past all files to a work, it ends in it
use Rattle.std.proofs.Common.{sym, ap, inl, inr}
use Rattle.ags_plan.specs.Plan.{Definition, Plan, Do, Read, Take, WorkAt}
use Rattle.ags_plan.specs.Walk.{Told, Sight, EndsAt, LeadsTo}

module _ {Status : Type 0} (D : Definition Status) (See : Sight) (told : Told) where
  pub way_to_work : (plan : Plan D) (work : D.Work) → EndsAt D See told plan (WorkAt work) → LeadsTo D See told plan work
  way_to_work (Do done) work ends = cc
  way_to_work (Read kind name next) work (inl (inl (sees, end))) = absurd cc
  way_to_work (Read kind name next) work (inl (inr (bytes, sees, inl (long, end)))) = absurd cc
  way_to_work (Read kind name next) work (inl (inr (bytes, sees, inr (line, refuses, end)))) = absurd cc
  way_to_work (Read kind name next) work (inr (value, sees, later)) = (value, sees, way_to_work (next value) work later)
  way_to_work (Take kind name bytes next) work (inl (inl (long, end))) = absurd cc
  way_to_work (Take kind name bytes next) work (inl (inr (line, refuses, end))) = absurd cc
  way_to_work (Take kind name bytes next) work (inr (value, holds, later)) = (value, holds, way_to_work (next value) work later)

  pub work_of_way : (plan : Plan D) (work : D.Work) → LeadsTo D See told plan work → EndsAt D See told plan (WorkAt work)
  work_of_way (Do done) work leads = ap (λ (w : D.Work). WorkAt w) (sym leads)
  work_of_way (Read kind name next) work (value, sees, later) = inr (value, sees, work_of_way (next value) work later)
  work_of_way (Take kind name bytes next) work (value, holds, later) = inr (value, holds, work_of_way (next value) work later)
