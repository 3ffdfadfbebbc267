-- What devices have heard only grows along a play. The crates above cite:
--     grown_self, grown_on    nothing more was heard, and more was heard after more
--     grown_heard             a word was given to an address
--     grown_along             along a play each device that is still there has grown
--     still_after             devices that are still there after acts and others
--     behind_self             devices that stand as at the point
--     behind_from             devices that are behind over those that grew from others
--     behind_on               devices that are behind a point are behind one at which more was heard
use Rattle.std.proofs.Common.{◌≡◌, ℕ, zero, suc, Bool, true, false, List, [], ◌∷◌, ◌++◌, refl, sym, ap, subst, ◌∙◌, append_assoc, append-nil}
use Rattle.std.specs.Prelude.{is_some, Option, Some, None, if◌then◌else◌}
use Rattle.ags_device.specs.Devices.{changed_at, without, is_heard, all_heard}
use Rattle.ags_device.specs.Record.{DeviceRecord, given}
use Rattle.ags_domain.specs.declared.values.Value.{Value}
use Rattle.ags_ports.specs.declared.events.Event.{Event}
use Rattle.ags_ports.specs.declared.events.Stored.{Stored}
use Rattle.ags_ports.specs.declared.machines.Machine.{Machine}
use Rattle.ags_ports.specs.Port.{position_of}
use Rattle.ags_ports.specs.Run.{Moment}
use Rattle.ags_safe.specs.Certificate.{Certificate}
use Rattle.ags_drive.specs.Act.{Act, MakesStep, Pulses, RunsCycle, Feeds, FeedsInCycle, ShowsReg, ShowsCell, ShowsOut, Detaches, ShowsDevice}
use Rattle.ags_drive.specs.Bench.{Bench, position_of_number, with_given, with_detached}
use Rattle.ags_drive.specs.Doing.{giver, handled, devices_given, devices_along, bench_after}
use Rattle.ags_drive.specs.Driven.{IsBehind, AreBehind}
use Rattle.ags_drive.specs.Played.{Plays, still_there}

-- a device has heard what it had, and some more
pub record HasGrown (first now : DeviceRecord) : Type 0 where
  pub some : List ℕ
  pub begins : now.kept ≡ first.kept ++ some

-- each of some devices has
abbrev pub HaveGrown : (first now : List DeviceRecord) → Type 0
HaveGrown [] [] = Unit {0}
HaveGrown (f ∷ fs) (d ∷ ds) = HasGrown f d × HaveGrown fs ds
HaveGrown [] (d ∷ ds) = ⊥
HaveGrown (f ∷ fs) [] = ⊥

same_kept : (d : DeviceRecord) → HasGrown d d
same_kept d = record { some = []; begins = sym (append-nil d.kept) }

pub grown_self : (ds : List DeviceRecord) → HaveGrown ds ds
grown_self [] = tt
grown_self (d ∷ ds) = (same_kept d, grown_self ds)

pub grown_on : (fs ds es : List DeviceRecord) → HaveGrown fs ds → HaveGrown ds es → HaveGrown fs es
grown_on [] [] [] p q = tt
grown_on [] (d ∷ ds) es p q = absurd p
grown_on (f ∷ fs) [] es p q = absurd p
grown_on [] [] (e ∷ es) p q = absurd q
grown_on (f ∷ fs) (d ∷ ds) [] p q = absurd q
grown_on (f ∷ fs) (d ∷ ds) (e ∷ es) p q =
    (record { some = p.0.some ++ q.0.some; begins = q.0.begins ∙ ap (λ ws. ws ++ q.0.some) p.0.begins ∙ append_assoc f.kept p.0.some q.0.some }, grown_on fs ds es p.1 q.1)

-- ---- a device leaves, gives or hears

grown_without : (fs ds : List DeviceRecord) (position : ℕ) → HaveGrown fs ds → HaveGrown (without fs position) (without ds position)
grown_without [] [] position p = tt
grown_without [] (d ∷ ds) position p = absurd p
grown_without (f ∷ fs) [] position p = absurd p
grown_without (f ∷ fs) (d ∷ ds) zero p = p.1
grown_without (f ∷ fs) (d ∷ ds) (suc position) p = (p.0, grown_without fs ds position p.1)

grown_detached : (fs ds : List DeviceRecord) (position : Option ℕ) → HaveGrown fs ds → HaveGrown (with_detached fs position) (with_detached ds position)
grown_detached fs ds None p = p
grown_detached fs ds (Some position) p = grown_without fs ds position p

grown_changed : (ds : List DeviceRecord) (position : ℕ) → HaveGrown ds (changed_at given ds position)
grown_changed [] position = tt
grown_changed (d ∷ ds) zero = (record { some = []; begins = sym (append-nil d.kept) }, grown_self ds)
grown_changed (d ∷ ds) (suc position) = (same_kept d, grown_changed ds position)

grown_given : (ds : List DeviceRecord) (position : Option ℕ) → HaveGrown ds (with_given ds position)
grown_given ds None = grown_self ds
grown_given ds (Some position) = grown_changed ds position

hearing_by : (word : ℕ) (d : DeviceRecord) (heard : Bool) → HasGrown d (if heard then (record d { kept = d.kept ++ word ∷ [] }) else d)
hearing_by word d true = record { some = word ∷ []; begins = refl }
hearing_by word d false = same_kept d

pub grown_heard : (address word : ℕ) (ds : List DeviceRecord) → HaveGrown ds (all_heard address word ds)
grown_heard address word [] = tt
grown_heard address word (d ∷ ds) = (hearing_by word d (is_heard d.hears address), grown_heard address word ds)

-- ---- along moments

heard_where : (there : Bool) (address word : ℕ) (ds : List DeviceRecord) → HaveGrown ds (if there then all_heard address word ds else ds)
heard_where true address word ds = grown_heard address word ds
heard_where false address word ds = grown_self ds

grown_gave : (machine : Machine) (gave : Option Stored) (ds : List DeviceRecord) → HaveGrown ds (devices_given machine gave ds)
grown_gave machine None ds = grown_self ds
grown_gave machine (Some gave) ds = heard_where (is_some (position_of machine.ports.outputs gave.address)) gave.address gave.word ds

grown_moments : (machine : Machine) (ds : List DeviceRecord) (moments : List Moment) → HaveGrown ds (devices_along machine ds moments)
grown_moments machine ds [] = grown_self ds
grown_moments machine ds (moment ∷ moments) =
    let next = devices_given machine moment.report.gave ds in
    grown_on ds next (devices_along machine next moments) (grown_gave machine moment.report.gave ds) (grown_moments machine next moments)

-- ---- along acts

still_grown : (fs ds : List DeviceRecord) (acts : List Act) → HaveGrown fs ds → HaveGrown (still_there fs acts) (still_there ds acts)
still_grown fs ds [] p = p
still_grown fs ds (Detaches line number ∷ acts) p = still_grown (with_detached fs (position_of_number number)) (with_detached ds (position_of_number number)) acts (grown_detached fs ds (position_of_number number) p)
still_grown fs ds (MakesStep ∷ acts) p = still_grown fs ds acts p
still_grown fs ds (Pulses ∷ acts) p = still_grown fs ds acts p
still_grown fs ds (RunsCycle ∷ acts) p = still_grown fs ds acts p
still_grown fs ds (Feeds line number ∷ acts) p = still_grown fs ds acts p
still_grown fs ds (FeedsInCycle position ∷ acts) p = still_grown fs ds acts p
still_grown fs ds (ShowsReg ∷ acts) p = still_grown fs ds acts p
still_grown fs ds (ShowsCell address ∷ acts) p = still_grown fs ds acts p
still_grown fs ds (ShowsOut address ∷ acts) p = still_grown fs ds acts p
still_grown fs ds (ShowsDevice position ∷ acts) p = still_grown fs ds acts p

pub still_after : (ds : List DeviceRecord) (xs ys : List Act) → still_there ds (xs ++ ys) ≡ still_there (still_there ds xs) ys
still_after ds [] ys = refl
still_after ds (Detaches line number ∷ xs) ys = still_after (with_detached ds (position_of_number number)) xs ys
still_after ds (MakesStep ∷ xs) ys = still_after ds xs ys
still_after ds (Pulses ∷ xs) ys = still_after ds xs ys
still_after ds (RunsCycle ∷ xs) ys = still_after ds xs ys
still_after ds (Feeds line number ∷ xs) ys = still_after ds xs ys
still_after ds (FeedsInCycle position ∷ xs) ys = still_after ds xs ys
still_after ds (ShowsReg ∷ xs) ys = still_after ds xs ys
still_after ds (ShowsCell address ∷ xs) ys = still_after ds xs ys
still_after ds (ShowsOut address ∷ xs) ys = still_after ds xs ys
still_after ds (ShowsDevice position ∷ xs) ys = still_after ds xs ys

module _ (machine : Machine) (cert : Certificate Value) where
  grown_handled : (b : Bench) (act : Act) → HaveGrown (still_there b.devices (act ∷ [])) (handled machine b act)
  grown_handled b (Detaches line number) = grown_self (with_detached b.devices (position_of_number number))
  grown_handled b MakesStep = grown_self b.devices
  grown_handled b Pulses = grown_self b.devices
  grown_handled b RunsCycle = grown_self b.devices
  grown_handled b (Feeds line number) = grown_given b.devices (giver machine b (Feeds line number))
  grown_handled b (FeedsInCycle position) = grown_given b.devices (giver machine b (FeedsInCycle position))
  grown_handled b ShowsReg = grown_self b.devices
  grown_handled b (ShowsCell address) = grown_self b.devices
  grown_handled b (ShowsOut address) = grown_self b.devices
  grown_handled b (ShowsDevice position) = grown_self b.devices

  grown_one : (b : Bench) (act : Act) (moments : List Moment) → HaveGrown (still_there b.devices (act ∷ [])) (bench_after machine b act moments).devices
  grown_one b act moments =
      grown_on (still_there b.devices (act ∷ [])) (handled machine b act) (devices_along machine (handled machine b act) moments) (grown_handled b act) (grown_moments machine (handled machine b act) moments)

  -- along a play each device that is still there has grown
  pub grown_along : (b here : Bench) (acts : List Act) (events : List Event) (text : List ℕ) → Plays machine cert b acts events text here → HaveGrown (still_there b.devices acts) here.devices
  grown_along b here [] events text p = subst (λ (c : Bench). HaveGrown b.devices c.devices) (sym p.2) (grown_self b.devices)
  grown_along b here (act ∷ acts) events text p =
      let mid = bench_after machine b act p.moments in
      subst (λ (ds : List DeviceRecord). HaveGrown ds here.devices) (sym (still_after b.devices (act ∷ []) acts))
      (grown_on (still_there (still_there b.devices (act ∷ [])) acts) (still_there mid.devices acts) here.devices
      (still_grown (still_there b.devices (act ∷ [])) mid.devices acts (grown_one b act p.moments))
      (grown_along mid here acts p.later p.rest p.goes_on))

  -- and so has each over those that stood before the play, after further acts too
  pub grown_still : (b here : Bench) (acts more : List Act) (events : List Event) (text : List ℕ) → Plays machine cert b acts events text here
      → HaveGrown (still_there b.devices (acts ++ more)) (still_there here.devices more)
  grown_still b here acts more events text p =
      subst (λ (ds : List DeviceRecord). HaveGrown ds (still_there here.devices more)) (sym (still_after b.devices acts more))
      (still_grown (still_there b.devices acts) here.devices more (grown_along b here acts events text p))

-- ---- behind a point

at_point : (d : DeviceRecord) → IsBehind d d d
at_point d = record { feeds = refl; hears = refl; plan = refl; some = []; more = []; begins = sym (append-nil d.kept); goes_on = sym (append-nil d.kept) }

pub behind_self : (ds : List DeviceRecord) → AreBehind ds ds ds
behind_self [] = tt
behind_self (d ∷ ds) = (at_point d, behind_self ds)

pub behind_from : (fs ds now point : List DeviceRecord) → HaveGrown fs ds → AreBehind ds now point → AreBehind fs now point
behind_from [] [] [] [] p q = tt
behind_from (f ∷ fs) (d ∷ ds) (n ∷ ns) (t ∷ ts) p q = (
  record {
    feeds = q.0.feeds;
    hears = q.0.hears;
    plan = q.0.plan;
    some = p.0.some ++ q.0.some;
    more = q.0.more;
    begins = q.0.begins ∙ ap (λ ws. ws ++ q.0.some) p.0.begins ∙ append_assoc f.kept p.0.some q.0.some;
    goes_on = q.0.goes_on;
  },
  behind_from fs ds ns ts p.1 q.1,
)
behind_from [] (d ∷ ds) now point p q = absurd p
behind_from (f ∷ fs) [] now point p q = absurd p
behind_from [] [] [] (t ∷ ts) p q = absurd q
behind_from [] [] (n ∷ ns) point p q = absurd q
behind_from (f ∷ fs) (d ∷ ds) [] point p q = absurd q
behind_from (f ∷ fs) (d ∷ ds) (n ∷ ns) [] p q = absurd q

-- what is behind a point is behind each later one that is reached by hearing alone
pub behind_on : (fs ds ps qs : List DeviceRecord) → AreBehind fs ds ps → AreBehind ps ps qs → AreBehind fs ds qs
behind_on [] [] [] [] p q = tt
behind_on (f ∷ fs) (d ∷ ds) (t ∷ ts) (u ∷ us) p q = (
  record {
    feeds = p.0.feeds ∙ q.0.feeds;
    hears = p.0.hears ∙ q.0.hears;
    plan = p.0.plan ∙ q.0.plan;
    some = p.0.some;
    more = p.0.more ++ q.0.more;
    begins = p.0.begins;
    goes_on = q.0.goes_on ∙ ap (λ ws. ws ++ q.0.more) p.0.goes_on ∙ append_assoc d.kept p.0.more q.0.more;
  },
  behind_on fs ds ts us p.1 q.1,
)
behind_on [] [] [] (u ∷ us) p q = absurd q
behind_on [] [] (t ∷ ts) qs p q = absurd p
behind_on [] (d ∷ ds) ps qs p q = absurd p
behind_on (f ∷ fs) [] ps qs p q = absurd p
behind_on (f ∷ fs) (d ∷ ds) [] qs p q = absurd p
behind_on (f ∷ fs) (d ∷ ds) (t ∷ ts) [] p q = absurd q

-- what is behind itself at a point has grown to it
pub grown_of_behind : (ds ps : List DeviceRecord) → AreBehind ds ds ps → HaveGrown ds ps
grown_of_behind [] [] p = tt
grown_of_behind (d ∷ ds) (t ∷ ts) p = (record { some = p.0.more; begins = p.0.goes_on }, grown_of_behind ds ts p.1)
grown_of_behind [] (t ∷ ts) p = absurd p
grown_of_behind (d ∷ ds) [] p = absurd p
