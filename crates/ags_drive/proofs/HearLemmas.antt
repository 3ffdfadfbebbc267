-- Words that devices hear one after another, in part or all. The proofs of the functions cite:
--     given_partly             one word that a part of the devices heard
--     told_more, told_partly   one word more, and one more in part
--     noted_along              what a listener noted along moments
--     heard_along, behind_along, behind_unheard    the words of a cycle were heard, in part, or not at all
use Rattle.std.proofs.Common.{◌≡◌, ℕ, zero, suc, ◌+◌, ◌<◌, ◌%◌, ◌^◌, Bool, true, false, List, [], ◌∷◌, ◌++◌, take, drop, length, get_or, refl, sym, ap, subst, ◌∙◌, append_assoc, append-nil, add-one, arith}
use Rattle.std.specs.Prelude.{Option, Some, None, is_some, if◌then◌else◌}
use Rattle.std.proofs.lemmas.List.{take-append-drop}
use Rattle.std.proofs.Math.Seq.{take-suc}
use Rattle.ags_drive.specs.Doing.{devices_given, devices_along}
use Rattle.ags_drive.specs.Driven.{IsBehind, AreBehind}
use Rattle.ags_drive.proofs.GrownLemmas.{HaveGrown, behind_self, behind_on, behind_from, grown_of_behind}
use Rattle.ags_device.specs.Devices.{is_heard, heard_below, all_heard, IsHeardInPart}
use Rattle.ags_device.specs.Record.{DeviceRecord}
use Rattle.ags_ports.specs.declared.events.Stored.{Stored}
use Rattle.ags_ports.specs.declared.machines.Machine.{Machine}
use Rattle.ags_ports.specs.Port.{position_of}
use Rattle.ags_ports.specs.Run.{Moment}
use Rattle.ags_timed.specs.Timed.{LooksAt}
use Rattle.ags_drive.specs.declared.listeners.Listener.{Listener}
use Rattle.ags_drive.specs.Listening.{gave_list, Notes, words_given, devices_told}
use Rattle.ags_drive.proofs.JoinLemmas.{counted_mod}

-- ---- what a listener noted

pub noted_along : (old new : Listener) (moments : List Moment) → LooksAt Notes old moments new → new.starved ≡ false → (old.starved ≡ false) × (new.given.items ≡ old.given.items ++ words_given moments)
noted_along old new [] looks fed = (let P : Listener → Type 0 = λ l. l.starved ≡ false in subst P looks fed, ap (λ (l : Listener). l.given.items) looks ∙ sym (append-nil old.given.items))
noted_along old new (moment ∷ moments) looks fed =
    let later = noted_along looks.0 new moments looks.2 fed in
    let first = looks.1.noted later.0 in
    (first.fed, later.1 ∙ ap (λ xs. xs ++ words_given moments) first.given ∙ append_assoc old.given.items (gave_list moment.report.gave) (words_given moments))

pub seen_steps : (moments : List Moment) (old new : Listener) → old.steps < 2 ^ 64 → LooksAt Notes old moments new → new.steps ≡ (old.steps + length moments) % 2 ^ 64
seen_steps [] old new fits p = let same = ap (λ (l : Listener). l.steps) p in omega (arith, same, fits)
seen_steps (moment ∷ moments) old new fits p =
    let below : p.0.steps < 2 ^ 64 = omega (arith, p.1.steps) in
    let all = counted_mod old.steps p.0.steps new.steps 1 (length moments) p.1.steps (seen_steps moments p.0 new below p.2) in
    let size : 1 + length moments ≡ suc (length moments) = omega arith in
    all ∙ ap (λ (n : ℕ). (old.steps + n) % 2 ^ 64) size

module _ (machine : Machine) where
  told_append : (devices : List DeviceRecord) (xs ys : List Stored) → devices_told machine devices (xs ++ ys) ≡ devices_told machine (devices_told machine devices xs) ys
  told_append devices [] ys = refl
  told_append devices (x ∷ xs) ys = told_append (devices_given machine (Some x) devices) xs ys

  told_one : (devices : List DeviceRecord) (gave : Option Stored) → devices_told machine devices (gave_list gave) ≡ devices_given machine gave devices
  told_one devices None = refl
  told_one devices (Some gave) = refl

  told_along : (devices : List DeviceRecord) (moments : List Moment) → devices_told machine devices (words_given moments) ≡ devices_along machine devices moments
  told_along devices [] = refl
  told_along devices (moment ∷ moments) =
      told_append devices (gave_list moment.report.gave) (words_given moments)
      ∙ ap (λ ds. devices_told machine ds (words_given moments)) (told_one devices moment.report.gave)
      ∙ told_along (devices_given machine moment.report.gave devices) moments

  -- ---- devices that are behind

  not_heard_by : (word : ℕ) (d : DeviceRecord) (heard : Bool) → IsBehind d d (if heard then (record d { kept = d.kept ++ word ∷ [] }) else d)
  not_heard_by word d true = record { feeds = refl; hears = refl; plan = refl; some = []; more = word ∷ []; begins = sym (append-nil d.kept); goes_on = refl }
  not_heard_by word d false = record { feeds = refl; hears = refl; plan = refl; some = []; more = []; begins = sym (append-nil d.kept); goes_on = sym (append-nil d.kept) }

  heard_by : (word : ℕ) (d : DeviceRecord) (heard : Bool) → (let now = if heard then (record d { kept = d.kept ++ word ∷ [] }) else d in IsBehind d now now)
  heard_by word d true = record { feeds = refl; hears = refl; plan = refl; some = word ∷ []; more = []; begins = refl; goes_on = sym (append-nil (d.kept ++ word ∷ [])) }
  heard_by word d false = record { feeds = refl; hears = refl; plan = refl; some = []; more = []; begins = sym (append-nil d.kept); goes_on = sym (append-nil d.kept) }

  behind_partly : (address word count : ℕ) (ds : List DeviceRecord) → AreBehind ds (heard_below address word count ds) (all_heard address word ds)
  behind_partly address word zero [] = tt
  behind_partly address word (suc count) [] = tt
  behind_partly address word zero (d ∷ ds) = (not_heard_by word d (is_heard d.hears address), behind_partly address word zero ds)
  behind_partly address word (suc count) (d ∷ ds) = (heard_by word d (is_heard d.hears address), behind_partly address word count ds)

  given_by : (address word : ℕ) (there : Bool) (ds : List DeviceRecord) → AreBehind ds ds (if there then all_heard address word ds else ds)
  given_by address word true ds = behind_partly address word 0 ds
  given_by address word false ds = behind_self ds

  behind_given : (gave : Stored) (ds : List DeviceRecord) → AreBehind ds ds (devices_given machine (Some gave) ds)
  behind_given gave ds = given_by gave.address gave.word (is_some (position_of machine.ports.outputs gave.address)) ds

  behind_told : (ds : List DeviceRecord) (words : List Stored) → AreBehind ds ds (devices_told machine ds words)
  behind_told ds [] = behind_self ds
  behind_told ds (gave ∷ words) =
      let next = devices_given machine (Some gave) ds in
      behind_on ds ds next (devices_told machine next words) (behind_given gave ds) (behind_told next words)

  -- one word that a part heard
  pub given_partly : (gave : Stored) (devices now : List DeviceRecord) → is_some (position_of machine.ports.outputs gave.address) ≡ true → IsHeardInPart gave.address gave.word devices now
      → AreBehind devices now (devices_given machine (Some gave) devices)
  given_partly gave devices now there part =
      subst (λ (ds : List DeviceRecord). AreBehind devices now ds) (ap (λ t. if t then all_heard gave.address gave.word devices else devices) (sym there))
      (subst (λ (ds : List DeviceRecord). AreBehind devices ds (all_heard gave.address gave.word devices)) (sym part.records) (behind_partly gave.address gave.word part.count devices))

  -- ---- words up to a position, and the one there

  take_more : (words : List Stored) (position : ℕ) (gave : Stored) → position < length words → gave ≡ get_or words position gave → take (position + 1) words ≡ take position words ++ gave ∷ []
  take_more words position gave below found =
      ap (λ n. take n words) (add-one position) ∙ take-suc words position gave below ∙ ap (λ (w : Stored). take position words ++ w ∷ []) (sym found)

  pub told_more : (devices mid now : List DeviceRecord) (words : List Stored) (position : ℕ) (gave : Stored) → position < length words → gave ≡ get_or words position gave
      → mid ≡ devices_told machine devices (take position words) → now ≡ devices_given machine (Some gave) mid → now ≡ devices_told machine devices (take (position + 1) words)
  told_more devices mid now words position gave below found upto heard =
      heard ∙ ap (λ ds. devices_given machine (Some gave) ds) upto ∙ sym (told_append devices (take position words) (gave ∷ []))
      ∙ ap (λ ws. devices_told machine devices ws) (sym (take_more words position gave below found))

  pub told_partly : (devices mid now : List DeviceRecord) (words : List Stored) (position : ℕ) (gave : Stored) → position < length words → gave ≡ get_or words position gave
      → mid ≡ devices_told machine devices (take position words) → AreBehind mid now (devices_given machine (Some gave) mid) → AreBehind devices now (devices_told machine devices words)
  told_partly devices mid now words position gave below found upto partly =
      let next = devices_given machine (Some gave) mid in
      let rest = drop (position + 1) words in
      let heard : next ≡ devices_told machine devices (take (position + 1) words) = told_more devices mid next words position gave below found upto refl in
      let whole : devices_told machine next rest ≡ devices_told machine devices words =
      ap (λ ds. devices_told machine ds rest) heard ∙ sym (told_append devices (take (position + 1) words) rest) ∙ ap (λ ws. devices_told machine devices ws) (take-append-drop (position + 1) words) in
      let grown : HaveGrown devices mid = subst (λ (ds : List DeviceRecord). HaveGrown devices ds) (sym upto) (grown_of_behind devices (devices_told machine devices (take position words)) (behind_told devices (take position words))) in
      subst (λ (ds : List DeviceRecord). AreBehind devices now ds) whole
      (behind_on devices now next (devices_told machine next rest) (behind_from devices mid now next grown partly) (behind_told next rest))

  -- ---- the steps of a cycle

  words_told : (old : List DeviceRecord) (before after : Listener) (words : List Stored) (moments : List Moment) → before.given.items ≡ [] → LooksAt Notes before moments after → after.starved ≡ false → words ≡ after.given.items
      → devices_told machine old words ≡ devices_along machine old moments
  words_told old before after words moments none looks fed same =
      let noted = noted_along before after moments looks fed in
      ap (λ ws. devices_told machine old ws) (same ∙ noted.1 ∙ ap (λ ws. ws ++ words_given moments) none) ∙ told_along old moments

  pub heard_along : (old now : List DeviceRecord) (before after : Listener) (words : List Stored) (moments : List Moment) → before.given.items ≡ [] → LooksAt Notes before moments after → after.starved ≡ false → words ≡ after.given.items
      → now ≡ devices_told machine old words → now ≡ devices_along machine old moments
  heard_along old now before after words moments none looks fed same heard = heard ∙ words_told old before after words moments none looks fed same

  pub behind_along : (old now : List DeviceRecord) (before after : Listener) (words : List Stored) (moments : List Moment) → before.given.items ≡ [] → LooksAt Notes before moments after → after.starved ≡ false → words ≡ after.given.items
      → AreBehind old now (devices_told machine old words) → AreBehind old now (devices_along machine old moments)
  behind_along old now before after words moments none looks fed same partly =
      subst (λ (ds : List DeviceRecord). AreBehind old now ds) (words_told old before after words moments none looks fed same) partly

  pub behind_unheard : (old : List DeviceRecord) (moments : List Moment) → AreBehind old old (devices_along machine old moments)
  behind_unheard old moments = subst (λ (ds : List DeviceRecord). AreBehind old old ds) (told_along old moments) (behind_told old (words_given moments))
