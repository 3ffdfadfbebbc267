-- The readings of a ramp. The crates above cite:
--     length-readings, reading_there, readings_below    how many there are, the one at each position, and that they are words
use Rattle.std.proofs.Common.{◌≡◌, ◌-◌, ◌<◌, ◌+◌, ◌^◌, ℕ, zero, suc, [], length, refl, ap, sym, ◌∙◌, arith, pos, ◌+ℤ◌, ◌*ℤ◌}
use Rattle.std.proofs.lemmas.List.Elements.{All-nil, All-cons}
use Rattle.std.specs.Prelude.{Some, None, slice_get}
use Rattle.std.specs.List.{All}
use Rattle.ags_word.specs.Word.{val, wrap}
use Rattle.ags_word.proofs.WordLaws.{wrap_below}
use Rattle.ags_device.specs.Plan.{reading, readings}
use Rattle.ags_device.specs.Record.{DeviceRecord, first_of, rest_of, given}

pub length-readings : (first by position count : ℕ) → length (readings first by position count) ≡ count
length-readings first by position zero = refl
length-readings first by position (suc more) = ap (λ n. suc n) (length-readings first by (position + 1) more)

-- the reading at a position of those from a position on
there_from : (first by from count position : ℕ) → position < count
    → slice_get (readings first by from count) position ≡ Some (reading first by (from + position))
there_from first by from zero position below = absurd (omega (arith, below))
there_from first by from (suc more) zero below = ap (λ n. Some (reading first by n)) (let e : from ≡ from + 0 = omega arith in e)
there_from first by from (suc more) (suc position) below =
    there_from first by (from + 1) more position (omega (arith, below)) ∙ ap (λ n. Some (reading first by n)) (let e : from + 1 + position ≡ from + suc position = omega arith in e)

pub reading_there : (first by count position : ℕ) → position < count
    → slice_get (readings first by 0 count) position ≡ Some (wrap (val first +ℤ pos position *ℤ val by))
reading_there first by count position below = there_from first by 0 count position below ∙ ap (λ n. Some (reading first by n)) (let e : 0 + position ≡ position = omega arith in e)

pub readings_below : (first by position count : ℕ) → All (λ word. word < 2 ^ 18) (readings first by position count)
readings_below first by position zero = All-nil _
readings_below first by position (suc more) = All-cons (λ word. word < 2 ^ 18) _ _ (wrap_below (val first +ℤ pos position *ℤ val by)) (readings_below first by (position + 1) more)

-- ---- a sensor gives the first of what is left

rest_of-readings : (first by position count : ℕ) → 0 < count → rest_of (readings first by position count) ≡ readings first by (position + 1) (count - 1)
rest_of-readings first by position zero some = absurd (omega (arith, some))
rest_of-readings first by position (suc more) some = ap (λ n. readings first by (position + 1) n) (let e : more ≡ suc more - 1 = omega arith in e)

-- a sensor's record by its fields
abbrev pub sensor_view : (address first by position count : ℕ) → DeviceRecord
sensor_view address first by position count = record { feeds = Some address; hears = None; plan = readings first by position (count - position); kept = [] }

pub sensor_given : (address first by position count : ℕ) (d : DeviceRecord) → position < count → sensor_view address first by position count ≡ d → sensor_view address first by (position + 1) count ≡ given d
sensor_given address first by position count d below e =
    ap (λ plan. record { feeds = Some address; hears = None; plan = plan; kept = [] })
    (ap (λ n. readings first by (position + 1) n) (let q : count - (position + 1) ≡ (count - position) - 1 = omega arith in q) ∙ sym (rest_of-readings first by position (count - position) (omega (arith, below))))
    ∙ ap (λ x. given x) e

first_of-readings : (first by position count : ℕ) → 0 < count → Some (reading first by position) ≡ first_of (readings first by position count)
first_of-readings first by position zero some = absurd (omega (arith, some))
first_of-readings first by position (suc more) some = refl

pub sensor_first : (address first by position count : ℕ) (d : DeviceRecord) → position < count → sensor_view address first by position count ≡ d → Some (reading first by position) ≡ first_of d.plan
sensor_first address first by position count d below e = first_of-readings first by position (count - position) (omega (arith, below)) ∙ ap (λ (x : DeviceRecord). first_of x.plan) e
