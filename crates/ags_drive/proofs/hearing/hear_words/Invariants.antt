use Rattle.std.proofs.Common.{◌≡◌, map, take}
use Rattle.ags_drive.specs.Listening.{devices_told}
use Rattle.ags_drive.proofs.hearing.hear_words.Given as goal

abbrev pub invariant-loop-gave : goal.invariant-loop-gave
invariant-loop-gave g l =
    map (λ b. (goal.Device-dyn g (b.vtable, b.value)).record_of b.value) l.devices.items
    ≡ devices_told l.machine (map (λ b. (goal.Device-dyn g (b.vtable, b.value)).record_of b.value) l.fn.devices.items) (take l.gave-index l.words)
