-- Worked order times on the standard machine, from the times and the codes of its orders. The words are octal.
use Rattle.std.proofs.Common.{◌≡◌, ℕ, Bool, true, false, refl, None}
use Rattle.ags_isa.specs.Code.{order_of}
use Rattle.ags_ports.specs.declared.events.Done.{Done}
use Rattle.ags_ports.specs.Machine.{standard_machine}
use Rattle.ags_ports.specs.OrderTime.{order_time}

-- the report of a step at a word, where an order ran or none did
at_word : Bool → ℕ → Done
at_word ran word = record { ran = ran; location = 0; word = word; overflow = false; stored = None; took = None; gave = None }

-- ADD with the index bit, a division, and the last order
add_takes_10 : order_time standard_machine (at_word true 0o230200) ≡ 10
unfolding order_time order_of at_word
add_takes_10 = refl

dvp_takes_73 : order_time standard_machine (at_word true 0o020000) ≡ 73
unfolding order_time order_of at_word
dvp_takes_73 = refl

tsq_takes_16 : order_time standard_machine (at_word true 0o720001) ≡ 16
unfolding order_time order_of at_word
tsq_takes_16 = refl

-- a step that waits at DLY, and one that halts at a word that is no order
waiting_takes_none : order_time standard_machine (at_word false 0o704000) ≡ 0
unfolding order_time at_word
waiting_takes_none = refl

halting_takes_none : order_time standard_machine (at_word false 0) ≡ 0
unfolding order_time at_word
halting_takes_none = refl
