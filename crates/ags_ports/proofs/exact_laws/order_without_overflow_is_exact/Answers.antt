use Rattle.ags_ports.proofs.ExactLemmas.{exact_left, room_fits, no_room_over, no_result_over, others_fit}
use Rattle.ags_ports.proofs.exact_laws.order_without_overflow_is_exact.Goals as goal

pub returns-clause-exact : goal.returns-clause-exact
returns-clause-exact c = exact_left

pub returns-clause-room : goal.returns-clause-room
returns-clause-room c = room_fits

pub returns-clause-no_room : goal.returns-clause-no_room
returns-clause-no_room c = no_room_over

pub returns-clause-no_result : goal.returns-clause-no_result
returns-clause-no_result c = no_result_over

pub returns-clause-others : goal.returns-clause-others
returns-clause-others c = others_fit
