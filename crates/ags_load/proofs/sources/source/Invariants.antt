use Rattle.std.proofs.Common.{◌≡◌, ◌++◌}
use Rattle.std.specs.Prelude.{string_bytes}
use Rattle.ags_load.specs.Workload.{call_cards, each_up_to, text_of}
use Rattle.ags_load.proofs.sources.source.Given as goal

abbrev pub invariant-loop-call : goal.invariant-loop-call
invariant-loop-call l = string_bytes l.text ≡ string_bytes l.initial.text ++ text_of (each_up_to (λ call. call_cards) l._call)
