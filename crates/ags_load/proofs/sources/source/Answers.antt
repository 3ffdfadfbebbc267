use Rattle.std.proofs.Common.{◌≡◌, ℕ, ◌++◌, ap, subst, ◌∙◌, arith}
use Rattle.std.specs.Prelude.{string_bytes}
use Rattle.ags_load.specs.Workload.{source_text, source_cards, text_of, first_cards, call_cards, last_cards, each_up_to}
use Rattle.ags_load.proofs.TextLemmas.{none_added, added_next, put_together}
use Rattle.ags_load.proofs.LengthLemmas.{source_length}
use Rattle.ags_load.proofs.sources.source.Goals as goal

pub loop-call-init : goal.loop-call-init
loop-call-init c = none_added (λ call. call_cards) (string_bytes c.push_str.new.self)

pub loop-call-preserved : goal.loop-call-preserved
unfolding text_of call_cards
loop-call-preserved c =
    added_next (λ call. call_cards) c.loop-call._call (string_bytes c.push_str.new.self) (string_bytes c.loop-call.text) (string_bytes c.push_str-in-loop-call.new.self)
    c.loop-call.invariant c.in_ok-push_str-2.ensures.bytes

pub returns-clause-text : goal.returns-clause-text
unfolding source_text source_cards text_of first_cards last_cards
returns-clause-text c = ap (λ v. v.items) c.into_bytes.ensures.value
    ∙ put_together first_cards (each_up_to (λ call. call_cards) c.args.n) last_cards
    (string_bytes c.push_str.new.self) (string_bytes c.loop-call.text) (string_bytes c.push_str-2.new.self)
    (rw c.new-text.ensures.bytes at c.in_ok-push_str.ensures.bytes)
    (subst (λ (count : ℕ). string_bytes c.loop-call.text ≡ string_bytes c.push_str.new.self ++ text_of (each_up_to (λ call. call_cards) count)) (omega arith) c.loop-call.invariant)
    c.in_ok-push_str-3.ensures.bytes

pub returns-clause-within : goal.returns-clause-within
returns-clause-within c = rw (returns-clause-text c) (source_length c.args.n c.requires.many)
