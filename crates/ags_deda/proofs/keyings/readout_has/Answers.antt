use Rattle.std.proofs.Common.{sym, ◌∙◌, length, inl, inr, arith}
use Rattle.ags_deda.proofs.KeyLemmas.{readout_address, readout_odd, readout_held, readout_unheld}
use Rattle.ags_deda.proofs.keyings.readout_has.Goals as goal

pub returns-then-position-lt3 : goal.returns-then-position-lt3
returns-then-position-lt3 c = λ keys fits position_is held_is. c.is_octal_digit.ensures ∙ sym (readout_address (length keys) c.args.key (omega arith))

pub returns-then-held : goal.returns-then-held
returns-then-held c = λ keys fits position_is held_is. c.is_readout.ensures ∙ sym (
    elim c.if-held.either [
      | inl three ↦ readout_odd (length keys) c.args.key (omega arith) (omega arith)
      | inr held ↦ readout_held keys c.args.key fits (omega arith) (sym held_is ∙ held.1)
    ])

pub returns-else-held : goal.returns-else-held
returns-else-held c = λ keys fits position_is held_is. c.is_hold.ensures ∙ sym (readout_unheld keys c.args.key fits (omega arith) (sym held_is ∙ c.if-held.false.1))
