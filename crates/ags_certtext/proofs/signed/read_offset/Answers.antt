use Rattle.ags_certtext.proofs.signed.read_offset.Goals as goal

pub returns-in_err-number-clause-only : goal.returns-in_err-number-clause-only
returns-in_err-number-clause-only c = λ number is. rw c.from_residual.ensures (c.in_err-number.ensures.only number is.is)
