-- What is said of an end.
use Rattle.std.proofs.Common.{◌≡◌, ℕ, List, Option, Result, Ok, Err, sym, subst, inl}
use Rattle.std.specs.Prelude.{IfOk, OnOk, OnErr}
use Rattle.ags_outside.specs.declared.sending.SendError.{SendError}
use Rattle.ags_outside.specs.Sink.{appended, WroteFront}
use Rattle.ags_plan.specs.Plan.{Definition, End}
use Rattle.ags_plan.specs.Answer.{ComesWith}
use Rattle.ags_plan.specs.Saying.{Says}

-- a line was said that an end comes with, or a prefix of it was
pub said : {Status : Type 0} (D : Definition Status) (end : End D) (old new : Option (List ℕ)) (text : List ℕ) (status : Status) (result : Result Status SendError)
    → ComesWith D end text status → IfOk result (λ ended. ended ≡ status)
    → OnOk result (new ≡ appended old text) → OnErr result (WroteFront old new text) → Says D end old new result
said D end old new text status (Ok ended) comes is sent prefix =
    record { text = text; comes = subst (λ s. ComesWith D end text s) (sym is) comes; sent = sent }
said D end old new text status (Err error) comes is sent prefix = inl (record { text = text; status = status; comes = comes; prefix = prefix })
