use Rattle.std.proofs.Common.{◌∙◌, List, ℕ, ap, subst, sym}
use Rattle.std.specs.Result.{IfErr, IfOk}
use Rattle.ags_certtext.specs.Text.{IsCertOf, IsFaultyCert, IsRefused}
use Rattle.ags_certread.specs.Kept.{KeptLines}
use Rattle.ags_certread.specs.NextState.{HasRead, IsWhole}
use Rattle.ags_certread.specs.declared.states.State.{State}
use Rattle.ags_certread.proofs.ended_lines.EndedLines.finish.Goals as goal

pub returns-in-Open-clause-read : goal.returns-in-Open-clause-read
returns-in-Open-clause-read c =
    subst (λ (state : State). IfOk c.finish_open.result (λ cert. (text : List ℕ) → HasRead state c.args.self text → IsCertOf c.args.self.ports text cert))
    (sym (ap (λ (lines : KeptLines). lines.state) (sym c.self.view_is) ∙ c.in-Open.is))
    (subst (λ (lines : KeptLines). IfOk c.finish_open.result (λ cert. (text : List ℕ) → IsWhole lines.ports text lines.gathered lines.number → IsCertOf lines.ports text cert))
    c.self.view_is c.finish_open.ensures.read)

pub returns-in-Open-clause-refused : goal.returns-in-Open-clause-refused
returns-in-Open-clause-refused c =
    subst (λ (state : State). IfErr c.finish_open.result (λ error. (text : List ℕ) → HasRead state c.args.self text → IsRefused c.args.self.ports text error))
    (sym (ap (λ (lines : KeptLines). lines.state) (sym c.self.view_is) ∙ c.in-Open.is))
    (subst (λ (lines : KeptLines). IfErr c.finish_open.result (λ error. (text : List ℕ) → IsWhole lines.ports text lines.gathered lines.number → IsRefused lines.ports text error))
    c.self.view_is c.finish_open.ensures.refused)

pub returns-in-Told-clause-refused : goal.returns-in-Told-clause-refused
returns-in-Told-clause-refused c = λ text.
    subst (λ (state : State). HasRead state c.args.self text → IsFaultyCert c.args.self.ports text c.in-Told.line c.in-Told.kind)
    (sym (ap (λ (lines : KeptLines). lines.state) (sym c.self.view_is) ∙ c.in-Told.is)) (λ faulty. faulty)
