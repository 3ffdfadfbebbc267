use Rattle.std.proofs.Common.{sym, ap, ◌∙◌}
use Rattle.std.specs.Prelude.{Option, Ok, Err}
use Rattle.ags_outside.specs.declared.sending.SendError.{SendError}
use Rattle.ags_run.specs.declared.players.StoppedWord.{StoppedWord}
use Rattle.ags_run.specs.Playing.{end_of}
use Rattle.ags_run.proofs.playing.end_of.Goals as goal

pub returns-in-Ok-None : goal.returns-in-Ok-None
returns-in-Ok-None c =
    sym (ap (end_of c.args.bench.now) c.in-Ok-None.is ∙ ap (λ (met : Option StoppedWord). end_of c.args.bench.now (Ok met)) c.in-Ok-None.field-0-is)

pub returns-in-Ok-Some : goal.returns-in-Ok-Some
returns-in-Ok-Some c =
    sym (ap (end_of c.args.bench.now) c.in-Ok-Some.is ∙ ap (λ (met : Option StoppedWord). end_of c.args.bench.now (Ok met)) c.in-Ok-Some.field-0-is)

pub returns-in-Err-WriteFault : goal.returns-in-Err-WriteFault
returns-in-Err-WriteFault c =
    sym (ap (end_of c.args.bench.now) c.in-Err-WriteFault.is ∙ ap (λ (error : SendError). end_of c.args.bench.now (Err error)) (rw c.in-Err-WriteFault.is at c.in-Err-WriteFault.field-0-is))

pub returns-in-Err-NoMemory : goal.returns-in-Err-NoMemory
returns-in-Err-NoMemory c =
    sym (ap (end_of c.args.bench.now) c.in-Err-NoMemory.is ∙ ap (λ (error : SendError). end_of c.args.bench.now (Err error)) (rw c.in-Err-NoMemory.is at c.in-Err-NoMemory.field-0-is))
