use Rattle.std.proofs.Common.{◌∙◌, arith, subst}
use Rattle.ags_certtext.specs.declared.cert_error.CertError.{CertError}
use Rattle.ags_certread.specs.Gathering.{gathering_of}
use Rattle.ags_certread.specs.LineTaken.{TellsFault}
use Rattle.ags_certread.proofs.StandLemmas.{stood_more}
use Rattle.ags_certread.proofs.next_states.further_state.Goals as goal

pub take_line-requires : goal.take_line-requires
take_line-requires c = c.requires.statements

pub returns-in-Ok-clause-statements : goal.returns-in-Ok-clause-statements
returns-in-Ok-clause-statements c =
    stood_more c.args.ports.now (gathering_of c.args.gatherer.now) (gathering_of c.take_line.new.self) c.args.line.now c.requires.statements c.in-Ok.ensures.fine

pub returns-in-Ok-clause-next : goal.returns-in-Ok-clause-next
returns-in-Ok-clause-next c = (λ none. absurd (omega (arith, none, c.requires.some)), λ some. c.in-Ok.ensures.fine)

pub returns-in-Err-At-clause-next : goal.returns-in-Err-At-clause-next
returns-in-Err-At-clause-next c =
    let told = subst (λ (error : CertError). TellsFault c.args.ports.now c.saturating_add.result (gathering_of c.args.gatherer.now) c.args.line.now error)
    c.in-Err-At.field-0-is c.in-Err-At.ensures.faulty in
    (λ none. absurd (omega (arith, none, c.requires.some)), λ some. (told.0 ∙ c.saturating_add.ensures, told.1))
