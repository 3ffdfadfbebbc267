-- What is judged of a source and a certificate that were read.
use Rattle.std.proofs.Common.{◌≡◌, ℕ, List, Option}
use Rattle.ags_cert.specs.Cert.{certificate_of}
use Rattle.ags_domain.specs.Value.{value_meaning}
use Rattle.ags_domain.specs.declared.values.Value.{Value}
use Rattle.ags_outside.specs.Sink.{appended, WroteFront}
use Rattle.ags_plan.specs.Plan.{WorkAt}
use Rattle.ags_plan.specs.Saying.{SaidWhole, SaidInPart}
use Rattle.ags_verdict.specs.Verdict.{IsVerdict}
use Rattle.ags_verdict.specs.declared.verdicts.Verdict.{Verdict}
use Rattle.ags_program.specs.declared.status.Status.{Status}
use Rattle.ags_program.specs.declared.works.ReadPair.{ReadPair}
use Rattle.ags_program.specs.Program.{program}
use Rattle.ags_program.specs.Views.{IsReadSource, pair_of}
use Rattle.ags_program.specs.Work.{JudgePair, Sequel, ComesWith, IsJudgementOf}

module _ (pair : ReadPair) (sequel : Sequel) (verdict : Verdict Value) (read : IsReadSource pair.source)
    (is : IsVerdict value_meaning pair.machine pair.source.made.image (certificate_of pair.cert) verdict) where
  judged : (text : List ℕ) (status : Status) → ComesWith sequel (pair_of pair) pair.source.made.image verdict text status
      → IsJudgementOf (pair_of pair) sequel text status
  judged text status comes = record { image = pair.source.made.image; image_is = read.1.image; verdict = verdict; is_verdict = is; comes = comes }

  -- all of it was sent
  pub judged_whole : (old new : Option (List ℕ)) (text : List ℕ) (status : Status) → ComesWith sequel (pair_of pair) pair.source.made.image verdict text status
      → new ≡ appended old text → SaidWhole program (WorkAt (JudgePair (pair_of pair) sequel)) old new status
  judged_whole old new text status comes sent = record { text = text; comes = judged text status comes; sent = sent }

  -- a front of it was
  pub judged_in_part : (old new : Option (List ℕ)) (text : List ℕ) (status : Status) → ComesWith sequel (pair_of pair) pair.source.made.image verdict text status
      → WroteFront old new text → SaidInPart program (WorkAt (JudgePair (pair_of pair) sequel)) old new
  judged_in_part old new text status comes prefix = record { text = text; status = status; comes = judged text status comes; prefix = prefix }
